-- Tables filled from the front, entry by entry, and tables of zeros.
use mathlib.Core.Path.{◌≡◌, ◌∙◌}
use mathlib.Core.Logic.{⊎_elim}
use mathlib.Core.List.{List}
use Prim.Native.Nat.{ℕ, ◌+◌, ◌≤◌, ◌<◌}
use native.Mathlib.Omega.{arith}
use lib.ListN.{length, set, replicate}
use lib.ListN.{get_or-replicate}
use lib.Seq.{get_or-set_same, get_or-set_other}
use Rattle.relation.specs.Tables.{Filled, Blank}
use Rattle.relation.proofs.ListLaws.{below_suc}

module _ (f : ℕ → ℕ) where
  pub filled_none : (table : List ℕ) → Filled f 0 table
  filled_none table = record { at = λ i h. absurd (omega arith) }

  pub filled_more : (k : ℕ) (table : List ℕ) (v : ℕ) → Filled f k table → k < length table → v ≡ f k → Filled f (k + 1) (set table k v)
  filled_more k table v g h e =
      record {
        at = λ i l. ⊎_elim (λ (z : i ≡ k). rw (z, get_or-set_same table k v 0 h) e)
            (λ (m : i < k). get_or-set_other table k i v 0 (λ (z : i ≡ k). absurd (omega (arith, z, m))) ∙ g.at i m)
            (below_suc i k (omega arith));
      }

  pub filled-all : (k n : ℕ) (table : List ℕ) → Filled f k table → k ≤ n → n ≤ k → Filled f n table
  filled-all k n table g a b = record { at = λ i l. g.at i (omega arith) }

pub blank_made : (n : ℕ) → Blank n (replicate n 0)
blank_made n = record { at = λ i h. get_or-replicate {A = ℕ} n i 0 0 h }
