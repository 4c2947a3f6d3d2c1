-- A set with one rule less is a part of the set, and with a part of it a set is cyclic.
use mathlib.Core.Path.{◌≡◌, sym, ◌∙◌}
use mathlib.Core.Logic.{⊎_elim}
use mathlib.Core.Bool.{Bool, true, false, cond}
use mathlib.Core.List.Memᴰ
use mathlib.Core.List.{List, [], ◌∷◌, Memᴰ}
use Prim.Native.Nat.{ℕ, zero, suc, ◌-◌, ◌/◌, ◌%◌, ◌^◌}
use lib.Dec.{eqb}
use Rattle.relation.specs.Bits.{bit}
use Rattle.relation.proofs.BitLaws.{bit-suc}
use Rattle.relation.proofs.WithoutLaws.{lowest_odd, lowest_even, lowest-half, higher_parity, higher_half}
use Rattle.model.specs.declared.Rule.{Rule}
use Rattle.model.specs.Cyclic.{Walk, ClosedWalk, cyclic}
use Rattle.model.specs.Find.{picked}
use Rattle.rule_cyclelaws.proofs.CyclicLaws.{true-walk, walk-true}

module _ (few rules : List Rule) (part : (x : Rule) → Memᴰ x few → Memᴰ x rules) where
  walk_more : (a : ℕ) (rs : List Rule) (b : ℕ) → Walk few a rs b → Walk rules a rs b
  unfolding Walk
  walk_more a [] b w = w
  walk_more a (r ∷ rs) b w = (part r w.0, w.1, walk_more r.second rs b w.2)

  pub cyclic-part : cyclic few ≡ true → cyclic rules ≡ true
  unfolding ClosedWalk
  cyclic-part e =
      let (a, r, rs, w, kind) = true-walk few e in
      walk-true rules (a, r, rs, walk_more a (r ∷ rs) a w, kind)

picked-part : (cs : List Rule) (m i : ℕ) → bit m i ≡ true → (x : Rule) → Memᴰ x (picked cs (m - 2 ^ i)) → Memᴰ x (picked cs m)
unfolding picked
picked-part [] m i e x k = k
picked-part (c ∷ cs) m zero e x k = rw (lowest_odd m e) (Memᴰ.tail (rw (lowest_even m e, lowest-half m e) at k))
picked-part (c ∷ cs) m (suc i) e x k =
    go (eqb (m % 2) 1) (rw (higher_parity m i e, higher_half m i e) at k) (picked-part cs (m / 2) i (sym (bit-suc m i) ∙ e) x)
  where
    go : (b : Bool) → Memᴰ x (cond b (c ∷ picked cs (m / 2 - 2 ^ i)) (picked cs (m / 2 - 2 ^ i)))
        → (Memᴰ x (picked cs (m / 2 - 2 ^ i)) → Memᴰ x (picked cs (m / 2)))
        → Memᴰ x (cond b (c ∷ picked cs (m / 2)) (picked cs (m / 2)))
    go true n f = ⊎_elim (λ q. Memᴰ.head q) (λ h. Memᴰ.tail (f h)) (Memᴰ.cases_cons n)
    go false n f = f n

pub cyclic-without : (cs : List Rule) (m i : ℕ) → bit m i ≡ true → cyclic (picked cs (m - 2 ^ i)) ≡ true → cyclic (picked cs m) ≡ true
cyclic-without cs m i e = cyclic-part (picked cs (m - 2 ^ i)) (picked cs m) (picked-part cs m i e)
