-- The steps of trace, in the code's terms.
use mathlib.Core.Path.{◌≡◌, refl, sym, ◌∙◌}
use mathlib.Core.Bool.{true, false}
use mathlib.Core.List.{List}
use Prim.Native.Nat.{ℕ, ◌+◌, ◌*◌, ◌≤◌, ◌<◌}
use native.Mathlib.Numerals.{add-one}
use native.Mathlib.Omega.{arith}
use lib.Dec.{eqb}
use borrow.Author.Rules.{rules}
use borrow.Author.Tests.{eq-eqb, ne_eqb}
use Rattle.relation.specs.Lists.{any_below}
use Rattle.relation.proofs.ListLaws.{any_below_intro}
use Rattle.file_format.specs.Bytes.{word, block_length}
use Rattle.log_trace.specs.Traced.{empty_below}

module _ (s : List ℕ) (n i : ℕ) where
  pub empty-none : empty_below s 0 ≡ false
  unfolding empty_below any_below
  empty-none = refl

  pub empty-found : (b : ℕ) → i < n → b ≡ word s (block_length * i) → b ≡ 0 → true ≡ empty_below s n
  unfolding empty_below
  empty-found b h e z = sym (any_below_intro (λ k. eqb (word s (block_length * k)) 0) n i h (eq-eqb (word s (block_length * i)) 0 (sym e ∙ z)))

  pub empty-more : (b : ℕ) → empty_below s i ≡ false → b ≡ word s (block_length * i) → (b ≡ 0 → ⊥) → empty_below s (i + 1) ≡ false
  unfolding empty_below any_below
  empty-more b p e z = rw (add-one i, p, ne_eqb (word s (block_length * i)) 0 (λ (q : word s (block_length * i) ≡ 0). z (e ∙ q)))

  pub empty-all : i ≤ n → n ≤ i → empty_below s i ≡ false → false ≡ empty_below s n
  empty-all h k p = let z : i ≡ n = omega arith in sym (rw z at p)

pub ruleset traces = (rules, empty-none, empty-found, empty-more, empty-all)
