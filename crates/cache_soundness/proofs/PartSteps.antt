-- Known predicates and covered rows: one law for each return and each turn of a loop.
use mathlib.Core.Path.{◌≡◌, refl, ap}
use mathlib.Core.Bool.{Bool, true, false, ◌&&◌}
use mathlib.Core.List.{List, [], ◌∷◌}
use Prim.Native.Nat.{ℕ}
use lib.Bits.{bit_and}
use lib.Dec.{eqb, leb}
use borrow.Author.Rules.{rules}
use Rattle.std.specs.List.{list_all}
use Rattle.relation.specs.Bits.{bit}
use Rattle.relation.specs.Lists.{all}
use Rattle.model.specs.declared.Rule.{Rule}
use Rattle.model.specs.Rules.{known}
use Rattle.relation.specs.Union.{part_of}
use Rattle.cache_soundness.specs.Parts.{covered}
use Rattle.cache_layout.proofs.LayoutSteps.{all-begun, all_done, all_more, all_stop}

-- ---- is_known

pub known_all : (rules : List Rule) → list_all (λ r. leb r.predicate 2) rules ≡ known rules
unfolding known all
known_all [] = refl
known_all (r ∷ rules) = ap (λ (b : Bool). leb r.predicate 2 && b) (known_all rules)

-- ---- row_covered, all_covered

module _ (row mask i : ℕ) (a : Bool) (e : a ≡ bit mask i) where
  pub covered_in : a ≡ true → eqb (bit_and row mask) row ≡ covered row mask i
  unfolding covered part_of
  covered_in t = rw (← e, t)

  pub covered_out : a ≡ false → true ≡ covered row mask i
  unfolding covered
  covered_out f = rw (← e, f)

pub ruleset covering = (rules, covered_in, covered_out, all-begun, all_more, all_stop, all_done)
