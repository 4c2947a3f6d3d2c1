-- The computed form of validity agrees with its meaning.
use mathlib.Core.Path.{◌≡◌}
use mathlib.Core.Bool.{true}
use mathlib.Core.List.{List}
use Prim.Native.Nat.{ℕ}
use lib.ListN.{length}
use Rattle.relation.proofs.ListLaws.{all_below-true, all_below_intro}
use Rattle.relation.proofs.MaskLaws.{implies, implied}
use Rattle.model.specs.declared.Rule.{Rule}
use Rattle.model.specs.declared.Write.{Write}
use Rattle.model.specs.Rules.{depends_on}
use Rattle.model.specs.Schedule.{flagged, label_at, Valid, valid}
use Rattle.model.proofs.RuleLaws.{depends_on-true, true-depends_on}

module _ (rules : List Rule) (ws : List Write) (s : ℕ) where
  pub valid-true : valid rules ws s ≡ true → Valid rules ws s
  unfolding valid Valid
  valid-true e i j hi hj f d =
      implies (depends_on rules (label_at ws i) (label_at ws j)) (flagged s j)
      (all_below-true _ (length ws) (implies (flagged s i) _ (all_below-true _ (length ws) e i hi) f) j hj)
      (true-depends_on rules (label_at ws i) (label_at ws j) d)

  pub true-valid : Valid rules ws s → valid rules ws s ≡ true
  unfolding valid Valid
  true-valid v =
      all_below_intro _ (length ws)
      (λ i hi. implied (flagged s i) _
      (λ f. all_below_intro _ (length ws)
      (λ j hj. implied (depends_on rules (label_at ws i) (label_at ws j)) (flagged s j)
      (λ d. v i j hi hj f (depends_on-true rules (label_at ws i) (label_at ws j) d)))))
