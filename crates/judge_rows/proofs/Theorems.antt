-- The validity test by its meaning: by the rows, by the definition that is computed.
use mathlib.Core.Path.{refl, sym, ◌∙◌}
use Rattle.model.proofs.ScheduleLaws.{valid-true, true-valid}
use Rattle.judge_rows.specs.Theorem.{ValidityTested}
use Rattle.judge_rows.proofs.RowLaws.{valid-rows}

pub validity_tested : ValidityTested
validity_tested rules ws column rows ls e s =
    let same = valid-rows rules ws column rows _ refl ls e s in
    (λ t. valid-true rules ws s (sym same ∙ t), λ t. same ∙ true-valid rules ws s t)
