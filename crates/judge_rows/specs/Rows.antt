-- Dependencies as masks: what each label of a column depends on, computed once.
use Rattle.std.specs.Prelude.{ℕ, List, get_or}
use Rattle.relation.specs.Bits.{mask_of}
use Rattle.relation.specs.Lists.{tabulate}
use Rattle.model.specs.declared.Rule.{Rule}
use Rattle.model.specs.Rules.{Label, matches, depends_on}
use Rattle.judge_disks.specs.Packed.{labelled}

-- which of the first n labels of a column a rule pairs with a label
unfoldable pub rule_row : Rule → Label → List ℕ → ℕ → ℕ
rule_row rule l column n = mask_of (λ j. matches rule l (labelled (get_or column j 0))) n

-- which of them a label depends on
unfoldable pub row_of : List Rule → Label → List ℕ → ℕ → ℕ
row_of rules l column n = mask_of (λ j. depends_on rules l (labelled (get_or column j 0))) n

-- the rows of the first k of them
unfoldable pub rows_from : List Rule → List ℕ → ℕ → ℕ → List ℕ
rows_from rules column n k = tabulate (λ i. row_of rules (labelled (get_or column i 0)) column n) k
