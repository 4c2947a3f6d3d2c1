-- `judge_rows::fill` meets its contract. The invariants: the first i rows are filled; the mask has what the first k rules pair label i with.
use Rattle.judge_rows.proofs.RowSteps.{steps}
use Rattle.judge_rows.proofs.fill.Goals as goal

pub labels-init : goal.labels-init
labels-init c = search steps

pub rules-init : goal.rules-init
rules-init c = search steps

pub rules-preserved : goal.rules-preserved
rules-preserved c = search steps

pub labels-preserved : goal.labels-preserved
labels-preserved c = search steps
