-- `judge_closed::dependency_row` meets its contract. By what a mask of ones leaves.
use Rattle.judge_closed.proofs.OrderLaws.{ordering}
use Rattle.judge_closed.proofs.dependency_row.Goals as goal

pub returns : goal.returns
returns c = search ordering
