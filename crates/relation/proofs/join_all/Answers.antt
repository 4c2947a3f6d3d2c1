-- `relation::join_all` meets its contract. The invariant: the first rows are joined, and the others are as they were.
use Rattle.relation.proofs.ClosureSteps.{steps}
use Rattle.relation.proofs.join_all.Goals as goal

pub loop-row-preserved : goal.loop-row-preserved
loop-row-preserved c = search steps

pub returns : goal.returns
returns c = search steps
