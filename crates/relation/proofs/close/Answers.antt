-- `relation::close` meets its contract. The invariant: the first n rows are closed by way of the numbers below k.
use Rattle.relation.proofs.ClosureSteps.{steps}
use Rattle.relation.proofs.close.Goals as goal

pub loop-k-init : goal.loop-k-init
loop-k-init c = search steps

pub loop-k-preserved : goal.loop-k-preserved
loop-k-preserved c = search steps
