-- `relation::reach` meets its contract. The invariant: the set has nothing that is not reached, and the rows of its members but for those that are left.
use Rattle.relation.proofs.ReachLaws.{reaching}
use Rattle.relation.proofs.reach.Goals as goal

pub loop-left-smaller : goal.loop-left-smaller
loop-left-smaller c = search reaching

pub loop-left-preserved : goal.loop-left-preserved
loop-left-preserved c = search reaching

pub returns : goal.returns
returns c = search reaching
