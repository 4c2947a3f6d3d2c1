-- `relation::peel` meets its contract. The invariant: the pass over the numbers below i is made.
use Rattle.relation.proofs.PeelLaws.{peeling}
use Rattle.relation.proofs.peel.Goals as goal

pub loop-i-init : goal.loop-i-init
loop-i-init c = search peeling

pub loop-i-preserved : goal.loop-i-preserved
loop-i-preserved c = search peeling

pub returns : goal.returns
returns c = search peeling
