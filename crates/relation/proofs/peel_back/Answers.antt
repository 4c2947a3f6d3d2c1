-- `relation::peel_back` meets its contract. The invariant: the numbers below i are to be passed, and then all are.
use Rattle.relation.proofs.PeelLaws.{peeling}
use Rattle.relation.proofs.peel_back.Goals as goal

pub loop-i-preserved : goal.loop-i-preserved
loop-i-preserved c = search peeling

pub returns : goal.returns
returns c = search peeling
