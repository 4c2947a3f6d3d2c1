-- `relation::has_ring` meets its contract. The invariant: what is not left is on no ring.
use Rattle.relation.proofs.PeelLaws.{peeling}
use Rattle.relation.proofs.has_ring.Goals as goal

pub loop-left-init : goal.loop-left-init
loop-left-init c = search peeling

pub returns-then-next-left : goal.returns-then-next-left
returns-then-next-left c = search peeling

pub returns-then-next-eq0 : goal.returns-then-next-eq0
returns-then-next-eq0 c = search peeling

pub loop-left-smaller : goal.loop-left-smaller
loop-left-smaller c = search peeling

pub loop-left-preserved : goal.loop-left-preserved
loop-left-preserved c = search peeling

pub returns : goal.returns
returns c = search peeling
