-- `relation::has_ring` meets its contract. The invariant: what is not left is on no ring.
use Rattle.relation.proofs.PeelLaws.{Peeling}
use Rattle.relation.proofs.has_ring.Given as goal

abbrev pub invariant-loop-left : goal.invariant-loop-left
invariant-loop-left l = Peeling l.rows l.n l.left

abbrev pub decreases-loop-left : goal.decreases-loop-left
decreases-loop-left l = l.left
