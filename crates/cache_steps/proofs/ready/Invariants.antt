-- `cache_steps::ready` meets its contract. The invariant: of the waiting writes those that are no longer left are not ready.
use Rattle.cache_steps.proofs.StepLaws.{Seeks}
use Rattle.cache_steps.proofs.ready.Given as goal

abbrev pub invariant-loop-left : goal.invariant-loop-left
invariant-loop-left l = Seeks l.rows l.mask l.n l.left

abbrev pub decreases-loop-left : goal.decreases-loop-left
decreases-loop-left l = l.left
