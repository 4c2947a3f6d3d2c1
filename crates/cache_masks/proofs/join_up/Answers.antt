-- `cache_masks::join_up` meets its contract. The invariant: the entries below r are joined, the others as they were.
use Rattle.cache_masks.proofs.RankSteps.{joining}
use Rattle.cache_masks.proofs.join_up.Goals as goal

pub loop-r-init : goal.loop-r-init
loop-r-init c = search joining

pub loop-r-preserved : goal.loop-r-preserved
loop-r-preserved c = search joining
