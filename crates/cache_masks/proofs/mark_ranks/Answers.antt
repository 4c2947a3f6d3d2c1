-- `cache_masks::mark_ranks` meets its contract. The invariant: the first i writes are marked.
use Rattle.cache_masks.proofs.RankSteps.{marking}
use Rattle.cache_masks.proofs.mark_ranks.Goals as goal

pub loop-i-init : goal.loop-i-init
loop-i-init c = search marking

pub loop-i-preserved : goal.loop-i-preserved
loop-i-preserved c = search marking
