-- `cache_masks::fill_same` meets its contract. The invariant: the first i entries are filled in.
use Rattle.cache_masks.proofs.MaskSteps.{last_steps}
use Rattle.cache_masks.proofs.fill_same.Goals as goal

pub loop-i-preserved : goal.loop-i-preserved
loop-i-preserved c = (search last_steps, search last_steps)
