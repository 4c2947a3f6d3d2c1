-- `cache_masks::last_same` meets its contract. The invariant: no entry from j on is x.
use Rattle.cache_masks.proofs.MaskSteps.{last_steps}
use Rattle.cache_masks.proofs.last_same.Goals as goal

pub returns-then-column-j : goal.returns-then-column-j
returns-then-column-j c = search last_steps

pub loop-j-preserved : goal.loop-j-preserved
loop-j-preserved c = search last_steps

pub returns : goal.returns
returns c = search last_steps
