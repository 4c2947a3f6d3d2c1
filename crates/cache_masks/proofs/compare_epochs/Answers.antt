-- `cache_masks::compare_epochs` meets its contract. The invariant: the masks have the bits below j.
use Rattle.cache_masks.proofs.MaskSteps.{comparing}
use Rattle.cache_masks.proofs.compare_epochs.Goals as goal

pub loop-j-init : goal.loop-j-init
loop-j-init c = search comparing

pub loop-j-preserved : goal.loop-j-preserved
loop-j-preserved c = search comparing

pub returns : goal.returns
returns c = search comparing
