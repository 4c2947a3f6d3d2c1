-- `cache_layout::stored_mask` meets its contract. The invariant: the mask has the first i flags.
use Rattle.cache_layout.proofs.LayoutSteps.{flags}
use Rattle.cache_layout.proofs.stored_mask.Goals as goal

pub loop-i-init : goal.loop-i-init
loop-i-init c = search flags

pub loop-i-preserved : goal.loop-i-preserved
loop-i-preserved c = (search flags, search flags)
