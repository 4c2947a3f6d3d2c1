-- `cache_layout::flags_fit` meets its contract. The invariant: the first i flags fit.
use Rattle.cache_layout.proofs.LayoutSteps.{fitting}
use Rattle.cache_layout.proofs.flags_fit.Goals as goal

pub loop-i-init : goal.loop-i-init
loop-i-init c = search fitting

pub returns-then-state-at-gt1 : goal.returns-then-state-at-gt1
returns-then-state-at-gt1 c = search fitting

pub loop-i-preserved : goal.loop-i-preserved
loop-i-preserved c = (search fitting, search fitting)
