-- `cache_layout::are_zero` meets its contract. The invariant: the bytes up to k are zero.
use Rattle.cache_layout.proofs.LayoutSteps.{zeroes}
use Rattle.cache_layout.proofs.are_zero.Goals as goal

pub loop-k-init : goal.loop-k-init
loop-k-init c = search zeroes

pub returns-then-state-k-ne0 : goal.returns-then-state-k-ne0
returns-then-state-k-ne0 c = search zeroes

pub loop-k-preserved : goal.loop-k-preserved
loop-k-preserved c = search zeroes

pub returns : goal.returns
returns c = search zeroes
