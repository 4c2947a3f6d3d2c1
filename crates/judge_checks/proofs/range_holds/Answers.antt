-- `judge_checks::range_holds` meets its contract. The invariant: the blocks from head up to k are not empty.
use Rattle.judge_checks.proofs.CheckSteps.{checking}
use Rattle.judge_checks.proofs.range_holds.Goals as goal

pub returns-then-tail-head : goal.returns-then-tail-head
returns-then-tail-head c = search checking

pub returns-then-tail-gt-DISK_BLOCKS : goal.returns-then-tail-gt-DISK_BLOCKS
returns-then-tail-gt-DISK_BLOCKS c = search checking

pub loop-k-init : goal.loop-k-init
loop-k-init c = search checking

pub returns-then-disk-k-eq0 : goal.returns-then-disk-k-eq0
returns-then-disk-k-eq0 c = search checking

pub loop-k-preserved : goal.loop-k-preserved
loop-k-preserved c = search checking

pub returns : goal.returns
returns c = search checking
