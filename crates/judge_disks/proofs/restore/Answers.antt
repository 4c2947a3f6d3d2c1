-- `judge_disks::restore` meets its contract. The invariant: the addresses of the first i writes are put back, the others are as they were.
use Rattle.judge_disks.proofs.RestoreLaws.{restoring}
use Rattle.judge_disks.proofs.restore.Goals as goal

pub loop-i-preserved : goal.loop-i-preserved
loop-i-preserved c = search restoring

pub returns : goal.returns
returns c = search restoring
