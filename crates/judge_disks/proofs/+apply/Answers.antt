-- `judge_disks::apply` meets its contract, by induction on the writes left.
use Rattle.judge_disks.proofs.DiskSteps.{steps}
use Rattle.judge_disks.proofs.+apply.Goals as goal

pub returns-then-left-gt0 : goal.returns-then-left-gt0
returns-then-left-gt0 t c = search steps

pub returns-else-left-gt0 : goal.returns-else-left-gt0
returns-else-left-gt0 t c = search steps
