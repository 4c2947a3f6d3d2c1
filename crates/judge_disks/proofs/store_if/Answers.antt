-- `judge_disks::store_if` meets its contract, one law for each case of the flag.
use Rattle.judge_disks.proofs.DiskSteps.{steps}
use Rattle.judge_disks.proofs.store_if.Goals as goal

pub returns-then-on : goal.returns-then-on
returns-then-on c = search steps
