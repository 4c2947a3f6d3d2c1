-- `judge_disks::name_of` meets its contract, by arithmetic.
use Rattle.judge_disks.proofs.DiskSteps.{steps}
use Rattle.judge_disks.proofs.name_of.Goals as goal

pub returns : goal.returns
returns c = search steps
