-- `judge_disks::block_of` meets its contract, by what a number stands for.
use Rattle.judge_disks.proofs.DiskSteps.{steps}
use Rattle.judge_disks.proofs.block_of.Goals as goal

pub returns : goal.returns
returns c = search steps
