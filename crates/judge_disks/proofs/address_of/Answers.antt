-- `judge_disks::address_of` meets its contract, by arithmetic.
use Rattle.judge_disks.specs.Packed.{unpacked}
use Rattle.judge_disks.proofs.DiskSteps.{steps}
use Rattle.judge_disks.proofs.address_of.Goals as goal

pub returns : goal.returns
unfolding unpacked
returns c = search steps
