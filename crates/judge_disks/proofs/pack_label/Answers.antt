-- `judge_disks::pack_label` meets its contract, by arithmetic.
use Rattle.judge_disks.proofs.DiskSteps.{steps}
use Rattle.judge_disks.proofs.pack_label.Goals as goal

pub returns : goal.returns
returns c = search steps
