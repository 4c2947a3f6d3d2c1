-- `judge_disks::pack_store` meets its contract, by arithmetic.
use Rattle.judge_disks.proofs.DiskSteps.{steps}
use Rattle.judge_disks.proofs.pack_store.Goals as goal

pub returns : goal.returns
returns c = search steps
