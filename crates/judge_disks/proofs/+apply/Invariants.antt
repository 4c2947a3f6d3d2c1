-- `judge_disks::apply` meets its contract, by induction on the writes left.
use Rattle.judge_disks.proofs.+apply.Given as goal

abbrev pub decreases-apply : goal.decreases-apply
decreases-apply l = l.left
