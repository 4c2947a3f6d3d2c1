-- `judge_disks::restore` meets its contract. The invariant: the addresses of the first i writes are put back, the others are as they were.
use Prim.Native.Nat.{◌≤◌}
use Rattle.judge_disks.proofs.RestoreLaws.{Restoring}
use Rattle.judge_disks.proofs.restore.Given as goal

abbrev pub invariant-loop-i : goal.invariant-loop-i
invariant-loop-i l = (l.i ≤ l.n) × Restoring l.table l.base l.initial.disk l.from l.n l.i l.disk
