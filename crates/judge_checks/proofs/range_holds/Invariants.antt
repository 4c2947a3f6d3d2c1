-- `judge_checks::range_holds` meets its contract. The invariant: the blocks from head up to k are not empty.
use Prim.Native.Nat.{◌≤◌, ◌<◌}
use Rattle.model.specs.Limits.{disk_blocks}
use Rattle.judge_checks.proofs.CheckSteps.{Full}
use Rattle.judge_checks.proofs.range_holds.Given as goal

abbrev pub invariant-loop-k : goal.invariant-loop-k
invariant-loop-k l = (l.head < l.tail) × (l.tail ≤ disk_blocks) × (l.head ≤ l.k) × (l.k ≤ l.tail) × Full l.disk l.head l.k
