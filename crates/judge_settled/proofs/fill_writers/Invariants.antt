-- `judge_settled::fill_writers` meets its contract. The invariant: the table has the first i writes.
use Prim.Native.Nat.{◌≤◌}
use Rattle.model.specs.Limits.{disk_blocks}
use Rattle.relation.specs.Tables.{Filled}
use Rattle.judge_settled.specs.Settled.{writers_of}
use Rattle.judge_settled.proofs.fill_writers.Given as goal

abbrev pub invariant-loop-i : goal.invariant-loop-i
invariant-loop-i l = (l.i ≤ l.n) × Filled (writers_of l.stores l.i) disk_blocks l.writers
