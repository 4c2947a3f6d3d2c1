-- `find_table::widen` meets its contract. The invariant: the first s schedules are widened, the others are as they were.
use mathlib.Core.Path.{◌≡◌}
use Prim.Native.Nat.{◌^◌, ◌≤◌}
use Rattle.find_table.specs.Table.{half_schedules, Widened}
use Rattle.find_table.proofs.widen.Given as goal

abbrev pub invariant-loop-s : goal.invariant-loop-s
invariant-loop-s l = (l.size ≡ 2 ^ l.k) × (l.size ≤ half_schedules) × Widened l.outs l.backs l.k l.initial.table l.table l.s
