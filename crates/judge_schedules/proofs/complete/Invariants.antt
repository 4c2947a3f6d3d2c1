-- `judge_schedules::complete` meets its contract. The invariant: the first i rows are turned, and the table makes the same schedules valid.
use Prim.Native.Nat.{◌≤◌}
use Rattle.judge_schedules.proofs.ValidLaws.{Completing}
use Rattle.judge_schedules.proofs.complete.Given as goal

abbrev pub invariant-loop-i : goal.invariant-loop-i
invariant-loop-i l = (l.i ≤ l.n) × Completing l.initial.rows l.n l.i l.rows
