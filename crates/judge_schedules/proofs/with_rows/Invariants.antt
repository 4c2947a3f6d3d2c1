-- `judge_schedules::with_rows` meets its contract. The invariant: those that are no longer left have their rows in the set.
use Rattle.judge_schedules.proofs.ValidLaws.{Widening}
use Rattle.judge_schedules.proofs.with_rows.Given as goal

abbrev pub invariant-loop-left : goal.invariant-loop-left
invariant-loop-left l = Widening l.rows l.n l.s l.set l.left

abbrev pub decreases-loop-left : goal.decreases-loop-left
decreases-loop-left l = l.left
