-- `judge_schedules::is_valid` meets its contract. The invariant: of the flagged writes, those that are no longer left have their rows flagged.
use Rattle.relation.proofs.MemberLaws.{Left}
use Rattle.judge_schedules.proofs.ValidLaws.{Covered}
use Rattle.judge_schedules.proofs.is_valid.Given as goal

abbrev pub invariant-loop-left : goal.invariant-loop-left
invariant-loop-left l = Left (Covered l.rows l.s) l.s l.left

abbrev pub decreases-loop-left : goal.decreases-loop-left
decreases-loop-left l = l.left
