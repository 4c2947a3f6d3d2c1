-- `judge_schedules::bring` meets its contract. The invariant: the set is part of every valid schedule that has write i.
use Prim.Native.Nat.{◌-◌, ◌^◌}
use Rattle.judge_schedules.proofs.ValidLaws.{Bringing}
use Rattle.judge_schedules.proofs.bring.Given as goal

abbrev pub invariant-loop-set : goal.invariant-loop-set
invariant-loop-set l = Bringing l.rows l.n l.i l.set

abbrev pub decreases-loop-set : goal.decreases-loop-set
decreases-loop-set l = 2 ^ l.n - l.set
