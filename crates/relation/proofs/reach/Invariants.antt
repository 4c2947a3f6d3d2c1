-- `relation::reach` meets its contract. The invariant: the set has nothing that is not reached, and the rows of its members but for those that are left.
use Prim.Native.Nat.{◌+◌, ◌-◌}
use Rattle.relation.proofs.ReachLaws.{Reaching}
use Rattle.relation.proofs.reach.Given as goal

abbrev pub invariant-loop-left : goal.invariant-loop-left
invariant-loop-left l = Reaching l.rows l.from l.set l.left

abbrev pub decreases-loop-left : goal.decreases-loop-left
decreases-loop-left l = 18446744073709551616 - l.set + l.left
