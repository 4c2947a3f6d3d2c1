-- `cache_masks::join_up` meets its contract. The invariant: the entries below r are joined, the others as they were.
use Prim.Native.Nat.{◌≤◌}
use Rattle.cache_masks.specs.Ranks.{bounds}
use Rattle.cache_masks.proofs.RankSteps.{Joined}
use Rattle.cache_masks.proofs.join_up.Given as goal

abbrev pub invariant-loop-r : goal.invariant-loop-r
invariant-loop-r l = (1 ≤ l.r) × (l.r ≤ bounds) × Joined l.initial.table l.r l.table
