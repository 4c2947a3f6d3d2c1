-- `judge_closed::dependent_row` meets its contract. The invariant: the mask of the writes below i.
use mathlib.Core.Path.{◌≡◌}
use Prim.Native.Nat.{◌≤◌}
use Rattle.judge_closed.specs.Closed.{reaching_row}
use Rattle.judge_closed.proofs.dependent_row.Given as goal

abbrev pub invariant-loop-i : goal.invariant-loop-i
invariant-loop-i l = (l.i ≤ l.n) × (l.mask ≡ reaching_row l.dependencies l.i l.j)
