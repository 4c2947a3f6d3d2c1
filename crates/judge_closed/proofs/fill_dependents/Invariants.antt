-- `judge_closed::fill_dependents` meets its contract. The invariant: the first j entries are filled.
use Prim.Native.Nat.{◌≤◌}
use Rattle.relation.specs.Tables.{Filled}
use Rattle.judge_closed.specs.Closed.{reaching_row}
use Rattle.judge_closed.proofs.fill_dependents.Given as goal

abbrev pub invariant-loop-j : goal.invariant-loop-j
invariant-loop-j l = (l.j ≤ l.n) × Filled (reaching_row l.dependencies l.n) l.j l.dependents
