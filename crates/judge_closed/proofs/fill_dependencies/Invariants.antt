-- `judge_closed::fill_dependencies` meets its contract. The invariant: the first i entries are filled.
use Prim.Native.Nat.{◌≤◌}
use Rattle.relation.specs.Tables.{Filled}
use Rattle.judge_closed.specs.Closed.{reached_row}
use Rattle.judge_closed.proofs.fill_dependencies.Given as goal

abbrev pub invariant-loop-i : goal.invariant-loop-i
invariant-loop-i l = (l.i ≤ l.n) × Filled (reached_row l.closed l.n) l.i l.dependencies
