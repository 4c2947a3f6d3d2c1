-- `cache_contents::fill_columns` meets its contract. The invariant: the columns have the first i writes.
use Prim.Native.Nat.{◌≤◌}
use Rattle.cache_contents.specs.Columns.{InColumns}
use Rattle.cache_contents.proofs.fill_columns.Given as goal

abbrev pub invariant-loop-i : goal.invariant-loop-i
invariant-loop-i l = (l.i ≤ l.n) × InColumns l.state l.i l.columns
