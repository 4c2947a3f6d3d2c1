-- `cache_masks::fill_same` meets its contract. The invariant: the first i entries are filled in.
use Prim.Native.Nat.{◌≤◌}
use Rattle.relation.specs.Tables.{Filled}
use Rattle.cache_masks.specs.Masks.{same_at}
use Rattle.cache_masks.proofs.fill_same.Given as goal

abbrev pub invariant-loop-i : goal.invariant-loop-i
invariant-loop-i l = (l.i ≤ l.n) × Filled (same_at l.column) l.i l.table
