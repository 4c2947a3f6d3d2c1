-- `relation::double` meets its contract. The invariant: the first x of the new entries are written, and those below are as they were.
use mathlib.Core.Path.{◌≡◌}
use Prim.Native.Nat.{◌+◌, ◌^◌, ◌≤◌}
use lib.ListN.{length}
use Rattle.relation.specs.Union.{Doubled}
use Rattle.relation.proofs.double.Given as goal

abbrev pub invariant-loop-x : goal.invariant-loop-x
invariant-loop-x l = (l.x ≤ l.size) × (l.size ≡ 2 ^ l.i) × (l.size ≤ 2147483648) × (l.size + l.size ≤ length l.table) × (length l.table ≡ length l.initial.table) × Doubled l.i l.row l.initial.table l.table l.x
