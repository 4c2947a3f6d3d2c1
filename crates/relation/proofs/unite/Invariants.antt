-- `relation::unite` meets its contract. The invariant: the sets of numbers below i have their unions.
use mathlib.Core.Path.{◌≡◌}
use Prim.Native.Nat.{◌≤◌}
use lib.ListN.{length}
use Rattle.relation.specs.Union.{Unites}
use Rattle.relation.proofs.unite.Given as goal

abbrev pub invariant-loop-i : goal.invariant-loop-i
invariant-loop-i l = (l.i ≤ l.k) × (length l.table ≡ length l.initial.table) × Unites l.rows l.from l.i l.table
