-- `relation::close` meets its contract. The invariant: the first n rows are closed by way of the numbers below k.
use mathlib.Core.Path.{◌≡◌}
use Prim.Native.Nat.{◌≤◌}
use lib.ListN.{length, take}
use Rattle.relation.specs.Finite.{closed}
use Rattle.relation.proofs.close.Given as goal

abbrev pub invariant-loop-k : goal.invariant-loop-k
invariant-loop-k l = (l.k ≤ l.n) × (length l.rows ≡ length l.initial.rows) × (take l.n l.rows ≡ take l.n (closed l.k l.initial.rows))
