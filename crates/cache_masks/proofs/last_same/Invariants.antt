-- `cache_masks::last_same` meets its contract. The invariant: no entry from j on is x.
use mathlib.Core.Path.{◌≡◌}
use Prim.Native.Nat.{◌≤◌}
use Rattle.cache_masks.specs.Masks.{same_mask}
use Rattle.cache_masks.proofs.last_same.Given as goal

abbrev pub invariant-loop-j : goal.invariant-loop-j
invariant-loop-j l = (l.j ≤ l.n) × (same_mask l.column l.x l.n ≡ same_mask l.column l.x l.j)
