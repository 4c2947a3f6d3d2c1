-- `cache_needs::dependents` meets its contract. The invariant: the mask has what depends on w by the first k rules.
use mathlib.Core.Path.{◌≡◌}
use mathlib.Core.List.{List}
use Prim.Native.Nat.{ℕ, ◌≤◌}
use lib.ListN.{take}
use Rattle.cache_masks.specs.Columns.{columned}
use Rattle.cache_needs.specs.Needed.{dependent_mask}
use Rattle.cache_needs.proofs.dependents.Given as goal

abbrev pub invariant-loop-k : goal.invariant-loop-k
invariant-loop-k l = (l.k ≤ l.rules.count) × ((addresses : List ℕ) → l.mask ≡ dependent_mask (take l.k l.rules.items) (columned addresses l.names l.epochs l.n) l.w l.n)
