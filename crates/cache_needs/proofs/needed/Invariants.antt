-- `cache_needs::needed` meets its contract. The invariant: the mask has what w needs by the first k rules.
use mathlib.Core.Path.{◌≡◌}
use Prim.Native.Nat.{◌≤◌}
use lib.ListN.{take}
use Rattle.cache_masks.specs.Columns.{writes_of}
use Rattle.cache_needs.specs.Needed.{needed_mask}
use Rattle.cache_needs.proofs.needed.Given as goal

abbrev pub invariant-loop-k : goal.invariant-loop-k
invariant-loop-k l = (l.k ≤ l.rules.count) × (l.mask ≡ needed_mask (take l.k l.rules.items) (writes_of l.columns l.n) l.w l.n)
