-- `cache_layout::stored_mask` meets its contract. The invariant: the mask has the first i flags.
use Prim.Native.Nat.{◌≤◌}
use mathlib.Core.Path.{◌≡◌}
use Rattle.relation.specs.Bits.{mask_of}
use Rattle.cache_model.specs.State.{stored_in}
use Rattle.cache_layout.proofs.stored_mask.Given as goal

abbrev pub invariant-loop-i : goal.invariant-loop-i
invariant-loop-i l = (l.i ≤ l.n) × (l.mask ≡ mask_of (stored_in l.state) l.i)
