-- `cache_masks::same` meets its contract. The invariant: the mask has the bits below j.
use mathlib.Core.Path.{◌≡◌}
use Rattle.cache_masks.specs.Masks.{equal_mask}
use Rattle.cache_masks.proofs.same.Given as goal

abbrev pub invariant-loop-j : goal.invariant-loop-j
invariant-loop-j g l = l.mask ≡ equal_mask g.T.PartialEq.eq l.column l.x l.j
