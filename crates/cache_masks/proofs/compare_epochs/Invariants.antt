-- `cache_masks::compare_epochs` meets its contract. The invariant: the masks have the bits below j.
use mathlib.Core.Path.{◌≡◌}
use Prim.Native.Nat.{◌≤◌}
use Rattle.cache_masks.specs.Masks.{epoch_mask}
use Rattle.cache_masks.proofs.compare_epochs.Given as goal

abbrev pub invariant-loop-j : goal.invariant-loop-j
invariant-loop-j l = (l.j ≤ l.n) × (l.equal ≡ epoch_mask l.epochs 0 l.t l.j) × (l.less ≡ epoch_mask l.epochs 1 l.t l.j) × (l.greater ≡ epoch_mask l.epochs 2 l.t l.j)
