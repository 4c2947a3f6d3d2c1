-- `cache_masks::rank` meets its contract. The invariant: the smaller ones of the epochs so far are counted.
use mathlib.Core.Path.{◌≡◌}
use Prim.Native.Nat.{◌≤◌}
use Rattle.cache_masks.specs.Ranks.{smaller}
use Rattle.cache_masks.proofs.rank.Given as goal

abbrev pub invariant-loop-u : goal.invariant-loop-u
invariant-loop-u l = (l.count ≤ l.u-index) × (l.count ≡ smaller l.epochs l.t l.u-index)
