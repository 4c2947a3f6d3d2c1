-- `cache_layout::are_zero` meets its contract. The invariant: the bytes up to k are zero.
use mathlib.Core.Path.{◌≡◌}
use mathlib.Core.Bool.{true}
use Prim.Native.Nat.{◌-◌}
use Rattle.cache_layout.specs.Flags.{zeros}
use Rattle.cache_layout.proofs.are_zero.Given as goal

abbrev pub invariant-loop-k : goal.invariant-loop-k
invariant-loop-k l = zeros l.state l.from (l.k - l.from) ≡ true
