-- `cache_layout::flags_fit` meets its contract. The invariant: the first i flags fit.
use Prim.Native.Nat.{◌≤◌}
use mathlib.Core.Path.{◌≡◌}
use mathlib.Core.Bool.{true}
use Rattle.relation.specs.Lists.{all_below}
use Rattle.cache_layout.specs.Flags.{flag_fits}
use Rattle.cache_layout.proofs.flags_fit.Given as goal

abbrev pub invariant-loop-i : goal.invariant-loop-i
invariant-loop-i l = (l.i ≤ l.n) × (all_below (flag_fits l.state) l.i ≡ true)
