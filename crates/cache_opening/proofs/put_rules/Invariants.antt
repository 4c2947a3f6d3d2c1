-- `cache_opening::put_rules` meets its contract. The invariant: the count and the first i rules are written.
use Prim.Native.Nat.{◌≤◌}
use mathlib.Core.Path.{◌≡◌}
use lib.ListN.{length, take}
use Rattle.cache_model.specs.State.{state_size}
use Rattle.cache_opening.proofs.OpenSteps.{written}
use Rattle.cache_opening.proofs.put_rules.Given as goal

abbrev pub invariant-loop-i : goal.invariant-loop-i
invariant-loop-i l = (l.i ≤ l.rules.count) × (length l.state ≡ state_size) × (l.state ≡ written l.rules.count (take l.i l.rules.items))
