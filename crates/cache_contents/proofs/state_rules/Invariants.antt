-- `cache_contents::state_rules` meets its contract. The invariant: the first i rules are loaded.
use Prim.Native.Nat.{◌≤◌}
use mathlib.Core.Path.{◌≡◌}
use lib.ListN.{length, take}
use Rattle.relation.specs.Lists.{tabulate}
use Rattle.model.specs.Limits.{most_rules}
use Rattle.cache_model.specs.State.{rule_in}
use Rattle.cache_contents.proofs.state_rules.Given as goal

abbrev pub invariant-loop-i : goal.invariant-loop-i
invariant-loop-i l = (l.i ≤ l.n) × (length l.out.0 ≡ most_rules) × (l.out.1.0 ≡ l.n) × (take l.i l.out.0 ≡ tabulate (rule_in l.state) l.i)
