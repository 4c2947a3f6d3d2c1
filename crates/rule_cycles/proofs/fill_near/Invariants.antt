-- `rule_cycles::fill_near` meets its contract. The invariant: the first i rows are filled.
use mathlib.Core.Path.{◌≡◌}
use lib.ListN.{length, take}
use Rattle.rule_cycles.specs.Links.{near}
use Rattle.rule_cycles.proofs.CycleSteps.{filled}
use Rattle.rule_cycles.proofs.fill_near.Given as goal

abbrev pub invariant-loop-i : goal.invariant-loop-i
invariant-loop-i l = take l.i l.rows ≡ filled (near l.among l.rules) (length l.rules) l.i
