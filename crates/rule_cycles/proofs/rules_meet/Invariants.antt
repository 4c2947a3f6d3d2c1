-- `rule_cycles::rules_meet` meets its contract. The invariants: no > rule below i meets a < rule; rule i and no < rule below j reach each other.
use mathlib.Core.Path.{◌≡◌}
use mathlib.Core.Bool.{false}
use Rattle.relation.specs.Lists.{any_below}
use Rattle.rule_cycles.specs.Links.{meets_from}
use Rattle.rule_cycles.proofs.CycleSteps.{meeting}
use Rattle.rule_cycles.proofs.rules_meet.Given as goal

abbrev pub invariant-less : goal.invariant-less
invariant-less l = any_below (meeting l.rules l.rows l.i) l.j ≡ false

abbrev pub invariant-greater : goal.invariant-greater
invariant-greater l = any_below (meets_from l.rules l.rows) l.i ≡ false
