-- `rule_cycles::mixed_ring` meets its contract. Where nothing leads round no two rules reach each other; else the closed table agrees with that of the definition below the count.
use Rattle.rule_cycles.proofs.CycleSteps.{steps}
use Rattle.rule_cycles.proofs.mixed_ring.Goals as goal

pub returns-then-not-leads_round : goal.returns-then-not-leads_round
returns-then-not-leads_round c = search steps

pub returns : goal.returns
returns c = search steps
