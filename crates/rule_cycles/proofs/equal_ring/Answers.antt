-- `rule_cycles::equal_ring` meets its contract. By the table.
use Rattle.rule_cycles.proofs.CycleSteps.{steps}
use Rattle.rule_cycles.proofs.equal_ring.Goals as goal

pub returns : goal.returns
returns c = search steps
