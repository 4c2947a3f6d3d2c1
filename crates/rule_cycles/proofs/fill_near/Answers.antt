-- `rule_cycles::fill_near` meets its contract. The invariant: the first i rows are filled.
use Rattle.rule_cycles.proofs.CycleSteps.{steps}
use Rattle.rule_cycles.proofs.fill_near.Goals as goal

pub loop-i-init : goal.loop-i-init
loop-i-init c = search steps

pub loop-i-preserved : goal.loop-i-preserved
loop-i-preserved c = search steps

pub returns : goal.returns
returns c = search steps
