-- `rule_cycles::suspects` meets its contract. One law for each of its returns.
use Rattle.rule_cycles.proofs.CycleSteps.{steps}
use Rattle.rule_cycles.proofs.suspects.Goals as goal

pub returns-then-having-eq0 : goal.returns-then-having-eq0
returns-then-having-eq0 c = search steps

pub returns-then-having-eq0-2 : goal.returns-then-having-eq0-2
returns-then-having-eq0-2 c = search steps

pub returns : goal.returns
returns c = search steps
