-- `rule_cycles::meets_at` meets its contract. By the tests.
use Rattle.rule_cycles.proofs.CycleSteps.{steps}
use Rattle.rule_cycles.proofs.meets_at.Goals as goal

pub returns-then-rule-ne2 : goal.returns-then-rule-ne2
returns-then-rule-ne2 c = search steps

pub returns-then-has_bit : goal.returns-then-has_bit
returns-then-has_bit c = search steps

pub returns : goal.returns
returns c = search steps
