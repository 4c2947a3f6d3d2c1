-- `rule_cycles::rules_meet` meets its contract. The invariants: no > rule below i meets a < rule; rule i and no < rule below j reach each other.
use Rattle.rule_cycles.proofs.CycleSteps.{steps}
use Rattle.rule_cycles.proofs.rules_meet.Goals as goal

pub greater-init : goal.greater-init
greater-init c = search steps

pub greater-preserved-then-rule-ne1 : goal.greater-preserved-then-rule-ne1
greater-preserved-then-rule-ne1 c = search steps

pub less-init : goal.less-init
less-init c = search steps

pub less-preserved : goal.less-preserved
less-preserved c = search steps

pub returns-then-meets_at : goal.returns-then-meets_at
returns-then-meets_at c = search steps

pub greater-preserved : goal.greater-preserved
greater-preserved c = search steps

pub returns : goal.returns
returns c = search steps
