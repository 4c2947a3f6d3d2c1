-- `find_call::put_rules` meets its contract. The invariant: the fields of the rules before stand at the front, one behind the other, the rest of the buffer is as it was.
use Rattle.find_call.proofs.FindSteps.{putting}
use Rattle.find_call.proofs.put_rules.Goals as goal

pub loop-rule-init : goal.loop-rule-init
loop-rule-init c = search putting

pub loop-rule-preserved : goal.loop-rule-preserved
loop-rule-preserved c = search putting

pub returns : goal.returns
returns c = search putting

pub put_rule-at-requires : goal.put_rule-at-requires
put_rule-at-requires c = (search putting, search putting)
