-- `cache_opening::put_rules` meets its contract. The invariant: the count and the first i rules are written.
use Rattle.cache_opening.proofs.OpenSteps.{putting, rules-more}
use Rattle.cache_opening.proofs.put_rules.Goals as goal

pub loop-i-init : goal.loop-i-init
loop-i-init c = search putting

pub put_rule-requires : goal.put_rule-requires
put_rule-requires c = search putting

pub loop-i-preserved : goal.loop-i-preserved
loop-i-preserved c = (
  search putting,
  search putting,
  rules-more c.args.rules _ _ _ _ c.put_rule.ensures c.rule_place.ensures c.loop-i.invariant.2 (search putting) (search putting) (search putting),
)

pub returns : goal.returns
returns c = search putting
