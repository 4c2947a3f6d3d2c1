-- `cache_opening::put_rule` meets its contract: three runs of bytes, one behind the other, are the rule's.
use Rattle.cache_opening.proofs.OpenSteps.{putting}
use Rattle.cache_opening.proofs.put_rule.Goals as goal

pub returns : goal.returns
returns c = search putting
