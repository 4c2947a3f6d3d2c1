-- `cache_contents::state_rules` meets its contract. The invariant: the first i rules are loaded.
use Rattle.cache_contents.proofs.ContentSteps.{reading}
use Rattle.cache_contents.proofs.state_rules.Goals as goal

pub loop-i-init : goal.loop-i-init
loop-i-init c = search reading

pub loop-i-preserved : goal.loop-i-preserved
loop-i-preserved c = (search reading, search reading, search reading, search reading)

pub returns : goal.returns
returns c = search reading
