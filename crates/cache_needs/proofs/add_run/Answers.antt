-- `cache_needs::add_run` meets its contract: what a run of rules adds goes on from what the rules before it have added.
use Rattle.cache_needs.proofs.NeedSteps.{all-rules}
use Rattle.cache_needs.proofs.add_run.Goals as goal

pub add_to-requires : goal.add_to-requires
add_to-requires c = search all-rules

pub returns : goal.returns
returns c = (search all-rules, (search all-rules, λ old adds. search all-rules))
