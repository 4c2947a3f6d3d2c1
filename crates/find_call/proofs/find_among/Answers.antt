-- `find_call::find_among` meets its contract. By whether there are too many candidates, and by the choice.
use Rattle.find_call.proofs.FindSteps.{finding}
use Rattle.find_call.proofs.find_among.Goals as goal

pub returns-then-cands-gt-MOST_CANDIDATES-clause-leaves : goal.returns-then-cands-gt-MOST_CANDIDATES-clause-leaves
returns-then-cands-gt-MOST_CANDIDATES-clause-leaves c = search finding

pub returns-in-Some-clause-leaves : goal.returns-in-Some-clause-leaves
returns-in-Some-clause-leaves c = search finding

pub returns-in-None-clause-leaves : goal.returns-in-None-clause-leaves
returns-in-None-clause-leaves c = search finding

pub put_rules-requires : goal.put_rules-requires
put_rules-requires c = (search finding, (search finding, search finding))
