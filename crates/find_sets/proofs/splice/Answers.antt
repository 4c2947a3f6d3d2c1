-- `find_sets::splice` meets its contract. The rules behind place k are moved up by one.
use Rattle.find_sets.proofs.RuleSteps.{ordering}
use Rattle.find_sets.proofs.splice.Goals as goal

pub returns : goal.returns
returns c = search ordering
