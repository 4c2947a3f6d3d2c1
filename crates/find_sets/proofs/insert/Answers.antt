-- `find_sets::insert` meets its contract. By the rule's place: past 16 nothing is kept, a rule that stands there is not repeated, any other is put there.
use Rattle.find_sets.proofs.RuleSteps.{ordering}
use Rattle.find_sets.proofs.insert.Goals as goal

pub returns-then-c-gt-MOST_CANDIDATES : goal.returns-then-c-gt-MOST_CANDIDATES
returns-then-c-gt-MOST_CANDIDATES c = search ordering

pub returns-then-not-comes_before : goal.returns-then-not-comes_before
returns-then-not-comes_before c = search ordering

pub returns : goal.returns
returns c = search ordering
