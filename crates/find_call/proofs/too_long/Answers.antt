-- `find_call::too_long` meets its contract. The invariant: none of the tests before is too long.
use borrow.Author.Rules.{rules}
use Rattle.find_call.proofs.FoundLaws.{long-found}
use Rattle.find_call.proofs.FindSteps.{passing}
use Rattle.find_call.proofs.too_long.Goals as goal

pub loop-test-init : goal.loop-test-init
loop-test-init c = search passing

pub loop-test-preserved : goal.loop-test-preserved
loop-test-preserved c = search passing

pub returns-then-test-gt-MOST_FOUND : goal.returns-then-test-gt-MOST_FOUND
returns-then-test-gt-MOST_FOUND c = long-found _ _ c.loop-test.test-index (search rules) (search rules) (search rules)
