-- `find_call::put_rule` meets its contract. By the width of its names.
use Rattle.find_call.proofs.FoundLaws.{spelling}
use Rattle.find_call.proofs.put_rule.Goals as goal

pub returns-then-is_narrow : goal.returns-then-is_narrow
returns-then-is_narrow c = (search spelling, search spelling)

pub returns : goal.returns
returns c = (search spelling, search spelling)
