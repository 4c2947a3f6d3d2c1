-- `find_call::find` meets its contract. The outcome in one number.
use Rattle.find_call.proofs.FoundLaws.{found-coded}
use Rattle.find_call.proofs.find.Goals as goal

pub returns : goal.returns
returns c = found-coded _ _ _ _ c.find_in.ensures.leaves c.coded.ensures
