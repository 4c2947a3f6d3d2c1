-- `relation::lowest` meets its contract, by what the trailing zeros are.
use Rattle.relation.proofs.SetLaws.{setting}
use Rattle.relation.proofs.lowest.Goals as goal

pub returns : goal.returns
returns c = search setting
