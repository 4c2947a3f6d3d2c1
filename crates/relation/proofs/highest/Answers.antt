-- `relation::highest` meets its contract, by what the leading zeros are.
use Rattle.relation.proofs.SetLaws.{setting}
use Rattle.relation.proofs.highest.Goals as goal

pub returns : goal.returns
returns c = search setting
