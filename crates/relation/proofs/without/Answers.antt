-- `relation::without` meets its contract, bit by bit.
use Rattle.relation.proofs.SetLaws.{setting}
use Rattle.relation.proofs.without.Goals as goal

pub returns : goal.returns
returns c = search setting
