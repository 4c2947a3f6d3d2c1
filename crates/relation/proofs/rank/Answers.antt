-- `relation::rank` meets its contract.
use Rattle.relation.proofs.BestLaws.{ranking}
use Rattle.relation.proofs.rank.Goals as goal

pub returns : goal.returns
returns c = search ranking
