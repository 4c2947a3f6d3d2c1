-- `relation::double` meets its contract. The invariant: the first x of the new entries are written, and those below are as they were.
use Rattle.relation.proofs.UnionLaws.{uniting}
use Rattle.relation.proofs.double.Goals as goal

pub loop-x-init : goal.loop-x-init
loop-x-init c = search uniting
