-- `relation::unite` meets its contract. The invariant: the sets of numbers below i have their unions.
use native.Mathlib.Omega.{arith}
use lib.ListN.{length-set}
use Rattle.relation.proofs.UnionLaws.{uniting, table_fits}
use Rattle.relation.proofs.unite.Goals as goal

pub loop-i-init : goal.loop-i-init
loop-i-init c = search uniting

pub double-requires : goal.double-requires
double-requires c =
    let a = c.args in
    let l = c.loop-i in
    (search uniting, table_fits l.i a.k _ (omega arith) (omega (arith, length-set a.table.now 0 0)))

pub loop-i-preserved : goal.loop-i-preserved
loop-i-preserved c = (search uniting, search uniting, search uniting)
