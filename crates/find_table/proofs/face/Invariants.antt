-- `find_table::face` meets its contract. The invariant: the first j writes are faced.
use lib.ListN.{length}
use Rattle.find_table.specs.Table.{pairs, Facing}
use Rattle.find_table.proofs.face.Given as goal

abbrev pub invariant-loop-j : goal.invariant-loop-j
invariant-loop-j l = Facing (pairs l.cands (length l.cands) l.labels) l.k l.j l.out l.back
