-- `find_table::forbid` meets its contract. The invariant: the schedules of the first k writes have their sets.
use lib.ListN.{length}
use Rattle.find_table.specs.Table.{pairs, Forbids}
use Rattle.find_table.proofs.forbid.Given as goal

abbrev pub invariant-loop-k : goal.invariant-loop-k
invariant-loop-k l = Forbids (pairs l.cands (length l.cands) l.labels) l.k l.table
