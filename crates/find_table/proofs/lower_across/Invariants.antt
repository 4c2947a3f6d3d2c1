-- `find_table::lower_across` meets its contract. The invariant: the marks of the sets of the first i words are handed down, the other words are as they were.
use Rattle.find_table.specs.Table.{Lowered}
use Rattle.find_table.proofs.lower_across.Given as goal

abbrev pub invariant-loop-i : goal.invariant-loop-i
invariant-loop-i l = Lowered l.b l.initial.table l.table l.i
