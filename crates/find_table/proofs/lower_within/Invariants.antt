-- `find_table::lower_within` meets its contract. The invariant: the words before are done, the others are as they were.
use lib.ListN.{drop}
use mathlib.Core.List.{◌++◌}
use Rattle.find_table.specs.Table.{Lowered}
use Rattle.find_table.proofs.lower_within.Given as goal

abbrev pub invariant-loop-word : goal.invariant-loop-word
invariant-loop-word l = Lowered l.fn.b l.fn.table (l.word-items ++ drop l.fn.words l.fn.table) l.word-index
