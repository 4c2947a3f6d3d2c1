-- `find_table::mark_all` meets its contract. The invariant: the sets of the tests from t on are marked.
use Rattle.rule_match.specs.Held.{rules_of}
use Rattle.find_table.proofs.MarkLaws.{Marking}
use Rattle.find_table.proofs.mark_all.Given as goal

abbrev pub invariant-loop-t : goal.invariant-loop-t
invariant-loop-t l = Marking (rules_of l.cands) l.file l.t l.table
