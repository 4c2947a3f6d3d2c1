-- `cache_needs::add_to` meets its contract. The invariant: the rows of firsts have what is added, but for those left.
use Rattle.cache_needs.proofs.TableSteps.{Adding}
use Rattle.cache_needs.proofs.add_to.Given as goal

abbrev pub invariant-loop-left : goal.invariant-loop-left
invariant-loop-left l = Adding l.initial.rows l.firsts l.seconds l.p l.tables.ranks l.tables.belows l.left l.rows

abbrev pub decreases-loop-left : goal.decreases-loop-left
decreases-loop-left l = l.left
