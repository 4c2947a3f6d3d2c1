-- `relation::peel` meets its contract. The invariant: the pass over the numbers below i is made.
use Rattle.std.proofs.Common.{◌≡◌}
use Rattle.relation.specs.Peel.{peeled}
use Rattle.relation.proofs.peel.Given as goal

abbrev pub invariant-loop-i : goal.invariant-loop-i
invariant-loop-i l = l.rest ≡ peeled l.rows l.left l.i
