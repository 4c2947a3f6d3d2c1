-- `relation::peel_back` meets its contract. The invariant: the numbers below i are to be passed, and then all are.
use mathlib.Core.Path.{◌≡◌}
use Prim.Native.Nat.{◌≤◌}
use Rattle.relation.specs.Peel.{peeled_back}
use Rattle.relation.proofs.peel_back.Given as goal

abbrev pub invariant-loop-i : goal.invariant-loop-i
invariant-loop-i l = (l.i ≤ l.n) × (peeled_back l.rows l.rest l.i ≡ peeled_back l.rows l.left l.n)
