-- `judge_suspects::mark_for` meets its contract. The invariant: the masks of the writes below i.
use Prim.Native.Nat.{◌≤◌}
use Rattle.judge_suspects.specs.Suspects.{MarkedFor}
use Rattle.judge_suspects.proofs.mark_for.Given as goal

abbrev pub invariant-loop-i : goal.invariant-loop-i
invariant-loop-i l = (l.i ≤ l.n) × MarkedFor l.stores l.i l.c l.own l.other
