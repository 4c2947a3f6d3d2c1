-- `judge_suspects::Brought::list_ones` meets its contract. The invariant: the writes below i are listed.
use Prim.Native.Nat.{◌≤◌}
use Rattle.judge_suspects.specs.Suspects.{OnesListed}
use Rattle.judge_suspects.proofs.Brought.list_ones.Given as goal

abbrev pub invariant-ones : goal.invariant-ones
invariant-ones l = (l.i ≤ l.self.n) × OnesListed l.self.rows.now l.self.n l.mask l.i l.many l.list
