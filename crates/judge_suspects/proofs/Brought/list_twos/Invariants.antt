-- `judge_suspects::Brought::list_twos` meets its contract. The invariant: the writes below h are listed, with their mates.
use Prim.Native.Nat.{◌≤◌}
use Rattle.judge_suspects.specs.Suspects.{TwosListed}
use Rattle.judge_suspects.proofs.Brought.list_twos.Given as goal

abbrev pub invariant-loop-h : goal.invariant-loop-h
invariant-loop-h l = (l.h ≤ l.self.n) × TwosListed l.self.rows.now l.self.n l.marks.own l.marks.other l.h l.many l.initial.list l.now l.list
