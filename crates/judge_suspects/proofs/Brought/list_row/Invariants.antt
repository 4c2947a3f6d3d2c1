-- `judge_suspects::Brought::list_row` meets its contract. The invariant: the writes below l are listed.
use Prim.Native.Nat.{◌≤◌}
use Rattle.judge_suspects.specs.Suspects.{RowListed}
use Rattle.judge_suspects.proofs.Brought.list_row.Given as goal

abbrev pub invariant-row : goal.invariant-row
invariant-row l = (l.l ≤ l.h) × RowListed l.self.rows.now l.self.n l.h l.mask l.l l.many l.initial.list l.now l.list
