-- `judge_suspects::make_room` meets its contract. The invariant: the numbers from place k on are above x, and stand one place further.
use Rattle.judge_suspects.proofs.RankLists.{Shifting}
use Rattle.judge_suspects.proofs.make_room.Given as goal

abbrev pub invariant-loop-k : goal.invariant-loop-k
invariant-loop-k l = Shifting l.initial.list l.many l.x l.k l.list
