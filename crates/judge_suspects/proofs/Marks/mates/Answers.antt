-- `judge_suspects::Marks::mates` meets its contract.
use Rattle.judge_suspects.proofs.MarkLaws.{mating}
use Rattle.judge_suspects.proofs.Marks.mates.Goals as goal

pub returns : goal.returns
returns c = search mating
