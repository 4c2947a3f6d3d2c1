-- `judge_counting::Tally::add_bad` meets its contract, by its definition.
use Rattle.judge_counting.proofs.WalkLaws.{walking}
use Rattle.judge_counting.proofs.Tally.add_bad.Goals as goal

pub returns : goal.returns
returns c = search walking
