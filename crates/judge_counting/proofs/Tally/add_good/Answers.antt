-- `judge_counting::Tally::add_good` meets its contract, by its definition.
use Rattle.judge_counting.proofs.WalkLaws.{walking}
use Rattle.judge_counting.proofs.Tally.add_good.Goals as goal

pub returns : goal.returns
returns c = search walking
