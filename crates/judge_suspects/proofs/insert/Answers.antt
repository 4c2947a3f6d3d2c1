-- `judge_suspects::insert` meets its contract.
use Rattle.judge_suspects.proofs.RankLists.{inserting}
use Rattle.judge_suspects.proofs.insert.Goals as goal

pub returns : goal.returns
returns c = search inserting
