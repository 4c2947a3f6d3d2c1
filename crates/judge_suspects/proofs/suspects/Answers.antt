-- `judge_suspects::suspects` meets its contract: to every bad schedule there is a bad one in the list.
use Rattle.judge_suspects.proofs.BlameLaws.{suspecting}
use Rattle.judge_suspects.proofs.suspects.Goals as goal

pub returns : goal.returns
returns c = search suspecting
