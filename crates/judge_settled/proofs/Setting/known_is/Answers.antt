-- `judge_settled::Setting::known_is` meets its contract. By whether it is the known block.
use Rattle.judge_settled.proofs.AskLaws.{asking}
use Rattle.judge_settled.proofs.Setting.known_is.Goals as goal

pub returns-then-k-a : goal.returns-then-k-a
returns-then-k-a c = search asking

pub returns : goal.returns
returns c = search asking
