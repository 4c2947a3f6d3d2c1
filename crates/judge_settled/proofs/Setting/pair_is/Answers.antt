-- `judge_settled::Setting::pair_is` meets its contract. By whether the own block is the one asked for.
use Rattle.judge_settled.proofs.AskLaws.{asking}
use Rattle.judge_settled.proofs.Setting.pair_is.Goals as goal

pub returns-then-own-v : goal.returns-then-own-v
returns-then-own-v c = search asking

pub returns : goal.returns
returns c = search asking
