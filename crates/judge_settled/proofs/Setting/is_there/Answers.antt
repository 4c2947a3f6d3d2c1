-- `judge_settled::Setting::is_there` meets its contract. By the opposite answer.
use Rattle.judge_settled.proofs.AskLaws.{asking}
use Rattle.judge_settled.proofs.Setting.is_there.Goals as goal

pub returns : goal.returns
returns c = search asking
