-- `judge_settled::Setting::check_with` meets its contract. One law for each form of a check.
use Rattle.judge_settled.proofs.AskLaws.{asking}
use Rattle.judge_settled.proofs.Setting.check_with.Goals as goal

pub returns-in-Range : goal.returns-in-Range
returns-in-Range c = search asking
