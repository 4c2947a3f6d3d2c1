-- `judge_settled::Setting::ask_checks` meets its contract. The invariant: the first i checks hold.
use Rattle.judge_settled.proofs.AskLaws.{asking}
use Rattle.judge_settled.proofs.Setting.ask_checks.Goals as goal

pub returns-then-ne : goal.returns-then-ne
returns-then-ne c = search asking

pub loop-i-preserved : goal.loop-i-preserved
loop-i-preserved c = search asking
