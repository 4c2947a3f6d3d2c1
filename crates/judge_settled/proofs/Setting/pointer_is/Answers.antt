-- `judge_settled::Setting::pointer_is` meets its contract. By the own block.
use Rattle.judge_settled.proofs.AskLaws.{asking}
use Rattle.judge_settled.proofs.Setting.pointer_is.Goals as goal

pub returns-then-own-eq0 : goal.returns-then-own-eq0
returns-then-own-eq0 c = search asking

pub returns-then-to-gt-LAST_BLOCK : goal.returns-then-to-gt-LAST_BLOCK
returns-then-to-gt-LAST_BLOCK c = search asking

pub returns : goal.returns
returns c = search asking
