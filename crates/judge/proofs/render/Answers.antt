-- `judge::render` meets its contract: the text of the first bytes is that of the whole input.
use Rattle.std.proofs.Common.{rules}
use Rattle.judge_text.proofs.PrefixLaws.{whole_text}
use Rattle.judge.proofs.render.Goals as goal

pub returns : goal.returns
returns c = search (rules, whole_text)
