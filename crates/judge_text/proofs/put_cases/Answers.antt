-- `judge_text::put_cases` meets its contract. The invariant: the lines of the first i tests are written, each in so many bytes at most.
use Rattle.judge_text.proofs.TextLaws.{texts, walked-inside}
use Rattle.judge_text.proofs.put_cases.Goals as goal

pub loop-i-init : goal.loop-i-init
loop-i-init c = search texts

pub put_case-at-requires : goal.put_case-at-requires
put_case-at-requires c = ((search texts, search texts), walked-inside _ _ _ _ c.requires.1 (search texts))

pub loop-i-preserved : goal.loop-i-preserved
loop-i-preserved c = search texts
