-- `judge_text::put_number` meets its contract: a number below 10 to the power k has at most k digits.
use Rattle.judge_text.proofs.LineLaws.{line_steps}
use Rattle.judge_text.proofs.put_number.Goals as goal

pub put_decimal-requires : goal.put_decimal-requires
put_decimal-requires g c = search line_steps

pub returns : goal.returns
returns g c = search line_steps
