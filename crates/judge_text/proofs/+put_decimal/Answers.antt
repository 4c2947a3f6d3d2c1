-- `judge_text::put_decimal` meets its contract, by recursion on the number.
use Rattle.judge_text.proofs.WriteLaws.{writes, wrote-more}
use Rattle.judge_text.proofs.+put_decimal.Goals as goal

pub put-requires : goal.put-requires
put-requires t c = search writes

pub returns-then-n-lt10 : goal.returns-then-n-lt10
returns-then-n-lt10 t c = search writes

pub put_decimal-next-requires : goal.put_decimal-next-requires
put_decimal-next-requires t c = search writes

pub put-requires-2 : goal.put-requires-2
put-requires-2 t c = search writes

pub returns : goal.returns
returns t c = wrote-more _ _ _ _ _ _ _ c.if-n-lt10.false c.put_decimal-next.ensures c.put-2.ensures
