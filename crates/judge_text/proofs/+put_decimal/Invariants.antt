-- `judge_text::put_decimal` meets its contract, by recursion on the number.
use Rattle.judge_text.proofs.+put_decimal.Given as goal

abbrev pub decreases-put_decimal : goal.decreases-put_decimal
decreases-put_decimal l = l.n
