-- `judge_cases::select` meets its contract: one law for each refusal and for the test found.
use Rattle.judge_cases.proofs.JudgeLaws.{selects}
use Rattle.judge_cases.proofs.select.Goals as goal

pub returns-in_err-opened : goal.returns-in_err-opened
returns-in_err-opened c = search selects

pub returns-then-not-has_test : goal.returns-then-not-has_test
returns-then-not-has_test c = search selects

pub offset_bounds-opened-from_zero : goal.offset_bounds-opened-from_zero
offset_bounds-opened-from_zero c = search selects

pub bounds-opened-from_zero : goal.bounds-opened-from_zero
bounds-opened-from_zero c = search selects

pub returns : goal.returns
returns c = search selects
