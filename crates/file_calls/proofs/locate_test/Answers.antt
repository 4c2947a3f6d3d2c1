-- `file_calls::locate_test` meets its contract: the place of a test that is there, 9, or the refusal.
use Rattle.file_calls.proofs.FileLaws.{answers}
use Rattle.file_calls.proofs.locate_test.Goals as goal

pub returns-then-not-has_test : goal.returns-then-not-has_test
returns-then-not-has_test c = search answers

pub offset_bounds-contents-from_zero : goal.offset_bounds-contents-from_zero
offset_bounds-contents-from_zero c = search answers

pub bounds-contents-from_zero : goal.bounds-contents-from_zero
bounds-contents-from_zero c = search answers

pub pack-requires : goal.pack-requires
pack-requires c = search answers

pub code-requires-in-Err : goal.code-requires-in-Err
code-requires-in-Err c = search answers

pub returns-else-not-has_test : goal.returns-else-not-has_test
returns-else-not-has_test c = search answers

pub returns-in-Err : goal.returns-in-Err
returns-in-Err c = search answers
