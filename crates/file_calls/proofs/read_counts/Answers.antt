-- `file_calls::read_counts` meets its contract: the counts, or the refusal.
use Rattle.file_calls.proofs.FileLaws.{answers}
use Rattle.file_calls.proofs.read_counts.Goals as goal

pub overflow_mul-result : goal.overflow_mul-result
overflow_mul-result c = search answers

pub overflow_add-result : goal.overflow_add-result
overflow_add-result c = search answers

pub code-requires : goal.code-requires
code-requires c = search answers

pub returns-in-Ok : goal.returns-in-Ok
returns-in-Ok c = search answers

pub returns-in-Err : goal.returns-in-Err
returns-in-Err c = search answers
