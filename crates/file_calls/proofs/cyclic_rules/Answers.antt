-- `file_calls::cyclic_rules` meets its contract: by the test of the rules.
use Rattle.file_calls.proofs.FileLaws.{answers}
use Rattle.file_calls.proofs.cyclic_rules.Goals as goal

pub file_rules-rules-requires : goal.file_rules-rules-requires
file_rules-rules-requires c = search answers

pub is_cyclic-requires : goal.is_cyclic-requires
is_cyclic-requires c = search answers

pub code-requires : goal.code-requires
code-requires c = search answers

pub returns-in-Ok : goal.returns-in-Ok
returns-in-Ok c = search answers

pub returns-in-Err : goal.returns-in-Err
returns-in-Err c = search answers
