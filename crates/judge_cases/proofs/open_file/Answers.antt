-- `judge_cases::open_file` meets its contract: reading's refusal, or what the rules say.
use Rattle.judge_cases.proofs.JudgeLaws.{opens, rules-few, rules_fields}
use Rattle.judge_cases.proofs.open_file.Goals as goal

pub returns-in_err-rules : goal.returns-in_err-rules
returns-in_err-rules c = search opens

pub file_rules-rules-requires : goal.file_rules-rules-requires
file_rules-rules-requires c = (rules-few _ _ c.read.ensures _ c.in_ok-rules.was, rules_fields _ _ c.read.ensures _ c.in_ok-rules.was)

pub is_cyclic-requires : goal.is_cyclic-requires
is_cyclic-requires c = search opens

pub returns-then-is_cyclic : goal.returns-then-is_cyclic
returns-then-is_cyclic c = search opens

pub returns : goal.returns
returns c = search opens
