-- `find_call::put_rules` meets its contract. The invariant: the fields of the rules before stand at the front, one behind the other, the rest of the buffer is as it was.
use mathlib.Core.Path.{◌≡◌}
use Prim.Native.Nat.{◌*◌, ◌≤◌}
use lib.ListN.{length, take}
use Rattle.file_format.specs.Encode.{rule_fields}
use Rattle.file_writing.specs.Writing.{Wrote}
use Rattle.file_reader.specs.Limits.{longest_rule}
use Rattle.find_call.proofs.put_rules.Given as goal

abbrev pub invariant-loop-rule : goal.invariant-loop-rule
invariant-loop-rule l = (length l.buffer ≡ length l.initial.buffer) × (l.at ≤ longest_rule * l.rule-index) × Wrote l.initial.buffer 0 (rule_fields (take l.rule-index l.set)) l.buffer l.at
