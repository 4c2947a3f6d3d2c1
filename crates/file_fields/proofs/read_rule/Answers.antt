-- `file_fields::read_rule` meets its contract: the reader that the tag's names ask for.
use Rattle.file_fields.proofs.FieldLaws.{fields}
use Rattle.file_fields.proofs.read_rule.Goals as goal

pub read_wide_rule-requires : goal.read_wide_rule-requires
read_wide_rule-requires c = search fields

pub returns-then-is_wide : goal.returns-then-is_wide
returns-then-is_wide c = search fields

pub read_narrow_rule-requires : goal.read_narrow_rule-requires
read_narrow_rule-requires c = search fields

pub returns : goal.returns
returns c = search fields
