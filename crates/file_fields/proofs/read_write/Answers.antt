-- `file_fields::read_write` meets its contract: the reader that the tag's names ask for.
use Rattle.file_fields.proofs.FieldLaws.{fields}
use Rattle.file_fields.proofs.read_write.Goals as goal

pub read_wide_write-requires : goal.read_wide_write-requires
read_wide_write-requires c = search fields

pub returns-then-is_wide : goal.returns-then-is_wide
returns-then-is_wide c = search fields

pub read_narrow_write-requires : goal.read_narrow_write-requires
read_narrow_write-requires c = search fields

pub returns : goal.returns
returns c = search fields
