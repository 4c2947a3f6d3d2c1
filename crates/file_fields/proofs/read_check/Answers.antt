-- `file_fields::read_check` meets its contract, by the cases of its definition.
use Rattle.file_fields.proofs.FieldLaws.{fields}
use Rattle.file_fields.proofs.read_check.Goals as goal

pub bounds-body-0 : goal.bounds-body-0
bounds-body-0 c = search fields

pub read_pair-requires : goal.read_pair-requires
read_pair-requires c = search fields

pub bounds-body-0-in_default : goal.bounds-body-0-in_default
bounds-body-0-in_default c = search fields

pub returns-in-4 : goal.returns-in-4
returns-in-4 c = search fields

pub returns-in-5 : goal.returns-in-5
returns-in-5 c = search fields

pub returns-in_default : goal.returns-in_default
returns-in_default c = search fields
