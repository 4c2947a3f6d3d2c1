-- `file_reader::end_scan` meets its contract, by the cases of its definition.
use Rattle.file_reader.proofs.ReadLaws.{ends}
use Rattle.file_reader.proofs.end_scan.Goals as goal

pub returns-then-c : goal.returns-then-c
returns-then-c c = search ends

pub returns : goal.returns
returns c = search ends
