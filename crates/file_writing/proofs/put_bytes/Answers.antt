-- `file_writing::put_bytes` meets its contract: the part that it copies over is as long as the bytes.
use borrow.Author.Rules.{rules}
use Rattle.file_writing.proofs.WroteLaws.{bytes-wrote}
use Rattle.file_writing.proofs.put_bytes.Goals as goal

pub returns : goal.returns
returns c = search (rules, bytes-wrote)
