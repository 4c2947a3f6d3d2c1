-- `log_puts::put_program` meets its contract. The invariant: the fields of the first i puts are written, each in as many bytes.
use Prim.Native.Nat.{◌+◌, ◌*◌}
use mathlib.Core.Path.{◌≡◌}
use lib.ListN.{length}
use Rattle.file_format.specs.File.{put_length}
use Rattle.file_writing.specs.Writing.{Wrote}
use Rattle.log_puts.specs.Fields.{program_fields}
use Rattle.log_puts.proofs.put_program.Given as goal

abbrev pub invariant-loop-i : goal.invariant-loop-i
invariant-loop-i l = (length l.out ≡ length l.initial.out) × (l.at ≡ l.from + put_length * l.i) × Wrote l.initial.out l.from (program_fields l.tag l.tail l.epoch l.program l.i) l.out l.at
