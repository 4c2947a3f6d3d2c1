-- `file_reader::read` meets its contract. The invariant, `Going`: from here on the scan goes as the definition does from the front.
use Prim.Native.Nat.{◌-◌}
use lib.ListN.{length}
use Rattle.file_reader.proofs.ReadLaws.{Going}
use Rattle.file_reader.proofs.read.Given as goal

abbrev pub invariant-loop-at : goal.invariant-loop-at
invariant-loop-at l = Going l.s l.at l.st l.tests

abbrev pub decreases-loop-at : goal.decreases-loop-at
decreases-loop-at l = length l.s - l.at
