-- The answers of the routines that ask about a file as a whole.
use Rattle.std.specs.Prelude.{ℕ, ◌+◌, ◌*◌, ◌-◌, ◌≤◌, cond, ◌&&◌, List, length, leb}
use Rattle.file_format.specs.declared.Extent.{Extent}
use Rattle.model.specs.Limits.{most_initial, most_main, most_checks}
use Rattle.model.specs.Answer.{Outcome, answer, refused}
use Rattle.model.specs.Test.{File}
use Rattle.model.specs.Cyclic.{cyclic}
use Rattle.file_format.specs.File.{read_of}
use Rattle.file_format.specs.Scan.{Places, scan_of}
use Rattle.file_format.specs.Held.{extent_of}
use Rattle.file_reader.specs.Limits.{longest}

-- how many rules and tests a file holds
unfoldable pub sizes : Outcome File → Outcome ℕ
sizes (answer f) = answer (length f.rules + 256 * length f.tests)
sizes (refused number place) = refused number place

unfoldable pub read_answer : List ℕ → Outcome ℕ
read_answer s = sizes (read_of s)

-- an extent in one number: where it begins, and from bits 16, 24 and 32 on how many fields of each kind it has
abbrev pub packed_extent : Extent → ℕ
packed_extent e = e.at + 65536 * e.initial + 16777216 * e.main + 4294967296 * e.checks

-- where test k, counted from 1, stands; 9: no such test
unfoldable pub located : ℕ → Outcome Places → Outcome ℕ
located k (refused number place) = refused number place
located k (answer p) = cond (leb 1 k && leb k (length p.tests)) (answer (packed_extent (extent_of p.tests (k - 1)))) (refused 9 0)

unfoldable pub locate_answer : List ℕ → ℕ → Outcome ℕ
locate_answer s k = located k (scan_of s)

-- an extent of an accepted file: each part has room in the answer
pub record Packed (e : Extent) : Type 0 where
  pub at : e.at ≤ longest
  pub initial : e.initial ≤ most_initial
  pub main : e.main ≤ most_main
  pub checks : e.checks ≤ most_checks

-- whether a file's rules are cyclic: 1, or 0
unfoldable pub cyclic_in : Outcome File → Outcome ℕ
cyclic_in (answer f) = answer (cond (cyclic f.rules) 1 0)
cyclic_in (refused number place) = refused number place

unfoldable pub cyclic_answer : List ℕ → Outcome ℕ
cyclic_answer s = cyclic_in (read_of s)
