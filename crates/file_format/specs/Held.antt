-- What a scan's answer says of what a file holds.
use Rattle.std.specs.Prelude.{ℕ, ◌≤◌, ◌<◌, Bool, true, ◌≡◌, List, [], map, length, get_or, take, Result, Ok, Err}
use Rattle.model.specs.Limits.{most_rules, most_tests, most_initial, most_main, most_checks}
use Rattle.model.specs.Test.{Test, test, File}
use Rattle.model.specs.declared.Refusal.{Refusal}
use Rattle.model.specs.Answer.{Outcome, answer, refused, number_of}
use Rattle.file_format.specs.declared.Extent.{Extent}
use Rattle.file_format.specs.declared.Contents.{Contents}
use Rattle.file_format.specs.Bytes.{byte}
use Rattle.file_format.specs.File.{is_rule, is_write, is_check, field_end}
use Rattle.file_format.specs.Scan.{rules_at, field_place, main_place, checks_place, test_at, extent, Places, places}

unfoldable pub no_test : Test
no_test = test [] [] []

-- test i of a file, counted from 0
abbrev pub test_of : File → ℕ → Test
test_of f i = get_or f.tests i no_test

-- the n fields from a place on lie inside the file, and their tags pass a test
abbrev pub Fields : (ℕ → Bool) → List ℕ → ℕ → ℕ → Type 0
Fields is s at n = (i : ℕ) → i < n → (is (byte s (field_place s at i)) ≡ true) × (field_end s (field_place s at i) ≤ length s)

-- the fields of an extent lie inside the file, are what they should be, and are within a test's limits
pub record Inside (s : List ℕ) (e : Extent) : Type 0 where
  pub at : e.at ≤ length s
  pub initial : Fields is_write s e.at e.initial
  pub main : Fields is_write s (main_place s e) e.main
  pub checks : Fields is_check s (checks_place s e) e.checks
  pub initial-most : e.initial ≤ most_initial
  pub main-most : e.main ≤ most_main
  pub checks-most : e.checks ≤ most_checks

abbrev pub no_extent : Extent
no_extent = extent 0 0 0 0

-- where test i of those found stands, counted from 0
abbrev pub extent_of : List Extent → ℕ → Extent
extent_of tests i = get_or tests i no_extent

-- a refusal is the reading's; places are those of the rules and tests that are read
unfoldable pub Tells : List ℕ → Outcome File → Outcome Places → Type 0
Tells s reading (refused number place) = reading ≡ refused number place
Tells s reading (answer p) =
    (f : File)
    × (reading ≡ answer f)
    × (f.rules ≡ rules_at s p.rules)
    × (f.tests ≡ map (test_at s) p.tests)
    × Fields is_rule s 0 p.rules
    × ((i : ℕ) → i < length p.tests → Inside s (extent_of p.tests i))

-- the first n extents of an array lie inside the file
abbrev pub AllInside : List ℕ → List Extent → ℕ → Type 0
AllInside s extents n = (i : ℕ) → i < n → Inside s (extent_of extents i)

-- the first n extents of an array are where some tests stand
pub record Placed (s : List ℕ) (tests : List Test) (extents : List Extent) (n : ℕ) : Type 0 where
  pub count : length tests ≡ n
  pub most : n ≤ most_tests
  pub inside : AllInside s extents n
  pub each : (i : ℕ) → i < n → get_or tests i no_test ≡ test_at s (extent_of extents i)

-- ---- what the code gives

-- how many rules there are and where the tests stand, as the first ones of an array
abbrev pub Finds : Outcome Places → Contents → Type 0
Finds found c =
    (found ≡ answer (places c.rules (take c.count c.tests))) × (c.rules ≤ most_rules) × (c.count ≤ most_tests) × (length c.tests ≡ most_tests)

-- that, or the refusal
unfoldable pub Scans : Outcome Places → Result Contents Refusal → Type 0
Scans found (Ok contents) = Finds found contents
Scans found (Err why) = found ≡ refused (number_of why.cause) why.place
