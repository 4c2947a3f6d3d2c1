-- Where the rules and the tests of a file stand: what the code keeps instead of the lists.
use Rattle.std.specs.Prelude.{ℕ, zero, suc, ◌+◌, Bool, true, false, cond, List, [], ◌∷◌, ◌++◌, length, eqb, ltb}
use Rattle.relation.specs.Lists.{tabulate}
use Rattle.model.specs.declared.Write.{Write}
use Rattle.model.specs.declared.Rule.{Rule}
use Rattle.model.specs.declared.Check.{Check}
use Rattle.model.specs.Answer.{Outcome, answer, refused}
use Rattle.model.specs.Test.{Test, test}
use Rattle.file_format.specs.declared.Counts.{Counts}
use Rattle.file_format.specs.declared.Extent.{Extent}
use Rattle.file_format.specs.declared.ScanState.{ScanState}
use Rattle.file_format.specs.Bytes.{byte}
use Rattle.file_format.specs.File.{kind_of, fault_of, field_end, body_at, rule_of, write_of, check_of}

-- ---- fields by their places

unfoldable pub rule_field : List ℕ → ℕ → Rule
rule_field s at = rule_of (byte s at) (body_at s at)

unfoldable pub write_field : List ℕ → ℕ → Write
write_field s at = write_of (byte s at) (body_at s at)

unfoldable pub check_field : List ℕ → ℕ → Check
check_field s at = check_of (byte s at) (body_at s at)

-- where field i of those from a place on stands: it begins where the one before it ends
unfoldable pub field_place : List ℕ → ℕ → ℕ → ℕ
field_place s at zero = at
field_place s at (suc i) = field_end s (field_place s at i)

-- what the n fields from a place on hold, each read at its place
unfoldable pub fields_at : {A : Type 0} → (List ℕ → ℕ → A) → List ℕ → ℕ → ℕ → List A
fields_at field s at n = tabulate (λ i. field s (field_place s at i)) n

-- the first n fields of a file as rules
abbrev pub rules_at : List ℕ → ℕ → List Rule
rules_at s n = fields_at rule_field s 0 n

-- n writes, n checks from a place on
abbrev pub writes_at : List ℕ → ℕ → ℕ → List Write
writes_at s at n = fields_at write_field s at n

abbrev pub checks_at : List ℕ → ℕ → ℕ → List Check
checks_at s at n = fields_at check_field s at n

-- where the main writes and the checks of a test begin
abbrev pub main_place : List ℕ → Extent → ℕ
main_place s e = field_place s e.at e.initial

abbrev pub checks_place : List ℕ → Extent → ℕ
checks_place s e = field_place s (main_place s e) e.main

-- the test that stands at an extent
unfoldable pub test_at : List ℕ → Extent → Test
test_at s e = test (writes_at s e.at e.initial) (writes_at s (main_place s e) e.main) (checks_at s (checks_place s e) e.checks)

-- ---- the scan, step by step

abbrev pub extent : ℕ → ℕ → ℕ → ℕ → Extent
extent at initial main checks = record { at = at; initial = initial; main = main; checks = checks }

abbrev pub counts : ℕ → ℕ → Bool → ℕ → ℕ → ℕ → Counts
counts rules tests begun initial main checks =
    record { rules = rules; tests = tests; begun = begun; initial = initial; main = main; checks = checks }

-- the counts after one more field of a kind
unfoldable pub counted : ℕ → Counts → Counts
counted kind c =
    cond (eqb kind 3) (counts (c.rules + 1) c.tests c.begun c.initial c.main c.checks)
    (cond (eqb kind 1) (counts c.rules c.tests true (c.initial + 1) c.main c.checks)
    (cond (eqb kind 2) (counts c.rules c.tests true c.initial (c.main + 1) c.checks)
    (cond (eqb kind 7) (counts c.rules (c.tests + 1) false 0 0 0)
    (counts c.rules c.tests true c.initial c.main (c.checks + 1)))))

-- where the test in hand begins: behind the last rule or the last end of test
unfoldable pub test_from : ℕ → ℕ → ℕ → ℕ
test_from kind from next = cond (eqb kind 3) next (cond (eqb kind 7) next from)

-- where the test in hand stands
abbrev pub in_hand : ScanState → Extent
in_hand st = extent st.from st.counts.initial st.counts.main st.counts.checks

-- where the finished tests stand, once the end of one more is read
unfoldable pub found : ℕ → ScanState → List Extent → List Extent
found kind st tests = cond (eqb kind 7) (tests ++ (in_hand st ∷ [])) tests

unfoldable pub advanced : ℕ → ℕ → ScanState → ScanState
advanced kind next st = record { counts = counted kind st.counts; from = test_from kind st.from next }

-- what a scan gives: how many rules a file has, and where each of its tests stands
pub record Places : Type 0 where
  pub rules : ℕ
  pub tests : List Extent

abbrev pub places : ℕ → List Extent → Places
places rules tests = record { rules = rules; tests = tests }

unfoldable pub ended : ℕ → ScanState → List Extent → Outcome Places
ended size st tests = cond st.counts.begun (refused 7 size) (answer (places st.counts.rules tests))

unfoldable pub scan_from : ℕ → List ℕ → ℕ → ScanState → List Extent → Outcome Places
scan_from zero s at st tests = refused 0 0
scan_from (suc fuel) s at st tests =
    let fault = fault_of s at st.counts in
    let kind = kind_of (byte s at) in
    let rest = scan_from fuel s (field_end s at) (advanced kind (field_end s at) st) (found kind st tests) in
    cond (ltb at (length s)) (cond (eqb fault 0) rest (refused fault at)) (ended (length s) st tests)

unfoldable pub started : ScanState
started = record { counts = counts 0 0 false 0 0 0; from = 0 }

-- where all that a file holds stands, or the refusal
unfoldable pub scan_of : List ℕ → Outcome Places
scan_of s = scan_from (suc (length s)) s 0 started []
