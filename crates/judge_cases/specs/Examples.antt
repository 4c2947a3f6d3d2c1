-- Two files for the theorem of judging, as bytes: K3's of the bench sheet, and one whose rules are cyclic. Two tests for the smallest failing schedule.
use Rattle.std.specs.Prelude.{ℕ, ◌<◌, ◌≡◌, List, [], ◌∷◌, Some}
use Rattle.model.specs.declared.Check.TheVariants.{Range, Pair}
use Rattle.model.specs.Answer.{answer, refused}
use Rattle.model.specs.Cyclic.{Cyclic}
use Rattle.model.specs.Test.{Test, test, File, file, TestHolds, Bad}
use Rattle.rule_cyclelaws.specs.Examples.{rule}
use Rattle.file_format.specs.File.{read_of}
use Rattle.judge_rows.specs.Examples.{write}
use Rattle.judge_cases.specs.Judge.{Case, case_in, judgement_of, verdict_of}
use Rattle.judge_cases.specs.Theorem.{case_of_test}

-- the rule (2,=,1); of a log whose head is 1 the put (0,42), then the puts (1,81) and (2,37); a range check at 0
unfoldable pub K3-bytes : List ℕ
K3-bytes =
    3 ∷ 0 ∷ 3 ∷ 2 ∷ 0 ∷ 1
    ∷ 1 ∷ 0 ∷ 10 ∷ 1 ∷ 1 ∷ 0 ∷ 0 ∷ 0 ∷ 0 ∷ 0 ∷ 0 ∷ 0 ∷ 42
    ∷ 1 ∷ 0 ∷ 10 ∷ 0 ∷ 2 ∷ 0 ∷ 0 ∷ 0 ∷ 0 ∷ 0 ∷ 1 ∷ 0 ∷ 2
    ∷ 2 ∷ 0 ∷ 10 ∷ 2 ∷ 1 ∷ 0 ∷ 0 ∷ 0 ∷ 1 ∷ 0 ∷ 1 ∷ 0 ∷ 81
    ∷ 2 ∷ 0 ∷ 10 ∷ 0 ∷ 2 ∷ 0 ∷ 0 ∷ 0 ∷ 1 ∷ 0 ∷ 1 ∷ 0 ∷ 3
    ∷ 2 ∷ 0 ∷ 10 ∷ 3 ∷ 1 ∷ 0 ∷ 0 ∷ 0 ∷ 2 ∷ 0 ∷ 2 ∷ 0 ∷ 37
    ∷ 2 ∷ 0 ∷ 10 ∷ 0 ∷ 2 ∷ 0 ∷ 0 ∷ 0 ∷ 2 ∷ 0 ∷ 1 ∷ 0 ∷ 4
    ∷ 4 ∷ 0 ∷ 1 ∷ 0
    ∷ 7 ∷ 0 ∷ 0 ∷ []

-- what these bytes hold
unfoldable pub K3-test : Test
K3-test =
    test
    (write 1 1 0 0 42 ∷ write 0 2 0 1 2 ∷ [])
    (write 2 1 1 1 81 ∷ write 0 2 1 1 3 ∷ write 3 1 2 2 37 ∷ write 0 2 2 1 4 ∷ [])
    (Range 0 ∷ [])

unfoldable pub K3-file : File
K3-file = file (rule 2 0 1 ∷ []) (K3-test ∷ [])

-- the rule (1,=,1) and a test of nothing
unfoldable pub ring-bytes : List ℕ
ring-bytes = 3 ∷ 0 ∷ 3 ∷ 1 ∷ 0 ∷ 1 ∷ 7 ∷ 0 ∷ 0 ∷ []

pub record JudgedFiles : Type 0 where
  -- K3's file is read, and its rules are not cyclic
  pub K3-read : read_of K3-bytes ≡ answer K3-file
  pub K3-acyclic : Cyclic K3-file.rules → ⊥
  -- its test 1 is judged: 9 valid, 1 bad, schedule 12
  pub K3-given : case_in K3-bytes 1 ≡ answer (case_of_test K3-file 1)
  pub K3-judged : judgement_of (case_of_test K3-file 1) ≡ record { valid = 9; bad = 1; shown = 12 }
  -- so it fails, and does not hold
  pub K3-fails : verdict_of (case_of_test K3-file 1) ≡ Some 12
  pub K3-not-held : TestHolds K3-file.rules (case_of_test K3-file 1).test → ⊥
  -- there is no test 0 and none above 1
  pub K3-zero : case_in K3-bytes 0 ≡ refused 9 0
  pub K3-above : (k : ℕ) → 1 < k → case_in K3-bytes k ≡ refused 9 0
  -- cyclic rules are 8 whether there is such a test or not
  pub ring-refused : (k : ℕ) → case_in ring-bytes k ≡ refused 8 0

-- ---- the smallest failing schedule

-- three writes and no rules: if the first is stored the second is not, and the third never is. Bad are {1,2}, by the smallest number, 3; and all with write 3
unfoldable pub four_not_three : Case
four_not_three =
    record {
      rules = [];
      test =
          test []
          (write 1 1 0 0 1 ∷ write 2 1 1 0 2 ∷ write 3 1 2 0 3 ∷ [])
          (Pair 1 1 2 0 ∷ Pair 3 3 3 0 ∷ []);
    }

-- one write, and a check that fails unless it is stored
unfoldable pub nothing_stored : Case
nothing_stored = record { rules = []; test = test [] (write 0 1 0 0 7 ∷ []) (Pair 0 0 0 7 ∷ []) }

pub record SmallestShown : Type 0 where
  -- 3 is bad, and a smaller number, but 4 has fewer flags
  pub three_bad : Bad [] four_not_three.test 3
  pub four_judged : judgement_of four_not_three ≡ record { valid = 8; bad = 5; shown = 4 }
  pub four_fails : verdict_of four_not_three ≡ Some 4
  -- the schedule without flags is the bad one: shown is 0, with a count above 0
  pub none-judged : judgement_of nothing_stored ≡ record { valid = 2; bad = 1; shown = 0 }
  pub none-fails : verdict_of nothing_stored ≡ Some 0
