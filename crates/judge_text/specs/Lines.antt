-- What the judging program prints for a file.
use Rattle.std.specs.Prelude.{ℕ, zero, suc, ◌+◌, ◌*◌, cond, List, [], ◌∷◌, ◌++◌, eqb, length}
use Rattle.model.specs.declared.Rule.{Rule}
use Rattle.model.specs.Answer.{Outcome, answer, refused}
use Rattle.model.specs.Cyclic.{cyclic}
use Rattle.model.specs.Test.{File, valid_count, bad_count}
use Rattle.file_format.specs.declared.Extent.{Extent}
use Rattle.file_format.specs.File.{read_of}
use Rattle.file_format.specs.Scan.{test_at}
use Rattle.file_format.specs.Held.{test_of, extent_of}
use Rattle.judge_text.specs.Decimal.{decimal}

-- ---- texts, in ASCII

abbrev pub blank : ℕ
blank = 32

abbrev pub line_feed : ℕ
line_feed = 10

abbrev pub refused_text : List ℕ
refused_text = 114 ∷ 101 ∷ 102 ∷ 117 ∷ 115 ∷ 101 ∷ 100 ∷ []

abbrev pub holds_text : List ℕ
holds_text = 104 ∷ 111 ∷ 108 ∷ 100 ∷ 115 ∷ []

abbrev pub fails_text : List ℕ
fails_text = 102 ∷ 97 ∷ 105 ∷ 108 ∷ 115 ∷ []

-- ---- lines: one blank between items, a line feed at the end

-- `refused`, number, place
unfoldable pub refused_line : ℕ → ℕ → List ℕ
refused_line number place = refused_text ++ (blank ∷ (decimal number ++ (blank ∷ (decimal place ++ (line_feed ∷ [])))))

-- number, valid, bad, holds or fails
unfoldable pub test_line : ℕ → ℕ → ℕ → List ℕ
test_line k valid bad =
    decimal k ++ (blank ∷ (decimal valid ++ (blank ∷ (decimal bad ++ (blank ∷ (cond (eqb bad 0) holds_text fails_text ++ (line_feed ∷ [])))))))

-- lines 0 to n - 1, one behind the other
unfoldable pub lines : (ℕ → List ℕ) → ℕ → List ℕ
lines f zero = []
lines f (suc n) = lines f n ++ f n

-- a line for each test; a file refused by reading or 8 gives one line only
unfoldable pub text_of : Outcome File → List ℕ
text_of (refused number place) = refused_line number place
text_of (answer f) =
    cond (cyclic f.rules) (refused_line 8 0)
    (lines (λ i. test_line (suc i) (valid_count f.rules (test_of f i)) (bad_count f.rules (test_of f i))) (length f.tests))

unfoldable pub program_text : List ℕ → List ℕ
program_text s = text_of (read_of s)

-- ---- the code's steps

-- the lines of the first n tests, by their places
unfoldable pub case_lines : List Rule → List ℕ → List Extent → ℕ → List ℕ
case_lines rules s tests n =
    lines (λ i. test_line (suc i) (valid_count rules (test_at s (extent_of tests i))) (bad_count rules (test_at s (extent_of tests i)))) n

-- ---- how long a text is at most

-- the digits of a test's number, of a count of schedules, of a refusal's number and of its place
abbrev pub test_digits : ℕ
test_digits = 2

abbrev pub count_digits : ℕ
count_digits = 7

abbrev pub refusal_digits : ℕ
refusal_digits = 2

abbrev pub place_digits : ℕ
place_digits = 5

-- `holds`, `fails`; a test's line, a refusal's line; a file's text
abbrev pub verdict_length : ℕ
verdict_length = 5

abbrev pub test_length : ℕ
test_length = test_digits + 1 + 2 * (count_digits + 1) + verdict_length + 1

abbrev pub refused_length : ℕ
refused_length = 8 + refusal_digits + 1 + place_digits + 1

abbrev pub text_length : ℕ
text_length = 400
