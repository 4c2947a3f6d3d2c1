-- The theorems of the judging program's text: the first bytes of an input are enough, and what the text is by the meanings of document 01.
use Rattle.std.specs.Prelude.{ℕ, suc, ◌+◌, ◌≤◌, ◌≡◌, ◌⊎◌, List, length, take}
use Rattle.model.specs.Answer.{answer, refused}
use Rattle.model.specs.Cyclic.{Cyclic}
use Rattle.model.specs.Test.{File, valid_count, bad_count}
use Rattle.file_format.specs.File.{read_of}
use Rattle.file_format.specs.Held.{test_of}
use Rattle.file_reader.specs.Limits.{longest, longest_field}
use Rattle.judge_text.specs.Lines.{refused_line, test_line, lines, program_text}

-- so many bytes of an input are enough: the longest file, and one field more
abbrev pub enough : ℕ
enough = longest + longest_field

-- the first n bytes of a buffer are what was read of an input: all of it, or as much as the buffer has room for
pub record Read (input buffer : List ℕ) (n : ℕ) : Type 0 where
  pub same : take n buffer ≡ take n input
  pub some : n ≤ length input
  pub all : (n ≡ length input) ⊎ (n ≡ length buffer)

-- a buffer with room for so many bytes is large enough: the text of what was read is that of the whole input, however long it is
abbrev pub PrefixText : Type 0
PrefixText = (input buffer : List ℕ) (n : ℕ) → enough ≤ length buffer → Read input buffer n → program_text (take n buffer) ≡ program_text input

-- the text by labels and not by the computed test: one line for a file that is refused by reading or whose rules are cyclic, else a line for each
-- test with its counts (`judge_cases/specs/Theorem.antt` says what these are, and when a test holds)
pub record TextSays (s : List ℕ) : Type 0 where
  pub unread : (number place : ℕ) → read_of s ≡ refused number place → program_text s ≡ refused_line number place
  pub ring : (f : File) → read_of s ≡ answer f → Cyclic f.rules → program_text s ≡ refused_line 8 0
  pub tests : (f : File) → read_of s ≡ answer f → (Cyclic f.rules → ⊥)
      → program_text s ≡ lines (λ i. test_line (suc i) (valid_count f.rules (test_of f i)) (bad_count f.rules (test_of f i))) (length f.tests)

abbrev pub TextAsMeant : Type 0
TextAsMeant = (s : List ℕ) → TextSays s
