-- The judging program's text, rendered into a lent buffer.
use Rattle.std.specs.Prelude.{ℕ, cond, List, ltb, length}
use Rattle.std.proofs.lemmas.List.Edits.{sets}
use Rattle.model.specs.Answer.{refusal}
use Rattle.judge_text.specs.Lines.{program_text, text_length}

-- what a call leaves: its answer and the buffer
pub record Printed : Type 0 where
  pub answer : ℕ
  pub buffer : List ℕ

abbrev pub printed : ℕ → List ℕ → Printed
printed r b = record { answer = r; buffer = b }

-- the text at the front and its length; 12: a buffer with fewer bytes than any file's text has room in
unfoldable pub printed_of : List ℕ → List ℕ → Printed
printed_of s out =
    cond (ltb (length out) text_length) (printed (refusal 12 0) out) (printed (length (program_text s)) (sets out 0 (program_text s)))
