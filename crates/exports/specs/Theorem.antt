-- What holds of the answers of all thirteen exported routines: bit 63 tells a refusal from an answer. A judge's three numbers can be told from its
-- one. And old files keep their answers, as they stand and rewritten with names of two bytes.
use Rattle.std.specs.Prelude.{ℕ, ◌≤◌, ◌<◌, ◌≡◌, ◌⊎◌, Bool, List, [], length}
use Rattle.std.proofs.Math.Option.{Option}
use Rattle.model.specs.declared.Write.{Write}
use Rattle.model.specs.Answer.{Outcome, answer, refused, refusal}
use Rattle.model.specs.Test.{File}
use Rattle.file_format.specs.Bytes.{byte}
use Rattle.file_format.specs.File.{read_of}
use Rattle.file_encoding.specs.Before.{old_read_of}
use Rattle.file_encoding.specs.Rewrite.{widened}
use Rattle.file_encoding.specs.Theorem.{NewTag}
use Rattle.cache_model.specs.State.{state_size}
use Rattle.cache_model.specs.Calls.{open_with, open_of, hand_in_of, step_of, drain_of}
use Rattle.log_get.specs.Get.{get_of, value_code}
use Rattle.log_get.specs.Puts.{trace_of}
use Rattle.judge_cases.specs.Judge.{Case, case_of, case_in, judgement_of}
use Rattle.judge_answers.specs.Judged.{parts_of, judge_answer, verdict_answer}
use Rattle.file_calls.specs.File.{sizes, read_answer, locate_answer, cyclic_in, cyclic_answer}
use Rattle.find_call.specs.Finder.{find_in, find_of}
use Rattle.judge_text.specs.Lines.{text_of, program_text, text_length}
use Rattle.workbench.specs.Printed.{printed_of}

-- 2 to the power 63
abbrev pub bit63 : ℕ
bit63 = 9223372036854775808

-- the number of an answer is below bit 63, that of a refusal is not
unfoldable pub ToldApart : Outcome ℕ → Type 0
ToldApart (answer n) = n < bit63
ToldApart (refused number place) = bit63 ≤ refusal number place

-- of each exported routine: no answer reaches bit 63, and every refusal does
pub record NoneReachesBit63 : Type 0 where
  pub refusals : (number place : ℕ) → bit63 ≤ refusal number place
  pub opening : (file state : List ℕ) → ToldApart (open_of file state []).outcome
  pub hand_in : (w : Write) (state : List ℕ) → ToldApart (hand_in_of w state []).outcome
  pub step : (state disk : List ℕ) → ToldApart (step_of state disk).outcome
  pub drain : (state disk : List ℕ) → ToldApart (drain_of state disk).outcome
  pub get : (disk : List ℕ) (key : ℕ) (v : Option ℕ) → get_of disk key ≡ answer v → value_code v < bit63
  pub read : (file : List ℕ) → ToldApart (read_answer file)
  pub locate : (file : List ℕ) (k : ℕ) → ToldApart (locate_answer file k)
  pub cyclic : (file : List ℕ) → ToldApart (cyclic_answer file)
  pub judge : (file : List ℕ) (k : ℕ) (c : Case) → case_in file k ≡ answer c → judge_answer (answer c) < bit63
  pub verdict : (file : List ℕ) (k : ℕ) (c : Case) → case_in file k ≡ answer c → verdict_answer (answer c) < bit63
  pub lines : (file buffer : List ℕ) → text_length ≤ length buffer → (printed_of file buffer).answer < bit63
  pub find : (file buffer : List ℕ) → ToldApart (find_of file buffer).outcome
  pub trace : (initial main buffer : List ℕ) → ToldApart (trace_of initial main buffer).outcome

-- what the header's three functions take from a judge's answer, 21 bits each, are the case's numbers: none of them is cut, and none runs into the next (02, [8])
abbrev pub JudgeTakenApart : Type 0
JudgeTakenApart = (file : List ℕ) (k : ℕ) (c : Case) → case_in file k ≡ answer c → parts_of (judge_answer (answer c)) ≡ judgement_of c

-- ---- old files (02, [2])

-- what is answered of a file, by all routines that are lent one, is what follows from this reading, a file or a refusal; but for locate, which
-- answers places
pub record AnswersFor (s : List ℕ) (reading : Outcome File) : Type 0 where
  pub judged : (k : ℕ) → case_in s k ≡ case_of reading k
  pub printed : program_text s ≡ text_of reading
  pub found : (buffer : List ℕ) → find_of s buffer ≡ find_in reading buffer
  pub read : read_answer s ≡ sizes reading
  pub cyclic : cyclic_answer s ≡ cyclic_in reading
  pub opened : (state disk : List ℕ) → length state ≡ state_size → open_of s state disk ≡ open_with reading state disk

-- *old files keep their verdicts*: a file is answered for by what was read of it before [2], a refusal too, unless that refused a new tag as unknown.
-- (The answers are those of today, so that find asks for a buffer of 128 bytes, where it asked for 96.)
abbrev pub OldFilesAnswered : Type 0
OldFilesAnswered = (s : List ℕ) → AnswersFor s (old_read_of s) ⊎ ((at : ℕ) × (old_read_of s ≡ refused 2 at) × NewTag (byte s at))

-- a file and any rewriting of its 01s, 02s and 03s as 08s, 09s and 0As are answered for alike
abbrev pub RewrittenAnswered : Type 0
RewrittenAnswered = (which : ℕ → Bool) (s : List ℕ) (f : File) → read_of s ≡ answer f → AnswersFor s (answer f) × AnswersFor (widened which s) (answer f)
