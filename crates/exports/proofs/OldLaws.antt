-- Old files keep their answers: each answer about a file is made of what is read of it.
use mathlib.Core.Path.{◌≡◌}
use mathlib.Core.Logic.{inl, inr, ⊎_elim}
use mathlib.Core.List.{List}
use Prim.Native.Nat.{ℕ}
use borrow.Author.Tests.{eq-eqb}
use lib.ListN.{length}
use Rattle.model.specs.Answer.{Outcome, answer}
use Rattle.model.specs.Test.{File}
use Rattle.file_format.specs.File.{read_of}
use Rattle.file_encoding.specs.Before.{old_read_of}
use Rattle.file_encoding.specs.Rewrite.{widened}
use Rattle.file_encoding.proofs.BeforeLaws.{old_files_read}
use Rattle.file_encoding.proofs.RewriteLaws.{rewritten_files}
use Rattle.file_calls.specs.File.{read_answer, cyclic_answer}
use Rattle.judge_cases.specs.Judge.{case_in}
use Rattle.judge_text.specs.Lines.{program_text}
use Rattle.find_call.specs.Finder.{find_of}
use Rattle.cache_model.specs.State.{state_size}
use Rattle.cache_model.specs.Calls.{open_of}
use Rattle.exports.specs.Theorem.{AnswersFor, OldFilesAnswered, RewrittenAnswered}

by_reading : (s : List ℕ) (reading : Outcome File) → read_of s ≡ reading → AnswersFor s reading
unfolding case_in program_text find_of read_answer cyclic_answer open_of
by_reading s reading e =
    record {
      judged = λ k. rw e;
      printed = rw e;
      found = λ buffer. rw e;
      read = rw e;
      cyclic = rw e;
      opened = λ state disk l. rw (eq-eqb (length state) state_size l, e);
    }

pub old_files_answered : OldFilesAnswered
old_files_answered s = ⊎_elim (λ e. inl (by_reading s (old_read_of s) e)) inr (old_files_read s)

pub rewritten_answered : RewrittenAnswered
rewritten_answered which s f e = (by_reading s (answer f) e, by_reading (widened which s) (answer f) (rewritten_files which s f e))
