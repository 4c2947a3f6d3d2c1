-- Steps and drains on the bytes of a book: what they give is told by the book, and what they leave is the bytes and the disk of the next book.
use mathlib.Core.Path.{◌≡◌, refl, sym, ap, subst, ◌∙◌}
use mathlib.Core.List.{List}
use Prim.Native.Nat.{ℕ, zero, suc, ◌<◌}
use native.Mathlib.Omega.{arith}
use lib.ListN.{length}
use Rattle.model.specs.declared.Rule.{Rule}
use Rattle.model.specs.Answer.{answer}
use Rattle.model.specs.Needs.{ready}
use Rattle.model.proofs.ReadyLaws.{ready_earliest}
use Rattle.file_format.specs.Bytes.{disk_length}
use Rattle.cache_model.specs.Entries.{accepted, flag_at, flag_count, waiting_in, flagging}
use Rattle.cache_model.specs.State.{state_of}
use Rattle.cache_model.specs.Calls.{Held, left, step_of, waiting, steps_of, drained as drain_on, drain_of}
use Rattle.cache_statelaws.proofs.GeneralLaws.{count-split}
use Rattle.cache_statelaws.proofs.EntryLaws.{length-accepted}
use Rattle.cache_statelaws.proofs.LayoutLaws.{state-accepted, state-stored}
use Rattle.cache_soundlaws.proofs.HoldableLaws.{carried, stored_at, step_entries}
use Rattle.run_laws.specs.Book.{Book, step_entered, steps_entered, applied}
use Rattle.run_laws.proofs.BookLaws.{Lawful, lawful_words, lawful_stepped}
use Rattle.run_laws.proofs.DiskLaws.{applied-flagging, length-applied}

module _ (rules : List Rule) (disk : List ℕ) (size : length disk ≡ disk_length) where
  own-disk : (b : Book) → length (applied b disk) ≡ disk_length
  own-disk b = length-applied b disk ∙ size

  -- the store of the write that is ready, on top of the others, is that write flagged in its place
  stored-applied : (b : Book) (f : Lawful rules b) (k : ℕ) → ready rules (accepted b) (flag_at b) ≡ k
      → stored_at b k (applied b disk) ≡ applied (flagging k b) disk
  unfolding stored_at
  stored-applied b f zero e = unfold flagging in refl
  stored-applied b f (suc i) e =
      let w = ready_earliest rules (accepted b) (flag_at b) i e in
      sym (applied-flagging rules b disk i f (subst (λ (n : ℕ). i < n) (length-accepted b) w.accepted) w.waits)

  pub step-book : (b : Book) → Lawful rules b
      → step_of (state_of rules b) (applied b disk) ≡ left (answer (ready rules (accepted b) (flag_at b))) (state_of rules (step_entered rules b)) (applied (step_entered rules b) disk)
  unfolding step_entered
  step-book b f =
      let k = ready rules (accepted b) (flag_at b) in
      step_entries rules b f.fine (lawful_words rules b f) (applied b disk) (own-disk b) k refl
      ∙ ap (left (answer k) (state_of rules (flagging k b))) (stored-applied b f k refl)

  -- the bytes and the disk of a book
  abbrev held_of : Book → Held
  held_of b = record { state = state_of rules b; disk = applied b disk }

  pub steps_book : (n : ℕ) (b : Book) → Lawful rules b → steps_of n (held_of b) ≡ held_of (steps_entered rules n b)
  unfolding steps_of steps_entered
  steps_book zero b f = refl
  steps_book (suc n) b f = rw (step-book b f) (steps_book n (step_entered rules b) (lawful_stepped rules b f))

  -- how many wait
  waiting-book : (b : Book) → Lawful rules b → waiting (state_of rules b) ≡ waiting_in b
  unfolding waiting_in flag_count
  waiting-book b f =
      let e = count-split (flag_at b) (length b) in
      rw (state-accepted rules b f.fine.rules-most, state-stored rules b f.fine.rules-most) (omega arith)

  pub drain-book : (b : Book) → Lawful rules b
      → drain_of (state_of rules b) (applied b disk)
      ≡ left (answer (waiting_in b)) (state_of rules (steps_entered rules (waiting_in b) b)) (applied (steps_entered rules (waiting_in b) b) disk)
  unfolding drain_of drain_on
  drain-book b f =
      carried rules b f.fine (lawful_words rules b f) drain_on (applied b disk) (own-disk b)
      ∙ rw (waiting-book b f, steps_book (waiting_in b) b f)
