-- The book of a run: the writes accepted so far, in the order they came, each flagged once it is stored.
use Rattle.std.specs.Prelude.{ℕ, zero, suc, ◌≡◌, Bool, cond, List, [], ◌∷◌, ◌++◌, length}
use Rattle.model.specs.declared.Write.{Write}
use Rattle.model.specs.declared.Rule.{Rule}
use Rattle.relation.specs.Bits.{mask_of}
use Rattle.model.specs.Needs.{ready}
use Rattle.cache_model.specs.Entries.{Entry, accepted, flag_at, waiting_in, appended, flagging}
use Rattle.cache_model.specs.State.{stored_on}

-- what a call asks for: an opening of its file, a hand-in of its write, a step, a drain, a get of its key. (State and disk are not in it)
pub data Kind : Type 0 where
  opening : List ℕ → Kind
  hand_in : Write → Kind
  step : Kind
  drain : Kind
  get : ℕ → Kind

-- *book*, the history of a run: a list of writes with flags
abbrev pub Book : Type 0
Book = List Entry

-- a step flags the earliest unflagged write whose needs are all flagged. If there is none, nothing changes
unfoldable pub step_entered : List Rule → Book → Book
step_entered rules b = flagging (ready rules (accepted b) (flag_at b)) b

-- n steps
unfoldable pub steps_entered : List Rule → ℕ → Book → Book
steps_entered rules zero b = b
steps_entered rules (suc n) b = steps_entered rules n (step_entered rules b)

-- the stored writes applied to a disk of bytes in the order they came
unfoldable pub applied : Book → List ℕ → List ℕ
applied [] disk = disk
applied (e ∷ b) disk = applied b (cond e.flag (stored_on disk e.write) disk)

-- the number of the schedule that the flags are
unfoldable pub schedule_of : Book → ℕ
schedule_of b = mask_of (flag_at b) (length b)

-- accepted writes *begin* a trace: they are, in order, its first so many writes, perhaps none
unfoldable pub Begins : List Write → List Write → Type 0
Begins ws trace = (rest : List Write) × (trace ≡ ws ++ rest)

-- the book after a call that was not refused. A get changes nothing. (An opening that is not refused begins another run)
unfoldable pub entered : List Rule → Kind → Book → Book
entered rules (opening file) b = b
entered rules (hand_in w) b = appended b w
entered rules step b = step_entered rules b
entered rules drain b = steps_entered rules (waiting_in b) b
entered rules (get key) b = b

-- the book is fed the opened rules, the call's kind and whether it was refused. A refused call changes nothing
unfoldable pub noted : List Rule → Kind → Bool → Book → Book
noted rules k refusal b = cond refusal b (entered rules k b)
