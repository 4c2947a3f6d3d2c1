-- Lists of calls, run on a state and a disk, with the book kept beside them.
use Rattle.std.specs.Prelude.{ℕ, ◌<◌, ◌≡◌, ◌⊎◌, Bool, true, false, cond, ◌&&◌, List, [], ◌∷◌, ◌++◌, length, replicate}
use Rattle.std.proofs.Math.Option.{Option}
use Rattle.model.specs.declared.Rule.{Rule}
use Rattle.model.specs.Answer.{Outcome, answer, refused}
use Rattle.model.specs.Cyclic.{Cyclic}
use Rattle.model.specs.Test.{File}
use Rattle.file_format.specs.Bytes.{disk_length}
use Rattle.file_format.specs.File.{read_of}
use Rattle.file_format.specs.Encode.{WriteFits}
use Rattle.log_get.specs.Get.{get_of, value_code}
use Rattle.cache_model.specs.Entries.{waiting_in}
use Rattle.cache_model.specs.State.{state_size}
use Rattle.cache_model.specs.Sound.{Sound}
use Rattle.cache_model.specs.Calls.{Left, left, Held, open_of, hand_in_of, step_of, drain_of}
use Rattle.run_laws.specs.Book.{Book, Kind, opening, hand_in, step, drain, get, noted}

-- what a call is lent: the run's own buffer as the last call left it, or another in its place
pub data Lent : Type 0 where
  own : Lent
  other : List ℕ → Lent

-- a call: its kind, and the state and the disk that it is lent
pub record Call : Type 0 where
  pub kind : Kind
  pub state : Lent
  pub disk : Lent

-- a call, written in a line
abbrev pub call : Kind → Lent → Lent → Call
call k s d = record { kind = k; state = s; disk = d }

-- a call on the run's own
abbrev pub on_own : Kind → Call
on_own k = call k own own

-- ---- what a kind of call takes

-- whether a state is taken
abbrev pub takes_state : Kind → Bool
takes_state (opening file) = true
takes_state (hand_in w) = true
takes_state step = true
takes_state drain = true
takes_state (get key) = false

-- whether a disk is taken
abbrev pub takes_disk : Kind → Bool
takes_disk (opening file) = false
takes_disk (hand_in w) = false
takes_disk step = true
takes_disk drain = true
takes_disk (get key) = true

-- whether the state has to be sound
abbrev pub asks_sound : Kind → Bool
asks_sound (opening file) = false
asks_sound (hand_in w) = true
asks_sound step = true
asks_sound drain = true
asks_sound (get key) = false

-- what is lent, if it is asked for; else the run's own stays
abbrev pub lent_if : Bool → Lent → Lent
lent_if true l = l
lent_if false l = own

-- what a call is lent for a state, and for a disk
abbrev pub state_lent : Call → Lent
state_lent c = lent_if (takes_state c.kind) c.state

abbrev pub disk_lent : Call → Lent
disk_lent c = lent_if (takes_disk c.kind) c.disk

-- ---- what a call does

-- the buffer that is lent
abbrev pub lent_to : Lent → List ℕ → List ℕ
lent_to own mine = mine
lent_to (other theirs) mine = theirs

-- the run's own buffer after a call that left `after` in the buffer it was lent
abbrev pub kept_by : Lent → List ℕ → List ℕ → List ℕ
kept_by own before after = after
kept_by (other theirs) before after = before

-- what a get gives: the value, or 65,536 for none
unfoldable pub valued : Outcome (Option ℕ) → Outcome ℕ
valued (answer v) = answer (value_code v)
valued (refused number place) = refused number place

-- what a call gives and leaves, of a state and a disk. An opening and a hand-in take no disk, a get takes no state: they pass on the one
-- beside them (`Diskless` in `Theorem.antt`). A get leaves its disk as it was
unfoldable pub called_by : Kind → List ℕ → List ℕ → Left
called_by (opening file) s d = open_of file s d
called_by (hand_in w) s d = hand_in_of w s d
called_by step s d = step_of s d
called_by drain s d = drain_of s d
called_by (get key) s d = left (valued (get_of d key)) s d

-- .., of the buffers that it is lent
unfoldable pub called : Call → Held → Left
called c h = called_by c.kind (lent_to (state_lent c) h.state) (lent_to (disk_lent c) h.disk)

-- the run's own after a call that left these of the buffers it was lent
unfoldable pub own_after : Call → Left → Held → Held
own_after c l h =
    record {
      state = kept_by (state_lent c) h.state l.state;
      disk = kept_by (disk_lent c) h.disk l.disk;
    }

-- whether a call is refused
unfoldable pub is_refused : Outcome ℕ → Bool
is_refused (answer n) = false
is_refused (refused number place) = true

-- ---- which calls a list has

-- a buffer of another length
abbrev pub Wrong : ℕ → Lent → Type 0
Wrong size own = ⊥
Wrong size (other x) = length x ≡ size → ⊥

-- an unsound state
abbrev pub Unsound : Lent → Type 0
Unsound own = ⊥
Unsound (other x) = Sound x → ⊥

-- whether it is the run's own
abbrev pub is_own : Lent → Bool
is_own own = true
is_own (other x) = false

-- a call is given the run's own
abbrev pub own_lent : Call → Bool
own_lent c = is_own (state_lent c) && is_own (disk_lent c)

abbrev pub OwnLent : Call → Type 0
OwnLent c = own_lent c ≡ true

-- a buffer of another length is lent
abbrev pub WrongLength : Call → Type 0
WrongLength c = Wrong state_size (state_lent c) ⊎ Wrong disk_length (disk_lent c)

-- an unsound state is lent, to a call that asks for a sound one
abbrev pub UnsoundLent : Call → Type 0
UnsoundLent c = Unsound (lent_if (asks_sound c.kind) c.state)

-- a buffer of another length or an unsound state is lent in place of either
abbrev pub Unusable : Call → Type 0
Unusable c = WrongLength c ⊎ UnsoundLent c

-- a file is read, and this is true of it
abbrev pub Reads : List ℕ → (File → Type 0) → Type 0
Reads file P = (f : File) × (read_of file ≡ answer f) × P f

-- a file opens no cache: it is refused by reading, it has tests (22), or its rules are cyclic (8)
abbrev pub OpensNone : List ℕ → Type 0
OpensNone file =
    ((number : ℕ) × (place : ℕ) × (read_of file ≡ refused number place))
    ⊎ (Reads file (λ f. 0 < length f.tests) ⊎ Reads file (λ f. Cyclic f.rules))

-- a call of a run's list, by its kind
unfoldable pub ListedAs : Kind → Call → Type 0
ListedAs (opening file) c = WrongLength c ⊎ OpensNone file
ListedAs (hand_in w) c = WriteFits w × (OwnLent c ⊎ Unusable c)
ListedAs step c = OwnLent c ⊎ Unusable c
ListedAs drain c = OwnLent c ⊎ Unusable c
ListedAs (get key) c = Unit {0}

-- a call of a run's list: hand-ins of writes of the right widths, steps and drains given the run's own, the same calls lent a buffer of another
-- length or an unsound state in place of either, openings that meet a condition of document 01's list, and gets of any disk
abbrev pub Listed : Call → Type 0
Listed c = ListedAs c.kind c

-- ---- the moments of a run

-- the run and its book at one moment
pub record Moment : Type 0 where
  pub held : Held
  pub book : Book

-- the moment after a call
unfoldable pub next : List Rule → Call → Moment → Moment
next rules c m =
    let l = called c m.held in
    record { held = own_after c l m.held; book = noted rules c.kind (is_refused l.outcome) m.book }

-- the moment after some calls
unfoldable pub after : List Rule → List Call → Moment → Moment
after rules [] m = m
after rules (c ∷ cs) m = after rules cs (next rules c m)

-- the calls that a call counts as, by its kind: a drain on the run's own is as many steps as writes wait; any other call is itself
unfoldable pub counted_as : List Rule → Kind → Call → Moment → List Call
counted_as rules (opening file) c m = c ∷ []
counted_as rules (hand_in w) c m = c ∷ []
counted_as rules step c m = c ∷ []
counted_as rules drain c m = cond (own_lent c) (replicate (waiting_in m.book) (on_own step)) (c ∷ [])
counted_as rules (get key) c m = c ∷ []

-- the calls that a call counts as
abbrev pub counted : List Rule → Call → Moment → List Call
counted rules c m = counted_as rules c.kind c m

-- the moments before and after each of some calls, each counted as one
unfoldable pub passed : List Rule → List Call → Moment → List Moment
passed rules [] m = m ∷ []
passed rules (c ∷ cs) m = m ∷ passed rules cs (next rules c m)

-- the moments of one call, at which the supply can be cut: before and after each of those that it counts as. (That the last of these is the
-- moment after the call itself is `Answers.each`)
unfoldable pub inner : List Rule → Call → Moment → List Moment
inner rules c m = passed rules (counted rules c m) m

-- every moment at which the supply can be cut
unfoldable pub moments : List Rule → List Call → Moment → List Moment
moments rules [] m = m ∷ []
moments rules (c ∷ cs) m = inner rules c m ++ moments rules cs (next rules c m)
