-- Open, hand-in, step and drain, on bytes.
use Rattle.std.specs.Prelude.{ℕ, zero, suc, ◌+◌, ◌-◌, cond, not, List, [], ◌∷◌, ◌++◌, eqb, leb, ltb, length}
use Rattle.model.specs.Limits.{most_held}
use Rattle.model.specs.declared.Write.{Write}
use Rattle.model.specs.Answer.{Outcome, answer, refused}
use Rattle.model.specs.Disk.{block}
use Rattle.model.specs.Cyclic.{cyclic}
use Rattle.model.specs.Schedule.{write_at}
use Rattle.model.specs.Test.{File}
use Rattle.file_format.specs.Bytes.{disk_length}
use Rattle.file_format.specs.File.{read_of}
use Rattle.model.specs.Needs.{late, needs_ring, ready}
use Rattle.cache_model.specs.State.{state_size, accepted_count, stored_count, rules_in, writes_in, stored_in, opened, handed, marked, stored_on}
use Rattle.cache_model.specs.Sound.{sound}

-- what a call leaves: its outcome, the state and the disk. An opening and a hand-in are lent no disk: theirs is as it was
pub record Left : Type 0 where
  pub outcome : Outcome ℕ
  pub state : List ℕ
  pub disk : List ℕ

abbrev pub left : Outcome ℕ → List ℕ → List ℕ → Left
left o s d = record { outcome = o; state = s; disk = d }

-- ---- open: 14 state not 1,024 bytes; reading; 22 file has tests; 8 cyclic rules. Answers 0

unfoldable pub open_with : Outcome File → List ℕ → List ℕ → Left
open_with (refused number place) state disk = left (refused number place) state disk
open_with (answer f) state disk =
    cond (ltb 0 (length f.tests)) (left (refused 22 0) state disk)
    (cond (cyclic f.rules) (left (refused 8 0) state disk)
    (left (answer 0) (opened f.rules) disk))

unfoldable pub open_of : List ℕ → List ℕ → List ℕ → Left
open_of file state disk =
    cond (eqb (length state) state_size) (open_with (read_of file) state disk) (left (refused 14 0) state disk)

-- ---- hand-in: 14; 15 state not sound; 16 64 writes accepted; 17 late; 18 it would close a ring of needs. Answers the write's place from 1

unfoldable pub hand_in_of : Write → List ℕ → List ℕ → Left
hand_in_of w state disk =
    cond (not (eqb (length state) state_size)) (left (refused 14 0) state disk)
    (cond (not (sound state)) (left (refused 15 0) state disk)
    (cond (leb most_held (accepted_count state)) (left (refused 16 0) state disk)
    (cond (late (rules_in state) (writes_in state) (stored_in state) w) (left (refused 17 0) state disk)
    (cond (needs_ring (rules_in state) (writes_in state ++ (w ∷ []))) (left (refused 18 0) state disk)
    (left (answer (accepted_count state + 1)) (handed state w) disk)))))

-- the write of hand-in's five values
abbrev pub given : ℕ → ℕ → ℕ → ℕ → ℕ → Write
given address name epoch first second = record { address = address; name = name; epoch = epoch; block = block first second }

-- ---- step: 14 state or disk not 1,024; 15. Stores the earliest waiting write whose needs are all stored and answers its place from 1, or 0

unfoldable pub storing : ℕ → List ℕ → List ℕ → Left
storing zero state disk = left (answer 0) state disk
storing (suc i) state disk = left (answer (suc i)) (marked state i) (stored_on disk (write_at (writes_in state) i))

unfoldable pub checked : (List ℕ → List ℕ → Left) → List ℕ → List ℕ → Left
checked call state disk =
    cond (not (eqb (length state) state_size)) (left (refused 14 0) state disk)
    (cond (not (eqb (length disk) disk_length)) (left (refused 14 0) state disk)
    (cond (not (sound state)) (left (refused 15 0) state disk)
    (call state disk)))

unfoldable pub stepped : List ℕ → List ℕ → Left
stepped state disk = storing (ready (rules_in state) (writes_in state) (stored_in state)) state disk

unfoldable pub step_of : List ℕ → List ℕ → Left
step_of state disk = checked stepped state disk

-- ---- drain: 14; 15. As many steps as there are waiting writes, and how many

abbrev pub waiting : List ℕ → ℕ
waiting state = accepted_count state - stored_count state

-- a state and a disk
pub record Held : Type 0 where
  pub state : List ℕ
  pub disk : List ℕ

abbrev pub holding : List ℕ → List ℕ → Held
holding s d = record { state = s; disk = d }

-- those after n steps
unfoldable pub steps_of : ℕ → Held → Held
steps_of zero h = h
steps_of (suc n) h =
    let once = step_of h.state h.disk in
    steps_of n (holding once.state once.disk)

unfoldable pub drained : List ℕ → List ℕ → Left
drained state disk =
    let all = steps_of (waiting state) (holding state disk) in
    left (answer (waiting state)) all.state all.disk

unfoldable pub drain_of : List ℕ → List ℕ → Left
drain_of state disk = checked drained state disk
