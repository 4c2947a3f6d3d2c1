-- What is claimed of every sound state, reached in a run or not: open, hand-in, step and drain do what document 01 says, and leave a sound state.
-- A sound state is met: an opening leaves one, and hand-ins, steps and drains keep it.
use Rattle.std.specs.Prelude.{ℕ, suc, ◌+◌, ◌≤◌, ◌<◌, ◌≡◌, ◌≢◌, ◌↔◌, ◌⊎◌, true, false, not, List, [], ◌∷◌, ◌++◌, length}
use Rattle.model.specs.Limits.{most_held}
use Rattle.model.specs.declared.Write.{Write}
use Rattle.model.specs.Answer.{answer, refused}
use Rattle.model.specs.Cyclic.{Cyclic}
use Rattle.model.specs.Test.{File, count_below}
use Rattle.file_format.specs.Bytes.{disk_length}
use Rattle.file_format.specs.File.{read_of}
use Rattle.file_format.specs.Encode.{WriteFits}
use Rattle.model.specs.Needs.{NeedsRing, Earliest, Late}
use Rattle.cache_model.specs.State.{state_size, accepted_count, rules_in, writes_in, write_in, stored_in, opened, handed, marked, stored_on}
use Rattle.cache_model.specs.Sound.{Sound, sound}
use Rattle.cache_model.specs.Calls.{Left, left, holding, open_of, hand_in_of, step_of, steps_of, drain_of}

-- the computed test decides soundness
abbrev pub SoundDecided : Type 0
SoundDecided = (s : List ℕ) → sound s ≡ true ↔ Sound s

-- a sound state stays sound, whatever the disk and whether the call is refused or not
abbrev pub Keeps : Type 0
Keeps =
    (s d : List ℕ) → Sound s
    → Sound (step_of s d).state × Sound (drain_of s d).state × ((w : Write) → WriteFits w → Sound (hand_in_of w s d).state)

-- ---- open

-- an opening meets the refusals in their order, or leaves a sound state with the file's rules in their order and no writes
pub record Opening (file s d : List ℕ) : Type 0 where
  pub wrong_length : length s ≢ state_size → open_of file s d ≡ left (refused 14 0) s d
  pub unread : length s ≡ state_size → (number place : ℕ) → read_of file ≡ refused number place → open_of file s d ≡ left (refused number place) s d
  pub has-tests : length s ≡ state_size → (f : File) → read_of file ≡ answer f → 0 < length f.tests → open_of file s d ≡ left (refused 22 0) s d
  pub cyclic : length s ≡ state_size → (f : File) → read_of file ≡ answer f → length f.tests ≡ 0 → Cyclic f.rules → open_of file s d ≡ left (refused 8 0) s d
  pub taken : length s ≡ state_size → (f : File) → read_of file ≡ answer f → length f.tests ≡ 0 → (Cyclic f.rules → ⊥)
      → Sound (opened f.rules) × (rules_in (opened f.rules) ≡ f.rules) × (writes_in (opened f.rules) ≡ [])
      × (open_of file s d ≡ left (answer 0) (opened f.rules) d)

abbrev pub Opens : Type 0
Opens = (file s d : List ℕ) → Opening file s d

-- ---- hand-in

-- t is s with w accepted besides, waiting
pub record OneAppended (s : List ℕ) (w : Write) (t : List ℕ) : Type 0 where
  pub rules : rules_in t ≡ rules_in s
  pub writes : writes_in t ≡ writes_in s ++ (w ∷ [])
  pub waits : stored_in t (accepted_count s) ≡ false
  pub others : (i : ℕ) → i ≢ accepted_count s → stored_in t i ≡ stored_in s i

-- a hand-in meets the refusals in their order, or appends one waiting write and answers its place from 1
pub record HandIn (s d : List ℕ) (w : Write) : Type 0 where
  pub full : most_held ≤ accepted_count s → hand_in_of w s d ≡ left (refused 16 0) s d
  pub too-late : accepted_count s < most_held → Late (rules_in s) (writes_in s) (stored_in s) w → hand_in_of w s d ≡ left (refused 17 0) s d
  pub ring : accepted_count s < most_held → (Late (rules_in s) (writes_in s) (stored_in s) w → ⊥) → NeedsRing (rules_in s) (writes_in s ++ (w ∷ []))
      → hand_in_of w s d ≡ left (refused 18 0) s d
  pub taken : accepted_count s < most_held → (Late (rules_in s) (writes_in s) (stored_in s) w → ⊥) → (NeedsRing (rules_in s) (writes_in s ++ (w ∷ [])) → ⊥)
      → OneAppended s w (handed s w) × (hand_in_of w s d ≡ left (answer (accepted_count s + 1)) (handed s w) d)

abbrev pub HandsIn : Type 0
HandsIn = (s d : List ℕ) (w : Write) → Sound s → WriteFits w → HandIn s d w

-- ---- waiting writes

-- some accepted write waits
abbrev pub SomeWaits : List ℕ → Type 0
SomeWaits s = (i : ℕ) × (i < accepted_count s) × (stored_in s i ≡ false)

-- none waits
abbrev pub AllStored : List ℕ → Type 0
AllStored s = (i : ℕ) → i < accepted_count s → stored_in s i ≡ true

-- how many wait
abbrev pub waiting_count : List ℕ → ℕ
waiting_count s = count_below (λ i. not (stored_in s i)) (accepted_count s)

-- ---- step

-- t is s with write i stored besides
pub record OneStored (s : List ℕ) (i : ℕ) (t : List ℕ) : Type 0 where
  pub rules : rules_in t ≡ rules_in s
  pub writes : writes_in t ≡ writes_in s
  pub stored : stored_in t i ≡ true
  pub others : (j : ℕ) → j ≢ i → stored_in t j ≡ stored_in s j

-- where a write waits, a step stores the earliest whose needs are all stored and answers its place from 1; where none waits, it answers 0 and changes nothing
pub record Step (s d : List ℕ) : Type 0 where
  pub one : SomeWaits s
      → (i : ℕ) × Earliest (rules_in s) (writes_in s) (stored_in s) i × OneStored s i (marked s i)
      × (step_of s d ≡ left (answer (suc i)) (marked s i) (stored_on d (write_in s i)))
  pub none : AllStored s → step_of s d ≡ left (answer 0) s d

abbrev pub Steps : Type 0
Steps = (s d : List ℕ) → Sound s → length d ≡ disk_length → Step s d

-- ---- drain

-- a drain answers how many wait and leaves what that many steps leave; before each of these some write waits, after them none
pub record Drain (s d : List ℕ) : Type 0 where
  pub answers : (drain_of s d).outcome ≡ answer (waiting_count s)
  pub leaves : holding (drain_of s d).state (drain_of s d).disk ≡ steps_of (waiting_count s) (holding s d)
  pub before : (n : ℕ) → n < waiting_count s → SomeWaits (steps_of n (holding s d)).state
  pub after : AllStored (drain_of s d).state
  pub rules : rules_in (drain_of s d).state ≡ rules_in s
  pub writes : writes_in (drain_of s d).state ≡ writes_in s

abbrev pub Drains : Type 0
Drains = (s d : List ℕ) → Sound s → length d ≡ disk_length → Drain s d

-- ---- refusals of what is lent

-- 14 a buffer of another length, 15 a state that is not sound
pub record Turned (s d : List ℕ) : Type 0 where
  pub hand_in_length : (w : Write) → length s ≢ state_size → hand_in_of w s d ≡ left (refused 14 0) s d
  pub hand_in_unsound : (w : Write) → length s ≡ state_size → (Sound s → ⊥) → hand_in_of w s d ≡ left (refused 15 0) s d
  pub step-length : (length s ≢ state_size) ⊎ (length d ≢ disk_length) → step_of s d ≡ left (refused 14 0) s d
  pub step-unsound : length s ≡ state_size → length d ≡ disk_length → (Sound s → ⊥) → step_of s d ≡ left (refused 15 0) s d
  pub drain-length : (length s ≢ state_size) ⊎ (length d ≢ disk_length) → drain_of s d ≡ left (refused 14 0) s d
  pub drain-unsound : length s ≡ state_size → length d ≡ disk_length → (Sound s → ⊥) → drain_of s d ≡ left (refused 15 0) s d

abbrev pub TurnsDown : Type 0
TurnsDown = (s d : List ℕ) → Turned s d

-- where the outcome is a refusal, state and disk are those lent
abbrev pub Unchanged : List ℕ → List ℕ → Left → Type 0
Unchanged s d l = (number place : ℕ) → l.outcome ≡ refused number place → (l.state ≡ s) × (l.disk ≡ d)

abbrev pub Refuses : Type 0
Refuses =
    (s d : List ℕ)
    → ((file : List ℕ) → Unchanged s d (open_of file s d))
    × ((w : Write) → Unchanged s d (hand_in_of w s d))
    × Unchanged s d (step_of s d)
    × Unchanged s d (drain_of s d)
