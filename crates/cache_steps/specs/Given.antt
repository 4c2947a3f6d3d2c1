-- What the cache's routines give back: the answer in one number, the lent bytes afterwards, and the refusals of open, hand-in, step and drain as
-- one number each.
use Rattle.std.specs.Prelude.{ℕ, Bool, ◌≡◌, cond, not, List, [], ◌∷◌, ◌++◌, eqb, leb, length, Result, Ok, Err}
use Rattle.model.specs.Limits.{most_held}
use Rattle.model.specs.declared.Rule.{Rule}
use Rattle.model.specs.declared.Write.{Write}
use Rattle.model.specs.declared.Cause.{Cause}
use Rattle.model.specs.declared.Refusal.{Refusal}
use Rattle.model.specs.Answer.{refusal, coded, number_of, outcome}
use Rattle.model.specs.Cyclic.{cyclic}
use Rattle.file_format.specs.Bytes.{disk_length}
use Rattle.model.specs.Needs.{needs_ring, late}
use Rattle.cache_model.specs.State.{state_size, accepted_count, rules_in, writes_in, stored_in, opened}
use Rattle.cache_model.specs.Sound.{sound}
use Rattle.cache_model.specs.Calls.{Left, open_of}

-- of a routine that is lent a state and a disk
pub record Given : Type 0 where
  pub answer : ℕ
  pub state : List ℕ
  pub disk : List ℕ

abbrev pub call_leaves : ℕ → List ℕ → List ℕ → Given
call_leaves r s d = record { answer = r; state = s; disk = d }

unfoldable pub coded_left : Left → Given
coded_left l = call_leaves (coded l.outcome) l.state l.disk

-- of a routine that is lent a state only
pub record Kept : Type 0 where
  pub answer : ℕ
  pub state : List ℕ

abbrev pub call_leaves_state : ℕ → List ℕ → Kept
call_leaves_state r s = record { answer = r; state = s }

unfoldable pub coded_kept : Left → Kept
coded_kept l = call_leaves_state (coded l.outcome) l.state

-- what a call answers that is refused, or else answers 0
abbrev pub answer_by : Result (Unit {0}) Cause → ℕ
answer_by (Ok none) = 0
answer_by (Err cause) = refusal (number_of cause) 0

-- an opening with rules that were read
unfoldable pub opened_by : List Rule → List ℕ → Kept
opened_by rules s = cond (cyclic rules) (call_leaves_state (refusal 8 0) s) (call_leaves_state 0 (opened rules))

-- the opening of a state with a file, by its result and the state that it leaves
abbrev pub Opens : List ℕ → List ℕ → Result ℕ Refusal → List ℕ → Type 0
Opens file s r s' = call_leaves_state (coded (outcome r)) s' ≡ coded_kept (open_of file s [])

-- the number of the refusal that a step or a drain meets, by what it finds of state and disk; 0: none
unfoldable pub fault_by : Bool → Bool → Bool → ℕ
fault_by long wide good = cond (not long) 14 (cond (not wide) 14 (cond (not good) 15 0))

unfoldable pub call_fault : List ℕ → List ℕ → ℕ
call_fault s d = fault_by (eqb (length s) state_size) (eqb (length d) disk_length) (sound s)

-- the number of the refusal that a hand-in meets; 0: none
unfoldable pub hand_fault_by : Bool → Bool → Bool → Bool → Bool → ℕ
hand_fault_by long good full late ring = cond (not long) 14 (cond (not good) 15 (cond full 16 (cond late 17 (cond ring 18 0))))

unfoldable pub hand_fault : Write → List ℕ → ℕ
hand_fault w s =
    hand_fault_by (eqb (length s) state_size) (sound s) (leb most_held (accepted_count s)) (late (rules_in s) (writes_in s) (stored_in s) w)
    (needs_ring (rules_in s) (writes_in s ++ (w ∷ [])))
