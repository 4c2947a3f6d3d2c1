-- What a call gives: document 01's conditions in their order for each kind of call, then the answer.
use Rattle.std.specs.Prelude.{ℕ, zero, suc, ◌≤◌, ◌<◌, ◌≡◌, ◌⊎◌, true, List, [], ◌∷◌, ◌++◌, length}
use Rattle.std.proofs.Math.Option.{Option}
use Rattle.model.specs.Limits.{most_held}
use Rattle.model.specs.declared.Rule.{Rule}
use Rattle.model.specs.Answer.{Outcome, answer, refused}
use Rattle.model.specs.Cyclic.{Cyclic}
use Rattle.file_format.specs.File.{read_of}
use Rattle.log_get.specs.Get.{LogGets, LogDamaged, value_code}
use Rattle.model.specs.Needs.{Earliest, NeedsRing, Late}
use Rattle.cache_model.specs.Entries.{accepted, flag_at, waiting_in}
use Rattle.run_laws.specs.Book.{Book, Kind, opening, hand_in, step, drain, get, applied}
use Rattle.run_laws.specs.Run.{Call, lent_to, disk_lent, WrongLength, UnsoundLent, Reads}

-- a condition of document 01's list: those numbers and places that it refuses with, if it is met
abbrev pub Condition : Type 1
Condition = ℕ → ℕ → Type 0

-- one that refuses with this number, and the place 0
abbrev pub by : ℕ → Type 0 → Condition
by k P number place = P × (number ≡ k) × (place ≡ 0)

-- the disk that a call is lent: of the run's own the book says what it is
abbrev pub lent_disk : List ℕ → Book → Call → List ℕ
lent_disk disk b c = lent_to (disk_lent c) (applied b disk)

-- the conditions of a kind of call in document 01's order, after those on the buffers, by the disk that it is lent
unfoldable pub kind_conditions : List Rule → List ℕ → Book → Kind → List Condition
kind_conditions rules lent b (opening file) =
    (λ number place. read_of file ≡ refused number place) ∷ by 22 (Reads file (λ f. 0 < length f.tests)) ∷ by 8 (Reads file (λ f. Cyclic f.rules)) ∷ []
kind_conditions rules lent b (hand_in w) =
    by 16 (most_held ≤ length b) ∷ by 17 (Late rules (accepted b) (flag_at b) w) ∷ by 18 (NeedsRing rules (accepted b ++ (w ∷ []))) ∷ []
kind_conditions rules lent b step = []
kind_conditions rules lent b drain = []
kind_conditions rules lent b (get key) = by 21 (LogDamaged lent) ∷ []

-- all conditions of a call in document 01's order: 14; 15, where a sound state is asked for; then those of its kind
unfoldable pub conditions : List Rule → List ℕ → Book → Call → List Condition
conditions rules disk b c = by 14 (WrongLength c) ∷ by 15 (UnsoundLent c) ∷ kind_conditions rules (lent_disk disk b c) b c.kind

-- the answer of a step: 0, if all are flagged, or the place from 1 of the earliest waiting write whose needs are all flagged
unfoldable pub StepAnswer : List Rule → Book → ℕ → Type 0
StepAnswer rules b zero = (i : ℕ) → i < length b → flag_at b i ≡ true
StepAnswer rules b (suc i) = Earliest rules (accepted b) (flag_at b) i

-- the answer of a kind of call, by the disk that it is lent
unfoldable pub AnsweredAs : List Rule → List ℕ → Book → Kind → ℕ → Type 0
AnsweredAs rules lent b (opening file) n = n ≡ 0
AnsweredAs rules lent b (hand_in w) n = n ≡ suc (length b)
AnsweredAs rules lent b step n = StepAnswer rules b n
AnsweredAs rules lent b drain n = n ≡ waiting_in b
AnsweredAs rules lent b (get key) n = (v : Option ℕ) × LogGets lent key v × (n ≡ value_code v)

-- the answer of a call
abbrev pub Answered : List Rule → List ℕ → Book → Call → ℕ → Type 0
Answered rules disk b c = AnsweredAs rules (lent_disk disk b c) b c.kind

-- what is given: the refusal of the first condition that is met; or, where none is met, the answer
unfoldable pub Gives : List Condition → (ℕ → Type 0) → Outcome ℕ → Type 0
Gives [] P (answer n) = P n
Gives [] P (refused number place) = ⊥
Gives (k ∷ ks) P (answer n) = ((i j : ℕ) → k i j → ⊥) × Gives ks P (answer n)
Gives (k ∷ ks) P (refused number place) = k number place ⊎ (((i j : ℕ) → k i j → ⊥) × Gives ks P (refused number place))

-- what a call of the list gives, by the opened rules, the disk at opening, the book, the buffers it is lent and its kind, and by nothing else
abbrev pub GivenBy : List Rule → List ℕ → Book → Call → Outcome ℕ → Type 0
GivenBy rules disk b c = Gives (conditions rules disk b c) (Answered rules disk b c)
