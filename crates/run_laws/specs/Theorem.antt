-- The claim about whole runs: demand 3.
use Rattle.std.specs.Prelude.{ℕ, ◌≤◌, ◌<◌, ◌≡◌, ◌↔◌, true, length}
use mathlib.Core.List.{List, [], ◌∷◌, Memᴰ}
use Rattle.model.specs.declared.Write.{Write}
use Rattle.model.specs.declared.Rule.{Rule}
use Rattle.model.specs.Answer.{Outcome, answer, refused, coded}
use Rattle.model.specs.Rules.{DependsOn}
use Rattle.model.specs.Schedule.{label_at, Valid}
use Rattle.model.specs.Check.{Consistent}
use Rattle.model.specs.Test.{Test, File, initial_disk, TestHolds}
use Rattle.file_format.specs.Bytes.{disk_length, blocks_of}
use Rattle.file_format.specs.File.{read_of}
use Rattle.file_format.specs.Encode.{WriteFits}
use Rattle.log_get.specs.Get.{get_of, get_answer}
use Rattle.cache_model.specs.Entries.{accepted, flag_at, flagging}
use Rattle.cache_model.specs.State.{state_size}
use Rattle.cache_model.specs.Sound.{Sound}
use Rattle.cache_model.specs.Calls.{left, open_of, hand_in_of, given}
use Rattle.run_laws.specs.Book.{Book, opening, step, drain, get, applied, schedule_of, Begins}
use Rattle.run_laws.specs.Gives.{GivenBy}
use Rattle.run_laws.specs.Run.{Call, call, Lent, lent_to, OwnLent, Listed, valued, called, is_refused, Moment, next, after, counted, moments}

-- ---- what is claimed of every moment

-- no stored write depends on a write of a trace beyond those accepted by then
unfoldable pub NoneBeyond : List Rule → Book → List Write → Type 0
NoneBeyond rules b trace =
    (i j : ℕ) → i < length b → flag_at b i ≡ true → length b ≤ j → j < length trace → DependsOn rules (label_at trace i) (label_at trace j) → ⊥

-- wherever the supply is cut: the disk left is the disk at opening with the book's stored writes applied in the order they came;
-- these are a valid schedule of the accepted writes; and the disk left is consistent, if the disk at opening is a test's initial disk,
-- the accepted writes begin its main trace, the test holds under the opened rules, and no stored write depends on a main write beyond.
-- State and disk are such that a call on the run's own meets neither 14 nor 15
pub record Safe (rules : List Rule) (disk : List ℕ) (m : Moment) : Type 0 where
  pub sound : Sound m.held.state
  pub size : length m.held.disk ≡ disk_length
  pub equals : m.held.disk ≡ applied m.book disk
  pub valid : Valid rules (accepted m.book) (schedule_of m.book)
  pub consistent : (t : Test) → blocks_of disk ≡ initial_disk t → Begins (accepted m.book) t.main → TestHolds rules t
      → NoneBeyond rules m.book t.main → Consistent t.checks (blocks_of m.held.disk)

-- ---- what is claimed of every call

-- a call gives what the conditions say, and the book allows no other outcome; if refused it changes nothing, and neither does a get; a step
-- stores the one write whose place it answers, none if it answers 0; a call leaves what those leave that it counts as; and after a drain of the
-- run's own nothing waits
pub record Answers (rules : List Rule) (disk : List ℕ) (c : Call) (m : Moment) : Type 0 where
  pub gives : GivenBy rules disk m.book c (called c m.held).outcome
  pub only : (o : Outcome ℕ) → GivenBy rules disk m.book c o → o ≡ (called c m.held).outcome
  pub nothing : (number place : ℕ) → (called c m.held).outcome ≡ refused number place → next rules c m ≡ m
  pub unchanged : (key : ℕ) → c.kind ≡ get key → next rules c m ≡ m
  pub one : (i : ℕ) → c.kind ≡ step → (called c m.held).outcome ≡ answer i → (next rules c m).book ≡ flagging i m.book
  pub each : next rules c m ≡ after rules (counted rules c m) m
  pub all : c.kind ≡ drain → OwnLent c → (i : ℕ) → i < length m.book → flag_at (next rules c m).book i ≡ true

-- call c is made at moment m of a run: one of its list, or one of those that a call counts as
pub data Made (rules : List Rule) : List Call → Moment → Call → Moment → Type 0 where
  now : {c : Call} {cs : List Call} {m : Moment} → Made rules (c ∷ cs) m c m
  later : {d c : Call} {cs : List Call} {m n : Moment} → Made rules cs (next rules d m) c n → Made rules (d ∷ cs) m c n
  inside : {d c : Call} {cs : List Call} {m n : Moment} → Made rules (counted rules d m) m c n → Made rules (d ∷ cs) m c n

-- ---- the claim

-- the run begins with the state that an opening leaves, and an empty book
abbrev pub begun : List ℕ → List ℕ → Moment
begun state disk = record { held = record { state = state; disk = disk }; book = [] }

-- for every list of calls, from the state that any accepted opening leaves and any disk of 1,024 bytes:
-- every moment at which the supply can be cut is safe, and every call gives what the book says
unfoldable pub Demand3 : Type 0
Demand3 =
    (file state disk : List ℕ) (f : File) (calls : List Call)
    → read_of file ≡ answer f → (open_of file state disk).outcome ≡ answer 0 → length disk ≡ disk_length
    → ((c : Call) → Memᴰ c calls → Listed c)
    → ((m : Moment) → Memᴰ m (moments f.rules calls (begun (open_of file state disk).state disk)) → Safe f.rules disk m)
    × ((c : Call) (m : Moment) → Made f.rules calls (begun (open_of file state disk).state disk) c m → Answers f.rules disk c m)

-- ---- beside the claim

-- the openings that are listed are exactly those that are refused
abbrev pub RefusedOpenings : Type 0
RefusedOpenings =
    (file mine disk : List ℕ) (s d : Lent) → length mine ≡ state_size
    → Listed (call (opening file) s d) ↔ (is_refused (open_of file (lent_to s mine) disk).outcome ≡ true)

-- the write of hand-in's five values, which in C are numbers of 8, 16, 32, 16 and 16 bits, is one of the right widths
abbrev pub Widths : Type 0
Widths =
    (address name epoch first second : ℕ) → address < 256 → name < 65536 → epoch < 4294967296 → first < 65536 → second < 65536
    → WriteFits (given address name epoch first second)

-- openings and hand-ins take no disk: whatever disk stands beside them, they give the same, leave the same state, and leave that disk.
-- (The exported routines' contracts cite them beside [])
abbrev pub Diskless : Type 0
Diskless =
    (file state disk : List ℕ) (w : Write)
    → (open_of file state disk ≡ left (open_of file state []).outcome (open_of file state []).state disk)
    × (hand_in_of w state disk ≡ left (hand_in_of w state []).outcome (hand_in_of w state []).state disk)

-- what a get gives is, in one number, what the exported routine's contract says
abbrev pub GetCoded : Type 0
GetCoded = (disk : List ℕ) (key : ℕ) → coded (valued (get_of disk key)) ≡ get_answer disk key
