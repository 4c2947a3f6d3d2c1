-- Reading a value back from a disk of 1,024 bytes.
use Rattle.std.specs.Prelude.{ℕ, zero, suc, ◌+◌, ◌-◌, ◌≤◌, ◌<◌, ◌≡◌, Bool, true, false, cond, not, ◌&&◌, List, eqb, length}
use Rattle.std.proofs.Math.Option.{Option, none, some}
use Rattle.std.specs.Prelude.{Option as Found, Some, None}
use Rattle.model.specs.Answer.{Outcome, answer, refused, refusal}
use Rattle.model.specs.Disk.{empty, first_of, second_of}
use Rattle.model.specs.Check.{Damaged, damaged}
use Rattle.file_format.specs.Bytes.{disk_length, block_in}

-- block a is non-empty and has this key
unfoldable pub keyed : List ℕ → ℕ → ℕ → Bool
keyed disk key a = not (empty (block_in disk a)) && eqb (first_of (block_in disk a)) key

-- the value at the highest address from head to tail - 1 whose block is non-empty with that key
unfoldable pub Gets : List ℕ → ℕ → ℕ → ℕ → Option ℕ → Type 0
Gets disk key head tail none = (a : ℕ) → head ≤ a → a < tail → keyed disk key a ≡ false
Gets disk key head tail (some v) =
    (a : ℕ) × (head ≤ a) × (a < tail) × (keyed disk key a ≡ true) × (v ≡ second_of (block_in disk a))
    × ((b : ℕ) → a < b → b < tail → keyed disk key b ≡ false)

-- the superblock, block 0, names the head and the tail of the log
abbrev pub head_of : List ℕ → ℕ
head_of disk = first_of (block_in disk 0)

abbrev pub tail_of : List ℕ → ℕ
tail_of disk = second_of (block_in disk 0)

-- what get gives: the value from head to tail - 1
abbrev pub LogGets : List ℕ → ℕ → Option ℕ → Type 0
LogGets disk key v = Gets disk key (head_of disk) (tail_of disk) v

-- the superblock is damage: head exceeds tail, or head < tail and tail > 256
abbrev pub LogDamaged : List ℕ → Type 0
LogDamaged disk = Damaged (head_of disk) (tail_of disk)

-- the value, computed: the n addresses below head + n, from the highest down
unfoldable pub get_from : List ℕ → ℕ → ℕ → ℕ → Option ℕ
get_from disk key head zero = none
get_from disk key head (suc n) = cond (keyed disk key (head + n)) (some (second_of (block_in disk (head + n)))) (get_from disk key head n)

-- *get*: 14 disk not 1,024; 21 head exceeds tail (02, [6]), or head < tail and tail > 256
unfoldable pub get_of : List ℕ → ℕ → Outcome (Option ℕ)
get_of disk key =
    let head = head_of disk in
    let tail = tail_of disk in
    cond (not (eqb (length disk) disk_length)) (refused 14 0)
    (cond (damaged head tail) (refused 21 0)
    (answer (get_from disk key head (tail - head))))

-- the same, of what the code finds
abbrev pub found_value : Found ℕ → Option ℕ
found_value (Some v) = some v
found_value None = none

-- in one number: the value, or 65,536 for none
unfoldable pub value_code : Option ℕ → ℕ
value_code none = 65536
value_code (some v) = v

-- get's answer in one number
unfoldable pub get_code : Outcome (Option ℕ) → ℕ
get_code (answer v) = value_code v
get_code (refused number place) = refusal number place

unfoldable pub get_answer : List ℕ → ℕ → ℕ
get_answer disk key = get_code (get_of disk key)
