-- The theorems of get: what is computed is what the definition with quantifiers says; and 21 is for the superblocks with which no disk meets the range check.
use Rattle.std.specs.Prelude.{ℕ, ◌-◌, ◌<◌, ◌≡◌, ◌↔◌, List, ◌++◌, length, replicate}
use Rattle.std.proofs.Math.Option.{Option, none}
use Rattle.model.specs.declared.Check.TheVariants.{Range}
use Rattle.model.specs.Answer.{answer, refused}
use Rattle.model.specs.Check.{Holds}
use Rattle.file_format.specs.Bytes.{disk_length, Small, bytes4, block_in, blocks_of}
use Rattle.log_get.specs.Get.{Gets, head_of, tail_of, LogGets, LogDamaged, get_from, get_of}

-- `get_from` computes the value at the highest address, and there is no other
abbrev pub Highest : Type 0
Highest = (disk : List ℕ) (key head tail : ℕ) (v : Option ℕ) → Gets disk key head tail v ↔ get_from disk key head (tail - head) ≡ v

-- what get answers is that value, from the head to the tail of the superblock
abbrev pub GetAnswers : Type 0
GetAnswers = (disk : List ℕ) (key : ℕ) (v : Option ℕ) → get_of disk key ≡ answer v → LogGets disk key v

-- a get of a disk of 1,024 bytes is refused by 21 exactly if its superblock is damage
abbrev pub RefusedGets : Type 0
RefusedGets = (disk : List ℕ) (key : ℕ) → length disk ≡ disk_length → get_of disk key ≡ refused 21 0 ↔ LogDamaged disk

-- ---- damage and the range check (02, [6])

-- the disk of 1,024 bytes with this superblock, a number of 32 bits, on which every other block is (257,257)
abbrev pub filled : ℕ → List ℕ
filled superblock = bytes4 superblock ++ replicate 1020 1

-- a disk of 1,024 bytes with this block 0 that meets the range check at 0
pub record Meets (superblock : ℕ) (disk : List ℕ) : Type 0 where
  pub size : length disk ≡ disk_length
  pub bytes : Small disk
  pub block_0 : block_in disk 0 ≡ superblock
  pub range : Holds (blocks_of disk) (Range 0)

-- on a disk of 1,024 bytes get gives 21, whatever the key, exactly if no disk with that block 0 meets the range check at 0
abbrev pub DamageExactly : Type 0
DamageExactly =
    (disk : List ℕ) (key : ℕ) → length disk ≡ disk_length → get_of disk key ≡ refused 21 0 ↔ ((other : List ℕ) → Meets (block_in disk 0) other → ⊥)

-- so no damaged head and tail is shown as a log, empty or not: where get answers, be it that there is no value, some disk with that block 0 meets the check
abbrev pub ShownMeets : Type 0
ShownMeets = (disk : List ℕ) (key : ℕ) (v : Option ℕ) → get_of disk key ≡ answer v → (other : List ℕ) × Meets (block_in disk 0) other

-- and of a disk that meets the check an empty log, one without a value for any key, is shown exactly if head and tail are equal
abbrev pub EmptyExactly : Type 0
EmptyExactly =
    (disk : List ℕ) → Meets (block_in disk 0) disk
    → ((key : ℕ) → key < 65536 → get_of disk key ≡ answer none) ↔ head_of disk ≡ tail_of disk
