-- Numbers, blocks and writes as bytes, big-endian.
use Rattle.std.specs.Prelude.{ℕ, ◌+◌, ◌*◌, ◌/◌, ◌%◌, ◌<◌, List, [], ◌∷◌, ◌++◌, length, get_or}
use Rattle.relation.specs.Lists.{tabulate}
use Rattle.model.specs.Limits.{disk_blocks}
use Rattle.model.specs.declared.Write.{Write}
use Rattle.model.specs.declared.Rule.{Rule}

abbrev pub byte : List ℕ → ℕ → ℕ
byte s i = get_or s i 0

-- numbers below 256
abbrev pub Small : List ℕ → Type 0
Small s = (i : ℕ) → i < length s → byte s i < 256

-- the number of two bytes, and of four
unfoldable pub half : List ℕ → ℕ → ℕ
half s i = byte s i * 256 + byte s (i + 1)

unfoldable pub word : List ℕ → ℕ → ℕ
word s i = half s i * 65536 + half s (i + 2)

-- a number below 65,536 in two bytes
abbrev pub bytes2 : ℕ → List ℕ
bytes2 n = n / 256 ∷ n % 256 ∷ []

-- a number in four bytes
abbrev pub bytes4 : ℕ → List ℕ
bytes4 n = n / 16777216 % 256 ∷ n / 65536 % 256 ∷ n / 256 % 256 ∷ n % 256 ∷ []

-- the bytes of a block, on a disk and in a program of puts, and those of a disk
abbrev pub block_length : ℕ
block_length = 4

abbrev pub disk_length : ℕ
disk_length = disk_blocks * block_length

-- a disk of 1,024 bytes: block a at 4a
unfoldable pub block_in : List ℕ → ℕ → ℕ
block_in disk a = word disk (block_length * a)

-- its 256 blocks
unfoldable pub blocks_of : List ℕ → List ℕ
blocks_of disk = tabulate (block_in disk) disk_blocks

-- tag 02's body: address 1, name 1, epoch 4, first 2, second 2
unfoldable pub narrow_write_bytes : Write → List ℕ
narrow_write_bytes w = w.address ∷ w.name ∷ (bytes4 w.epoch ++ bytes4 w.block)

-- tag 09's (02, [2]), and a write's in a state: the same with a name of two bytes
unfoldable pub wide_write_bytes : Write → List ℕ
wide_write_bytes w = w.address ∷ (bytes2 w.name ++ (bytes4 w.epoch ++ bytes4 w.block))

-- tag 03's: name, predicate, name
unfoldable pub narrow_rule_bytes : Rule → List ℕ
narrow_rule_bytes r = r.first ∷ r.predicate ∷ r.second ∷ []

-- tag 0A's, and a rule's in a state: the same with names of two bytes
unfoldable pub wide_rule_bytes : Rule → List ℕ
wide_rule_bytes r = bytes2 r.first ++ (r.predicate ∷ bytes2 r.second)
