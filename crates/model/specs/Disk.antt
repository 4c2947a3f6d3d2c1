-- Blocks and disks.
use Rattle.std.specs.Prelude.{ℕ, ◌+◌, ◌*◌, ◌/◌, ◌%◌, Bool, List, get_or, replicate, eqb}
use Rattle.model.specs.Limits.{disk_blocks}

-- *block*: two 16-bit numbers (first, second), here as one number
unfoldable pub block : ℕ → ℕ → ℕ
block first second = first * 65536 + second

unfoldable pub first_of : ℕ → ℕ
first_of b = b / 65536

unfoldable pub second_of : ℕ → ℕ
second_of b = b % 65536

-- *empty*: the block (0,0)
unfoldable pub empty : ℕ → Bool
empty b = eqb b 0

-- *the empty disk*: 256 empty blocks. A disk is a list of 256 blocks
unfoldable pub empty_disk : List ℕ
empty_disk = replicate disk_blocks 0

-- the block at an address
abbrev pub block_at : List ℕ → ℕ → ℕ
block_at disk a = get_or disk a 0
