-- The steps of stores to the disk and the state, in the terms of the code.
use mathlib.Core.Path.{◌≡◌}
use mathlib.Core.List.{List}
use Prim.Native.Nat.{ℕ, ◌+◌, ◌*◌, ◌≤◌, ◌<◌}
use native.Mathlib.Omega.{arith}
use lib.ListN.{length, set}
use borrow.Author.Rules.{rules}
use Rattle.model.specs.declared.Write.{Write}
use Rattle.model.specs.Limits.{disk_blocks}
use Rattle.file_format.specs.Bytes.{bytes4, block_length, disk_length}
use Rattle.file_writing.specs.Writing.{Wrote}
use Rattle.cache_model.specs.State.{flag_place, stored_count, write_base, marked, stored_on}

-- ---- store_block, mark

pub block-stored : (d d' : List ℕ) (w : Write) (a r : ℕ) → a ≡ w.address → Wrote d (block_length * a) (bytes4 w.block) d' r → d' ≡ stored_on d w
unfolding stored_on
block-stored d d' w a r e q = rw e at q.buffer

pub block-fits : (d : List ℕ) (a : ℕ) → length d ≡ disk_length → a < disk_blocks → block_length * a + block_length ≤ length d
block-fits d a h l = omega arith

pub flag-marked : (s : List ℕ) (i at : ℕ) → at ≡ write_base i + flag_place → set (set s at 1) 2 (stored_count s + 1) ≡ marked s i
unfolding marked
flag-marked s i at e = rw e

pub ruleset storing_steps = (rules, block-stored, block-fits, flag-marked)
