-- The three checks of a disk.
use Rattle.std.specs.Prelude.{ℕ, ◌+◌, ◌-◌, ◌≤◌, ◌<◌, ◌≡◌, ◌⊎◌, Bool, false, not, ◌&&◌, ◌||◌, eqb, leb, ltb}
use mathlib.Core.List.{List, Memᴰ}
use Rattle.relation.specs.Lists.{all, all_below}
use Rattle.model.specs.Limits.{disk_blocks, last_block}
use Rattle.model.specs.declared.Check.{Check}
use Rattle.model.specs.declared.Check.TheVariants.{Range, Pair, Pointer}
use Rattle.model.specs.Disk.{empty, first_of, second_of, block_at}

-- *range*: whenever head exceeds tail it fails (02, [6]); if head < tail and tail > 256 it fails; every block from head up to tail - 1 is non-empty
unfoldable pub RangeHolds : List ℕ → ℕ → ℕ → Type 0
RangeHolds disk head tail = (head ≤ tail) × (head < tail → tail ≤ disk_blocks) × ((k : ℕ) → head ≤ k → k < tail → empty (block_at disk k) ≡ false)

-- *damage* (02, [6]): head exceeds tail, or head < tail and tail > 256; those with which the range fails of every disk, by `Theorem.antt: DamagedRange`
unfoldable pub Damaged : ℕ → ℕ → Type 0
Damaged head tail = (tail < head) ⊎ ((head < tail) × (disk_blocks < tail))

-- a check holds of a disk.
-- *range* at a: of block a = (head, tail). *pair*: if block a equals v, block b equals w.
-- *pointer* at a: if block a is non-empty, the block at its second number is non-empty; above 255 it fails
unfoldable pub Holds : List ℕ → Check → Type 0
Holds disk (Range a) = RangeHolds disk (first_of (block_at disk a)) (second_of (block_at disk a))
Holds disk (Pair a v b w) = block_at disk a ≡ v → block_at disk b ≡ w
Holds disk (Pointer a) =
    empty (block_at disk a) ≡ false → (second_of (block_at disk a) ≤ last_block) × (empty (block_at disk (second_of (block_at disk a))) ≡ false)

-- *consistent*: all checks of the test hold
unfoldable pub Consistent : List Check → List ℕ → Type 0
Consistent checks disk = (c : Check) → Memᴰ c checks → Holds disk c

-- ---- the same, computed

unfoldable pub damaged : ℕ → ℕ → Bool
damaged head tail = ltb tail head || ltb head tail && ltb disk_blocks tail

unfoldable pub range_holds : List ℕ → ℕ → ℕ → Bool
range_holds disk head tail = not (damaged head tail) && all_below (λ k. not (empty (block_at disk (head + k)))) (tail - head)

unfoldable pub holds : List ℕ → Check → Bool
holds disk (Range a) = range_holds disk (first_of (block_at disk a)) (second_of (block_at disk a))
holds disk (Pair a v b w) = not (eqb (block_at disk a) v) || eqb (block_at disk b) w
holds disk (Pointer a) =
    empty (block_at disk a) || leb (second_of (block_at disk a)) last_block && not (empty (block_at disk (second_of (block_at disk a))))

unfoldable pub consistent : List Check → List ℕ → Bool
consistent checks disk = all (holds disk) checks
