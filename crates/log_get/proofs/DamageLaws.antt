-- With a damaged head and tail no disk meets the range check; with any others the disk does that has this superblock and no other empty block.
-- And of a disk that meets the check only one with head = tail shows an empty log: of any other the block at head has a key.
use mathlib.Core.Path.{◌≡◌, refl, sym, subst, ◌∙◌}
use mathlib.Core.Bool.{Bool, true, false, false≢true}
use mathlib.Core.List.{List}
use mathlib.Core.Option.{none}
use Prim.Native.Nat.{ℕ, zero, suc, ◌+◌, ◌-◌, ◌*◌, ◌≤◌, ◌<◌}
use native.Mathlib.Omega.{arith}
use native.Mathlib.Decide.{dec_lt}
use lib.Dec.{lit<}
use lib.ListN.{length, replicate, length-replicate, get_or-replicate}
use lib.Seq.{get_or-append-add}
use borrow.Author.Tests.{eq-eqb, ne_eqb}
use Rattle.relation.proofs.ListLaws.{and_intro, get_or_tabulate}
use Rattle.relation.proofs.Cases.{not_no}
use Rattle.model.specs.Limits.{disk_blocks}
use Rattle.model.specs.declared.Check.TheVariants.{Range}
use Rattle.model.specs.Disk.{empty, first_of, second_of, block_at}
use Rattle.model.specs.Check.{RangeHolds, Holds, damaged}
use Rattle.model.proofs.CheckLaws.{damaged-true, undamaged, damaged-fails, not-damaged}
use Rattle.file_format.specs.Bytes.{byte, Small, half, word, bytes4, block_length, disk_length, block_in, blocks_of}
use Rattle.file_format.proofs.ByteLaws.{number}
use Rattle.log_get.specs.Get.{keyed, Gets, head_of, tail_of, LogDamaged, get_from, get_of}
use Rattle.log_get.specs.Theorem.{filled, Meets, DamageExactly, ShownMeets, EmptyExactly}
use Rattle.log_get.proofs.Theorems.{get-answers, refused_gets, answered_undamaged}

-- ---- a disk's blocks

block-at : (disk : List ℕ) (a : ℕ) → a < disk_blocks → block_at (blocks_of disk) a ≡ block_in disk a
unfolding blocks_of
block-at disk a h = get_or_tabulate (block_in disk) disk_blocks a 0 h

abbrev RangeOf : List ℕ → ℕ → Type 0
RangeOf disk superblock = RangeHolds (blocks_of disk) (first_of superblock) (second_of superblock)

-- the range check at 0 is that of the superblock's head and tail
range_of : (disk : List ℕ) → Holds (blocks_of disk) (Range 0) → RangeOf disk (block_in disk 0)
unfolding Holds
range_of disk h = subst (RangeOf disk) (block-at disk 0 (lit< tt)) h

of_range : (disk : List ℕ) → RangeOf disk (block_in disk 0) → Holds (blocks_of disk) (Range 0)
unfolding Holds
of_range disk h = subst (RangeOf disk) (sym (block-at disk 0 (lit< tt))) h

-- no disk that meets the check has a damaged superblock
meets_undamaged : (disk other : List ℕ) → Meets (block_in disk 0) other → LogDamaged disk → ⊥
meets_undamaged disk other m d = damaged-fails (blocks_of other) (head_of disk) (tail_of disk) (subst (RangeOf other) m.block_0 (range_of other m.range)) d

-- ---- a superblock that is not damaged, and a disk that is filled besides

module _ (superblock : ℕ) where
  filled-rest : (i : ℕ) → block_length ≤ i → i < disk_length → byte (filled superblock) i ≡ 1
  filled-rest i h l =
      let z : i ≡ block_length + (i - block_length) = omega arith in
      rw z (get_or-append-add (bytes4 superblock) (replicate 1020 1) (i - block_length) 0 ∙ get_or-replicate {A = ℕ} 1020 (i - block_length) 1 0 (omega arith))

  filled-size : length (filled superblock) ≡ disk_length
  filled-size = let n = length-replicate {A = ℕ} 1020 1 in omega arith

  filled-small : Small (filled superblock)
  filled-small zero h = omega arith
  filled-small (suc zero) h = omega arith
  filled-small (suc (suc zero)) h = omega arith
  filled-small (suc (suc (suc zero))) h = omega arith
  filled-small (suc (suc (suc (suc i)))) h = rw (filled-rest (suc (suc (suc (suc i)))) (omega arith) (omega (arith, filled-size))) (lit< tt)

  filled-block : (a : ℕ) → 0 < a → a < disk_blocks → empty (block_in (filled superblock) a) ≡ false
  unfolding block_in word half empty
  filled-block a h l =
      rw (
        filled-rest (block_length * a) (omega arith) (omega arith),
        filled-rest (block_length * a + 1) (omega arith) (omega arith),
        filled-rest (block_length * a + 2) (omega arith) (omega arith),
        filled-rest (block_length * a + 2 + 1) (omega arith) (omega arith),
      )

  module _ (u : damaged (first_of superblock) (second_of superblock) ≡ false) where
    bounds : (first_of superblock ≤ second_of superblock) × (first_of superblock < second_of superblock → second_of superblock ≤ disk_blocks)
    bounds = undamaged (first_of superblock) (second_of superblock) u

    -- head is at most tail, so that head has 16 bits too
    filled-superblock : block_in (filled superblock) 0 ≡ superblock
    unfolding block_in word half first_of second_of
    filled-superblock = let l = bounds.0 in number superblock (omega arith)

    -- a superblock (0, tail) is a block of its own range
    superblock-there : (k : ℕ) → k < second_of superblock → empty superblock ≡ false
    unfolding second_of empty
    superblock-there k h = ne_eqb superblock 0 (λ e. let z : superblock ≡ 0 = e in absurd (omega arith))

    there : (k : ℕ) → first_of superblock ≤ k → k < second_of superblock → empty (block_at (blocks_of (filled superblock)) k) ≡ false
    there k h l =
        let m = bounds.1 (omega arith) in
        rw (block-at (filled superblock) k (omega arith)) (elim (dec_lt 0 k) [
          | yes p ↦ filled-block k p (omega arith)
          | no p ↦ (let z : k ≡ 0 = omega arith in rw (z, filled-superblock) (superblock-there k l))
        ])

    pub filled-meets : Meets superblock (filled superblock)
    filled-meets =
        record {
          size = filled-size;
          bytes = filled-small;
          block_0 = filled-superblock;
          range = of_range (filled superblock) (subst (RangeOf (filled superblock)) (sym filled-superblock) (unfold RangeHolds in (bounds.0, bounds.1, there)));
        }

-- ---- the theorems

pub damage_exactly : DamageExactly
damage_exactly disk key n = (
  (λ e other m. meets_undamaged disk other m ((refused_gets disk key n).0 e)),
  λ f. (refused_gets disk key n).1 (go f (damaged (head_of disk) (tail_of disk)) refl),
)
  where
    go : ((other : List ℕ) → Meets (block_in disk 0) other → ⊥) → (b : Bool) → damaged (head_of disk) (tail_of disk) ≡ b → LogDamaged disk
    go f true e = damaged-true (head_of disk) (tail_of disk) e
    go f false e = absurd (f (filled (block_in disk 0)) (filled-meets (block_in disk 0) e))

pub shown-meets : ShownMeets
shown-meets disk key v e = (filled (block_in disk 0), filled-meets (block_in disk 0) (answered_undamaged disk key v e))

-- the key of a block has 16 bits
key-small : (disk : List ℕ) (a : ℕ) → length disk ≡ disk_length → Small disk → a < disk_blocks → first_of (block_in disk a) < 65536
unfolding first_of block_in word half
key-small disk a n s h =
    let p = s (block_length * a) (omega arith) in
    let q = s (block_length * a + 1) (omega arith) in
    let u = s (block_length * a + 2) (omega arith) in
    let v = s (block_length * a + 2 + 1) (omega arith) in
    omega arith

pub empty_exactly : EmptyExactly
unfolding RangeHolds get_of get_from Gets keyed
empty_exactly disk m = (
  (λ k. elim (dec_lt (head_of disk) (tail_of disk)) [
    | yes lt ↦ absurd (false≢true (sym (get-answers disk (key lt) none (k (key lt) (small lt)) (head_of disk) (omega arith) lt) ∙ has_key lt))
    | no ge ↦ (let l = range.0 in omega arith)
  ]),
  λ e key l.
      let z : tail_of disk - head_of disk ≡ 0 = omega arith in
      rw (eq-eqb (length disk) disk_length m.size, not-damaged (head_of disk) (tail_of disk) range.0 range.1, z),
)
  where
    range : RangeOf disk (block_in disk 0)
    range = range_of disk m.range

    inside : head_of disk < tail_of disk → head_of disk < disk_blocks
    inside lt = let l = range.1 lt in omega arith

    key : head_of disk < tail_of disk → ℕ
    key lt = first_of (block_in disk (head_of disk))

    small : (lt : head_of disk < tail_of disk) → key lt < 65536
    small lt = key-small disk (head_of disk) m.size m.bytes (inside lt)

    has_key : (lt : head_of disk < tail_of disk) → keyed disk (key lt) (head_of disk) ≡ true
    has_key lt =
        and_intro _ _
        (not_no _ (rw (block-at disk (head_of disk) (inside lt)) at (range.2 (head_of disk) (omega arith) lt)))
        (eq-eqb (key lt) (key lt) refl)
