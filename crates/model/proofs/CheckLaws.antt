-- The computed forms of the checks agree with their meaning; and damaged are those heads and tails with which the range fails of every disk: with any
-- others it holds of a full one.
use mathlib.Core.Path.{◌≡◌, refl, sym, subst, ◌∙◌}
use mathlib.Core.Logic.{◌↔◌, inl, inr, ⊎_elim}
use mathlib.Core.Bool.{Bool, true, false, not, ◌&&◌, ◌||◌, false≢true}
use mathlib.Core.List.{List}
use Prim.Native.Nat.{ℕ, ◌+◌, ◌-◌, ◌≤◌, ◌<◌}
use native.Mathlib.Omega.{arith}
use lib.Dec.{eqb, leb, ltb}
use lib.ListN.{length, replicate, length-replicate, get_or-replicate}
use borrow.Author.Tests.{leb-true, le-leb, ltb-true, ltb-false, lt-ltb, eqb-true, eq-eqb, not-true}
use Rattle.relation.proofs.ListLaws.{untrue, or_cases, or_left, or_right, or_none-left, or_none_right, and_left, and_right, and_intro, all_below-true, all_below_intro, all_true, all_intro}
use Rattle.relation.proofs.MaskLaws.{implies, implied}
use Rattle.model.specs.Limits.{disk_blocks, last_block}
use Rattle.model.specs.declared.Check.{Check}
use Rattle.model.specs.declared.Check.TheVariants.{Range, Pair, Pointer}
use Rattle.model.specs.Disk.{empty, second_of, block_at}
use Rattle.model.specs.Check.{RangeHolds, Damaged, Holds, Consistent, damaged, range_holds, holds, consistent}

not-false_intro : (b : Bool) → b ≡ false → not b ≡ true
not-false_intro b e = rw e

-- ---- head and tail

pub true-damaged : (head tail : ℕ) → Damaged head tail → damaged head tail ≡ true
unfolding damaged Damaged
true-damaged head tail d = ⊎_elim
    (λ a. or_left (ltb tail head) _ (lt-ltb tail head a))
    (λ b. or_right (ltb tail head) _ (and_intro (ltb head tail) _ (lt-ltb head tail b.0) (lt-ltb disk_blocks tail b.1)))
    d

pub damaged-true : (head tail : ℕ) → damaged head tail ≡ true → Damaged head tail
unfolding damaged Damaged
damaged-true head tail e = ⊎_elim
    (λ a. inl (ltb-true tail head a))
    (λ b. inr (ltb-true head tail (and_left (ltb head tail) _ b), ltb-true disk_blocks tail (and_right (ltb head tail) _ b)))
    (or_cases (ltb tail head) _ e)

-- those that are not damaged
pub undamaged : (head tail : ℕ) → damaged head tail ≡ false → (head ≤ tail) × (head < tail → tail ≤ disk_blocks)
unfolding damaged
undamaged head tail e = (
  ltb-false tail head (or_none-left (ltb tail head) _ e),
  λ h. ltb-false disk_blocks tail (rw (lt-ltb head tail h) at (or_none_right (ltb tail head) (ltb head tail && ltb disk_blocks tail) e)),
)

pub undamaged_ordered : (head tail : ℕ) → damaged head tail ≡ false → head ≤ tail
undamaged_ordered head tail e = (undamaged head tail e).0

-- their blocks are on the disk
pub undamaged_inside : (head tail k : ℕ) → damaged head tail ≡ false → head ≤ k → k < tail → k < disk_blocks
undamaged_inside head tail k e h l = let m = (undamaged head tail e).1 (omega arith) in omega arith

pub never_damaged : (head tail : ℕ) → head ≤ tail → (head < tail → tail ≤ disk_blocks) → Damaged head tail → ⊥
unfolding Damaged
never_damaged head tail l m d = ⊎_elim (λ a. absurd (omega arith)) (λ b. let h = m b.0 in let g = b.1 in absurd (omega arith)) d

pub not-damaged : (head tail : ℕ) → head ≤ tail → (head < tail → tail ≤ disk_blocks) → damaged head tail ≡ false
not-damaged head tail l m = untrue (damaged head tail) (λ e. never_damaged head tail l m (damaged-true head tail e))

-- with a damaged head and tail the range fails ..
pub damaged-fails : (disk : List ℕ) (head tail : ℕ) → RangeHolds disk head tail → Damaged head tail → ⊥
unfolding RangeHolds
damaged-fails disk head tail r d = never_damaged head tail r.0 r.1 d

-- .., and with any others it holds of a full disk
pub damaged-fails-all : (head tail : ℕ) → Damaged head tail ↔ ((disk : List ℕ) → length disk ≡ disk_blocks → RangeHolds disk head tail → ⊥)
unfolding RangeHolds
damaged-fails-all head tail = (
  (λ d disk n r. damaged-fails disk head tail r d),
  λ none. go none (damaged head tail) refl,
)
  where
    go : ((disk : List ℕ) → length disk ≡ disk_blocks → RangeHolds disk head tail → ⊥) → (b : Bool) → damaged head tail ≡ b → Damaged head tail
    go none true e = damaged-true head tail e
    go none false e =
        let u = undamaged head tail e in
        absurd (none (replicate disk_blocks 1) (length-replicate {A = ℕ} disk_blocks 1) (u.0, u.1, λ k h j. let m = u.1 (omega arith) in unfold empty in rw (get_or-replicate {A = ℕ} disk_blocks k 1 0 (omega arith))))

module _ (disk : List ℕ) where
  range-true : (head tail : ℕ) → range_holds disk head tail ≡ true → RangeHolds disk head tail
  unfolding range_holds RangeHolds
  range-true head tail e =
      let u = undamaged head tail (not-true _ (and_left (not (damaged head tail)) _ e)) in
      let full = and_right (not (damaged head tail)) _ e in (
        u.0,
        u.1,
        λ k h j. let q : head + (k - head) ≡ k = omega arith in
            not-true _ (subst (λ (x : ℕ). not (empty (block_at disk x)) ≡ true) q (all_below-true _ (tail - head) full (k - head) (omega arith))),
      )

  true-range : (head tail : ℕ) → RangeHolds disk head tail → range_holds disk head tail ≡ true
  unfolding range_holds RangeHolds
  true-range head tail r =
      and_intro (not (damaged head tail)) _
      (not-false_intro _ (not-damaged head tail r.0 r.1))
      (all_below_intro _ (tail - head) (λ k h. not-false_intro _ (r.2 (head + k) (omega arith) (omega arith))))

  pub holds-true : (c : Check) → holds disk c ≡ true → Holds disk c
  unfolding holds Holds
  holds-true (Range a) e = range-true _ _ e
  holds-true (Pair a v b w) e = λ h. eqb-true _ _ (implies (eqb (block_at disk a) v) _ e (eq-eqb _ _ h))
  holds-true (Pointer a) e = λ h. ⊎_elim
      (λ z. absurd (false≢true (sym h ∙ z)))
      (λ z. (leb-true _ _ (and_left (leb (second_of (block_at disk a)) last_block) _ z), not-true _ (and_right (leb (second_of (block_at disk a)) last_block) _ z)))
      (or_cases (empty (block_at disk a)) _ e)

  pub true-holds : (c : Check) → Holds disk c → holds disk c ≡ true
  unfolding holds Holds
  true-holds (Range a) h = true-range _ _ h
  true-holds (Pair a v b w) h = implied (eqb (block_at disk a) v) _ (λ e. eq-eqb _ _ (h (eqb-true _ _ e)))
  true-holds (Pointer a) h = go (empty (block_at disk a)) refl
    where
      go : (b : Bool) → empty (block_at disk a) ≡ b → empty (block_at disk a) || leb (second_of (block_at disk a)) last_block && not (empty (block_at disk (second_of (block_at disk a)))) ≡ true
      go true e = or_left (empty (block_at disk a)) _ e
      go false e = or_right (empty (block_at disk a)) _ (and_intro (leb (second_of (block_at disk a)) last_block) _ (le-leb _ _ (h e).0) (not-false_intro _ (h e).1))

  pub consistent-true : (checks : List Check) → consistent checks disk ≡ true → Consistent checks disk
  unfolding consistent Consistent
  consistent-true checks e c m = holds-true c (all_true (holds disk) e c m)

  pub true-consistent : (checks : List Check) → Consistent checks disk → consistent checks disk ≡ true
  unfolding consistent Consistent
  true-consistent checks k = all_intro (holds disk) checks (λ c m. true-holds c (k c m))
