-- The steps of the checks, in the terms of the code: one block of a range more, one check more.
use mathlib.Core.Path.{◌≡◌, refl, sym, ap, ◌∙◌}
use mathlib.Core.Bool.{Bool, true, false, not, ◌&&◌}
use mathlib.Core.List.{List, [], ◌∷◌}
use Prim.Native.Nat.{ℕ, suc, ◌+◌, ◌-◌, ◌≤◌, ◌<◌}
use native.Mathlib.Numerals.{add-one}
use native.Mathlib.Omega.{arith}
use native.Mathlib.Decide.{dec_lt}
use lib.Dec.{eqb, ltb}
use lib.ListN.{length, get_or, take}
use lib.Seq.{get_or-take, take-suc, length-take-le}
use borrow.Author.Rules.{rules}
use borrow.Author.Tests.{eq-eqb, ne_eqb, le-leb, lt-leb, le-ltb, lt-ltb, not-true, not-false}
use Rattle.relation.specs.Lists.{all_below, all}
use Rattle.relation.proofs.ListLaws.{all_below-not, and_intro, all_true, all_append, index_mem}
use Rattle.model.specs.Limits.{disk_blocks, last_block, most_checks}
use Rattle.model.specs.declared.Check.{Check}
use Rattle.model.specs.declared.Check.TheVariants.{Range, Pointer}
use Rattle.model.specs.Disk.{empty, first_of, second_of, block_at}
use Rattle.model.specs.Check.{damaged, range_holds, holds, consistent}

-- ---- head and tail

module _ (head tail : ℕ) where
  pub damage_beyond : head < tail → ltb disk_blocks tail ≡ damaged head tail
  unfolding damaged
  damage_beyond h = rw (le-ltb tail head (omega arith), lt-ltb head tail h)

  pub damage_past : tail ≤ head → not (eqb head tail) ≡ damaged head tail
  unfolding damaged
  damage_past h = elim (dec_lt tail head) [
    | yes lt ↦ rw (lt-ltb tail head lt, ne_eqb head tail (λ e. let z : head ≡ tail = e in omega arith))
    | no ge ↦ rw (le-ltb tail head (omega arith), le-ltb head tail h, eq-eqb head tail (omega arith))
  ]

-- ---- a range

-- the blocks from head up to k are not empty
abbrev pub Full : List ℕ → ℕ → ℕ → Type 0
Full d head k = all_below (λ x. not (empty (block_at d (head + x)))) (k - head) ≡ true

module _ (d : List ℕ) (head tail : ℕ) where
  -- no block: head and tail are equal, or damaged
  pub range_none : tail ≤ head → eqb head tail ≡ range_holds d head tail
  unfolding range_holds all_below
  range_none h = let z : tail - head ≡ 0 = omega arith in rw (← damage_past head tail h, z) (same (eqb head tail))
    where
      same : (b : Bool) → b ≡ not (not b) && true
      same true = refl
      same false = refl

  pub range_past : head < tail → disk_blocks < tail → false ≡ range_holds d head tail
  unfolding range_holds
  range_past h l = rw (← damage_beyond head tail h, lt-ltb disk_blocks tail l)

  inside : head < tail → tail ≤ disk_blocks → damaged head tail ≡ false
  inside h l = sym (damage_beyond head tail h) ∙ le-ltb disk_blocks tail l

  pub range-start : Full d head head
  unfolding all_below
  range-start = let z : head - head ≡ 0 = omega arith in rw z

  pub range_gap : (k : ℕ) → head < tail → tail ≤ disk_blocks → head ≤ k → k < tail → get_or d k 0 ≡ 0 → false ≡ range_holds d head tail
  unfolding range_holds empty
  range_gap k h l i j e =
      let z : head + (k - head) ≡ k = omega arith in
      rw (inside h l)
      (sym (all_below-not (λ x. not (empty (block_at d (head + x)))) (tail - head) (k - head) (omega arith) (rw (z, e))))

  pub range-more : (k : ℕ) → head ≤ k → Full d head k → (get_or d k 0 ≡ 0 → ⊥) → Full d head (k + 1)
  unfolding all_below empty
  range-more k h f e =
      let z : k + 1 - head ≡ suc (k - head) = omega arith in
      let y : head + (k - head) ≡ k = omega arith in
      rw z (and_intro _ _ f (rw (y, ne_eqb _ _ e)))

  pub range-full : (k : ℕ) → head < tail → tail ≤ disk_blocks → k ≤ tail → tail ≤ k → Full d head k → true ≡ range_holds d head tail
  unfolding range_holds
  range-full k h l i j f =
      let z : k ≡ tail = omega arith in
      rw (inside h l) (sym (rw z at f))

-- ---- a check

module _ (d : List ℕ) (a : ℕ) where
  pub range-read : (head tail : ℕ) (r : Bool) → head ≡ first_of (block_at d a) → tail ≡ second_of (block_at d a) → r ≡ range_holds d head tail → r ≡ holds d (Range a)
  unfolding holds
  range-read head tail r p q e = rw (← p, ← q) e

  pub pointer_none : block_at d a ≡ 0 → true ≡ holds d (Pointer a)
  unfolding holds empty
  pointer_none e = rw (eq-eqb _ _ e)

  pub pointer_past : (to : ℕ) → (block_at d a ≡ 0 → ⊥) → to ≡ second_of (block_at d a) → last_block < to → false ≡ holds d (Pointer a)
  unfolding holds empty
  pointer_past to n e h = rw (ne_eqb _ _ n, ← e, lt-leb to last_block h)

  pub pointer_read : (to : ℕ) → (block_at d a ≡ 0 → ⊥) → to ≡ second_of (block_at d a) → to ≤ last_block → not (eqb (get_or d to 0) 0) ≡ holds d (Pointer a)
  unfolding holds empty
  pointer_read to n e h = rw (ne_eqb _ _ n, ← e, le-leb to last_block h)

-- ---- a list of checks

module _ (d : List ℕ) (cs : List Check) where
  pub checks-start : consistent (take 0 cs) d ≡ true
  unfolding consistent all
  checks-start = refl

-- what is known of the form that was matched
pub same_check : (d : List ℕ) (c c' : Check) (r : Bool) → c ≡ c' → r ≡ holds d c' → r ≡ holds d c
same_check d c c' r e q = rw e q

module _ (d : List ℕ) (cs : List Check) (z : Check) where
  pub checks_stop : (n i : ℕ) (b : Bool) → i < n → n ≤ most_checks → length cs ≡ most_checks → b ≡ holds d (get_or cs i z) → not b ≡ true → false ≡ consistent (take n cs) d
  unfolding consistent
  checks_stop n i b h m l e q = go (all (holds d) (take n cs)) refl
    where
      go : (t : Bool) → all (holds d) (take n cs) ≡ t → false ≡ t
      go true p =
          let size : i < length (take n cs) = rw (length-take-le n cs (omega arith)) h in
          sym (not-true b q) ∙ e ∙ ap (holds d) (sym (get_or-take n cs i z h)) ∙ all_true (holds d) p (get_or (take n cs) i z) (index_mem (take n cs) i z size refl)
      go false p = refl

  pub checks-more : (n i : ℕ) (b : Bool) → i < n → n ≤ most_checks → length cs ≡ most_checks → consistent (take i cs) d ≡ true → b ≡ holds d (get_or cs i z) → not b ≡ false
      → consistent (take (i + 1) cs) d ≡ true
  unfolding consistent
  checks-more n i b h m l p e q =
      let size : i < length cs = omega arith in
      rw (add-one i, take-suc cs i z size, all_append (holds d) (take i cs) (get_or cs i z ∷ []))
      (and_intro (all (holds d) (take i cs)) _ p (unfold all in and_intro (holds d (get_or cs i z)) true (sym e ∙ not-false b q) refl))

-- checks asked up to the first that fails: all of them hold exactly if that is at the end
module _ (d : List ℕ) (cs : List Check) (m i : ℕ) where
  pub passed-all : i ≤ m → m ≤ i → consistent (take i cs) d ≡ true → eqb i m ≡ consistent (take m cs) d
  passed-all h l e = let z : i ≡ m = omega arith in eq-eqb i m z ∙ sym (rw z at e)

  pub passed-some : (z : Check) (b : Bool) → i < m → m ≤ most_checks → length cs ≡ most_checks → b ≡ holds d (get_or cs i z) → not b ≡ true → eqb i m ≡ consistent (take m cs) d
  passed-some z b h l n e q = ne_eqb i m (λ (y : i ≡ m). absurd (omega arith)) ∙ checks_stop d cs z m i b h l n e q

pub ruleset checking = (rules, damage_beyond, damage_past, range_none, range_past, range-start, range_gap, range-more, range-full, same_check, range-read, pointer_none, pointer_past, pointer_read)
