-- What ranks are for: they stand to each other as the epochs do, so that a table of the writes of lower ranks tells how the epochs stand to one.
use mathlib.Core.Path.{◌≡◌, refl, sym, ap, ◌∙◌}
use mathlib.Core.Logic.{⊎_elim}
use mathlib.Core.Bool.{Bool, true, false, cond, not, ◌&&◌, false≢true}
use mathlib.Core.List.{List}
use Prim.Native.Nat.{ℕ, zero, suc, ◌+◌, ◌≤◌, ◌<◌}
use native.Mathlib.Omega.{arith}
use lib.Dec.{eqb, ltb}
use lib.ListN.{get_or}
use borrow.Author.Tests.{eq-eqb, ne_eqb, lt-ltb, le-ltb, ltb-true, ltb-false}
use Rattle.relation.specs.Bits.{mask_of, without}
use Rattle.relation.specs.Tables.{Filled}
use Rattle.relation.proofs.BitLaws.{bit_mask, mask_ext}
use Rattle.relation.proofs.MaskLaws.{mask_none, mask_short}
use Rattle.relation.proofs.ListLaws.{below_suc}
use Rattle.relation.proofs.TableLaws.{filled-all}
use Rattle.model.specs.Limits.{most_held}
use Rattle.model.specs.Rules.{stands}
use Rattle.cache_masks.specs.Masks.{epoch_mask}
use Rattle.cache_masks.specs.Ranks.{smaller, rank_of, rank_at, bounds, SmallRanks, below_mask, standing_in}
use Rattle.cache_masks.proofs.RankSteps.{smaller-begun, smaller-suc}

-- ---- a mask without another

mask_without : (p q : ℕ → Bool) (n : ℕ) → n ≤ 64 → without (mask_of p n) (mask_of q n) ≡ mask_of (λ j. p j && not (q j)) n
unfolding without
mask_without p q n few =
    mask_ext _ _ 64 (λ j h. rw (bit_mask p n j, bit_mask q n j) (go (ltb j n) (p j) (q j))) ∙ sym (mask_short (λ j. p j && not (q j)) n 64 few)
  where
    go : (a x y : Bool) → (a && x) && not (a && y) ≡ a && (x && not y)
    go true x y = refl
    go false x y = refl

-- ---- counting

step-most : (a b : Bool) (x y : ℕ) → (a ≡ true → b ≡ true) → x ≤ y → cond a (x + 1) x ≤ cond b (y + 1) y
step-most true true x y h l = omega arith
step-most true false x y h l = absurd (false≢true (h refl))
step-most false true x y h l = omega arith
step-most false false x y h l = l

step_less : (a b : Bool) (x y : ℕ) → (a ≡ true → b ≡ true) → x < y → cond a (x + 1) x < cond b (y + 1) y
step_less true true x y h l = omega arith
step_less true false x y h l = absurd (false≢true (h refl))
step_less false true x y h l = omega arith
step_less false false x y h l = l

module _ (epochs : List ℕ) where
  -- what is below t is below u
  up : (t u m : ℕ) → t ≤ u → ltb (get_or epochs m 0) t ≡ true → ltb (get_or epochs m 0) u ≡ true
  up t u m l e = let z = ltb-true (get_or epochs m 0) t e in lt-ltb (get_or epochs m 0) u (omega (arith, z, l))

  smaller_rises : (t u m : ℕ) → t ≤ u → smaller epochs t m ≤ smaller epochs u m
  smaller_rises t u zero l = rw (← smaller-begun epochs t, ← smaller-begun epochs u) (omega arith)
  smaller_rises t u (suc m) l = rw (smaller-suc epochs t m, smaller-suc epochs u m) (step-most _ _ _ _ (up t u m l) (smaller_rises t u m l))

  -- strictly so where an entry is between
  smaller_less : (t u j m : ℕ) → t ≤ get_or epochs j 0 → get_or epochs j 0 < u → j < m → smaller epochs t m < smaller epochs u m
  smaller_less t u j zero a b h = absurd (omega arith)
  smaller_less t u j (suc m) a b h =
      rw (smaller-suc epochs t m, smaller-suc epochs u m)
      (⊎_elim
      (λ (z : j ≡ m). let l = smaller_rises t u m (omega arith) in rw (← z, le-ltb (get_or epochs j 0) t a, lt-ltb (get_or epochs j 0) u b, z) (omega (arith, l)))
      (λ (z : j < m). step_less _ _ _ _ (up t u m (omega arith)) (smaller_less t u j m a b z))
      (below_suc j m h))

  -- an entry that is not below t is not counted
  smaller-fewer : (t j m : ℕ) → t ≤ get_or epochs j 0 → j < m → smaller epochs t m < m
  smaller-fewer t j zero a h = absurd (omega arith)
  smaller-fewer t j (suc m) a h =
      rw (smaller-suc epochs t m)
      (⊎_elim
      (λ (z : j ≡ m). let l = most m in rw (← z, le-ltb (get_or epochs j 0) t a, z) (omega (arith, l)))
      (λ (z : j < m). let l = smaller-fewer t j m a z in few (ltb (get_or epochs m 0) t) (smaller epochs t m) l)
      (below_suc j m h))
    where
      few : (b : Bool) (x : ℕ) → x < m → cond b (x + 1) x < suc m
      few true x l = omega arith
      few false x l = omega arith

      most : (m : ℕ) → smaller epochs t m ≤ m
      most zero = rw (← smaller-begun epochs t) (omega arith)
      most (suc m) = rw (smaller-suc epochs t m) (go (ltb (get_or epochs m 0) t) (smaller epochs t m) (most m))
        where
          go : (b : Bool) (x : ℕ) → x ≤ m → cond b (x + 1) x ≤ suc m
          go true x l = omega arith
          go false x l = omega arith

  -- ---- ranks

  rank-small : (i : ℕ) → i < most_held → rank_at epochs i < most_held
  unfolding rank_at rank_of
  rank-small i h = smaller-fewer (get_or epochs i 0) i most_held (omega arith) h

  rank_below : (i j : ℕ) → j < most_held → get_or epochs j 0 < get_or epochs i 0 → rank_at epochs j < rank_at epochs i
  unfolding rank_at rank_of
  rank_below i j h l = smaller_less (get_or epochs j 0) (get_or epochs i 0) j most_held (omega arith) l h

  rank_most : (i j : ℕ) → get_or epochs i 0 ≤ get_or epochs j 0 → rank_at epochs i ≤ rank_at epochs j
  unfolding rank_at rank_of
  rank_most i j l = smaller_rises (get_or epochs i 0) (get_or epochs j 0) most_held l

  rank_less : (i j : ℕ) → j < most_held → ltb (rank_at epochs j) (rank_at epochs i) ≡ ltb (get_or epochs j 0) (get_or epochs i 0)
  rank_less i j h = go (ltb (get_or epochs j 0) (get_or epochs i 0)) refl
    where
      go : (b : Bool) → ltb (get_or epochs j 0) (get_or epochs i 0) ≡ b → ltb (rank_at epochs j) (rank_at epochs i) ≡ b
      go true q = lt-ltb (rank_at epochs j) (rank_at epochs i) (rank_below i j h (ltb-true (get_or epochs j 0) (get_or epochs i 0) q))
      go false q = le-ltb (rank_at epochs j) (rank_at epochs i) (rank_most i j (ltb-false (get_or epochs j 0) (get_or epochs i 0) q))

  pub ranks-small : (n : ℕ) (ranks : List ℕ) → n ≤ most_held → Filled (rank_at epochs) n ranks → SmallRanks n ranks
  ranks-small n ranks few filled = record { at = λ i h. rw (filled.at i h) (rank-small i (omega arith)) }

-- the same at the end of a loop
pub ranks-done : (epochs ranks : List ℕ) (i n : ℕ) → Filled (rank_at epochs) i ranks → i ≤ n → n ≤ i → n ≤ most_held → SmallRanks n ranks
ranks-done epochs ranks i n filled a b few = ranks-small epochs n ranks few (filled-all (rank_at epochs) i n ranks filled a b)

-- ---- how epochs stand, by ranks

not-above : (a b : ℕ) → ltb a (b + 1) ≡ not (ltb b a)
not-above a b = go (ltb b a) refl
  where
    go : (t : Bool) → ltb b a ≡ t → ltb a (b + 1) ≡ not t
    go true e = let z = ltb-true b a e in le-ltb a (b + 1) (omega (arith, z))
    go false e = let z = ltb-false b a e in lt-ltb a (b + 1) (omega (arith, z))

neither : (a b : ℕ) → not (ltb a b) && not (ltb b a) ≡ eqb a b
neither a b = go (ltb a b) (ltb b a) refl refl
  where
    go : (s t : Bool) → ltb a b ≡ s → ltb b a ≡ t → not s && not t ≡ eqb a b
    go true t p q = let z = ltb-true a b p in sym (ne_eqb a b (λ (e : a ≡ b). absurd (omega (arith, z, e))))
    go false true p q = let z = ltb-true b a q in sym (ne_eqb a b (λ (e : a ≡ b). absurd (omega (arith, z, e))))
    go false false p q = let y = ltb-false a b p in let z = ltb-false b a q in sym (eq-eqb a b (omega (arith, y, z)))

not-not : (b : Bool) → not (not b) ≡ b
not-not true = refl
not-not false = refl

module _ (epochs ranks belows : List ℕ) (n : ℕ) (few : n ≤ most_held) (filled : Filled (rank_at epochs) n ranks)
    (table : Filled (below_mask ranks n) bounds belows) where
  module _ (i : ℕ) (h : i < n) where
    -- entry j is of a lower rank than entry i; it is of no higher one
    lower : (j : ℕ) → j < n → ltb (get_or ranks j 0) (get_or ranks i 0) ≡ ltb (get_or epochs j 0) (get_or epochs i 0)
    lower j l = rw (filled.at j l, filled.at i h) (rank_less epochs i j (omega arith))

    no_higher : (j : ℕ) → j < n → ltb (get_or ranks j 0) (get_or ranks i 0 + 1) ≡ not (ltb (get_or epochs i 0) (get_or epochs j 0))
    no_higher j l =
        let e : ltb (get_or ranks i 0) (get_or ranks j 0) ≡ ltb (get_or epochs i 0) (get_or epochs j 0) = rw (filled.at j l, filled.at i h) (rank_less epochs j i (omega arith)) in
        not-above (get_or ranks j 0) (get_or ranks i 0) ∙ ap not e

    small : get_or ranks i 0 < most_held
    small = (ranks-small epochs n ranks few filled).at i h

    pub standing-ranks : (p : ℕ) → standing_in belows (get_or ranks i 0) p ≡ epoch_mask epochs p (get_or epochs i 0) n
    unfolding standing_in epoch_mask stands below_mask
    standing-ranks zero =
        let l = small in
        rw (table.at (get_or ranks i 0 + 1) (omega (arith, l)), table.at (get_or ranks i 0) (omega (arith, l)))
        (mask_without _ _ n few ∙ mask_ext _ _ n (λ j k. rw (no_higher j k, lower j k) (neither (get_or epochs i 0) (get_or epochs j 0))))
    standing-ranks (suc zero) =
        let l = small in
        table.at (get_or ranks i 0) (omega (arith, l)) ∙ mask_ext _ _ n lower
    standing-ranks (suc (suc zero)) =
        let l = small in
        rw (table.at most_held (omega arith), table.at (get_or ranks i 0 + 1) (omega (arith, l)))
        (mask_without _ _ n few
        ∙ mask_ext _ _ n (λ j k. rw (lt-ltb (get_or ranks j 0) most_held ((ranks-small epochs n ranks few filled).at j k), no_higher j k)
        (not-not (ltb (get_or epochs i 0) (get_or epochs j 0)))))
    standing-ranks (suc (suc (suc p))) = mask_none n
