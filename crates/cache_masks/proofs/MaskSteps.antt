-- Masks of a column: one law for each return and each turn of a loop.
use mathlib.Core.Path.{◌≡◌, refl, ap, ◌∙◌}
use mathlib.Core.Bool.{Bool, cond}
use mathlib.Core.List.{List}
use Prim.Native.Nat.{ℕ, suc, ◌+◌, ◌-◌, ◌≤◌, ◌<◌}
use native.Mathlib.Numerals.{add-one}
use native.Mathlib.Omega.{arith}
use lib.Dec.{eqb, ltb}
use lib.ListN.{length, get_or, set}
use borrow.Author.Rules.{rules}
use borrow.Author.Tests.{eq-eqb, ne_eqb}
use Rattle.relation.specs.Bits.{with_bit, mask_of}
use Rattle.relation.specs.Tables.{Filled}
use Rattle.relation.proofs.BitLaws.{mask_ext}
use Rattle.relation.proofs.ListLaws.{get_or_other}
use Rattle.relation.proofs.TableLaws.{filled_none, filled_more, filled-all}
use Rattle.model.specs.Limits.{most_held}
use Rattle.model.specs.Rules.{stands}
use Rattle.cache_masks.specs.Masks.{equal_mask, same_mask, same_at, epoch_mask, Compared}

-- ---- same

module _ {A : Type 0} (eq : A → A → Bool) (column : List A) (x : A) where
  pub same-begun : 0 ≡ equal_mask eq column x 0
  unfolding equal_mask mask_of
  same-begun = refl

  pub same_more : (j mask next : ℕ) (y : A) (b : Bool) → j < length column → y ≡ get_or column j y → b ≡ eq y x → mask ≡ equal_mask eq column x j
      → next ≡ cond b (with_bit mask j) mask → next ≡ equal_mask eq column x (j + 1)
  unfolding equal_mask mask_of
  same_more j mask next y b h e q p f = f ∙ rw (add-one j, q, p, e ∙ get_or_other column j y x h)

-- at numbers
pub same_numbers : (column : List ℕ) (x n : ℕ) → n ≤ length column → equal_mask eqb column x n ≡ same_mask column x n
unfolding equal_mask same_mask
same_numbers column x n few = mask_ext _ _ n (λ j h. rw (get_or_other column j x 0 (omega arith)))

module _ (column : List ℕ) (x : ℕ) where
  pub mask-begun : 0 ≡ same_mask column x 0
  unfolding same_mask mask_of
  mask-begun = refl

  pub same-suc : (j : ℕ) → same_mask column x (suc j) ≡ cond (eqb (get_or column j 0) x) (with_bit (same_mask column x j) j) (same_mask column x j)
  unfolding same_mask mask_of
  same-suc j = refl

-- ---- last_same, fill_same

module _ (column : List ℕ) (x n j : ℕ) (some : 0 < j) (known : same_mask column x n ≡ same_mask column x j) where
  pub last_found : (table : List ℕ) → Filled (same_at column) n table → j ≤ n → get_or column (j - 1) 0 ≡ x → get_or table (j - 1) 0 ≡ same_mask column x n
  unfolding same_at
  last_found table filled l e =
      let z : suc (j - 1) ≡ j = omega arith in
      filled.at (j - 1) (omega arith) ∙ rw (e, z, known)

  pub last-other : (get_or column (j - 1) 0 ≡ x → ⊥) → same_mask column x n ≡ same_mask column x (j - 1)
  last-other d =
      let z : j ≡ suc (j - 1) = omega arith in
      known ∙ ap (same_mask column x) z ∙ same-suc column x (j - 1) ∙ rw (ne_eqb (get_or column (j - 1) 0) x d)

pub last_none : (column : List ℕ) (x n j : ℕ) → j ≤ 0 → same_mask column x n ≡ same_mask column x j → 0 ≡ same_mask column x n
last_none column x n j l e =
    let z : j ≡ 0 = omega arith in
    rw (e, z) (mask-begun column x)

pub same_next : (column table : List ℕ) (i n s r : ℕ) → i < n → n ≤ most_held → length table ≡ most_held → Filled (same_at column) i table
    → s ≡ same_mask column (get_or column i 0) i → r ≡ with_bit s i → Filled (same_at column) (i + 1) (set table i r)
unfolding same_at
same_next column table i n s r h few all filled e q =
    filled_more (same_at column) i table r filled (omega arith)
    (q ∙ rw (e, same-suc column (get_or column i 0) i, eq-eqb (get_or column i 0) (get_or column i 0) refl))

pub ruleset last_steps = (rules, last_found, last-other, last_none, same_next, filled_none, filled-all)

-- ---- compare_epochs

module _ (epochs : List ℕ) (t : ℕ) where
  pub epoch-begun : (p : ℕ) → 0 ≡ epoch_mask epochs p t 0
  unfolding epoch_mask mask_of
  epoch-begun p = refl

  epoch-done : (p j n mask : ℕ) → j ≤ n → n ≤ j → mask ≡ epoch_mask epochs p t j → mask ≡ epoch_mask epochs p t n
  epoch-done p j n mask a b e =
      let q : j ≡ n = omega arith in
      rw q at e

  module _ (j mask next : ℕ) where
    pub equal-more : mask ≡ epoch_mask epochs 0 t j → next ≡ cond (eqb t (get_or epochs j 0)) (with_bit mask j) mask → next ≡ epoch_mask epochs 0 t (j + 1)
    unfolding epoch_mask mask_of stands
    equal-more p f = f ∙ rw (add-one j, p)

    pub less_more : mask ≡ epoch_mask epochs 1 t j → next ≡ cond (ltb (get_or epochs j 0) t) (with_bit mask j) mask → next ≡ epoch_mask epochs 1 t (j + 1)
    unfolding epoch_mask mask_of stands
    less_more p f = f ∙ rw (add-one j, p)

    pub greater_more : mask ≡ epoch_mask epochs 2 t j → next ≡ cond (ltb t (get_or epochs j 0)) (with_bit mask j) mask → next ≡ epoch_mask epochs 2 t (j + 1)
    unfolding epoch_mask mask_of stands
    greater_more p f = f ∙ rw (add-one j, p)

  pub epochs_compared : (j n x y z : ℕ) → j ≤ n → n ≤ j → x ≡ epoch_mask epochs 0 t j → y ≡ epoch_mask epochs 1 t j → z ≡ epoch_mask epochs 2 t j
      → Compared epochs t n (record { equal = x; less = y; greater = z })
  unfolding Compared
  epochs_compared j n x y z a b p q r = (epoch-done 0 j n x a b p, epoch-done 1 j n y a b q, epoch-done 2 j n z a b r)

pub ruleset comparing = (rules, epoch-begun, equal-more, less_more, greater_more, epochs_compared)
