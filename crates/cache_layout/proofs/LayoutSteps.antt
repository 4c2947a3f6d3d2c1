-- The steps of the layout and the flags, in the terms of the code.
use mathlib.Core.Path.{◌≡◌, refl, sym, ◌∙◌}
use mathlib.Core.Bool.{Bool, true, false, cond, not}
use mathlib.Core.List.{List}
use Prim.Native.Nat.{ℕ, suc, ◌+◌, ◌-◌, ◌≤◌, ◌<◌}
use native.Mathlib.Numerals.{add-one}
use native.Mathlib.Omega.{arith}
use lib.Dec.{eqb}
use borrow.Author.Rules.{rules}
use borrow.Author.Tests.{eq-eqb, ne_eqb, le-leb, lt-leb, not-true, not-false}
use Rattle.relation.specs.Bits.{with_bit, mask_of}
use Rattle.relation.specs.Lists.{all_below}
use Rattle.relation.proofs.ListLaws.{all_below-not, and_intro}
use Rattle.file_format.specs.Bytes.{byte}
use Rattle.cache_model.specs.State.{flag_place, accepted_count, write_base, stored_in}
use Rattle.cache_layout.specs.Flags.{zeros, flag_fits}

-- ---- tests of all numbers below a bound

module _ (p : ℕ → Bool) where
  pub all-begun : all_below p 0 ≡ true
  unfolding all_below
  all-begun = refl

  pub all_more : (i : ℕ) (b : Bool) → all_below p i ≡ true → b ≡ p i → not b ≡ false → all_below p (i + 1) ≡ true
  unfolding all_below
  all_more i b h e t = rw (add-one i) (and_intro (all_below p i) (p i) h (sym e ∙ not-false b t))

  pub all_done : (i n : ℕ) → i ≤ n → n ≤ i → all_below p i ≡ true → true ≡ all_below p n
  all_done i n a b h =
      let q : i ≡ n = omega arith in
      sym (rw q at h)

  not-all : (n i : ℕ) → i < n → p i ≡ false → false ≡ all_below p n
  not-all n i h f = sym (all_below-not p n i h f)

  pub all_stop : (n i : ℕ) (b : Bool) → i < n → b ≡ p i → not b ≡ true → false ≡ all_below p n
  all_stop n i b h e t = not-all n i h (sym e ∙ not-true b t)

-- ---- stored_mask

module _ (s : List ℕ) where
  pub stored-begun : 0 ≡ mask_of (stored_in s) 0
  unfolding mask_of
  stored-begun = refl

  pub stored_more : (i at mask next : ℕ) → mask ≡ mask_of (stored_in s) i → at ≡ write_base i + flag_place → next ≡ cond (eqb (byte s at) 1) (with_bit mask i) mask
      → next ≡ mask_of (stored_in s) (i + 1)
  unfolding mask_of stored_in
  stored_more i at mask next e p q = q ∙ rw (add-one i, e, p)

  pub stored-done : (n i mask : ℕ) → n ≡ accepted_count s → i ≤ n → n ≤ i → mask ≡ mask_of (stored_in s) i → mask ≡ mask_of (stored_in s) (accepted_count s)
  stored-done n i mask c a b e =
      let q : i ≡ accepted_count s = omega arith in
      rw q at e

pub ruleset flags = (rules, stored-begun, stored_more, stored-done)

-- ---- are_zero

module _ (s : List ℕ) (from : ℕ) where
  pub zero-begun : zeros s from (from - from) ≡ true
  unfolding zeros all_below
  zero-begun = let z : from - from ≡ 0 = omega arith in rw z

  pub zero_stop : (k end : ℕ) → from ≤ k → k < end → (byte s k ≡ 0 → ⊥) → false ≡ zeros s from (end - from)
  unfolding zeros
  zero_stop k end a b f =
      let z : from + (k - from) ≡ k = omega arith in
      not-all (λ x. eqb (byte s (from + x)) 0) (end - from) (k - from) (omega arith) (rw z (ne_eqb (byte s k) 0 f))

  pub zero_more : (k : ℕ) → from ≤ k → zeros s from (k - from) ≡ true → byte s k ≡ 0 → zeros s from (k + 1 - from) ≡ true
  unfolding zeros all_below
  zero_more k a h e =
      let z : k + 1 - from ≡ suc (k - from) = omega arith in
      let y : from + (k - from) ≡ k = omega arith in
      rw z (and_intro _ _ h (rw (y, eq-eqb (byte s k) 0 e)))

  pub zero-done : (k end : ℕ) → k ≤ end → end ≤ k → zeros s from (k - from) ≡ true → true ≡ zeros s from (end - from)
  zero-done k end a b h =
      let q : k ≡ end = omega arith in
      sym (rw q at h)

pub ruleset zeroes = (rules, zero-begun, zero_stop, zero_more, zero-done)

-- ---- flags_fit

module _ (s : List ℕ) (i at : ℕ) (p : at ≡ write_base i + flag_place) where
  pub flags-more : byte s at ≤ 1 → all_below (flag_fits s) i ≡ true → all_below (flag_fits s) (i + 1) ≡ true
  unfolding flag_fits
  flags-more l h = all_more (flag_fits s) i true h (rw (← p) (sym (le-leb (byte s at) 1 l))) refl

  pub flags_stop : (n : ℕ) → n ≡ accepted_count s → i < n → 1 < byte s at → false ≡ all_below (flag_fits s) (accepted_count s)
  unfolding flag_fits
  flags_stop n c h l = not-all (flag_fits s) (accepted_count s) i (omega arith) (rw (← p) (lt-leb (byte s at) 1 l))

pub flags-done : (s : List ℕ) (n i : ℕ) → n ≡ accepted_count s → i ≤ n → n ≤ i → all_below (flag_fits s) i ≡ true → true ≡ all_below (flag_fits s) (accepted_count s)
flags-done s n i c a b h = all_done (flag_fits s) i (accepted_count s) (omega arith) (omega arith) h

pub ruleset fitting = (rules, all-begun, flags-more, flags_stop, flags-done)
