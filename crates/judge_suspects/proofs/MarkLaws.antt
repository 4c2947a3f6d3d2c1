-- The writes by whose blocks a check can fail, marked write by write and check by check.
use mathlib.Core.Path.{◌≡◌, ◌∙◌}
use mathlib.Core.Bool.{Bool, true, false, cond, not, ◌&&◌, or-false}
use mathlib.Core.List.{List, [], ◌∷◌}
use Prim.Native.Nat.{ℕ, ◌+◌, ◌≤◌, ◌<◌}
use native.Mathlib.Numerals.{add-one}
use lib.Bits.{bit_or}
use lib.Dec.{eqb}
use lib.ListN.{length, get_or, take}
use lib.Seq.{take-suc}
use Rattle.std.proofs.lemmas.List.{take_all}
use borrow.Author.Rules.{rules}
use borrow.Author.Tests.{eq-eqb, ne_eqb}
use Rattle.relation.specs.Bits.{bit, with_bit, mask_of}
use Rattle.relation.specs.Lists.{any}
use Rattle.relation.proofs.BitLaws.{mask_ext}
use Rattle.relation.proofs.ListLaws.{any_append}
use Rattle.relation.proofs.MaskLaws.{mask_none, mask_or, mask_begun, mask_more, mask_all}
use Rattle.model.specs.declared.Check.{Check}
use Rattle.model.specs.declared.Check.TheVariants.{Range, Pair, Pointer}
use Rattle.model.specs.Disk.{empty}
use Rattle.judge_disks.specs.Packed.{unpacked}
use Rattle.judge_suspects.specs.Suspects.{opens, spoils, opens_in, spoils_in, MarkedFor, Marked, mates_of}

-- ---- one check and one write

pub at_other : (x a : ℕ) (too : Bool) → (x ≡ a → ⊥) → false ≡ eqb x a && too
at_other x a too d = rw (ne_eqb x a d)

pub at_same : (x a : ℕ) (too : Bool) → x ≡ a → too ≡ eqb x a && too
at_same x a too e = rw (eq-eqb x a e)

-- one law for each form of a check
module _ (c : Check) (x y v u a : ℕ) (at : x ≡ y) (is : v ≡ u) where
  pub opens-range : c ≡ Range a → eqb x a ≡ opens c y u
  unfolding opens
  opens-range e = rw (e, at)

  pub opens_pair : (own b w : ℕ) (r : Bool) → c ≡ Pair a own b w → r ≡ eqb x a && eqb v own → r ≡ opens c y u
  unfolding opens
  opens_pair own b w r e q = rw (e, ← at, ← is) q

  pub opens_pointer : (r : Bool) → c ≡ Pointer a → r ≡ eqb x a && not (eqb v 0) → r ≡ opens c y u
  unfolding opens empty
  opens_pointer r e q = rw (e, ← at, ← is) q

  pub spoils-range : c ≡ Range a → eqb v 0 ≡ spoils c y u
  unfolding spoils empty
  spoils-range e = rw (e, is)

  pub spoils_pair : (own b w : ℕ) (r : Bool) → c ≡ Pair a own b w → r ≡ eqb x b && not (eqb v w) → r ≡ spoils c y u
  unfolding spoils
  spoils_pair own b w r e q = rw (e, ← at, ← is) q

  pub spoils_pointer : c ≡ Pointer a → eqb v 0 ≡ spoils c y u
  unfolding spoils empty
  spoils_pointer e = rw (e, is)

-- ---- all writes

module _ (column : List ℕ) (c : Check) where
  pub marked-begun : MarkedFor column 0 c 0 0
  marked-begun = record { own_is = mask_begun (opens_in column c); other-is = mask_begun (spoils_in column c) }

  pub marked-write : (i own other more others : ℕ) (a b : Bool) → MarkedFor column i c own other
      → a ≡ opens c (unpacked (get_or column i 0)).address (unpacked (get_or column i 0)).block → b ≡ spoils c (unpacked (get_or column i 0)).address (unpacked (get_or column i 0)).block
      → more ≡ cond a (with_bit own i) own → others ≡ cond b (with_bit other i) other → MarkedFor column (i + 1) c more others
  marked-write i own other more others a b g e q x y = record {
    own_is = mask_more (opens_in column c) i own more a g.own_is (unfold opens_in in e) x;
    other-is = mask_more (spoils_in column c) i other others b g.other-is (unfold spoils_in in q) y;
  }

  pub marked-writes : (i n own other : ℕ) → MarkedFor column i c own other → i ≤ n → n ≤ i → MarkedFor column n c own other
  marked-writes i n own other g h l = record { own_is = mask_all (opens_in column c) i n own g.own_is h l; other-is = mask_all (spoils_in column c) i n other g.other-is h l }

pub ruleset marking = (rules, at_other, at_same, opens-range, opens_pair, opens_pointer, spoils-range, spoils_pair, spoils_pointer)

pub ruleset masking = (rules, marked-begun, marked-write, marked-writes)

-- ---- all checks

-- the mask of those that pass for some check: with one check more
any-more : (p : Check → ℕ → Bool) (n : ℕ) (checks : List Check) (z : Check) (k : ℕ) → k < length checks
    → bit_or (mask_of (λ i. any (λ c. p c i) (take k checks)) n) (mask_of (p (get_or checks k z)) n) ≡ mask_of (λ i. any (λ c. p c i) (take (k + 1) checks)) n
any-more p n checks z k h =
    mask_or _ _ n
    ∙ mask_ext _ _ n
    (λ j l. rw (add-one k, take-suc checks k z h, any_append (λ c. p c j) (take k checks) (get_or checks k z ∷ [])) (unfold any in rw (or-false (p (get_or checks k z) j))))

module _ (column : List ℕ) (n : ℕ) (checks : List Check) where
  pub marked-none : Marked column n (take 0 checks) 0 0
  marked-none = record { own_is = unfold any in mask_none n; other-is = unfold any in mask_none n }

  pub marked_more : (z : Check) (k own other more others : ℕ) → Marked column n (take k checks) own other → k < length checks → MarkedFor column n (get_or checks k z) more others
      → Marked column n (take (k + 1) checks) (bit_or own more) (bit_or other others)
  marked_more z k own other more others g h f = record {
    own_is = rw (g.own_is, f.own_is) (any-more (opens_in column) n checks z k h);
    other-is = rw (g.other-is, f.other-is) (any-more (spoils_in column) n checks z k h);
  }

  pub marked_all : (k own other : ℕ) → Marked column n (take k checks) own other → length checks ≤ k → Marked column n checks own other
  marked_all k own other g h = rw (take_all k checks h) at g

pub ruleset checking = (rules, marked-none, marked_more, marked_all)

-- ---- mates

pub mask_on : (on : Bool) (mask : ℕ) → on ≡ true → mask ≡ cond on mask 0
mask_on on mask e = rw e

pub mask_off : (on : Bool) (mask : ℕ) → on ≡ false → 0 ≡ cond on mask 0
mask_off on mask e = rw e

pub mates_are : (own other h a b : ℕ) (p q : Bool) → p ≡ bit own h → q ≡ bit other h → a ≡ cond p other 0 → b ≡ cond q own 0 → bit_or a b ≡ mates_of own other h
unfolding mates_of
mates_are own other h a b p q e f g k = rw (g, k, e, f)

pub ruleset mating = (rules, mask_on, mask_off, mates_are)
