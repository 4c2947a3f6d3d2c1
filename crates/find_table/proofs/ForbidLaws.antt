-- For each schedule the candidates that make it invalid: write by write, and of each write schedule by schedule.
use mathlib.Core.Path.{◌≡◌, refl, sym, ap, ap₂, subst, ◌∙◌}
use mathlib.Core.Logic.{⊎_elim}
use mathlib.Core.Bool.{Bool, true, false, cond, not, or-false, ◌&&◌, ◌||◌, false≢true}
use mathlib.Core.List.{List, [], ◌∷◌}
use Prim.Native.Nat.{ℕ, zero, suc, ◌+◌, ◌-◌, ◌*◌, ◌%◌, ◌^◌, ◌≤◌, ◌<◌}
use native.Mathlib.Nat.{pow-suc, zero-add}
use native.Mathlib.Numerals.{add-one}
use native.Mathlib.Omega.{arith}
use lib.Bits.{bit_or, or_lt}
use lib.Dec.{ltb}
use lib.ListN.{length, get_or, set, length-set}
use lib.Pow.{pow_mono, pow_pos}
use lib.Seq.{get_or-set_same, get_or-set_other}
use borrow.Author.Tests.{ltb-true, ltb-false, lt-ltb}
use Rattle.relation.specs.Bits.{bit, with_bit, mask_of}
use Rattle.relation.specs.Lists.{all_below, any_below, any}
use Rattle.relation.specs.Union.{union, rows_on, Unites}
use Rattle.relation.proofs.BitLaws.{power_is, bit-zero, bit-or, bit_mask, mask_below, mask_ext, bits_equal}
use Rattle.relation.proofs.ListLaws.{untrue, or_none-left, or_none_right, below_suc, any_below-true, any_below-false, all_below-true, all_below_intro}
use Rattle.relation.proofs.MaskLaws.{implies, implied}
use Rattle.relation.proofs.UnionLaws.{bit_past, union_ext, bit_top, bit-under, mask_others, others_bits, union-rows, union-below, bit-union}
use Rattle.model.specs.Limits.{most_found, found_schedules, most_candidates, candidate_sets}
use Rattle.model.specs.declared.Rule.{Rule}
use Rattle.model.specs.declared.Write.{Write}
use Rattle.model.specs.Rules.{Label, label, matches, depends_on}
use Rattle.model.specs.Cyclic.{no_rule, rule_at}
use Rattle.model.specs.Schedule.{label_at, valid}
use Rattle.judge_disks.specs.Packed.{labelled, Labels}
use Rattle.find_laws.specs.Hit.{allows}
use Rattle.find_table.specs.Table.{half_schedules, matching, pairs, Facing, unflagged, forbids, Forbids, Widened, Sets, Bounded, set_of}

-- ---- powers of two in a word

pub power : (n : ℕ) → n ≤ most_candidates → 1 * 2 ^ n % 18446744073709551616 ≡ 2 ^ n
power n h = power_is n (omega arith)

pub power_most : (n : ℕ) → n ≤ most_candidates → 1 * 2 ^ n % 18446744073709551616 ≤ candidate_sets
power_most n h = rw (power n h) (pow_mono {i = n} {j = most_candidates} h)

pub power_some : (n : ℕ) → n ≤ most_candidates → 1 ≤ 1 * 2 ^ n % 18446744073709551616
power_some n h = rw (power n h) (pow_pos n)

-- of the writes of two halves, and of all but the last
module _ (near far : ℕ) (h : near + far ≤ most_found) where
  pub power_near : 1 * 2 ^ near % 18446744073709551616 ≡ 2 ^ near
  power_near = power near (omega arith)

  pub power_far : 1 * 2 ^ far % 18446744073709551616 ≡ 2 ^ far
  power_far = power far (omega arith)

  pub near-most : 1 * 2 ^ near % 18446744073709551616 ≤ found_schedules
  near-most = rw power_near (pow_mono {i = near} {j = most_found} (omega arith))

  pub far_most : 1 * 2 ^ far % 18446744073709551616 ≤ found_schedules
  far_most = rw power_far (pow_mono {i = far} {j = most_found} (omega arith))

module _ (n : ℕ) (h : n < most_found) where
  pub power_half : 1 * 2 ^ n % 18446744073709551616 ≡ 2 ^ n
  power_half = power n (omega arith)

  pub half-most : 1 * 2 ^ n % 18446744073709551616 ≤ half_schedules
  half-most = rw power_half (pow_mono {i = n} {j = most_found - 1} (omega arith))

-- ---- matching

pub matching-none : (cs : List Rule) (l m : Label) → 0 ≡ matching cs l m 0
unfolding matching mask_of
matching-none cs l m = refl

pub matching-more : (cs : List Rule) (one other c mask next n t m u : ℕ) (b : Bool) → mask ≡ matching cs (labelled one) (labelled other) c
    → n ≡ (labelled one).name → t ≡ (labelled one).epoch → m ≡ (labelled other).name → u ≡ (labelled other).epoch
    → b ≡ matches (get_or cs c (record { first = 0; predicate = 0; second = 0 })) (label n t) (label m u) → next ≡ cond b (with_bit mask c) mask
    → next ≡ matching cs (labelled one) (labelled other) (c + 1)
unfolding matching mask_of labelled no_rule
matching-more cs one other c mask next n t m u b k en et em eu e q = q ∙ rw (add-one c, k, e, en, et, em, eu)

pub matching-all : (cs : List Rule) (l m : Label) (c n mask : ℕ) → mask ≡ matching cs l m c → c ≤ n → n ≤ c → mask ≡ matching cs l m n
matching-all cs l m c n mask k h g = let z : c ≡ n = omega arith in rw z at k

-- ---- face

module _ (cs : List Rule) (n : ℕ) (column : List ℕ) (k : ℕ) where
  abbrev pair : ℕ → ℕ → ℕ
  pair = pairs cs n column

  pub facing_none : (out back : List ℕ) → length out ≡ 64 → length back ≡ 64 → Facing pair k 0 out back
  facing_none out back a b = record { out_size = a; back-size = b; out_at = λ j h. absurd (omega arith); back_at = λ j h. absurd (omega arith) }

  pub facing_more : (j : ℕ) (out back : List ℕ) (r q : ℕ) → Facing pair k j out back → j < 64
      → r ≡ matching cs (labelled (get_or column k 0)) (labelled (get_or column j 0)) n → q ≡ matching cs (labelled (get_or column j 0)) (labelled (get_or column k 0)) n
      → Facing pair k (j + 1) (set out j r) (set back j q)
  unfolding pairs
  facing_more j out back r q f h e g =
      record {
        out_size = length-set out j r ∙ f.out_size;
        back-size = length-set back j q ∙ f.back-size;
        out_at = λ i l. ⊎_elim
            (λ (z : i ≡ j). rw z (get_or-set_same out j r 0 (let s = f.out_size in omega arith) ∙ e))
            (λ (z : i < j). get_or-set_other out j i r 0 (λ (y : i ≡ j). absurd (omega arith)) ∙ f.out_at i z)
            (below_suc i j (omega arith));
        back_at = λ i l. ⊎_elim
            (λ (z : i ≡ j). rw z (get_or-set_same back j q 0 (let s = f.back-size in omega arith) ∙ g))
            (λ (z : i < j). get_or-set_other back j i q 0 (λ (y : i ≡ j). absurd (omega arith)) ∙ f.back_at i z)
            (below_suc i j (omega arith));
      }

  pub facing_all : (j : ℕ) (out back : List ℕ) → Facing pair k j out back → j ≤ k → k ≤ j → Facing pair k k out back
  facing_all j out back f h l = let z : j ≡ k = omega arith in subst (λ (i : ℕ). Facing pair k i out back) z f

-- ---- widen

pub widen_inside : (l : List ℕ) (i v s size : ℕ) → length l ≡ found_schedules → s ≤ size → size ≤ half_schedules → s < length (set l i v)
widen_inside l i v s size n h m = let k = length-set l i v in omega arith

module _ (outs backs : List ℕ) (k : ℕ) (old : List ℕ) where
  pub widened_none : Widened outs backs k old old 0
  widened_none = record { without = λ s h. absurd (omega arith); rest = λ s h l. refl; with_it = λ s h. absurd (omega arith) }

  pub widened_more : (new : List ℕ) (size s : ℕ) → Widened outs backs k old new s → size ≡ 2 ^ k → s < size → size ≤ half_schedules → length new ≡ found_schedules
      → Widened outs backs k old (set (set new (size + s) (bit_or (get_or new s 0) (get_or outs (size - 1 - s) 0))) s (bit_or (get_or new s 0) (get_or backs s 0))) (s + 1)
  widened_more new size s w e h m l =
      record {
        without = λ x i. ⊎_elim
            (λ (z : x ≡ s). rw z (get_or-set_same mid s b 0 (let n = length-set new (size + s) a in omega arith) ∙ ap (λ (y : ℕ). bit_or y (get_or backs s 0)) was))
            (λ (z : x < s). other x (omega arith) (omega arith) ∙ w.without x z)
            (below_suc x s (omega arith));
        rest = λ x i j. other x (omega arith) (omega arith) ∙ w.rest x (omega arith) j;
        with_it = λ x i. ⊎_elim
            (λ (z : x ≡ s). rw (z, ← e) (get_or-set_other mid s (size + s) b 0 (λ (y : size + s ≡ s). absurd (omega arith)) ∙ get_or-set_same new (size + s) a 0 (omega arith) ∙ ap (λ (y : ℕ). bit_or y (get_or outs (size - 1 - s) 0)) was))
            (λ (z : x < s). other (2 ^ k + x) (omega arith) (omega arith) ∙ w.with_it x z)
            (below_suc x s (omega arith));
      }
    where
      a : ℕ
      a = bit_or (get_or new s 0) (get_or outs (size - 1 - s) 0)

      b : ℕ
      b = bit_or (get_or new s 0) (get_or backs s 0)

      mid : List ℕ
      mid = set new (size + s) a

      was : get_or new s 0 ≡ get_or old s 0
      was = w.rest s (omega arith) (omega arith)

      other : (x : ℕ) → (x ≡ s → ⊥) → (x ≡ size + s → ⊥) → get_or (set mid s b) x 0 ≡ get_or new x 0
      other x p q = get_or-set_other mid s x b 0 p ∙ get_or-set_other new (size + s) x a 0 q

  pub widened-all : (new : List ℕ) (size s : ℕ) → Widened outs backs k old new s → size ≡ 2 ^ k → s ≤ size → size ≤ s → Widened outs backs k old new (2 ^ k)
  widened-all new size s w e h g = let z : s ≡ 2 ^ k = omega arith in subst (Widened outs backs k old new) z w

-- ---- forbid

pub unite-fits : (l : List ℕ) (k n : ℕ) → length l ≡ half_schedules → k < n → n ≤ most_found → 2 ^ k ≤ length l
unite-fits l k n e h m = let p = pow_mono {i = k} {j = most_found - 1} (omega arith) in omega arith

forbids_ext : (pair : ℕ → ℕ → ℕ) (s t k : ℕ) → ((i : ℕ) → i < k → bit s i ≡ bit t i) → forbids pair s k ≡ forbids pair t k
unfolding forbids unflagged
forbids_ext pair s t zero h = refl
forbids_ext pair s t (suc k) h =
    rw (
      forbids_ext pair s t k (λ i l. h i (omega arith)),
      h k (omega arith),
      union_ext (λ i. pair i k) s t k (λ i l. h i (omega arith)),
      mask_ext (λ j. not (bit s j)) (λ j. not (bit t j)) k (λ i l. ap not (h i (omega arith))),
    )

module _ (pair : ℕ → ℕ → ℕ) where
  pub forbids-none : (t : List ℕ) → 0 < length t → Forbids pair 0 (set t 0 0)
  unfolding forbids
  forbids-none t n = record { at = λ s h. let z : s ≡ 0 = omega arith in rw z (get_or-set_same t 0 0 0 n) }

  pub forbids-more : (k : ℕ) (out back outs backs old new : List ℕ) → Forbids pair k old → Facing pair k k out back → Unites out 0 k outs → Unites back 0 k backs
      → Widened outs backs k old new (2 ^ k) → Forbids pair (k + 1) new
  unfolding forbids
  forbids-more k out back outs backs old new f g u v w =
      record { at = λ s h. rw (add-one k) (go s (rw (add-one k) at h) (ltb s (2 ^ k)) refl) }
    where
      go : (s : ℕ) → s < 2 ^ suc k → (b : Bool) → ltb s (2 ^ k) ≡ b
          → get_or new s 0 ≡ bit_or (forbids pair s k) (cond (bit s k) (union (pair k) (unflagged s k) k) (union (λ i. pair i k) s k))
      go s h true t =
          let l : s < 2 ^ k = ltb-true s (2 ^ k) t in
          rw (bit_past s k l) (w.without s l ∙ ap₂ bit_or (f.at s l) (v.at s l ∙ union-rows (rows_on back 0) (λ i. pair i k) s k (λ i m. rw (zero-add i) (g.back_at i m))))
      go s h false t =
          let p = pow-suc 2 k in
          let q = ltb-false s (2 ^ k) t in
          let x = s - 2 ^ k in
          let l : x < 2 ^ k = omega arith in
          let z : s ≡ 2 ^ k + x = omega arith in
          let m : unflagged (2 ^ k + x) k ≡ 2 ^ k - 1 - x = unfold unflagged in (mask_ext (λ j. not (bit (2 ^ k + x) j)) (λ j. not (bit x j)) k (λ j i. ap not (bit-under x k j l i)) ∙ sym (others_bits x k l)) in
          rw (z, bit_top x k l, m, forbids_ext pair (2 ^ k + x) x k (λ i j. bit-under x k i l j))
          (w.with_it x l ∙ ap₂ bit_or (f.at x l) (u.at (2 ^ k - 1 - x) (omega arith) ∙ union-rows (rows_on out 0) (pair k) (2 ^ k - 1 - x) k (λ i m. rw (zero-add i) (g.out_at i m))))

  pub forbids-all : (k n : ℕ) (t : List ℕ) → Forbids pair k t → k ≤ n → n ≤ k → Forbids pair n t
  forbids-all k n t f h l = let z : k ≡ n = omega arith in subst (λ (i : ℕ). Forbids pair i t) z f

-- ---- a candidate is in the union exactly if it makes the schedule invalid

module _ (pair : ℕ → ℕ → ℕ) (s c : ℕ) where
  -- write i does not want write j, by candidate c, or has it
  abbrev served : ℕ → ℕ → Bool
  served i j = not (bit s i) || (not (bit (pair i j) c) || bit s j)

  abbrev Served : ℕ → Type 0
  Served k = (i j : ℕ) → i < k → j < k → served i j ≡ true

  -- write k and those before it
  step : (k : ℕ) → bit (cond (bit s k) (union (pair k) (unflagged s k) k) (union (λ i. pair i k) s k)) c ≡ false → Served k → Served (suc k)
  unfolding unflagged
  step k e h i j a b = go (bit s k) refl e
    where
      flag : Bool → Type 0
      flag t = bit (cond t (union (pair k) (unflagged s k) k) (union (λ i. pair i k) s k)) c ≡ false

      self : (x y : Bool) → not x || (not y || x) ≡ true
      self true true = refl
      self true false = refl
      self false y = refl

      front : (x y z : Bool) → z ≡ true → not x || (not y || z) ≡ true
      front true true z e = e
      front true false z e = refl
      front false y z e = refl

      back : (x y z : Bool) → x ≡ false → not x || (not y || z) ≡ true
      back x y z e = rw e

      lacks : (x y z : Bool) → not z && y ≡ false → not x || (not y || z) ≡ true
      lacks true true true e = refl
      lacks true true false e = absurd (false≢true (sym e))
      lacks true false z e = refl
      lacks false y z e = refl

      wants : (x y z : Bool) → x && y ≡ false → not x || (not y || z) ≡ true
      wants true true z e = absurd (false≢true (sym e))
      wants true false z e = refl
      wants false y z e = refl

      go : (t : Bool) → bit s k ≡ t → flag t → served i j ≡ true
      go t g f = ⊎_elim
          (λ (p : i ≡ k). ⊎_elim
          (λ (q : j ≡ k). rw (p, q) (self (bit s k) (bit (pair k k) c)))
          (λ (q : j < k). rw p (row t g f j q))
          (below_suc j k b))
          (λ (p : i < k). ⊎_elim
          (λ (q : j ≡ k). rw q (column t g f i p))
          (λ (q : j < k). h i j p q)
          (below_suc j k b))
          (below_suc i k a)
        where
          row : (t : Bool) → bit s k ≡ t → flag t → (j : ℕ) → j < k → served k j ≡ true
          row true g f j q =
              let u : bit (unflagged s k) j ≡ not (bit s j) = bit_mask (λ j. not (bit s j)) k j ∙ rw (lt-ltb j k q) in
              lacks (bit s k) (bit (pair k j) c) (bit s j)
              (ap (λ (b : Bool). b && bit (pair k j) c) (sym u)
              ∙ any_below-false (λ j. bit (unflagged s k) j && bit (pair k j) c) k (sym (bit-union (pair k) (unflagged s k) k c) ∙ f) j q)
          row false g f j q = back (bit s k) (bit (pair k j) c) (bit s j) g

          column : (t : Bool) → bit s k ≡ t → flag t → (i : ℕ) → i < k → served i k ≡ true
          column true g f i q = front (bit s i) (bit (pair i k) c) (bit s k) g
          column false g f i q =
              wants (bit s i) (bit (pair i k) c) (bit s k)
              (any_below-false (λ i. bit s i && bit (pair i k) c) k (sym (bit-union (λ i. pair i k) s k c) ∙ f) i q)

  -- the first k writes, where none lacks what it wants
  serves : (k : ℕ) → bit (forbids pair s k) c ≡ false → Served k
  unfolding forbids
  serves zero e = λ i j a b. absurd (omega arith)
  serves (suc k) e =
      let f = sym (bit-or (forbids pair s k) _ c) ∙ e in
      step k (or_none_right (bit (forbids pair s k) c) _ f) (serves k (or_none-left (bit (forbids pair s k) c) _ f))

  -- and where one does
  lacking : (k : ℕ) → Served k → bit (forbids pair s k) c ≡ false
  unfolding forbids unflagged
  lacking zero h = bit-zero c
  lacking (suc k) h =
      bit-or (forbids pair s k) _ c
      ∙ rw (lacking k (λ i j a b. h i j (omega arith) (omega arith))) (go (bit s k) refl)
    where
      none : (p : ℕ → Bool) → ((i : ℕ) → i < k → p i ≡ false) → any_below p k ≡ false
      none p f = untrue (any_below p k) (λ t. let (i, l, e) = any_below-true p k t in false≢true (sym (f i l) ∙ e))

      lack : (x y z : Bool) → x ≡ true → not x || (not y || z) ≡ true → not z && y ≡ false
      lack true true true e f = refl
      lack true true false e f = absurd (false≢true f)
      lack true false true e f = refl
      lack true false false e f = refl
      lack false y z e f = absurd (false≢true e)

      want : (x y z : Bool) → z ≡ false → not x || (not y || z) ≡ true → x && y ≡ false
      want true true z e f = absurd (false≢true (sym e ∙ f))
      want true false z e f = refl
      want false y z e f = refl

      go : (t : Bool) → bit s k ≡ t → bit (cond t (union (pair k) (unflagged s k) k) (union (λ i. pair i k) s k)) c ≡ false
      go true g =
          bit-union (pair k) (unflagged s k) k c
          ∙ none (λ j. bit (unflagged s k) j && bit (pair k j) c) (λ j q.
          let u : bit (unflagged s k) j ≡ not (bit s j) = bit_mask (λ j. not (bit s j)) k j ∙ rw (lt-ltb j k q) in
          ap (λ (b : Bool). b && bit (pair k j) c) u ∙ lack (bit s k) (bit (pair k j) c) (bit s j) g (h k j (omega arith) (omega arith)))
      go false g =
          bit-union (λ i. pair i k) s k c
          ∙ none (λ i. bit s i && bit (pair i k) c) (λ i q. want (bit s i) (bit (pair i k) c) (bit s k) g (h i k (omega arith) (omega arith)))

-- ---- the sets

module _ (cs : List Rule) (ws : List Write) (n : ℕ) (column table : List ℕ) (c : ℕ) (e : length ws ≡ n) (named : Labels ws column) where
  -- bit i of the pairs is whether candidate i matches
  paired : (i a b : ℕ) → i < c → a < n → b < n → bit (pairs cs c column a b) i ≡ matches (rule_at cs i) (label_at ws a) (label_at ws b)
  unfolding pairs matching Labels
  paired i a b h k l =
      bit_mask (λ r. matches (rule_at cs r) (labelled (get_or column a 0)) (labelled (get_or column b 0))) c i
      ∙ rw (lt-ltb i c h, named a (omega arith), named b (omega arith))

  one : (r : Rule) (l m : Label) → depends_on (r ∷ []) l m ≡ matches r l m
  unfolding depends_on any
  one r l m = or-false (matches r l m)

  module _ (s i : ℕ) (h : i < c) where
    abbrev met : ℕ → ℕ → Bool
    met a b = not (depends_on (rule_at cs i ∷ []) (label_at ws a) (label_at ws b)) || bit s b

    met-is : (a b : ℕ) → a < n → b < n → not (bit (pairs cs c column a b) i) || bit s b ≡ met a b
    met-is a b k l = ap (λ (t : Bool). not t || bit s b) (paired i a b h k l ∙ sym (one (rule_at cs i) (label_at ws a) (label_at ws b)))

    there : bit (forbids (pairs cs c column) s n) i ≡ false → valid (rule_at cs i ∷ []) ws s ≡ true
    unfolding valid
    there v =
        all_below_intro (λ a. not (bit s a) || all_below (met a) (length ws)) (length ws) (λ a k. implied (bit s a) (all_below (met a) (length ws)) (λ f. all_below_intro (met a) (length ws) (λ b l.
        sym (met-is a b (omega arith) (omega arith)) ∙ implies (bit s a) (not (bit (pairs cs c column a b) i) || bit s b) (serves (pairs cs c column) s i n v a b (omega arith) (omega arith)) f)))

    back : valid (rule_at cs i ∷ []) ws s ≡ true → bit (forbids (pairs cs c column) s n) i ≡ false
    unfolding valid
    back v =
        lacking (pairs cs c column) s i n (λ a b k l. implied (bit s a) (not (bit (pairs cs c column a b) i) || bit s b) (λ f.
        met-is a b k l ∙ all_below-true (met a) (length ws) (implies (bit s a) (all_below (met a) (length ws)) (all_below-true (λ a. not (bit s a) || all_below (met a) (length ws)) (length ws) v a (omega arith)) f) b (omega arith)))

    -- a candidate makes a schedule invalid exactly if it is in the union
    same : bit (forbids (pairs cs c column) s n) i ≡ not (allows cs ws s i)
    unfolding allows
    same = go (bit (forbids (pairs cs c column) s n) i) (valid (rule_at cs i ∷ []) ws s) refl refl
      where
        go : (x y : Bool) → bit (forbids (pairs cs c column) s n) i ≡ x → valid (rule_at cs i ∷ []) ws s ≡ y → x ≡ not y
        go true true p q = absurd (false≢true (sym (back q) ∙ p))
        go true false p q = refl
        go false true p q = refl
        go false false p q = absurd (false≢true (sym q ∙ there p))

  -- the union has no others in it
  forbids-few : (s k : ℕ) → forbids (pairs cs c column) s k < 2 ^ c
  unfolding forbids
  forbids-few s zero = pow_pos c
  forbids-few s (suc k) = or_lt c (forbids (pairs cs c column) s k) _ (forbids-few s k) (go (bit s k))
    where
      few : (a b : ℕ) → pairs cs c column a b < 2 ^ c
      few a b = unfold pairs matching in mask_below (λ r. matches (rule_at cs r) (labelled (get_or column a 0)) (labelled (get_or column b 0))) c

      go : (t : Bool) → cond t (union (pairs cs c column k) (unflagged s k) k) (union (λ i. pairs cs c column i k) s k) < 2 ^ c
      go true = union-below (pairs cs c column k) (unflagged s k) k c (few k)
      go false = union-below (λ i. pairs cs c column i k) s k c (λ i. few i k)

  pub sets_made : Forbids (pairs cs c column) n table → Sets cs ws (2 ^ n) c table
  sets_made f =
      record {
        at = λ s h. f.at s h
            ∙ bits_equal c (forbids (pairs cs c column) s n) (mask_of (λ i. not (allows cs ws s i)) c) (forbids-few s n) (mask_below (λ i. not (allows cs ws s i)) c)
            (λ i l. same s i l ∙ sym (bit_mask (λ i. not (allows cs ws s i)) c i ∙ rw (lt-ltb i c l)));
      }

module _ (cs : List Rule) (ws : List Write) (n c : ℕ) (table : List ℕ) (all : ℕ) (f : Sets cs ws n c table) (e : all ≡ 2 ^ c - 1) where
  pub sets_bounded : c ≤ most_candidates → Bounded table all n
  sets_bounded h =
      let p = pow_mono {i = c} {j = most_candidates} h in let q = pow_pos c in
      record { few = omega arith; below = λ s l. let m = mask_below (λ i. not (allows cs ws s i)) c in rw (f.at s l) (omega arith) }

  -- the other candidates leave the schedule valid
  pub sets_are : (s : ℕ) → s < n → set_of table all s ≡ mask_of (allows cs ws s) c
  unfolding set_of
  sets_are s h = let m = mask_others (allows cs ws s) c in rw (f.at s h) (omega arith)
