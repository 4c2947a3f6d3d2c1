-- Between two sets every choice leads to valid schedules: a free write is left out with all that depends on it, or flagged with all
-- that it depends on, and the counts of both add up. All of it bit by bit.
use mathlib.Core.Path.{◌≡◌, refl, sym, ap, ap₂, ◌∙◌}
use mathlib.Core.Logic.{◌⊎◌, inl, inr, ⊎_elim}
use mathlib.Core.Bool.{Bool, true, false, not, ◌&&◌, ◌||◌, and-false}
use mathlib.Core.List.{List}
use Prim.Native.Nat.{ℕ, ◌+◌, ◌-◌, ◌*◌, ◌^◌, ◌≤◌, ◌<◌}
use native.Mathlib.Omega.{arith}
use lib.Bits.{bit_and, bit_or, or_lt}
use lib.ListN.{get_or}
use lib.Pow.{pow_mono, pow_pos}
use lib.Dec.{eqb}
use borrow.Author.Rules.{rules}
use borrow.Author.Tests.{eqb-true, eq-eqb, not-true}
use Rattle.relation.specs.Bits.{bit, with_bit, without, Highest}
use Rattle.relation.specs.Union.{part_of}
use Rattle.relation.proofs.BitLaws.{bit-and, bit-or, bit_pow, bit_with, bit-zero}
use Rattle.relation.proofs.ListLaws.{untrue, or_cases, or_left, or_right, and_left, and_right, and_intro, bool_equal, clash}
use Rattle.relation.proofs.UnionLaws.{bits_same, bit-ones, part-true, part_intro}
use Rattle.relation.proofs.MemberLaws.{member_below}
use Rattle.relation.proofs.SetLaws.{bit-without, without_less}
use Rattle.model.specs.Limits.{most_main, most_schedules}
use Rattle.model.specs.Test.{count_below}
use Rattle.model.proofs.CountLaws.{count_ext, count_most, count-split, count-one, count-turned}
use Rattle.judge_schedules.specs.Valid.{valid_rows}
use Rattle.judge_schedules.proofs.ValidLaws.{valid-row, row-valid}
use Rattle.judge_closed.specs.Closed.{Order, between, valid_between, Choice, alone}

-- ---- Booleans

false-not : (b : Bool) → b ≡ false → not b ≡ true
false-not b e = rw e

-- ---- valid, between: bit by bit

module _ (dependencies : List ℕ) (n s : ℕ) where
  pub valid-has : valid_rows dependencies n s ≡ true → (i j : ℕ) → i < n → bit s i ≡ true → bit (get_or dependencies i 0) j ≡ true → bit s j ≡ true
  valid-has v i j h e f = part-true (get_or dependencies i 0) s j (valid-row dependencies n s v i h e) f

  pub has-valid : ((i j : ℕ) → i < n → bit s i ≡ true → bit (get_or dependencies i 0) j ≡ true → bit s j ≡ true) → valid_rows dependencies n s ≡ true
  has-valid f = row-valid dependencies n s (λ i h e. part_intro (get_or dependencies i 0) s (λ j b. f i j h e b))

module _ (chosen free s : ℕ) where
  pub between-has : between chosen free s ≡ true → (i : ℕ) → bit chosen i ≡ true → bit s i ≡ true
  unfolding between
  between-has b i = part-true chosen s i (and_left (part_of chosen s) (part_of s (bit_or chosen free)) b)

  pub between_may : between chosen free s ≡ true → (i : ℕ) → bit s i ≡ true → bit chosen i || bit free i ≡ true
  unfolding between
  between_may b i e = sym (bit-or chosen free i) ∙ part-true s (bit_or chosen free) i (and_right (part_of chosen s) (part_of s (bit_or chosen free)) b) e

  pub is-between : ((i : ℕ) → bit chosen i ≡ true → bit s i ≡ true) → ((i : ℕ) → bit s i ≡ true → bit chosen i || bit free i ≡ true) → between chosen free s ≡ true
  unfolding between
  is-between f g =
      and_intro (part_of chosen s) (part_of s (bit_or chosen free)) (part_intro chosen s f)
      (part_intro s (bit_or chosen free) (λ j e. bit-or chosen free j ∙ g j e))

module _ (dependencies : List ℕ) (n chosen free s : ℕ) where
  pub between-valid : valid_between dependencies n chosen free s ≡ true → valid_rows dependencies n s ≡ true
  unfolding valid_between
  between-valid v = and_left (valid_rows dependencies n s) (between chosen free s) v

  pub valid-between : valid_between dependencies n chosen free s ≡ true → between chosen free s ≡ true
  unfolding valid_between
  valid-between v = and_right (valid_rows dependencies n s) (between chosen free s) v

  pub both_between : valid_rows dependencies n s ≡ true → between chosen free s ≡ true → valid_between dependencies n chosen free s ≡ true
  unfolding valid_between
  both_between v b = and_intro (valid_rows dependencies n s) (between chosen free s) v b

pub mask_fits : (m n : ℕ) → n ≤ most_main → m < 2 ^ n → m < 2 ^ 64
mask_fits m n l h = let p = pow_mono {i = n} {j = 64} (omega arith) in omega (arith, p, h)

-- ---- a choice

module _ (n : ℕ) (dependencies dependents : List ℕ) (o : Order n dependencies dependents) (few : n ≤ most_main) (chosen free : ℕ) (g : Choice dependencies n chosen free) where
  free_fits : free < 2 ^ 64
  free_fits = mask_fits free n few g.free_most

  module _ (h : ℕ) (e : bit free h ≡ true) where
    pub free_below : h < n
    free_below = member_below free n h g.free_most e

    -- what is flagged with it, and what is left out with it
    abbrev with : ℕ
    with = get_or dependencies h 0

    abbrev by : ℕ
    by = get_or dependents h 0

    with_it : bit with h ≡ true
    with_it = o.reflexive h free_below

    by_it : bit by h ≡ true
    by_it = o.converse h h free_below free_below ∙ with_it

    unchosen : bit chosen h ≡ true → ⊥
    unchosen c = clash (bit free h) e (g.apart h c)

    is_free : (x i : ℕ) → bit (without free x) i ≡ true → bit free i ≡ true
    is_free x i f = and_left (bit free i) (not (bit x i)) (sym (bit-without free x i free_fits) ∙ f)

    is_out : (x i : ℕ) → bit (without free x) i ≡ true → bit x i ≡ false
    is_out x i f = not-true (bit x i) (and_right (bit free i) (not (bit x i)) (sym (bit-without free x i free_fits) ∙ f))

    stays_free : (x i : ℕ) → bit free i ≡ true → bit x i ≡ false → bit (without free x) i ≡ true
    stays_free x i f b = bit-without free x i free_fits ∙ rw (f, b)

    dependents_dependencies : (i : ℕ) → i < n → bit by i ≡ true → bit (get_or dependencies i 0) h ≡ true
    dependents_dependencies i l b = sym (o.converse i h l free_below) ∙ b

    pub left_less : without free by < free
    left_less = without_less free by h free_fits e by_it

    pub right_less : without free with < free
    right_less = without_less free with h free_fits e with_it

    pub left-choice : Choice dependencies n chosen (without free by)
    left-choice =
        record {
          chosen-most = g.chosen-most;
          free_most = let l = left_less in let m = g.free_most in omega (arith, l, m);
          apart = λ i c. bit-without free by i free_fits ∙ rw (g.apart i c);
          whole = g.whole;
          within = λ i j l f b.
              ⊎_elim (λ c. or_left (bit chosen j) (bit (without free by) j) c)
              (λ r. or_right (bit chosen j) (bit (without free by) j)
              (stays_free by j r (untrue (bit by j)
              (λ q.
              let k = member_below free n j g.free_most r in
              clash (bit by i) (o.converse i h l free_below ∙ o.transitive i j h l k b (dependents_dependencies j k q)) (is_out by i f)))))
              (or_cases (bit chosen j) (bit free j) (g.within i j l (is_free by i f) b));
        }

    taken : (i : ℕ) → bit (bit_or chosen with) i ≡ true → (bit chosen i ≡ true) ⊎ (bit with i ≡ true)
    taken i c = or_cases (bit chosen i) (bit with i) (sym (bit-or chosen with i) ∙ c)

    take-chosen : (i : ℕ) → bit chosen i ≡ true → bit (bit_or chosen with) i ≡ true
    take-chosen i c = bit-or chosen with i ∙ or_left (bit chosen i) (bit with i) c

    take_with : (i : ℕ) → bit with i ≡ true → bit (bit_or chosen with) i ≡ true
    take_with i b = bit-or chosen with i ∙ or_right (bit chosen i) (bit with i) b

    -- what was free is taken or stays free
    free_either : (i : ℕ) → bit free i ≡ true → bit (bit_or chosen with) i || bit (without free with) i ≡ true
    free_either i f = go (bit with i) refl
      where
        go : (t : Bool) → bit with i ≡ t → bit (bit_or chosen with) i || bit (without free with) i ≡ true
        go true q = or_left (bit (bit_or chosen with) i) (bit (without free with) i) (take_with i q)
        go false q = or_right (bit (bit_or chosen with) i) (bit (without free with) i) (stays_free with i f q)

    -- what was chosen or free is so still
    either_still : (i : ℕ) → bit chosen i || bit free i ≡ true → bit (bit_or chosen with) i || bit (without free with) i ≡ true
    either_still i m = ⊎_elim (λ c. or_left (bit (bit_or chosen with) i) (bit (without free with) i) (take-chosen i c)) (free_either i) (or_cases (bit chosen i) (bit free i) m)

    -- and what is, was
    either_was : (i : ℕ) → bit (bit_or chosen with) i || bit (without free with) i ≡ true → bit chosen i || bit free i ≡ true
    either_was i m =
        ⊎_elim (λ c. ⊎_elim (or_left (bit chosen i) (bit free i)) (g.within h i free_below e) (taken i c)) (λ f. or_right (bit chosen i) (bit free i) (is_free with i f))
        (or_cases (bit (bit_or chosen with) i) (bit (without free with) i) m)

    pub right_choice : Choice dependencies n (bit_or chosen with) (without free with)
    right_choice =
        record {
          chosen-most = or_lt n chosen with g.chosen-most (o.dependencies_most h free_below);
          free_most = let l = right_less in let m = g.free_most in omega (arith, l, m);
          apart = λ i c. bit-without free with i free_fits ∙ ⊎_elim (λ k. rw (g.apart i k)) (λ b. rw b (and-false (bit free i))) (taken i c);
          whole = λ i j l c b.
              ⊎_elim (λ k. take-chosen j (g.whole i j l k b)) (λ k. take_with j (o.transitive h i j free_below l k b)) (taken i c);
          within = λ i j l f b. either_still j (g.within i j l (is_free with i f) b);
        }

    -- ---- between the narrower sets is between the wider ones

    pub between_left : (s : ℕ) → between chosen (without free by) s ≡ true → between chosen free s ≡ true
    between_left s b =
        is-between chosen free s (between-has chosen (without free by) s b)
        (λ i q. ⊎_elim (or_left (bit chosen i) (bit free i)) (λ f. or_right (bit chosen i) (bit free i) (is_free by i f))
        (or_cases (bit chosen i) (bit (without free by) i) (between_may chosen (without free by) s b i q)))

    pub between_right : (s : ℕ) → between (bit_or chosen with) (without free with) s ≡ true → between chosen free s ≡ true
    between_right s b =
        is-between chosen free s (λ i c. between-has (bit_or chosen with) (without free with) s b i (take-chosen i c))
        (λ i z. either_was i (between_may (bit_or chosen with) (without free with) s b i z))

    -- ---- the valid schedules without it, and those with it

    module _ (s : ℕ) where
      left_into : valid_between dependencies n chosen free s ≡ true → bit s h ≡ false → valid_between dependencies n chosen (without free by) s ≡ true
      left_into v z =
          let w = between-valid dependencies n chosen free s v in
          let b = valid-between dependencies n chosen free s v in
          both_between dependencies n chosen (without free by) s w
          (is-between chosen (without free by) s (between-has chosen free s b)
          (λ i q. ⊎_elim (or_left (bit chosen i) (bit (without free by) i))
          (λ f. or_right (bit chosen i) (bit (without free by) i)
          (stays_free by i f (untrue (bit by i) (λ y. let l = member_below free n i g.free_most f in clash (bit s h) (valid-has dependencies n s w i h l q (dependents_dependencies i l y)) z))))
          (or_cases (bit chosen i) (bit free i) (between_may chosen free s b i q))))

      left_from : valid_between dependencies n chosen (without free by) s ≡ true → valid_between dependencies n chosen free s ≡ true
      left_from v =
          both_between dependencies n chosen free s (between-valid dependencies n chosen (without free by) s v) (between_left s (valid-between dependencies n chosen (without free by) s v))

      left_lacks : valid_between dependencies n chosen (without free by) s ≡ true → bit s h ≡ false
      left_lacks v =
          untrue (bit s h)
          (λ q. ⊎_elim unchosen (λ f. clash (bit by h) by_it (is_out by h f))
          (or_cases (bit chosen h) (bit (without free by) h) (between_may chosen (without free by) s (valid-between dependencies n chosen (without free by) s v) h q)))

      right_into : valid_between dependencies n chosen free s ≡ true → bit s h ≡ true → valid_between dependencies n (bit_or chosen with) (without free with) s ≡ true
      right_into v q =
          let w = between-valid dependencies n chosen free s v in
          let b = valid-between dependencies n chosen free s v in
          both_between dependencies n (bit_or chosen with) (without free with) s w
          (is-between (bit_or chosen with) (without free with) s
          (λ i c. ⊎_elim (between-has chosen free s b i) (valid-has dependencies n s w h i free_below q) (taken i c))
          (λ i z. either_still i (between_may chosen free s b i z)))

      right_from : valid_between dependencies n (bit_or chosen with) (without free with) s ≡ true → valid_between dependencies n chosen free s ≡ true
      right_from v =
          both_between dependencies n chosen free s (between-valid dependencies n (bit_or chosen with) (without free with) s v)
          (between_right s (valid-between dependencies n (bit_or chosen with) (without free with) s v))

      right_has : valid_between dependencies n (bit_or chosen with) (without free with) s ≡ true → bit s h ≡ true
      right_has v = between-has (bit_or chosen with) (without free with) s (valid-between dependencies n (bit_or chosen with) (without free with) s v) h (take_with h with_it)

      -- with any further test
      split-left : (t : Bool) → (t && valid_between dependencies n chosen free s) && not (bit s h) ≡ t && valid_between dependencies n chosen (without free by) s
      split-left false = refl
      split-left true =
          bool_equal _ _
          (λ z. left_into (and_left _ _ z) (not-true (bit s h) (and_right (valid_between dependencies n chosen free s) _ z)))
          (λ z. and_intro _ _ (left_from z) (false-not (bit s h) (left_lacks z)))

      split_right : (t : Bool) → (t && valid_between dependencies n chosen free s) && bit s h ≡ t && valid_between dependencies n (bit_or chosen with) (without free with) s
      split_right false = refl
      split_right true = bool_equal _ _ (λ z. right_into (and_left _ _ z) (and_right (valid_between dependencies n chosen free s) _ z)) (λ z. and_intro _ _ (right_from z) (right_has z))

    pub counts-split : (q : ℕ → Bool) (m : ℕ) → count_below (λ s. q s && valid_between dependencies n chosen free s) m
        ≡ count_below (λ s. q s && valid_between dependencies n chosen (without free by) s) m + count_below (λ s. q s && valid_between dependencies n (bit_or chosen with) (without free with) s) m
    counts-split q m =
        count-split (λ s. q s && valid_between dependencies n chosen free s) (λ s. bit s h) m
        ∙ ap₂ ◌+◌
        (count_ext (λ s. (q s && valid_between dependencies n chosen free s) && not (bit s h)) (λ s. q s && valid_between dependencies n chosen (without free by) s) m (λ s l. split-left s (q s)))
        (count_ext (λ s. (q s && valid_between dependencies n chosen free s) && bit s h) (λ s. q s && valid_between dependencies n (bit_or chosen with) (without free with) s) m (λ s l. split_right s (q s)))

    -- ---- a write that is tied to no other free one doubles the count

    module _ (aw : alone with free h ≡ true) (ab : alone by free h ≡ true) where
      lone : (x i : ℕ) → alone x free h ≡ true → bit x i ≡ true → bit free i ≡ true → i ≡ h
      unfolding alone
      lone x i a b f = eqb-true i h (sym (bit_pow h i) ∙ ap (λ (m : ℕ). bit m i) (sym (eqb-true (bit_and x free) (2 ^ h) a)) ∙ bit-and x free i ∙ rw (b, f))

      -- all that is flagged with it is chosen, or itself
      with_only : (i : ℕ) → bit with i ≡ true → (bit chosen i ≡ true) ⊎ (i ≡ h)
      with_only i b = ⊎_elim inl (λ f. inr (lone with i aw b f)) (or_cases (bit chosen i) (bit free i) (g.within h i free_below e b))

      same_rest : without free by ≡ without free with
      same_rest = bits_same _ _ (λ i. rw (bit-without free by i free_fits, bit-without free with i free_fits) (go i (bit free i) refl))
        where
          agree : (i : ℕ) → bit free i ≡ true → bit by i ≡ bit with i
          agree i f =
              bool_equal _ _ (λ y. rw (lone by i ab y f) with_it) (λ y. rw (lone with i aw y f) by_it)

          go : (i : ℕ) (t : Bool) → bit free i ≡ t → t && not (bit by i) ≡ t && not (bit with i)
          go i true f = ap not (agree i f)
          go i false f = refl

      abbrev rest : ℕ
      rest = without free with

      grown : (s : ℕ) → bit s h ≡ false → s + 2 ^ h ≡ with_bit s h
      unfolding with_bit
      grown s z = rw z

      in_grown : (s i : ℕ) → bit s i ≡ true → bit (with_bit s h) i ≡ true
      in_grown s i q = bit_with s h i ∙ or_left (bit s i) _ q

      from_grown : (s i : ℕ) → bit (with_bit s h) i ≡ true → (bit s i ≡ true) ⊎ (i ≡ h)
      from_grown s i q = ⊎_elim inl (λ z. inr (eqb-true i h z)) (or_cases (bit s i) (eqb i h) (sym (bit_with s h i) ∙ q))

      itself : (s : ℕ) → bit (with_bit s h) h ≡ true
      itself s = bit_with s h h ∙ or_right (bit s h) _ (eq-eqb h h refl)

      grow : (s : ℕ) → valid_between dependencies n chosen rest s ≡ true → valid_between dependencies n (bit_or chosen with) rest (with_bit s h) ≡ true
      grow s v =
          let w = between-valid dependencies n chosen rest s v in
          let b = valid-between dependencies n chosen rest s v in
          let has = between-has chosen rest s b in
          let brings : (i : ℕ) → bit with i ≡ true → bit (with_bit s h) i ≡ true = (λ i y. ⊎_elim (λ c. in_grown s i (has i c)) (λ z. rw z (itself s)) (with_only i y)) in
          both_between dependencies n (bit_or chosen with) rest (with_bit s h)
          (has-valid dependencies n (with_bit s h)
          (λ i j l q y. ⊎_elim (λ p. in_grown s j (valid-has dependencies n s w i j l p y)) (λ z. brings j (rw (← z) y)) (from_grown s i q)))
          (is-between (bit_or chosen with) rest (with_bit s h) (λ i c. ⊎_elim (λ k. in_grown s i (has i k)) (brings i) (taken i c))
          (λ i q. ⊎_elim
          (λ p. ⊎_elim (λ c. or_left (bit (bit_or chosen with) i) (bit rest i) (take-chosen i c)) (or_right (bit (bit_or chosen with) i) (bit rest i)) (or_cases (bit chosen i) (bit rest i) (between_may chosen rest s b i p)))
          (λ z. or_left (bit (bit_or chosen with) i) (bit rest i) (rw z (take_with h with_it))) (from_grown s i q)))

      shrink : (s : ℕ) → bit s h ≡ false → valid_between dependencies n (bit_or chosen with) rest (with_bit s h) ≡ true → valid_between dependencies n chosen rest s ≡ true
      shrink s z v =
          let w = between-valid dependencies n (bit_or chosen with) rest (with_bit s h) v in
          let b = valid-between dependencies n (bit_or chosen with) rest (with_bit s h) v in
          let other : (i : ℕ) → bit s i ≡ true → i ≡ h → ⊥ = (λ i q y. clash (bit s h) (rw (← y) q) z) in
          let stays : (i : ℕ) → (i ≡ h → ⊥) → bit (with_bit s h) i ≡ true → bit s i ≡ true = (λ i d q. ⊎_elim (λ p. p) (λ y. absurd (d y)) (from_grown s i q)) in
          let may : (i : ℕ) → bit s i ≡ true → bit chosen i || bit rest i ≡ true = (λ i q.
          ⊎_elim (λ c. ⊎_elim (or_left (bit chosen i) (bit rest i)) (λ y. ⊎_elim (or_left (bit chosen i) (bit rest i)) (λ k. absurd (other i q k)) (with_only i y)) (taken i c))
          (or_right (bit chosen i) (bit rest i))
          (or_cases (bit (bit_or chosen with) i) (bit rest i) (between_may (bit_or chosen with) rest (with_bit s h) b i (in_grown s i q)))) in
          both_between dependencies n chosen rest s
          (has-valid dependencies n s
          (λ i j l q y. stays j
          (λ k. ⊎_elim (λ c. unchosen (g.whole i h l c (rw (← k) y)))
          (λ r. other i q (lone by i ab (o.converse i h l free_below ∙ rw (← k) y) (is_free with i r)))
          (or_cases (bit chosen i) (bit rest i) (may i q)))
          (valid-has dependencies n (with_bit s h) w i j l (in_grown s i q) y)))
          (is-between chosen rest s (λ i c. stays i (λ k. unchosen (rw (← k) c)) (between-has (bit_or chosen with) rest (with_bit s h) b i (take-chosen i c))) may)

      pub counts-double : count_below (valid_between dependencies n chosen free) (2 ^ n) ≡ 2 * count_below (valid_between dependencies n chosen (without free by)) (2 ^ n)
      counts-double =
          let total = counts-split (λ s. true) (2 ^ n) in
          let turned = count-turned h (valid_between dependencies n (bit_or chosen with) rest) (valid_between dependencies n chosen rest) (λ s v. right_has s v) (λ s v. left_lacks s (rw same_rest v))
          (λ s z. rw (grown s z) (bool_equal _ _ (shrink s z) (grow s))) n free_below in
          let back : count_below (valid_between dependencies n chosen rest) (2 ^ n) ≡ count_below (valid_between dependencies n chosen (without free by)) (2 ^ n) = ap (λ (f : ℕ). count_below (valid_between dependencies n chosen f) (2 ^ n)) (sym same_rest) in
          omega (arith, total, turned, back)

-- what is chosen is a valid schedule itself
pub chosen-valid : (n : ℕ) (dependencies : List ℕ) (chosen free : ℕ) → Choice dependencies n chosen free → valid_between dependencies n chosen free chosen ≡ true
chosen-valid n dependencies chosen free g =
    both_between dependencies n chosen free chosen (has-valid dependencies n chosen g.whole) (is-between chosen free chosen (λ i c. c) (λ i c. or_left (bit chosen i) (bit free i) c))

-- nothing left to choose: one schedule
module _ (n : ℕ) (dependencies : List ℕ) (chosen : ℕ) (g : Choice dependencies n chosen 0) where
  pub count-chosen : count_below (valid_between dependencies n chosen 0) (2 ^ n) ≡ 1
  count-chosen =
      count-one (valid_between dependencies n chosen 0) (2 ^ n) chosen g.chosen-most
      (chosen-valid n dependencies chosen 0 g)
      (λ s v.
      let b = valid-between dependencies n chosen 0 s v in
      bits_same s chosen
      (λ i. bool_equal _ _ (λ q. ⊎_elim (λ c. c) (λ z. clash (bit 0 i) z (bit-zero i)) (or_cases (bit chosen i) (bit 0 i) (between_may chosen 0 s b i q))) (between-has chosen 0 s b i)))

-- ---- count_between

pub between-one : (n : ℕ) (dependencies : List ℕ) (chosen free : ℕ) → Choice dependencies n chosen free → free ≡ 0 → 1 ≡ count_below (valid_between dependencies n chosen free) (2 ^ n)
between-one n dependencies chosen free g e = rw e (sym (count-chosen n dependencies chosen (rw e at g)))

pub some_free : (free : ℕ) → (free ≡ 0 → ⊥) → 0 < free
some_free free d = omega arith

module _ (n : ℕ) (dependencies dependents : List ℕ) (few : n ≤ most_main) (o : Order n dependencies dependents) (chosen free : ℕ) (g : Choice dependencies n chosen free) (h : ℕ) (top : Highest free h) where
  is_member : bit free h ≡ true
  unfolding Highest
  is_member = top.0

  count_fits : (c f r : ℕ) → r ≡ count_below (valid_between dependencies n c f) (2 ^ n) → r ≤ most_schedules
  count_fits c f r e =
      let m = count_most (valid_between dependencies n c f) (2 ^ n) in
      let p = pow_mono {i = n} {j = most_main} few in
      omega (arith, m, p, e)

  -- what is chosen stays, where a write is left out
  module _ (c f : ℕ) (ec : c ≡ chosen) (e : f ≡ without free (get_or dependents h 0)) where
    pub out_less : (t : ℕ) → free ≡ t → f < t
    out_less t z = rw (← z, e) (left_less n dependencies dependents o few chosen free g h is_member)

    pub out_choice : Choice dependencies n c f
    out_choice = rw (ec, e) (left-choice n dependencies dependents o few chosen free g h is_member)

    module _ (r : ℕ) (q : r ≡ count_below (valid_between dependencies n c f) (2 ^ n)) where
      pub double-room : 2 * r < 2 ^ 64
      double-room = let m = count_fits c f r q in omega (arith, m)

      pub double-done : (b : Bool) → b ≡ alone (get_or dependencies h 0) free h && alone (get_or dependents h 0) free h → b ≡ true → 2 * r ≡ count_below (valid_between dependencies n chosen free) (2 ^ n)
      double-done b z t =
          let y = sym z ∙ t in
          rw (q, ec, e) (sym (counts-double n dependencies dependents o few chosen free g h is_member (and_left _ (alone (get_or dependents h 0) free h) y) (and_right (alone (get_or dependencies h 0) free h) _ y)))

  module _ (d k : ℕ) (ed : d ≡ bit_or chosen (get_or dependencies h 0)) (e : k ≡ without free (get_or dependencies h 0)) where
    pub in_less : (t : ℕ) → free ≡ t → k < t
    in_less t z = rw (← z, e) (right_less n dependencies dependents o few chosen free g h is_member)

    pub in_choice : Choice dependencies n d k
    in_choice = rw (ed, e) (right_choice n dependencies dependents o few chosen free g h is_member)

    -- the counts of both, without it and with it
    module _ (c f r m : ℕ) (ec : c ≡ chosen) (ef : f ≡ without free (get_or dependents h 0)) (qf : r ≡ count_below (valid_between dependencies n c f) (2 ^ n))
        (qk : m ≡ count_below (valid_between dependencies n d k) (2 ^ n)) where
      pub both_room : r + m < 2 ^ 64
      both_room = let a = count_fits c f r qf in let b = count_fits d k m qk in omega (arith, a, b)

      pub both_done : r + m ≡ count_below (valid_between dependencies n chosen free) (2 ^ n)
      both_done = rw (qf, qk, ec, ef, ed, e) (sym (counts-split n dependencies dependents o few chosen free g h is_member (λ s. true) (2 ^ n)))

pub ruleset counting = (rules, between-one, some_free, out_less, out_choice, double-room, double-done, in_less, in_choice, both_room, both_done)

-- ---- at the beginning nothing is chosen and all is free

module _ (n : ℕ) (dependencies dependents : List ℕ) (o : Order n dependencies dependents) where
  pub all_free : Choice dependencies n 0 (2 ^ n - 1)
  all_free =
      record {
        chosen-most = pow_pos n;
        free_most = let p = pow_pos n in omega arith;
        apart = λ i c. clash (bit 0 i) c (bit-zero i);
        whole = λ i j l c b. clash (bit 0 i) c (bit-zero i);
        within = λ i j l f b. or_right (bit 0 j) (bit (2 ^ n - 1) j) (bit-ones n j (member_below (get_or dependencies i 0) n j (o.dependencies_most i l) b));
      }

  pub all-between : (s : ℕ) → s < 2 ^ n → between 0 (2 ^ n - 1) s ≡ true
  all-between s h =
      is-between 0 (2 ^ n - 1) s (λ i c. clash (bit 0 i) c (bit-zero i)) (λ i e. or_right (bit 0 i) (bit (2 ^ n - 1) i) (bit-ones n i (member_below s n i h e)))
