-- The tables: by the closed rows each write's dependencies are those it reaches and itself, and a schedule that has with each write its
-- row has what it reaches, step by step along the way.
use mathlib.Core.Path.{◌≡◌, refl, sym, ap, ◌∙◌}
use mathlib.Core.Logic.{◌⊎◌, inl, inr, ⊎_elim}
use mathlib.Core.Bool.{Bool, true, false, cond, not, ◌&&◌, ◌||◌, false≢true}
use mathlib.Core.List.{List}
use Prim.Native.Nat.{ℕ, ◌+◌, ◌-◌, ◌*◌, ◌%◌, ◌^◌, ◌≤◌, ◌<◌}
use native.Mathlib.Nat.{mod-lt}
use native.Mathlib.Numerals.{add-one}
use native.Mathlib.Omega.{arith}
use lib.Bits.{bit_and, and_mask}
use lib.Dec.{eqb}
use lib.ListN.{length, get_or, take, set}
use lib.Seq.{get_or-take}
use lib.Pow.{pow_pos}
use borrow.Author.Rules.{rules}
use borrow.Author.Tests.{eqb-true, eq-eqb, lt-ltb}
use Rattle.relation.specs.Bits.{bit, with_bit, mask_of}
use Rattle.relation.specs.Finite.{Below, related, closed}
use Rattle.relation.specs.Tables.{Filled}
use Rattle.relation.specs.Transitive.{Plus, one, more}
use Rattle.relation.proofs.BitLaws.{power_is, bit_with, bit_mod, bit_mask, mask_below}
use Rattle.relation.proofs.FiniteLaws.{closed_plus, plus_closed}
use Rattle.relation.proofs.ListLaws.{or_cases, or_left, or_right, bool_equal}
use Rattle.relation.proofs.MemberLaws.{member_below}
use Rattle.relation.proofs.TableLaws.{filled_none, filled_more, filled-all}
use Rattle.relation.proofs.TransitiveLaws.{plus_trans}
use Rattle.model.specs.Limits.{most_main}
use Rattle.judge_schedules.specs.Valid.{valid_rows, Narrow}
use Rattle.judge_closed.specs.Closed.{Orders, reached_row, reaching_row, alone}
use Rattle.judge_closed.proofs.ClosedLaws.{valid-has, has-valid}

-- ---- the rows

pub all-some : (n : ℕ) → n ≤ most_main → 1 ≤ 1 * 2 ^ n % 18446744073709551616
all-some n h = rw (power_is n (omega arith)) (pow_pos n)

pub dependencies_are : (row i n w : ℕ) → n ≤ most_main → w ≡ with_bit row i → bit_and w (1 * 2 ^ n % 18446744073709551616 - 1) ≡ with_bit row i % 2 ^ n
dependencies_are row i n w h e = rw (power_is n (omega arith), e) (and_mask (with_bit row i) n)

pub dependencies_more : (closed : List ℕ) (n i : ℕ) (dependencies : List ℕ) (v : ℕ) → Filled (reached_row closed n) i dependencies → length dependencies ≡ 64 → n ≤ most_main → i < n → v ≡ with_bit (get_or closed i 0) i % 2 ^ n
    → Filled (reached_row closed n) (i + 1) (set dependencies i v)
dependencies_more closed n i dependencies v g size few h e = filled_more (reached_row closed n) i dependencies v g (omega arith) (unfold reached_row in e)

pub dependents-more : (dependencies : List ℕ) (n j : ℕ) (dependents : List ℕ) (v : ℕ) → Filled (reaching_row dependencies n) j dependents → length dependents ≡ 64 → n ≤ most_main → j < n → v ≡ reaching_row dependencies n j
    → Filled (reaching_row dependencies n) (j + 1) (set dependents j v)
dependents-more dependencies n j dependents v g size few h e = filled_more (reaching_row dependencies n) j dependents v g (omega arith) e

pub reaching_row-none : (dependencies : List ℕ) (j : ℕ) → 0 ≡ reaching_row dependencies 0 j
unfolding reaching_row mask_of
reaching_row-none dependencies j = refl

pub reaching_row-more : (dependencies : List ℕ) (j i mask next : ℕ) (b : Bool) → mask ≡ reaching_row dependencies i j → b ≡ bit (get_or dependencies i 0) j → next ≡ cond b (with_bit mask i) mask → next ≡ reaching_row dependencies (i + 1) j
unfolding reaching_row mask_of
reaching_row-more dependencies j i mask next b e q z = rw (add-one i) (z ∙ rw (e, q))

pub reaching_row-all : (dependencies : List ℕ) (j i n mask : ℕ) → i ≤ n → n ≤ i → mask ≡ reaching_row dependencies i j → mask ≡ reaching_row dependencies n j
reaching_row-all dependencies j i n mask a b e = let z : i ≡ n = omega arith in rw (← z) e

-- ---- the order

module _ (rows dependencies dependents : List ℕ) (n : ℕ) (few : n ≤ most_main) (narrow : Narrow rows n) (ef : Filled (reached_row (closed n rows) n) n dependencies)
    (eb : Filled (reaching_row dependencies n) n dependents) where
  dependencies_bit : (i j : ℕ) → i < n → j < n → bit (get_or dependencies i 0) j ≡ related (closed n rows) i j || eqb j i
  unfolding reached_row related
  dependencies_bit i j h l = rw (ef.at i h) (bit_mod (with_bit (get_or (closed n rows) i 0) i) n j l ∙ bit_with (get_or (closed n rows) i 0) i j)

  dependencies_most : (i : ℕ) → i < n → get_or dependencies i 0 < 2 ^ n
  unfolding reached_row
  dependencies_most i h = rw (ef.at i h) (mod-lt (with_bit (get_or (closed n rows) i 0) i) (pow_pos n))

  dependencies_below : (i j : ℕ) → i < n → bit (get_or dependencies i 0) j ≡ true → j < n
  dependencies_below i j h b = member_below (get_or dependencies i 0) n j (dependencies_most i h) b

  reached : (i j : ℕ) → i < n → bit (get_or dependencies i 0) j ≡ true → (Plus (Below n (related rows)) i j) ⊎ (j ≡ i)
  reached i j h b =
      let l = dependencies_below i j h b in
      ⊎_elim (λ r. inl (closed_plus rows n i j h l r)) (λ z. inr (eqb-true j i z)) (or_cases (related (closed n rows) i j) (eqb j i) (sym (dependencies_bit i j h l) ∙ b))

  plus_dependencies : (i j : ℕ) → i < n → j < n → Plus (Below n (related rows)) i j → bit (get_or dependencies i 0) j ≡ true
  plus_dependencies i j h l p = dependencies_bit i j h l ∙ or_left (related (closed n rows) i j) (eqb j i) (plus_closed rows n i j p)

  reflexive : (i : ℕ) → i < n → bit (get_or dependencies i 0) i ≡ true
  reflexive i h = dependencies_bit i i h h ∙ or_right (related (closed n rows) i i) (eqb i i) (eq-eqb i i refl)

  transitive : (i j k : ℕ) → i < n → j < n → bit (get_or dependencies i 0) j ≡ true → bit (get_or dependencies j 0) k ≡ true → bit (get_or dependencies i 0) k ≡ true
  transitive i j k h l a b =
      ⊎_elim
      (λ p. ⊎_elim (λ q. plus_dependencies i k h (dependencies_below j k l b) (plus_trans p q)) (λ (z : k ≡ j). rw z a) (reached j k l b))
      (λ (z : j ≡ i). rw z at b)
      (reached i j h a)

  -- a schedule that keeps the rows keeps what is reached by them
  along : (s : ℕ) → valid_rows rows n s ≡ true → {i j : ℕ} → Plus (Below n (related rows)) i j → bit s i ≡ true → bit s j ≡ true
  unfolding related
  along s v (one {x = x} {y = y} (a, b, r)) e = valid-has rows n s v x y a e r
  along s v (more {x = x} {y = y} (a, b, r) p) e = along s v p (valid-has rows n s v x y a e r)

  same : (s : ℕ) → s < 2 ^ n → valid_rows dependencies n s ≡ valid_rows rows n s
  unfolding Narrow related
  same s h =
      bool_equal _ _
      (λ v. has-valid rows n s
      (λ i j l e b. let k = member_below (get_or rows i 0) n j (narrow i l) b in valid-has dependencies n s v i j l e (plus_dependencies i j l k (one (l, k, b)))))
      (λ v. has-valid dependencies n s (λ i j l e b. ⊎_elim (λ p. along s v p e) (λ (z : j ≡ i). rw z e) (reached i j l b)))

  pub ordered : Orders rows n dependencies dependents
  unfolding reaching_row
  ordered =
      record {
        order = record {
          reflexive = reflexive;
          transitive = transitive;
          dependencies_most = dependencies_most;
          dependents-most = λ j h. rw (eb.at j h) (mask_below (λ i. bit (get_or dependencies i 0) j) n);
          converse = λ i j h l. rw (eb.at j l, bit_mask (λ i. bit (get_or dependencies i 0) j) n i, lt-ltb i n h);
        };
        same = same;
      }

pub order-done : (rows reached dependencies dependents : List ℕ) (n : ℕ) → n ≤ most_main → Narrow rows n → take n reached ≡ take n (closed n rows) → Filled (reached_row reached n) n dependencies → Filled (reaching_row dependencies n) n dependents
    → Orders rows n dependencies dependents
unfolding reached_row
order-done rows reached dependencies dependents n few narrow e f b =
    let same : (i : ℕ) → i < n → get_or reached i 0 ≡ get_or (closed n rows) i 0
    = λ i h. sym (get_or-take n reached i 0 h) ∙ ap (λ (l : List ℕ). get_or l i 0) e ∙ get_or-take n (closed n rows) i 0 h in
    ordered rows dependencies dependents n few narrow (record { at = λ i h. f.at i h ∙ ap (λ (row : ℕ). with_bit row i % 2 ^ n) (same i h) }) b

-- ---- alone

pub alone-is : (set free h : ℕ) → h < 64 → eqb (bit_and set free) (1 * 2 ^ h % 18446744073709551616) ≡ alone set free h
unfolding alone
alone-is set free h l = rw (power_is h l)

pub untied_not : (a b w f : Bool) → a ≡ w → not a ≡ true → false ≡ w && f
untied_not true b w f e q = absurd (false≢true q)
untied_not false b w f e q = rw (← e)

pub untied_is : (a b w f : Bool) → a ≡ w → not a ≡ false → b ≡ f → b ≡ w && f
untied_is true b w f e q z = rw (← e) z
untied_is false b w f e q z = absurd (false≢true (sym q))

pub ruleset ordering = (rules, power_is, filled_none, filled-all, all-some, dependencies_are, dependencies_more, dependents-more, reaching_row-none, reaching_row-more, reaching_row-all, order-done, alone-is, untied_not, untied_is)
