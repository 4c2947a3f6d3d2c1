-- Validity by rows, asked write by write; and what a write brings: a set that is widened by its members' rows until it is valid is part of every
-- valid schedule that has its first member.
use mathlib.Core.Path.{◌≡◌, refl, sym, ◌∙◌}
use mathlib.Core.Logic.{⊎_elim}
use mathlib.Core.Bool.{Bool, true, false, not, ◌||◌}
use mathlib.Core.List.{List}
use Prim.Native.Nat.{ℕ, ◌+◌, ◌-◌, ◌*◌, ◌%◌, ◌^◌, ◌≤◌, ◌<◌}
use native.Mathlib.Omega.{arith}
use lib.Bits.{bit_and, bit_or, or_lt}
use lib.Dec.{eqb, ltb}
use lib.ListN.{length, get_or, set}
use lib.Pow.{pow-lt}
use lib.Seq.{get_or-set_same, get_or-set_other}
use borrow.Author.Rules.{rules}
use borrow.Author.Tests.{eq-eqb, ne_eqb, eqb-true, ltb-true, ltb-false, not-true, not-false}
use Rattle.relation.specs.Bits.{bit, without, Highest}
use Rattle.relation.specs.Union.{part_of}
use Rattle.relation.proofs.BestLaws.{part-most}
use Rattle.relation.proofs.BitLaws.{bit-or, bit_pow, power_is}
use Rattle.relation.proofs.ListLaws.{all_below-true, all_below_intro, bool_equal, untrue, or_left, or_right, or_cases, clash}
use Rattle.relation.proofs.MaskLaws.{implies, implied}
use Rattle.relation.proofs.MemberLaws.{member_below, Left, left-all, left-none, left-next, left_less}
use Rattle.relation.proofs.UnionLaws.{part-true, part_intro}
use Rattle.model.specs.Limits.{most_main}
use Rattle.judge_schedules.specs.Valid.{valid_rows, Narrow, Widens, Brings, Completes}

-- ---- validity by its meaning

module _ (rows : List ℕ) (n s : ℕ) where
  pub valid-row : valid_rows rows n s ≡ true → (i : ℕ) → i < n → bit s i ≡ true → part_of (get_or rows i 0) s ≡ true
  unfolding valid_rows
  valid-row v i h e = implies (bit s i) _ (all_below-true (λ i. not (bit s i) || part_of (get_or rows i 0) s) n v i h) e

  pub row-valid : ((i : ℕ) → i < n → bit s i ≡ true → part_of (get_or rows i 0) s ≡ true) → valid_rows rows n s ≡ true
  unfolding valid_rows
  row-valid f = all_below_intro (λ i. not (bit s i) || part_of (get_or rows i 0) s) n (λ i h. implied (bit s i) _ (λ e. f i h e))

-- at most, and not the same
less_other : (x y : ℕ) → x ≤ y → (x ≡ y → ⊥) → x < y
less_other x y h g = go (ltb x y) refl
  where
    go : (u : Bool) → ltb x y ≡ u → x < y
    go true z = ltb-true x y z
    go false z = let k = ltb-false x y z in absurd (g (omega (arith, k, h)))

-- ---- is_valid

-- the row of a write is flagged
abbrev pub Covered : List ℕ → ℕ → ℕ → Type 0
Covered rows s i = part_of (get_or rows i 0) s ≡ true

module _ (rows : List ℕ) (n s : ℕ) where
  pub asked_all : Left (Covered rows s) s s
  asked_all = left-all (Covered rows s) s

  module _ (left h : ℕ) (l : Left (Covered rows s) s left) (top : Highest left h) (b : h < 64) where
    pub asked_more : (next : ℕ) → bit_and (get_or rows h 0) s ≡ get_or rows h 0 → next ≡ without left (1 * 2 ^ h % 18446744073709551616) → Left (Covered rows s) s next
    asked_more next e q = left-next (Covered rows s) s left h next l top b q (unfold part_of in eq-eqb _ _ e)

    pub asked_broken : s < 2 ^ n → (bit_and (get_or rows h 0) s ≡ get_or rows h 0 → ⊥) → false ≡ valid_rows rows n s
    unfolding Highest part_of
    asked_broken k d =
        let m = l.part h top.0 in
        sym (untrue (valid_rows rows n s) (λ v. clash (eqb (bit_and (get_or rows h 0) s) (get_or rows h 0)) (valid-row rows n s v h (member_below s n h k m) m) (ne_eqb _ _ d)))

  pub asked_none : (left : ℕ) → Left (Covered rows s) s left → left ≡ 0 → true ≡ valid_rows rows n s
  asked_none left l z = sym (row-valid rows n s (λ i h e. left-none (Covered rows s) s left l z i e))

pub ruleset asking = (rules, asked_all, asked_more, asked_broken, asked_none, left_less)

-- ---- with_rows

module _ (rows : List ℕ) (n s : ℕ) where
  -- of a set, those that are left are still to be widened by their rows
  pub record Widening (set left : ℕ) : Type 0 where
    pub most : set < 2 ^ n
    pub part : part_of s set ≡ true
    pub rest : Left (Covered rows set) s left
    pub least : (t : ℕ) → valid_rows rows n t ≡ true → part_of s t ≡ true → part_of set t ≡ true

  pub widening_all : s < 2 ^ n → Widening s s
  widening_all h = record { most = h; part = part_intro s s (λ j e. e); rest = left-all (Covered rows s) s; least = λ t v p. p }

  pub widening_done : (set left : ℕ) → Widening set left → left ≡ 0 → Widens rows n s set
  widening_done set left w z =
      record { most = w.most; part = w.part; rows_in = λ i h e. left-none (Covered rows set) s left w.rest z i e; least = w.least }

  module _ (set left h next : ℕ) (narrow : Narrow rows n) (small : s < 2 ^ n) (w : Widening set left) (top : Highest left h) (b : h < 64)
      (q : next ≡ without left (1 * 2 ^ h % 18446744073709551616)) where
    has : bit s h ≡ true
    unfolding Highest
    has = w.rest.part h top.0

    within : h < n
    within = member_below s n h small has

    abbrev grown : ℕ
    grown = bit_or set (get_or rows h 0)

    in_grown : (a : ℕ) → part_of a set ≡ true → part_of a grown ≡ true
    in_grown a p = part_intro a grown (λ j e. bit-or set (get_or rows h 0) j ∙ or_left (bit set j) _ (part-true a set j p e))

    pub widening_more : Widening (bit_or set (get_or rows h 0)) next
    unfolding Narrow Highest
    widening_more = record {
      most = or_lt n set (get_or rows h 0) w.most (narrow h within);
      part = in_grown s w.part;
      rest =
          left-next (Covered rows grown) s left h next
          (record { part = w.rest.part; done = λ j e f. in_grown (get_or rows j 0) (w.rest.done j e f) })
          top b q
          (part_intro (get_or rows h 0) grown (λ j e. bit-or set (get_or rows h 0) j ∙ or_right (bit set j) _ e));
      least = λ t v p. part_intro grown t (λ j e. ⊎_elim (λ a. part-true set t j (w.least t v p) a) (λ a. part-true (get_or rows h 0) t j (valid-row rows n t v h within (part-true s t h p has)) a) (or_cases (bit set j) _ (sym (bit-or set (get_or rows h 0) j) ∙ e)));
    }

pub ruleset widening = (rules, widening_all, widening_more, widening_done, left_less)

-- ---- bring

module _ (rows : List ℕ) (n i : ℕ) where
  -- a set that has write i, and no more than every valid schedule that has it
  pub record Bringing (set : ℕ) : Type 0 where
    pub most : set < 2 ^ n
    pub has : bit set i ≡ true
    pub least : (t : ℕ) → valid_rows rows n t ≡ true → bit t i ≡ true → part_of set t ≡ true

  pub bringing_one : n ≤ most_main → i < n → Bringing (1 * 2 ^ i % 18446744073709551616)
  bringing_one few l =
      rw (power_is i (omega arith))
      (record {
        most = pow-lt l;
        has = bit_pow i i ∙ eq-eqb i i refl;
        least = λ t v e. part_intro (2 ^ i) t (λ j q. rw (eqb-true j i (sym (bit_pow i j) ∙ q)) e);
      })

  module _ (set r : ℕ) (b : Bringing set) (w : Widens rows n set r) where
    pub bringing_more : Bringing r
    bringing_more = record {
      most = w.most;
      has = part-true set r i w.part b.has;
      least = λ t v e. w.least t v (b.least t v e);
    }

    -- it grows as long as it is not valid
    pub bringing_less : (t : Bool) → t ≡ valid_rows rows n set → not t ≡ true → 2 ^ n - r < 2 ^ n - set
    bringing_less t q f =
        let l = (part-most n set r b.most w.most w.part).1 in
        let d = differ in
        let m = w.most in
        omega (arith, l, m, less_other set r l d)
      where
        differ : set ≡ r → ⊥
        differ e = clash (valid_rows rows n set) (row-valid rows n set (λ j h g. rw (← e) at (w.rows_in j h g))) (sym q ∙ not-true t f)

  pub bringing_done : (set : ℕ) (t : Bool) → Bringing set → t ≡ valid_rows rows n set → not t ≡ false → Brings rows n i set
  bringing_done set t b q f = record { most = b.most; valid = sym q ∙ not-false t f; has = b.has; least = b.least }

pub ruleset bringing = (rules, bringing_one, bringing_more, bringing_less, bringing_done)

-- ---- complete

module _ (rows : List ℕ) (n : ℕ) where
  -- the first k are turned, and the table makes the same schedules valid
  pub record Completing (k : ℕ) (table : List ℕ) : Type 0 where
    pub narrow : Narrow table n
    pub alike : (s : ℕ) → valid_rows table n s ≡ valid_rows rows n s
    pub at : (i : ℕ) → i < k → Brings rows n i (get_or table i 0)

  pub completing_none : Narrow rows n → Completing 0 rows
  completing_none h = record { narrow = h; alike = λ s. refl; at = λ i l. absurd (omega arith) }

  pub completing_all : (k : ℕ) (table : List ℕ) → Completing k table → k ≤ n → n ≤ k → Completes rows n table
  completing_all k table c h l = record { alike = c.alike; at = λ i b. c.at i (omega arith) }

  pub completing_narrow : (k : ℕ) (table : List ℕ) → Completing k table → Narrow table n
  completing_narrow k table c = c.narrow

  module _ (k r : ℕ) (table : List ℕ) (c : Completing k table) (size : length table ≡ 64) (few : n ≤ most_main) (h : k < n) (b : Brings table n k r) where
    abbrev next : List ℕ
    next = set table k r

    here : get_or next k 0 ≡ r
    here = get_or-set_same table k r 0 (omega arith)

    other : (i : ℕ) → (i ≡ k → ⊥) → get_or next i 0 ≡ get_or table i 0
    other i d = get_or-set_other table k i r 0 d

    -- entry i, whether it is the one that is turned or another
    each : (P : ℕ → ℕ → Type 0) → P k r → ((i : ℕ) → P i (get_or table i 0)) → (i : ℕ) → P i (get_or next i 0)
    each P p f i = go (eqb i k) refl
      where
        go : (t : Bool) → eqb i k ≡ t → P i (get_or next i 0)
        go true q = let z = eqb-true i k q in rw (z, here) p
        go false q = rw (other i (λ z. clash (eqb i k) (eq-eqb i k z) q)) (f i)

    alike_next : (s : ℕ) → valid_rows next n s ≡ valid_rows table n s
    alike_next s = bool_equal (valid_rows next n s) (valid_rows table n s) to from
      where
        to : valid_rows next n s ≡ true → valid_rows table n s ≡ true
        to v = row-valid table n s (λ i l e. go i l e (eqb i k) refl)
          where
            go : (i : ℕ) → i < n → bit s i ≡ true → (t : Bool) → eqb i k ≡ t → part_of (get_or table i 0) s ≡ true
            go i l e true q =
                let z = eqb-true i k q in
                let all = rw (here) at (valid-row next n s v k h (rw (← z) e)) in
                rw z (part_intro (get_or table k 0) s (λ j g. part-true r s j all (part-true (get_or table k 0) r j (valid-row table n r b.valid k h b.has) g)))
            go i l e false q = rw (other i (λ z. clash (eqb i k) (eq-eqb i k z) q)) at (valid-row next n s v i l e)

        from : valid_rows table n s ≡ true → valid_rows next n s ≡ true
        from v = row-valid next n s (λ i l e. each (λ i row. i < n → bit s i ≡ true → part_of row s ≡ true) (λ l e. b.least s v e) (λ i l e. valid-row table n s v i l e) i l e)

    turned : Brings rows n k r
    turned = record {
      most = b.most;
      valid = sym (c.alike r) ∙ b.valid;
      has = b.has;
      least = λ t v e. b.least t (c.alike t ∙ v) e;
    }

    pub completing_more : Completing (k + 1) (set table k r)
    completing_more = record {
      narrow = unfold Narrow in λ i l. each (λ i row. i < n → row < 2 ^ n) (λ l. b.most) (λ i l. unfold Narrow in c.narrow i l) i l;
      alike = λ s. alike_next s ∙ c.alike s;
      at = λ i l. go i l (eqb i k) refl;
    }
      where
        go : (i : ℕ) → i < k + 1 → (t : Bool) → eqb i k ≡ t → Brings rows n i (get_or next i 0)
        go i l true q = let z = eqb-true i k q in rw (z, here) turned
        go i l false q = let d : i ≡ k → ⊥ = λ z. clash (eqb i k) (eq-eqb i k z) q in rw (other i d) (c.at i (less_other i k (omega arith) d))

-- a table that is complete completes itself
pub completes_itself : (rows : List ℕ) (n : ℕ) (table : List ℕ) → Completes rows n table → Completes table n table
completes_itself rows n table c = record {
  alike = λ s. refl;
  at = λ i h.
      let b = c.at i h in
      record { most = b.most; valid = c.alike (get_or table i 0) ∙ b.valid; has = b.has; least = λ t v e. b.least t (sym (c.alike t) ∙ v) e };
}

pub ruleset completing = (rules, completing_none, completing_narrow, completing_more, completing_all)
