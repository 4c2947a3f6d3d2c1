-- The table of marked sets: marked schedule by schedule and test by test, then handed down candidate by candidate.
use mathlib.Core.Path.{◌≡◌, refl, sym, ap, ap₂, subst, ◌∙◌}
use mathlib.Core.Logic.{◌⊎◌, inl, inr, ⊎_elim}
use mathlib.Core.Bool.{Bool, true, false, cond, not, and-false, and-true, or-false, ◌&&◌, ◌||◌, false≢true}
use mathlib.Core.List.{List, [], ◌∷◌, ◌++◌}
use Prim.Native.Nat.{ℕ, zero, suc, ◌+◌, ◌-◌, ◌*◌, ◌/◌, ◌%◌, ◌^◌, ◌≤◌, ◌<◌}
use native.Mathlib.Nat.{mod-lt, zero-add, mul_comm, add_comm}
use native.Mathlib.Numerals.{add-one}
use native.Mathlib.Omega.{arith}
use lib.Bits.{bit_and, bit_or}
use lib.Dec.{eqb, ltb, lit<}
use Rattle.std.specs.Int.{div_ceil}
use lib.ListN.{length, length-append, get_or, take, drop, set, length-set, drop_of_length-le}
use lib.Pow.{pow-lt, pow_mono, pow-add, pow_pos, split, shr_lt}
use lib.Seq.{get_or-set_same, get_or-set_other, drop-cons, length-take-le, take-suc, take_all}
use Rattle.std.proofs.Common.{take-append-drop}
use Rattle.std.proofs.lemmas.List.{get_or_append_left}
use lib.Seq.{set-append_left}
use borrow.Author.Tests.{not-true, not-false, eq-eqb, ne_eqb, eqb-true, eqb-false, lt-ltb, ltb-false}
use Rattle.relation.specs.Bits.{bit, with_bit, mask_of}
use Rattle.relation.specs.Lists.{any, all}
use Rattle.relation.specs.Tables.{Blank}
use Rattle.relation.proofs.BitLaws.{power_is, bit-zero, bit-or, bit-and, bit_with, bit_mask, bit_mod, bit_shift, with_below, with_most, parts_below}
use Rattle.relation.proofs.ListLaws.{below_suc, bool_equal, or_cases, or_left, or_right, and_left, and_right, and_intro, any_below-true, any_below_intro, any_false, index_mem, all_append}
use Rattle.model.specs.Limits.{most_rules, most_tests, most_candidates, candidate_sets, most_found, found_schedules}
use Rattle.model.specs.declared.Rule.{Rule}
use Rattle.model.specs.declared.Write.{Write}
use Rattle.model.specs.declared.Check.{Check}
use Rattle.model.specs.Schedule.{run}
use Rattle.model.specs.Check.{holds, consistent}
use Rattle.model.specs.Test.{Test, initial_disk}
use Rattle.file_format.specs.declared.Extent.{Extent}
use Rattle.file_format.specs.Scan.{test_at}
use Rattle.file_format.specs.Held.{no_test, extent_of, Placed}
use Rattle.rule_match.specs.declared.Rules.{Rules}
use Rattle.rule_match.specs.Held.{rules_of}
use Rattle.judge_disks.specs.Packed.{held_from}
use Rattle.judge_disks.proofs.DiskSteps.{stores_run, run_parts}
use Rattle.judge_loading.specs.declared.Loaded.{Loaded}
use Rattle.judge_loading.specs.Loaded.{LoadsTest, LoadsChecks}
use Rattle.find_laws.specs.Hit.{allowed, marks, marked, spread}
use Rattle.find_candidates.specs.Tests.{tests_in, too_long}
use Rattle.find_table.specs.Table.{set_words, words_of, mark_at, pairs, Forbids, Sets, Bounded, spoils, set_of, set_after, Adds, Joins, Shows, lacking, Lowered, Spreads}
use Rattle.find_table.proofs.ForbidLaws.{power, sets_made, sets_bounded, sets_are}

-- ---- one set

module _ (b : Bool) (l k : List ℕ) where
  pub mark_no : b ≡ true → l ≡ cond b l k
  mark_no t = rw t

  pub mark_yes : (r : ℕ) (i w : ℕ) → b ≡ false → k ≡ set l i w → r ≡ w → set l i r ≡ cond b l k
  mark_yes r i w f e q = rw (f, e, q)

-- one mark more
mark_set : (l : List ℕ) (y x : ℕ) → y / 64 < length l → mark_at (set l (y / 64) (with_bit (get_or l (y / 64) 0) (y % 64))) x ≡ eqb y x || mark_at l x
unfolding mark_at
mark_set l y x h = go (eqb (x / 64) (y / 64)) refl
  where
    w : ℕ
    w = with_bit (get_or l (y / 64) 0) (y % 64)

    -- within one word
    same : (p : Bool) → eqb y x ≡ p → x / 64 ≡ y / 64 → eqb (x % 64) (y % 64) ≡ p
    same true e q = let z = eqb-true y x e in eq-eqb (x % 64) (y % 64) (omega arith)
    same false e q = let z : y ≡ x → ⊥ = eqb-false y x e in ne_eqb (x % 64) (y % 64) (λ (f : x % 64 ≡ y % 64). z (omega arith))

    swap : (p q : Bool) → p || q ≡ q || p
    swap true true = refl
    swap true false = refl
    swap false true = refl
    swap false false = refl

    go : (t : Bool) → eqb (x / 64) (y / 64) ≡ t → bit (get_or (set l (y / 64) w) (x / 64) 0) (x % 64) ≡ eqb y x || bit (get_or l (x / 64) 0) (x % 64)
    go true e =
        let q : x / 64 ≡ y / 64 = eqb-true (x / 64) (y / 64) e in
        rw (q, get_or-set_same l (y / 64) w 0 h, bit_with (get_or l (y / 64) 0) (y % 64) (x % 64), same (eqb y x) refl q) (swap (bit (get_or l (y / 64) 0) (x % 64)) (eqb y x))
    go false e =
        let d : x / 64 ≡ y / 64 → ⊥ = eqb-false (x / 64) (y / 64) e in
        let n : y ≡ x → ⊥ = λ (z : y ≡ x). d (omega arith) in
        rw (get_or-set_other l (y / 64) (x / 64) w 0 d, ne_eqb y x n)

-- ---- checks asked one by one

module _ (d : List ℕ) (cs : List Check) where
  pub held_none : consistent (take 0 cs) d ≡ true
  unfolding consistent all
  held_none = refl

  pub held_all : (i : ℕ) → length cs ≤ i → consistent (take i cs) d ≡ true → true ≡ consistent cs d
  held_all i h e = sym e ∙ ap (λ (l : List Check). consistent l d) (take_all i cs h)

  module _ (z : Check) (i : ℕ) (b : Bool) (h : i < length cs) (e : b ≡ holds d (get_or cs i z)) where
    pub held_more : consistent (take i cs) d ≡ true → not b ≡ false → consistent (take (i + 1) cs) d ≡ true
    unfolding consistent
    held_more p q =
        rw (add-one i, take-suc cs i z h, all_append (holds d) (take i cs) (get_or cs i z ∷ []))
        (and_intro (all (holds d) (take i cs)) _ p (unfold all in and_intro (holds d (get_or cs i z)) true (sym e ∙ not-false b q) refl))

    pub held_not : not b ≡ true → false ≡ consistent cs d
    unfolding consistent all
    held_not q =
        sym (ap (λ (l : List Check). all (holds d) l) (sym (take-append-drop i cs))
        ∙ all_append (holds d) (take i cs) (drop i cs)
        ∙ rw (drop-cons cs i z h, ← e, not-true b q) (and-false (all (holds d) (take i cs))))

-- ---- the schedules with one beginning

module _ (fails : ℕ → Bool) (sets : ℕ → ℕ) (old : List ℕ) where
  pub adds_none : Adds fails sets 0 old old
  adds_none = record { size = refl; kept = λ x h. h; each = λ s h. absurd (omega arith); only = λ x h. inl h }

  -- a schedule that adds nothing: it does not fail, or its set is there
  adds_skip : (new : List ℕ) (y : ℕ) → Adds fails sets y old new → (fails y ≡ true → mark_at new (sets y) ≡ true) → Adds fails sets (y + 1) old new
  adds_skip new y a f =
      record {
        size = a.size;
        kept = a.kept;
        each = λ s h e. ⊎_elim (λ (z : s ≡ y). rw z (f (rw z at e))) (λ (z : s < y). a.each s z e) (below_suc s y (omega arith));
        only = λ x h. ⊎_elim (λ (z : mark_at old x ≡ true). inl z) (λ (s, l, e, q). inr (s, omega arith, e, q)) (a.only x h);
      }

  adds_set : (new : List ℕ) (y z : ℕ) → Adds fails sets y old new → fails y ≡ true → sets y ≡ z → z / 64 < length new
      → Adds fails sets (y + 1) old (set new (z / 64) (with_bit (get_or new (z / 64) 0) (z % 64)))
  adds_set new y z a f q h =
      record {
        size = length-set new (z / 64) (with_bit (get_or new (z / 64) 0) (z % 64)) ∙ a.size;
        kept = λ x k. stays x (a.kept x k);
        each = λ s l e. ⊎_elim
            (λ (i : s ≡ y). rw (i, q) (mark_set new z z h ∙ or_left (eqb z z) (mark_at new z) (eq-eqb z z refl)))
            (λ (i : s < y). stays (sets s) (a.each s i e))
            (below_suc s y (omega arith));
        only = λ x k. ⊎_elim
            (λ (e : eqb z x ≡ true). inr (y, omega arith, f, q ∙ eqb-true z x e))
            (λ (e : mark_at new x ≡ true). ⊎_elim (λ (i : mark_at old x ≡ true). inl i) (λ (s, l, g, p). inr (s, omega arith, g, p)) (a.only x e))
            (or_cases (eqb z x) (mark_at new x) (sym (mark_set new z x h) ∙ k));
      }
    where
      stays : (x : ℕ) → mark_at new x ≡ true → mark_at (set new (z / 64) (with_bit (get_or new (z / 64) 0) (z % 64))) x ≡ true
      stays x k = mark_set new z x h ∙ or_right (eqb z x) (mark_at new x) k

  pub adds_all : (new : List ℕ) (y total n : ℕ) → Adds fails sets y old new → total ≡ 2 ^ n → y ≤ total → total ≤ y → Adds fails sets (2 ^ n) old new
  adds_all new y total n a e h g = let z : y ≡ 2 ^ n = omega arith in subst (λ (k : ℕ). Adds fails sets k old new) z a

module _ (checks : List Check) (ws : List Write) (mid forbidden : List ℕ) (all x rows : ℕ) (old new : List ℕ) (s y : ℕ)
    (a : Adds (spoils checks ws mid) (set_after forbidden all x rows) y old new) (e : s ≡ x + rows * y) where
  here : set_after forbidden all x rows y ≡ all - get_or forbidden s 0
  unfolding set_after set_of
  here = rw (← e)

  pub adds_marked : (b : Bool) → b ≡ bit (get_or new ((all - get_or forbidden s 0) / 64) 0) ((all - get_or forbidden s 0) % 64) → b ≡ true
      → Adds (spoils checks ws mid) (set_after forbidden all x rows) (y + 1) old new
  unfolding mark_at
  adds_marked b q t = adds_skip _ _ old new y a (λ f. rw here (sym q ∙ t))

  pub adds_more : (next d : List ℕ) (z n : ℕ) (c : Bool) → z ≡ all - get_or forbidden s 0 → Bounded forbidden all n → length new ≡ set_words → d ≡ run ws y mid → c ≡ consistent checks d
      → next ≡ cond c new (set new (z / 64) (with_bit (get_or new (z / 64) 0) (z % 64)))
      → Adds (spoils checks ws mid) (set_after forbidden all x rows) (y + 1) old next
  unfolding spoils
  adds_more next d z n c p b m r k q = rw q (go c refl)
    where
      h : z / 64 < length new
      h = let f = b.few in omega arith

      so : spoils checks ws mid y ≡ not c
      so = rw (k, r)

      go : (t : Bool) → c ≡ t → Adds (spoils checks ws mid) (set_after forbidden all x rows) (y + 1) old (cond t new (set new (z / 64) (with_bit (get_or new (z / 64) 0) (z % 64))))
      go true i = adds_skip _ _ old new y a (λ f. absurd (false≢true (sym (so ∙ ap not i) ∙ f)))
      go false i = adds_set _ _ old new y z a (so ∙ ap not i) (here ∙ sym p) h

-- the places of these schedules
module _ (near far x y rows columns : ℕ) (r : rows ≡ 2 ^ near) (c : columns ≡ 2 ^ far) (h : x < 2 ^ near) (l : y < columns) where
  pub place_inside : x + rows * y < 2 ^ (near + far)
  place_inside = rw r (parts_below near far x y h (omega arith))

  pub place-within : near + far ≤ most_found → x + rows * y < found_schedules
  place-within k = let p = pow_mono {i = near + far} {j = most_found} k in omega (arith, place_inside)

  pub place-product : near + far ≤ most_found → rows * y < 18446744073709551616
  place-product k = omega (arith, place-within k)

  pub place-few : (forbidden : List ℕ) (all : ℕ) → Bounded forbidden all (2 ^ (near + far)) → get_or forbidden (x + rows * y) 0 ≤ all
  place-few forbidden all b = b.below (x + rows * y) place_inside

pub set_word : (all w : ℕ) (forbidden : List ℕ) (n : ℕ) → Bounded forbidden all n → (all - w) / 64 < set_words
set_word all w forbidden n b = let h = b.few in omega arith

pub set-few : (all w : ℕ) (forbidden : List ℕ) (n : ℕ) → Bounded forbidden all n → all - w < candidate_sets
set-few all w forbidden n b = let h = b.few in omega arith

-- ---- all beginnings

-- the sets of the schedules that begin with a number below x
pub record Begins (fails : ℕ → Bool) (sets : ℕ → ℕ) (rows columns x : ℕ) (old new : List ℕ) : Type 0 where
  pub size : length new ≡ length old
  pub kept : (z : ℕ) → mark_at old z ≡ true → mark_at new z ≡ true
  pub each : (i y : ℕ) → i < x → y < columns → fails (i + rows * y) ≡ true → mark_at new (sets (i + rows * y)) ≡ true
  pub only : (z : ℕ) → mark_at new z ≡ true → (mark_at old z ≡ true) ⊎ ((i : ℕ) × (y : ℕ) × (i < x) × (y < columns) × (fails (i + rows * y) ≡ true) × (sets (i + rows * y) ≡ z))

module _ (checks : List Check) (stores base forbidden : List ℕ) (all near far : ℕ) (old : List ℕ) where
  abbrev pub Begun : ℕ → List ℕ → Type 0
  Begun x new = Begins (spoils checks (held_from stores 0 (near + far)) base) (set_of forbidden all) (2 ^ near) (2 ^ far) x old new

  pub begins_none : Begun 0 old
  begins_none = record { size = refl; kept = λ z h. h; each = λ i y h. absurd (omega arith); only = λ z h. inl h }

  pub begins_more : (x : ℕ) (mid new next : List ℕ) → Begun x new → x < 2 ^ near → mid ≡ run (held_from stores 0 near) x base
      → Adds (spoils checks (held_from stores near far) mid) (set_after forbidden all x (2 ^ near)) (2 ^ far) new next → Begun (x + 1) next
  unfolding spoils set_after
  begins_more x mid new next b h q a =
      record {
        size = a.size ∙ b.size;
        kept = λ z k. a.kept z (b.kept z k);
        each = λ i y k l e. ⊎_elim
            (λ (z : i ≡ x). rw z (a.each y l (same y ∙ rw z at e)))
            (λ (z : i < x). a.kept (set_of forbidden all (i + 2 ^ near * y)) (b.each i y z l e))
            (below_suc i x (omega arith));
        only = λ z k. ⊎_elim
            (λ (e : mark_at new z ≡ true). ⊎_elim (λ (o : mark_at old z ≡ true). inl o) (λ (i, y, m, l, g, p). inr (i, y, omega arith, l, g, p)) (b.only z e))
            (λ (y, l, g, p). inr (x, y, omega arith, l, sym (same y) ∙ g, p))
            (a.only z k);
      }
    where
      same : (y : ℕ) → spoils checks (held_from stores near far) mid y ≡ spoils checks (held_from stores 0 (near + far)) base (x + 2 ^ near * y)
      same y =
          ap (λ (d : List ℕ). not (consistent checks d))
          (ap₂ (λ (i : ℕ) (d : List ℕ). run (held_from stores i far) y d) (sym (zero-add near)) q ∙ sym (run_parts stores near 0 far x y base h))

  pub begins_all : (x rows : ℕ) (new : List ℕ) → Begun x new → rows ≡ 2 ^ near → x ≤ rows → rows ≤ x
      → Adds (spoils checks (held_from stores 0 (near + far)) base) (set_of forbidden all) (2 ^ (near + far)) old new
  begins_all x rows new b e g h =
      record {
        size = b.size;
        kept = b.kept;
        each = λ s l f.
            let z : s % 2 ^ near + 2 ^ near * (s / 2 ^ near) ≡ s = let p = split s near in let c = mul_comm (s / 2 ^ near) (2 ^ near) in omega arith in
            let m = mod-lt s {m = 2 ^ near} (pow_pos near) in
            subst (λ (k : ℕ). mark_at new (set_of forbidden all k) ≡ true) z
            (b.each (s % 2 ^ near) (s / 2 ^ near) (omega arith) (shr_lt far near (rw (add_comm far near) l)) (rw z f));
        only = λ z k. ⊎_elim
            (λ (o : mark_at old z ≡ true). inl o)
            (λ (i, y, m, l, f, p). inr (i + 2 ^ near * y, parts_below near far i y (omega (arith, m, e, g)) l, f, p))
            (b.only z k);
      }

-- ---- one test

module _ (cands : Rules) (s : List ℕ) (e : Extent) (test : Loaded) (checks : List Check) (table : List ℕ) (all : ℕ) (el : LoadsTest (test_at s e) test) (ec : LoadsChecks (test_at s e) checks)
    (n : ℕ) (many : n ≡ cands.count) (f : Forbids (pairs (rules_of cands) n test.labels) test.main table) (q : all ≡ 2 ^ cands.count - 1) (few : cands.count ≤ most_candidates) where
  made : Sets (rules_of cands) (test_at s e).main (2 ^ test.main) cands.count table
  made = sets_made (rules_of cands) (test_at s e).main test.main test.labels table cands.count el.main el.labels (rw many at f)

  module _ (near far : ℕ) (z : near + far ≡ test.main) where
    pub test_bounded : Bounded table all (2 ^ (near + far))
    test_bounded = rw z (sets_bounded (rules_of cands) (test_at s e).main (2 ^ test.main) cands.count table all made q few)

    pub joins_test : (old new : List ℕ) → length cands.items ≡ most_rules
        → Adds (spoils (take test.checks checks) (held_from test.stores 0 (near + far)) test.base) (set_of table all) (2 ^ (near + far)) old new
        → Joins (marks (rules_of cands) (test_at s e)) old new
    unfolding marks allowed spoils LoadsChecks
    joins_test old new whole a =
        record {
          size = a.size;
          at = λ x l. bool_equal (mark_at new x) (marks (rules_of cands) t x || mark_at old x)
              (λ k. ⊎_elim
              (λ (o : mark_at old x ≡ true). or_right (marks (rules_of cands) t x) (mark_at old x) o)
              (λ (i, h, g, p). or_left (marks (rules_of cands) t x) (mark_at old x)
              (any_below_intro (marks-by x) (2 ^ length t.main) i (subst (λ (k : ℕ). i < k) size h)
              (and_intro (not (consistent t.checks (run t.main i (initial_disk t)))) _ (sym (fails i) ∙ g) (eq-eqb (allowed (rules_of cands) t.main i) x (sym (named i h) ∙ p)))))
              (a.only x k))
              (λ k. ⊎_elim
              (λ (m : marks (rules_of cands) t x ≡ true).
              let (i, h, g) = any_below-true (marks-by x) (2 ^ length t.main) m in
              let j : i < 2 ^ (near + far) = subst (λ (k : ℕ). i < k) (sym size) h in
              let w = and_left (not (consistent t.checks (run t.main i (initial_disk t)))) _ g in
              let v = eqb-true (allowed (rules_of cands) t.main i) x (and_right (not (consistent t.checks (run t.main i (initial_disk t)))) _ g) in
              subst (λ (y : ℕ). mark_at new y ≡ true) (named i j ∙ v) (a.each i j (fails i ∙ w)))
              (λ (o : mark_at old x ≡ true). a.kept x o)
              (or_cases (marks (rules_of cands) t x) (mark_at old x) k));
        }
      where
        t : Test
        t = test_at s e

        marks-by : ℕ → ℕ → Bool
        marks-by x i = not (consistent t.checks (run t.main i (initial_disk t))) && eqb (allowed (rules_of cands) t.main i) x

        size : 2 ^ (near + far) ≡ 2 ^ length t.main
        size = ap (λ (n : ℕ). 2 ^ n) (z ∙ sym el.main)

        held : length (rules_of cands) ≡ cands.count
        held = length-take-le cands.count cands.items (omega arith)

        named : (i : ℕ) → i < 2 ^ (near + far) → set_of table all i ≡ allowed (rules_of cands) t.main i
        named i h = sets_are (rules_of cands) t.main (2 ^ test.main) cands.count table all made q i (rw (← z) h) ∙ rw held

        fails : (i : ℕ) → spoils (take test.checks checks) (held_from test.stores 0 (near + far)) test.base i ≡ not (consistent t.checks (run t.main i (initial_disk t)))
        fails i = rw (z, ← el.checks, ec, stores_run test.stores t.main test.main i test.base el.stores el.main, el.base)

-- a test that is not too long, as it is loaded
pub test-few : (t : Test) (test : Loaded) → LoadsTest t test → length t.main ≤ most_found → test.main ≤ most_found
test-few t test l h = rw (← l.main) h

pub halves_few : (t : Test) (test : Loaded) (n : ℕ) → LoadsTest t test → length t.main ≤ most_found → n ≡ test.main → n / 2 + (n - n / 2) ≤ most_found
halves_few t test n l h e = let m = test-few t test l h in omega arith

pub halves_are : (n : ℕ) → n / 2 + (n - n / 2) ≡ n
halves_are n = omega arith

pub all-is : (n : ℕ) → n ≤ most_candidates → 1 * 2 ^ n % 18446744073709551616 - 1 ≡ 2 ^ n - 1
all-is n h = rw (power n h)

-- ---- all tests

-- where none is too long, test t is not
pub test_short : (s : List ℕ) (extents : List Extent) (many t : ℕ) → Placed s (tests_in s) extents many → too_long (tests_in s) ≡ false → t < many
    → length (test_at s (extent_of extents t)).main ≤ most_found
unfolding too_long
test_short s extents many t placed e h =
    let m = placed.count in
    let f = any_false (λ (t : Test). ltb most_found (length t.main)) e (get_or (tests_in s) t no_test) (index_mem (tests_in s) t no_test (omega arith) refl) in
    rw (← placed.each t h) (ltb-false most_found (length (get_or (tests_in s) t no_test).main) f)

-- the sets of the tests from t on are marked
pub record Marking (cs : List Rule) (s : List ℕ) (t : ℕ) (l : List ℕ) : Type 0 where
  pub shows : Shows (marked cs (drop t (tests_in s))) l candidate_sets

module _ (cs : List Rule) (s : List ℕ) (extents : List Extent) (many : ℕ) (placed : Placed s (tests_in s) extents many) where
  pub marking_none : (l : List ℕ) → length l ≡ set_words → Blank set_words l → Marking cs s many l
  unfolding marked any mark_at
  marking_none l n b =
      let h = placed.count in
      record {
        shows = record { size = n; at = λ x i. rw (drop_of_length-le (tests_in s) {i = many} (omega arith), b.at (x / 64) (omega arith)) (bit-zero (x % 64)) };
      }

  pub test-within : (t n : ℕ) → n ≤ many → t + 1 ≡ n → t < most_tests
  test-within t n h e = let m = placed.most in omega arith

  pub marking_more : (t n : ℕ) (old new : List ℕ) → Marking cs s n old → n ≤ many → t + 1 ≡ n
      → Joins (marks cs (test_at s (extent_of extents t))) old new → Marking cs s t new
  marking_more t n old new k h z a =
      let w : suc t ≡ n = omega arith in
      let b : t < length (tests_in s) = let m = placed.count in omega arith in
      let front : drop t (tests_in s) ≡ test_at s (extent_of extents t) ∷ drop n (tests_in s)
      = drop-cons (tests_in s) t no_test b ∙ ap (λ (x : Test). x ∷ drop (suc t) (tests_in s)) (placed.each t (omega arith)) ∙ ap (λ (m : ℕ). test_at s (extent_of extents t) ∷ drop m (tests_in s)) w in
      record {
        shows =
            subst (λ (l : List Test). Shows (marked cs l) new candidate_sets) (sym front)
            (record {
              size = a.size ∙ k.shows.size;
              at = unfold marked any in λ x i. a.at x i ∙ ap (λ (b : Bool). marks cs (test_at s (extent_of extents t)) x || b) (k.shows.at x i);
            });
      }

pub marking_all : (cs : List Rule) (s : List ℕ) (t : ℕ) (l : List ℕ) → Marking cs s t l → t ≤ 0 → Shows (marked cs (tests_in s)) l candidate_sets
marking_all cs s t l k h = let z : t ≡ 0 = omega arith in subst (λ (n : ℕ). Shows (marked cs (drop n (tests_in s))) l candidate_sets) z k.shows

-- ---- handing down

-- a set by its word and its bit
place-word : (i j : ℕ) → j < 64 → (64 * i + j) / 64 ≡ i
place-word i j h = omega arith

place-bit : (i j : ℕ) → j < 64 → (64 * i + j) % 64 ≡ j
place-bit i j h = omega arith

mark-place : (l : List ℕ) (i j : ℕ) → j < 64 → mark_at l (64 * i + j) ≡ bit (get_or l i 0) j
unfolding mark_at
mark-place l i j h = rw (place-word i j h, place-bit i j h)

module _ (b : ℕ) (old : List ℕ) where
  pub lowered_none : Lowered b old old 0
  lowered_none = record { size = refl; done = λ x h. absurd (omega arith); rest = λ i h. refl }

  -- one word more, by its bits
  lowered_more : (new : List ℕ) (i r : ℕ) → Lowered b old new i → i < length new
      → ((j : ℕ) → j < 64 → bit r j ≡ mark_at old (64 * i + j) || mark_at old (with_bit (64 * i + j) b)) → Lowered b old (set new i r) (i + 1)
  lowered_more new i r g h word =
      record {
        size = length-set new i r ∙ g.size;
        done =
            λ x l. ⊎_elim
            (λ (z : x / 64 ≡ i).
            let j = x % 64 in
            let w : 64 * i + j ≡ x = omega arith in
            subst (λ (k : ℕ). mark_at (set new i r) k ≡ mark_at old k || mark_at old (with_bit k b)) w
            (mark-place (set new i r) i j (mod-lt x {m = 64} (lit< tt)) ∙ ap (λ (k : ℕ). bit k j) (get_or-set_same new i r 0 h) ∙ word j (mod-lt x {m = 64} (lit< tt))))
            (λ (z : x / 64 < i). unfold mark_at in (ap (λ (k : ℕ). bit k (x % 64)) (get_or-set_other new i (x / 64) r 0 (λ (y : x / 64 ≡ i). absurd (omega arith))) ∙ g.done x z))
            (below_suc (x / 64) i (omega arith));
        rest = λ k l. get_or-set_other new i k r 0 (λ (y : k ≡ i). absurd (omega arith)) ∙ g.rest k (omega arith);
      }

  pub lowered_all : (new : List ℕ) (i words : ℕ) → Lowered b old new i → i ≤ words → words ≤ i → Lowered b old new words
  lowered_all new i words g h l = let z : i ≡ words = omega arith in subst (Lowered b old new) z g

lacking-is : (b : ℕ) → b < 6 → lacking b ≡ mask_of (λ j. not (bit j b)) 64
unfolding lacking mask_of bit with_bit
lacking-is zero h = refl
lacking-is (suc zero) h = refl
lacking-is (suc (suc zero)) h = refl
lacking-is (suc (suc (suc zero))) h = refl
lacking-is (suc (suc (suc (suc zero)))) h = refl
lacking-is (suc (suc (suc (suc (suc zero))))) h = refl
lacking-is (suc (suc (suc (suc (suc (suc b)))))) h = absurd (omega arith)

-- a set with candidate b from 6 on: another word, the same bit
with_across : (b : ℕ) → 6 ≤ b → (i j : ℕ) → j < 64 → with_bit (64 * i + j) b ≡ 64 * with_bit i (b - 6) + j
unfolding with_bit
with_across b h i j k = rw flag (go (bit i (b - 6)))
  where
    z : 6 + (b - 6) ≡ b
    z = omega arith

    whole : 2 ^ b ≡ 64 * 2 ^ (b - 6)
    whole = ap (λ (n : ℕ). 2 ^ n) (sym z) ∙ pow-add 2 6 (b - 6)

    flag : bit (64 * i + j) b ≡ bit i (b - 6)
    flag = ap (bit (64 * i + j)) (sym z) ∙ sym (bit_shift (64 * i + j) 6 (b - 6)) ∙ ap (λ (n : ℕ). bit n (b - 6)) (place-word i j k)

    go : (t : Bool) → cond t (64 * i + j) (64 * i + j + 2 ^ b) ≡ 64 * cond t i (i + 2 ^ (b - 6)) + j
    go true = refl
    go false = omega (arith, whole)

or_same : (p : Bool) → p ≡ p || p
or_same true = refl
or_same false = refl

module _ (b : ℕ) (old new : List ℕ) (i : ℕ) (g : Lowered b old new i) where
  -- within a word: a set with candidate b stands 2 ^ b bits above the one without
  pub lowered_within : (step without : ℕ) → b < 6 → step ≡ 2 ^ b → without ≡ lacking b → i < length new
      → Lowered b old (set new i (bit_or (get_or new i 0) (bit_and (get_or new i 0 / 2 ^ step) without))) (i + 1)
  lowered_within step without h es ew l = lowered_more b old new i _ g l (λ j k. word j k (bit j b) refl)
    where
      w : ℕ
      w = get_or old i 0

      was : get_or new i 0 ≡ w
      was = g.rest i (omega arith)

      bits : (j : ℕ) → j < 64 → bit (bit_or (get_or new i 0) (bit_and (get_or new i 0 / 2 ^ step) without)) j ≡ bit w j || bit w (2 ^ b + j) && not (bit j b)
      bits j k =
          rw (was, bit-or w (bit_and (w / 2 ^ step) without) j, bit-and (w / 2 ^ step) without j, bit_shift w step j, es, ew, lacking-is b h, bit_mask (λ j. not (bit j b)) 64 j, lt-ltb j 64 k)

      flag : (j : ℕ) → j < 64 → bit (64 * i + j) b ≡ bit j b
      flag j k = sym (bit_mod (64 * i + j) 6 b h) ∙ ap (λ (n : ℕ). bit n b) (place-bit i j k)

      word : (j : ℕ) → j < 64 → (t : Bool) → bit j b ≡ t
          → bit (bit_or (get_or new i 0) (bit_and (get_or new i 0 / 2 ^ step) without)) j ≡ mark_at old (64 * i + j) || mark_at old (with_bit (64 * i + j) b)
      word j k true e =
          let same : with_bit (64 * i + j) b ≡ 64 * i + j = unfold with_bit in rw (flag j k, e) in
          bits j k ∙ rw (e, same, mark-place old i j k, and-false (bit w (2 ^ b + j)), or-false (bit w j)) (or_same (bit w j))
      word j k false e =
          let up : with_bit (64 * i + j) b ≡ 64 * i + (2 ^ b + j) = (unfold with_bit in rw (flag j k, e) (omega arith)) in
          let fits : 2 ^ b + j < 64 = (let q : with_bit j b < 2 ^ 6 = with_below j b 6 k h in let r : with_bit j b ≡ j + 2 ^ b = (unfold with_bit in rw e) in omega arith) in
          bits j k ∙ rw (e, up, mark-place old i j k, mark-place old i (2 ^ b + j) fits, and-true (bit w (2 ^ b + j)))

  -- across words: it stands in another word, at the same bit
  pub lowered_across : (other : ℕ) → 6 ≤ b → other ≡ with_bit i (b - 6) → i < length new
      → Lowered b old (set new i (bit_or (get_or new i 0) (get_or new other 0))) (i + 1)
  lowered_across other h e l = lowered_more b old new i _ g l (λ j k. rw (bit-or (get_or new i 0) (get_or new other 0) j, g.rest i (omega arith), g.rest other (let m = with_most i (b - 6) in omega arith), mark-place old i j k)
      (ap (λ (t : Bool). bit (get_or old i 0) j || t) (rw (with_across b h i j k, ← e) (sym (mark-place old other j k)))))

-- the words walked, before those that are left as they are
module _ (b words : ℕ) (old : List ℕ) where
  pub walked_none : Lowered b old (take words old ++ drop words old) 0
  walked_none = rw (take-append-drop words old) (lowered_none b old)

  pub walked_more : (items : List ℕ) (i step without : ℕ) → Lowered b old (items ++ drop words old) i → i < length items → b < 6 → step ≡ 2 ^ b → without ≡ lacking b
      → Lowered b old (set items i (bit_or (get_or items i 0) (bit_and (get_or items i 0 / 2 ^ step) without)) ++ drop words old) (i + 1)
  walked_more items i step without g h l es ew =
      let all = items ++ drop words old in
      let at : get_or all i 0 ≡ get_or items i 0 = get_or_append_left items (drop words old) 0 i h in
      let inside : i < length all = rw (length-append items (drop words old)) (omega arith) in
      let next : Lowered b old (set all i (bit_or (get_or items i 0) (bit_and (get_or items i 0 / 2 ^ step) without))) (i + 1)
      = rw at at (lowered_within b old all i g step without l es ew inside) in
      rw (set-append_left items (drop words old) i (bit_or (get_or items i 0) (bit_and (get_or items i 0 / 2 ^ step) without)) h) at next

  pub walked_all : (items : List ℕ) (i : ℕ) → Lowered b old (items ++ drop words old) i → words ≤ length old → i ≤ length (take words old) → length (take words old) ≤ i
      → Lowered b old (items ++ drop words old) words
  walked_all items i g few h l = lowered_all b old (items ++ drop words old) i words g (omega (arith, length-take-le words old few)) (omega (arith, length-take-le words old few))

module _ (n : ℕ) (old : List ℕ) where
  pub spreads_none : Spreads n 0 old old
  unfolding spread
  spreads_none = record { size = refl; shows = λ f k. k }

  pub spreads_more : (b words : ℕ) (mid new : List ℕ) → Spreads n b old mid → b < n → words ≡ words_of n → Lowered b mid new words → Spreads n (b + 1) old new
  unfolding spread
  spreads_more b words mid new k h e g =
      record {
        size = g.size ∙ k.size;
        shows =
            λ f o. let m = k.shows f o in
            record {
              size = g.size ∙ m.size;
              at = λ x l. g.done x (omega arith) ∙ rw (add-one b) (ap₂ ◌||◌ (m.at x l) (m.at (with_bit x b) (with_below x b n l h)));
            };
      }

  pub spreads_all : (b : ℕ) (new : List ℕ) → Spreads n b old new → b ≤ n → n ≤ b → Spreads n n old new
  spreads_all b new k h l = let z : b ≡ n = omega arith in subst (λ (x : ℕ). Spreads n x old new) z k

-- the machine's shifts
module _ (i words b other : ℕ) (h : i < words) (w : words ≤ set_words) (k : 6 ≤ b) (l : b < most_candidates) (e : other ≡ with_bit i (b - 6)) where
  pub other-within : other < set_words
  other-within = rw e (with_below i (b - 6) (most_candidates - 6) (omega arith) (omega arith))

  pub other_scaled : other * 8 < 18446744073709551616
  other_scaled = omega (arith, other-within)

pub step_is : (b : ℕ) → b < 6 → 1 * 2 ^ b % 18446744073709551616 ≡ 2 ^ b
step_is b h = power b (omega arith)

pub step-most : (b : ℕ) → b < 6 → 1 * 2 ^ b % 18446744073709551616 < 64
step-most b h = rw (step_is b h) (pow-lt {i = b} {j = 6} h)

double : (b : ℕ) → b < 6 → 1 * 2 ^ (1 * 2 ^ b % 18446744073709551616) % 18446744073709551616 ≡ 2 ^ 2 ^ b
double b h =
    let s = step-most b h in
    power_is (1 * 2 ^ b % 18446744073709551616) (omega arith) ∙ ap (λ (n : ℕ). 2 ^ n) (step_is b h)

pub double-fits : (b : ℕ) → b < 6 → 1 * 2 ^ (1 * 2 ^ b % 18446744073709551616) % 18446744073709551616 + 1 < 18446744073709551616
double-fits b h =
    let s : 2 ^ b < 64 = pow-lt {i = b} {j = 6} h in
    let p = pow_mono {i = 2 ^ b} {j = 63} (omega arith) in
    rw (double b h) (omega arith)

pub without_is : (b : ℕ) → b < 6 → 18446744073709551615 / (1 * 2 ^ (1 * 2 ^ b % 18446744073709551616) % 18446744073709551616 + 1) ≡ lacking b
unfolding lacking
without_is b h = rw (double b h)

pub words_are : (n : ℕ) → n ≤ most_candidates → div_ceil (1 * 2 ^ n % 18446744073709551616) 64 ≡ words_of n
words_are n h = rw (power n h) (omega arith)

pub words-most : (n : ℕ) → n ≤ most_candidates → div_ceil (1 * 2 ^ n % 18446744073709551616) 64 ≤ set_words
words-most n h = rw (power n h) (let p = pow_mono {i = n} {j = most_candidates} h in omega arith)
