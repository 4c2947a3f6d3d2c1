-- What is reached from a set: a set that holds it, and with each member the member's row, and nothing that is not reached. Those that are left still
-- have rows to be looked at.
use mathlib.Core.Path.{◌≡◌, refl, sym, ◌∙◌}
use mathlib.Core.Logic.{◌⊎◌, inl, inr, ⊎_elim}
use mathlib.Core.Bool.{Bool, true, false, ◌&&◌}
use mathlib.Core.List.{List}
use Prim.Native.Nat.{ℕ, ◌+◌, ◌-◌, ◌*◌, ◌%◌, ◌^◌, ◌<◌}
use native.Mathlib.Omega.{arith}
use lib.Bits.{bit_and, bit_or, or_add_and, or_lt}
use lib.Dec.{eqb, ltb}
use lib.ListN.{get_or}
use borrow.Author.Rules.{rules}
use borrow.Author.Tests.{eqb-true, lt-ltb}
use Rattle.relation.specs.Bits.{bit, without, Lowest}
use Rattle.relation.specs.Transitive.{Plus, one, more}
use Rattle.relation.specs.Finite.{Below, related, reaches}
use Rattle.relation.specs.Reach.{is_reached, reached}
use Rattle.relation.proofs.ListLaws.{clash, untrue, bool_equal, and_left, and_right, and_intro, or_cases, or_left, or_right, any_below-true, any_below_intro}
use Rattle.relation.proofs.BitLaws.{bit-zero, bit-or, bit_pow, bit_mask, mask_below, bits_equal, power_is}
use Rattle.relation.proofs.TransitiveLaws.{plus_snoc}
use Rattle.relation.proofs.FiniteLaws.{reaches_plus, plus_reaches, plus_start}
use Rattle.relation.proofs.SetLaws.{without_member, member_without, without-below, bits_apart}
use Rattle.relation.proofs.MemberLaws.{member_below, left-fewer}

-- ---- by the meaning

module _ (rows : List ℕ) (from : ℕ) where
  -- one of the set, or reached from one
  abbrev pub From : ℕ → Type 0
  From i = (bit from i ≡ true) ⊎ ((k : ℕ) × (bit from k ≡ true) × Plus (Below 64 (related rows)) k i)

  pub from_further : (i j : ℕ) → From i → Below 64 (related rows) i j → From j
  from_further i j (inl e) s = inr (i, e, one s)
  from_further i j (inr w) s = inr (w.0, w.1, plus_snoc w.2 s)

  pub reached_from : (i : ℕ) → bit (reached rows from) i ≡ true → From i
  unfolding reached is_reached
  reached_from i e =
      let l : i < 64 = member_below (reached rows from) 64 i (mask_below (is_reached rows from) 64) e in
      ⊎_elim (λ a. inl a)
      (λ a. let w = any_below-true (λ j. bit from j && reaches (related rows) 64 j i) 64 a in
      let k = w.0 in
      inr (k, and_left (bit from k) (reaches (related rows) 64 k i) w.2, reaches_plus (related rows) 64 k i w.1 l (and_right (bit from k) (reaches (related rows) 64 k i) w.2)))
      (or_cases (bit from i) _ (and_right (ltb i 64) _ (sym (bit_mask (is_reached rows from) 64 i) ∙ e)))

  pub from_reached : (i : ℕ) → i < 64 → From i → bit (reached rows from) i ≡ true
  unfolding reached is_reached
  from_reached i l f =
      bit_mask (is_reached rows from) 64 i
      ∙ and_intro (ltb i 64) (is_reached rows from i) (lt-ltb i 64 l)
      (⊎_elim (λ a. or_left (bit from i) _ a)
      (λ w. or_right (bit from i) _ (any_below_intro (λ j. bit from j && reaches (related rows) 64 j i) 64 w.0 (plus_start (related rows) 64 w.2)
      (and_intro (bit from w.0) (reaches (related rows) 64 w.0 i) w.1 (plus_reaches (related rows) 64 w.0 i w.2))))
      f)

-- ---- reach

module _ (rows : List ℕ) (from : ℕ) where
  pub record Reaching (set left : ℕ) : Type 0 where
    pub small : set < 2 ^ 64
    pub part : (i : ℕ) → bit from i ≡ true → bit set i ≡ true
    pub inside : (i : ℕ) → bit left i ≡ true → bit set i ≡ true
    pub done : (i : ℕ) → bit set i ≡ true → bit left i ≡ false → (j : ℕ) → j < 64 → related rows i j ≡ true → bit set j ≡ true
    pub least : (i : ℕ) → bit set i ≡ true → From rows from i

  pub reach-begun : from < 2 ^ 64 → Reaching from from
  reach-begun h = record { small = h; part = λ i e. e; inside = λ i e. e; done = λ i e f. clash (bit from i) e f; least = λ i e. inl e }

  module _ (set left : ℕ) (r : Reaching set left) (z : left ≡ 0) where
    along : (k i : ℕ) → Plus (Below 64 (related rows)) k i → bit set k ≡ true → bit set i ≡ true
    along k i (one s) e = r.done k e (rw z (bit-zero k)) i s.1 s.2
    along k i (more {y = y} s w) e = along y i w (r.done k e (rw z (bit-zero k)) y s.1 s.2)

    pub reach-done : set ≡ reached rows from
    reach-done =
        bits_equal 64 set (reached rows from) r.small (unfold reached in mask_below (is_reached rows from) 64)
        (λ i l. bool_equal (bit set i) (bit (reached rows from) i) (λ e. from_reached rows from i l (r.least i e))
        (λ e. ⊎_elim (λ a. r.part i a) (λ w. along w.0 i w.2 (r.part w.0 w.1)) (reached_from rows from i e)))

  module _ (set left j new rest : ℕ) (r : Reaching set left) (low : Lowest left j) (b : j < 64) (q : new ≡ without (get_or rows j 0) set)
      (p : rest ≡ without left (1 * 2 ^ j % 18446744073709551616)) where
    in_old : (i : ℕ) → bit set i ≡ true → bit (bit_or set new) i ≡ true
    in_old i e = bit-or set new i ∙ or_left (bit set i) (bit new i) e

    in_new : (i : ℕ) → bit new i ≡ true → bit (bit_or set new) i ≡ true
    in_new i e = bit-or set new i ∙ or_right (bit set i) (bit new i) e

    is_new : (i : ℕ) → bit new i ≡ true → (bit (get_or rows j 0) i ≡ true) × (bit set i ≡ false)
    is_new i e = without_member (get_or rows j 0) set i (rw q at e)

    new_below : (i : ℕ) → bit new i ≡ true → i < 64
    new_below i e = member_below new 64 i (rw q (without-below (get_or rows j 0) set)) e

    -- the row of j is in the set from now on
    row_in : (i : ℕ) → i < 64 → bit (get_or rows j 0) i ≡ true → bit (bit_or set new) i ≡ true
    row_in i l e = go (bit set i) refl
      where
        go : (t : Bool) → bit set i ≡ t → bit (bit_or set new) i ≡ true
        go true f = in_old i f
        go false f = in_new i (rw q (member_without (get_or rows j 0) set i l e f))

    grown-small : bit_or set new < 2 ^ 64
    grown-small = or_lt 64 set new r.small (rw q (without-below (get_or rows j 0) set))

    pub reach-more : Reaching (bit_or set new) (bit_or rest new)
    unfolding related Lowest
    reach-more = record {
      small = grown-small;
      part = λ i e. in_old i (r.part i e);
      inside = λ i e. ⊎_elim (λ f. in_old i (r.inside i (without_member left _ i (rw p at f)).0)) (λ f. in_new i f) (or_cases (bit rest i) (bit new i) (sym (bit-or rest new i) ∙ e));
      done = λ i e f k l g. finished i e f k l g (eqb i j) refl;
      least = λ i e. ⊎_elim (λ f. r.least i f) (λ f. from_further rows from j i (r.least j (r.inside j low.0)) (b, new_below i f, (is_new i f).0)) (or_cases (bit set i) (bit new i) (sym (bit-or set new i) ∙ e));
    }
      where
        finished : (i : ℕ) → bit (bit_or set new) i ≡ true → bit (bit_or rest new) i ≡ false → (k : ℕ) → k < 64 → bit (get_or rows i 0) k ≡ true → (t : Bool) → eqb i j ≡ t
            → bit (bit_or set new) k ≡ true
        finished i e f k l g true z = row_in k l (rw (eqb-true i j z) at g)
        finished i e f k l g false z =
            in_old k (r.done i (⊎_elim (λ a. a) (λ a. clash (bit (bit_or rest new) i) (bit-or rest new i ∙ or_right (bit rest i) (bit new i) a) f) (or_cases (bit set i) (bit new i) (sym (bit-or set new i) ∙ e)))
            (untrue (bit left i) (λ a. clash (bit (bit_or rest new) i) (bit-or rest new i ∙ or_left (bit rest i) (bit new i) (rw p (member_without left _ i (member_below set 64 i r.small (r.inside i a)) a (rw (power_is j b) (bit_pow j i ∙ z))))) f)) k l g)

    -- what is new goes into both, and j out of what is left
    pub reach_less : 18446744073709551616 - bit_or set new + bit_or rest new < 18446744073709551616 - set + left
    reach_less =
        let none : bit_and set new ≡ 0 = bits_apart set new (λ i e. untrue (bit new i) (λ f. clash (bit set i) e (is_new i f).1)) in
        let whole = or_add_and set new in
        let other = or_add_and rest new in
        let less = left-fewer left j rest low b p in
        let most = grown-small in
        omega (arith, none, whole, other, less, most)

pub ruleset reaching = (rules, reach-begun, reach-more, reach_less, reach-done)
