-- Rings by peeling: what is peeled is on no ring; and where nothing can be peeled of a set, there is a ring, since without one something is ready.
use mathlib.Core.Path.{◌≡◌, refl, sym, ap, ◌∙◌}
use mathlib.Core.Logic.{⊎_elim}
use mathlib.Core.Bool.{Bool, true, false, cond}
use mathlib.Core.List.{List}
use Prim.Native.Nat.{ℕ, zero, suc, ◌+◌, ◌-◌, ◌*◌, ◌%◌, ◌^◌, ◌≤◌, ◌<◌}
use native.Mathlib.Nat.{le_refl, le_trans}
use native.Mathlib.Numerals.{add-one}
use native.Mathlib.Omega.{arith}
use lib.Bits.{bit_and, and_le_r}
use lib.Dec.{eqb}
use lib.ListN.{length, get_or, take}
use lib.Seq.{get_or-take, length-take-le}
use Rattle.std.proofs.Common.{length-take}
use lib.Pow.{pow_pos}
use borrow.Author.Rules.{rules}
use borrow.Author.Tests.{eqb-true, eqb-false, eq-eqb, ne_eqb}
use Rattle.relation.specs.Bits.{bit, without}
use Rattle.relation.specs.Transitive.{Plus}
use Rattle.relation.specs.Finite.{Below, related, has_ring}
use Rattle.relation.specs.Union.{part_of}
use Rattle.relation.specs.Peel.{peeled_one, peeled, peeled_back}
use Rattle.relation.proofs.ListLaws.{clash, untrue, below_extend}
use Rattle.relation.proofs.BitLaws.{bit-zero, bit_pow, power_is}
use Rattle.relation.proofs.TransitiveLaws.{plus_snoc, plus_first}
use Rattle.relation.proofs.FiniteLaws.{has_ring-ring, ring-has_ring, plus_start, ready}
use Rattle.relation.proofs.UnionLaws.{bits_same, bit-ones, part-true, part_intro}
use Rattle.relation.proofs.SetLaws.{without_member, member_without, apart-bit, bits_apart}
use Rattle.relation.proofs.MemberLaws.{member_below}

-- ---- a pass

one-part : (left row set i : ℕ) → part_of set left ≡ true → part_of (peeled_one row set i) left ≡ true
unfolding peeled_one
one-part left row set i p = go (eqb (bit_and row set) 0)
  where
    go : (t : Bool) → part_of (cond t (without set (2 ^ i)) set) left ≡ true
    go true = part_intro (without set (2 ^ i)) left (λ j e. part-true set left j p (without_member set (2 ^ i) j e).0)
    go false = p

module _ (rows : List ℕ) (left : ℕ) where
  pass_part : (n : ℕ) → part_of (peeled rows left n) left ≡ true
  unfolding peeled
  pass_part zero = part_intro left left (λ j e. e)
  pass_part (suc n) = one-part left (get_or rows n 0) (peeled rows left n) n (pass_part n)

  -- nothing was peeled: each number that is left has a row that meets what is left
  abbrev Stuck : ℕ → Type 0
  Stuck n = (k : ℕ) → k < n → bit left k ≡ true → bit_and (get_or rows k 0) left ≡ 0 → ⊥

  one_stuck : (set i : ℕ) → part_of set left ≡ true → peeled_one (get_or rows i 0) set i ≡ left
      → (set ≡ left) × (bit left i ≡ true → bit_and (get_or rows i 0) left ≡ 0 → ⊥)
  unfolding peeled_one
  one_stuck set i p = go (eqb (bit_and (get_or rows i 0) set) 0) refl
    where
      go : (t : Bool) → eqb (bit_and (get_or rows i 0) set) 0 ≡ t → cond t (without set (2 ^ i)) set ≡ left
          → (set ≡ left) × (bit left i ≡ true → bit_and (get_or rows i 0) left ≡ 0 → ⊥)
      go true m e =
          (bits_same set left (λ j. same j (bit left j) refl), λ q z. clash (bit (2 ^ i) i) (bit_pow i i ∙ eq-eqb i i refl) (inside i q).1)
        where
          inside : (j : ℕ) → bit left j ≡ true → (bit set j ≡ true) × (bit (2 ^ i) j ≡ false)
          inside j q = without_member set (2 ^ i) j (rw e q)

          same : (j : ℕ) (t : Bool) → bit left j ≡ t → bit set j ≡ bit left j
          same j true q = (inside j q).0 ∙ sym q
          same j false q = untrue (bit set j) (λ f. clash (bit left j) (part-true set left j p f) q) ∙ sym q
      go false m e = (e, λ q z. eqb-false (bit_and (get_or rows i 0) set) 0 m (rw e z))

  pass_stuck : (n : ℕ) → peeled rows left n ≡ left → Stuck n
  unfolding peeled
  pass_stuck zero e = λ k h. absurd (omega arith)
  pass_stuck (suc n) e =
      let s = one_stuck (peeled rows left n) n (pass_part n) e in
      below_extend _ n (pass_stuck n s.0) s.1

-- a part is no more
one-most : (row left i : ℕ) → peeled_one row left i ≤ left
unfolding part_of
one-most row left i =
    let p = one-part left row left i (part_intro left left (λ j e. e)) in
    let e : bit_and (peeled_one row left i) left ≡ peeled_one row left i = eqb-true _ _ p in
    rw (← e) (and_le_r (peeled_one row left i) left)

back-most : (rows : List ℕ) (n left : ℕ) → peeled_back rows left n ≤ left
unfolding peeled_back
back-most rows zero left = le_refl left
back-most rows (suc n) left = le_trans (back-most rows n (peeled_one (get_or rows n 0) left n)) (one-most (get_or rows n 0) left n)

-- ---- what is not left is on no ring

module _ (rows : List ℕ) (n : ℕ) where
  pub record Peeling (left : ℕ) : Type 0 where
    pub most : (i : ℕ) → bit left i ≡ true → i < n
    pub safe : (i : ℕ) → bit left i ≡ false → Plus (Below n (related rows)) i i → ⊥

  module _ (few : n ≤ 64) where
    one_peeling : (left i : ℕ) → Peeling left → Peeling (peeled_one (get_or rows i 0) left i)
    unfolding peeled_one related
    one_peeling left i p = go (eqb (bit_and (get_or rows i 0) left) 0) refl
      where
        go : (t : Bool) → eqb (bit_and (get_or rows i 0) left) 0 ≡ t → Peeling (cond t (without left (2 ^ i)) left)
        go false e = p
        go true e = record {
          most = λ j f. p.most j (without_member left (2 ^ i) j f).0;
          safe = λ j f w. others j f w (eqb j i) refl;
        }
          where
            -- a ring through i goes on to a number that was peeled before
            through : Plus (Below n (related rows)) i i → ⊥
            through w =
                let s = plus_first w in
                let gone = apart-bit (get_or rows i 0) left s.0 (eqb-true (bit_and (get_or rows i 0) left) 0 e) s.1.2 in
                ⊎_elim (λ (q : s.0 ≡ i). p.safe i (rw q at gone) w) (λ v. p.safe s.0 gone (plus_snoc v s.1)) s.2

            others : (j : ℕ) → bit (without left (2 ^ i)) j ≡ false → Plus (Below n (related rows)) j j → (t : Bool) → eqb j i ≡ t → ⊥
            others j f w true q = through (rw (eqb-true j i q) at w)
            others j f w false q =
                p.safe j
                (untrue (bit left j) (λ g. clash (bit (without left (2 ^ i)) j) (member_without left (2 ^ i) j (let l = p.most j g in omega (arith, l)) g (bit_pow i j ∙ q)) f))
                w

    pass_peeling : (left : ℕ) → Peeling left → (k : ℕ) → Peeling (peeled rows left k)
    unfolding peeled
    pass_peeling left p zero = p
    pass_peeling left p (suc k) = one_peeling (peeled rows left k) k (pass_peeling left p k)

    back_peeling : (k left : ℕ) → Peeling left → Peeling (peeled_back rows left k)
    unfolding peeled_back
    back_peeling zero left p = p
    back_peeling (suc k) left p = back_peeling k (peeled_one (get_or rows k 0) left k) (one_peeling left k p)

-- ---- the code's steps

-- all numbers below n
module _ (n : ℕ) (few : n ≤ 64) where
  pub all_most : n ≡ 64 → 18446744073709551615 ≡ 2 ^ n - 1
  all_most e = rw e

  pub all-some : (n ≡ 64 → ⊥) → 1 ≤ 1 * 2 ^ n % 18446744073709551616
  all-some d = let h : n < 64 = omega (arith, d) in rw (power_is n h) (pow_pos n)

  pub all-fewer : (n ≡ 64 → ⊥) → 1 * 2 ^ n % 18446744073709551616 - 1 ≡ 2 ^ n - 1
  all-fewer d = let h : n < 64 = omega (arith, d) in rw (power_is n h)

-- peel_one
module _ (row left i : ℕ) where
  pub kept-one : (bit_and row left ≡ 0 → ⊥) → left ≡ peeled_one row left i
  unfolding peeled_one
  kept-one d = rw (ne_eqb (bit_and row left) 0 d)

  pub peeled-one : (r : ℕ) → i < 64 → bit_and row left ≡ 0 → r ≡ without left (1 * 2 ^ i % 18446744073709551616) → r ≡ peeled_one row left i
  unfolding peeled_one
  peeled-one r h z e = rw (eq-eqb (bit_and row left) 0 z, ← power_is i h) e

-- peel
module _ (rows : List ℕ) (left : ℕ) where
  pub pass_begun : left ≡ peeled rows left 0
  unfolding peeled
  pass_begun = refl

  -- of the first n rows
  pub pass_more : (rest next i n : ℕ) → i < length (take n rows) → rest ≡ peeled rows left i → next ≡ peeled_one (get_or (take n rows) i 0) rest i → next ≡ peeled rows left (i + 1)
  unfolding peeled
  pass_more rest next i n h e q =
      let few : i < n = omega (arith, length-take n rows) in
      rw (add-one i, ← e, ← get_or-take n rows i 0 few) q

  pub pass_done : (rest i n : ℕ) → n ≤ length rows → i ≤ length (take n rows) → length (take n rows) ≤ i → rest ≡ peeled rows left i → rest ≡ peeled rows left n
  pass_done rest i n f h l e = let q : i ≡ n = omega (arith, length-take-le n rows f) in rw (← q) e

-- peel_back
module _ (rows : List ℕ) (whole rest i : ℕ) (e : peeled_back rows rest i ≡ whole) where
  pub back_more : (next : ℕ) → (i ≡ 0 → ⊥) → next ≡ peeled_one (get_or rows (i - 1) 0) rest (i - 1) → peeled_back rows next (i - 1) ≡ whole
  unfolding peeled_back
  back_more next d q =
      let s : i ≡ suc (i - 1) = omega (arith, d) in
      let f : peeled_back rows rest (suc (i - 1)) ≡ whole = ap (peeled_back rows rest) (sym s) ∙ e in
      rw q f

  pub back_done : i ≡ 0 → rest ≡ whole
  unfolding peeled_back
  back_done z = sym (ap (peeled_back rows rest) z) ∙ e

-- has_ring
module _ (rows : List ℕ) (n left : ℕ) where
  pub ring-begun : left ≡ 2 ^ n - 1 → Peeling rows n left
  ring-begun e = rw e (record { most = λ i f. member_below (2 ^ n - 1) n i (let p = pow_pos n in omega (arith, p)) f; safe = λ i f w. clash (bit (2 ^ n - 1) i) (bit-ones n i (plus_start (related rows) n w)) f })

  pub ring-none : Peeling rows n left → left ≡ 0 → false ≡ has_ring (related rows) n
  ring-none p z = sym (untrue (has_ring (related rows) n) (λ t. let r = has_ring-ring (related rows) n t in p.safe r.0 (rw z (bit-zero r.0)) r.1))

  module _ (next : ℕ) (few : n ≤ 64) (p : Peeling rows n left) (e : next ≡ peeled rows left n) where
    pub ring-found : (left ≡ 0 → ⊥) → next ≡ left → true ≡ has_ring (related rows) n
    unfolding related
    ring-found some q = sym (go (has_ring (related rows) n) refl)
      where
        go : (t : Bool) → has_ring (related rows) n ≡ t → t ≡ true
        go true r = refl
        go false r = absurd (some (bits_same left 0 (λ j. untrue (bit left j) (λ f. none j f) ∙ sym (bit-zero j))))
          where
            none : (j : ℕ) → bit left j ≡ true → ⊥
            none j f =
                let w = ready (related rows) n (bit left) (λ g. clash (has_ring (related rows) n) (ring-has_ring (related rows) n g) r) j (p.most j f) f in
                let k = w.0 in
                pass_stuck rows left n (sym e ∙ q) k w.1 w.2 (bits_apart (get_or rows k 0) left (λ i g. untrue (bit left i) (λ h. clash (bit left i) h (w.3 i (p.most i h) g))))

    pub ring-more : Peeling rows n next
    ring-more = rw e (pass_peeling rows n few left p n)

    pub ring-back : (after : ℕ) → after ≡ peeled_back rows next n → Peeling rows n after
    ring-back after q = rw q (back_peeling rows n few n next ring-more)

    pub ring_less : (after : ℕ) → (next ≡ left → ⊥) → after ≡ peeled_back rows next n → after < left
    unfolding part_of
    ring_less after d q =
        let l = and_le_r next left in
        let s : bit_and next left ≡ next = eqb-true _ _ (rw e (pass_part rows left n)) in
        let m : after ≤ next = rw q (back-most rows n next) in
        omega (arith, l, s, d, m)

pub ruleset peeling = (rules, all_most, all-some, all-fewer, kept-one, peeled-one, pass_begun, pass_more, pass_done, back_more, back_done, ring-begun, ring-none, ring-found, ring-more, ring-back, ring_less)
