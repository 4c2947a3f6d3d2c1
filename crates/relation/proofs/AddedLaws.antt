-- One more number: where the numbers below n have no ring, a ring goes through n, and so from what n needs to what depends on n.
use mathlib.Core.Path.{◌≡◌, refl, sym, ◌∙◌}
use mathlib.Core.Logic.{◌⊎◌, inl, inr, ⊎_elim}
use mathlib.Core.Bool.{Bool, true, false, not}
use mathlib.Core.List.{List}
use Prim.Native.Nat.{ℕ, suc, ◌+◌, ◌<◌}
use native.Mathlib.Numerals.{add-one}
use native.Mathlib.Omega.{arith}
use lib.Bits.{bit_and, and_zero_r}
use lib.Dec.{eqb}
use lib.ListN.{take}
use borrow.Author.Rules.{rules}
use borrow.Author.Tests.{eqb-true, eqb-false}
use Rattle.relation.specs.Bits.{bit, mask_of}
use Rattle.relation.specs.Transitive.{Plus, one, more}
use Rattle.relation.specs.Finite.{Below, related, rows_of, has_ring}
use Rattle.relation.specs.Reach.{reached, closes_ring}
use Rattle.relation.proofs.ListLaws.{clash, untrue, true_unless, below_suc}
use Rattle.relation.proofs.TransitiveLaws.{plus_trans, plus_snoc}
use Rattle.relation.proofs.FiniteLaws.{Agree, table_row, plus_start, has_ring-ring, ring-has_ring}
use Rattle.relation.proofs.MaskLaws.{mask_member, member_mask}
use Rattle.relation.proofs.SetLaws.{apart-bit, bits_apart}
use Rattle.relation.proofs.ReachLaws.{From, reached_from, from_further, from_reached}

-- R is on the numbers below n, S goes on to n; rows has R, needed what n is related to, dependents what is related to n
module _ (R S : ℕ → ℕ → Bool) (n : ℕ) (rows : List ℕ) (needed dependents : ℕ) (few : n < 64) (table : take n rows ≡ rows_of R n) (same : Agree n S R)
    (none : has_ring R n ≡ false) (self : S n n ≡ false) (a : needed ≡ mask_of (S n) n) (b : dependents ≡ mask_of (λ i. S i n) n) where
  -- ---- the table

  row_step : (i j : ℕ) → i < n → related rows i j ≡ true → (j < n) × (S i j ≡ true)
  unfolding related
  row_step i j h e =
      let m = mask_member (R i) n j (rw (table_row R n rows table i h) at e) in
      (m.0, same i j h m.0 ∙ m.1)

  step_row : (i j : ℕ) → i < n → j < n → S i j ≡ true → related rows i j ≡ true
  unfolding related
  step_row i j h l e = rw (table_row R n rows table i h) (member_mask (R i) n j l (sym (same i j h l) ∙ e))

  -- ---- from what n needs to what depends on it, and so back to n

  needed-is : (k : ℕ) → bit needed k ≡ true → (k < n) × (S n k ≡ true)
  needed-is k e = mask_member (S n) n k (rw a at e)

  dependent_is : (i : ℕ) → bit dependents i ≡ true → (i < n) × (S i n ≡ true)
  dependent_is i e = mask_member (λ i. S i n) n i (rw b at e)

  walked : {k i : ℕ} → Plus (Below 64 (related rows)) k i → k < n → Plus (Below (suc n) S) k i
  walked (one {x = k} {y = i} r) h =
      let s = row_step k i h r.2 in
      let l : i < n = s.0 in
      one {x = k} {y = i} (omega arith, omega arith, s.1)
  walked (more {x = k} {y = j} r w) h =
      let s = row_step k j h r.2 in
      let l : j < n = s.0 in
      more {x = k} {y = j} (omega arith, omega arith, s.1) (walked w l)

  out : (k : ℕ) → bit needed k ≡ true → Below (suc n) S n k
  out k e = let s = needed-is k e in let l : k < n = s.0 in (omega arith, omega arith, s.1)

  back : (i : ℕ) → bit dependents i ≡ true → Below (suc n) S i n
  back i e = let s = dependent_is i e in let l : i < n = s.0 in (omega arith, omega arith, s.1)

  round_by : (i : ℕ) → From rows needed i → bit dependents i ≡ true → Plus (Below (suc n) S) n n
  round_by i (inl g) e = more (out i g) (one (back i e))
  round_by i (inr w) e = more (out w.0 w.1) (plus_snoc (walked w.2 (needed-is w.0 w.1).0) (back i e))

  -- ---- a ring, where what n needs does not lead to what depends on it

  module _ (apart : (i : ℕ) → i < n → From rows needed i → S i n ≡ false) where
    -- a step from what is reached stays below n
    step : (x y : ℕ) → Below (suc n) S x y → x < n → From rows needed x → (y < n) × From rows needed y
    step x y r h f =
        ⊎_elim
        (λ (q : y ≡ n). clash (S x n) (rw q at r.2) (apart x h f))
        (λ (l : y < n). (l, from_further rows needed x y f (omega arith, omega arith, step_row x y h l r.2)))
        (below_suc y n r.1)

    stays : {x y : ℕ} → Plus (Below (suc n) S) x y → x < n → From rows needed x → y < n
    stays (one {x = x} {y = y} r) h f = (step x y r h f).0
    stays (more {x = x} {y = y} r w) h f = let s = step x y r h f in stays w s.0 s.1

    first : (y : ℕ) → Below (suc n) S n y → (y < n) × From rows needed y
    first y r =
        ⊎_elim
        (λ (q : y ≡ n). clash (S n n) (rw q at r.2) self)
        (λ (l : y < n). (l, inl (rw a (member_mask (S n) n y l r.2))))
        (below_suc y n r.1)

    leaves : {x y : ℕ} → Plus (Below (suc n) S) x y → x ≡ n → y < n
    leaves (one {x = x} {y = y} r) q = (first y (rw q at r)).0
    leaves (more {x = x} {y = y} r w) q = let s = first y (rw q at r) in stays w s.0 s.1

    -- below n, or by way of n
    way : {x y : ℕ} → Plus (Below (suc n) S) x y → x < n → y < n → Plus (Below n R) x y ⊎ (Plus (Below (suc n) S) x n × Plus (Below (suc n) S) n y)
    way (one {x = x} {y = y} r) h l = inl (one (h, l, sym (same x y h l) ∙ r.2))
    way (more {x = x} {y = y} {z = z} r w) h l =
        ⊎_elim
        (λ (q : y ≡ n). inr (one (rw q at r), rw q at w))
        (λ (m : y < n). ⊎_elim (λ v. inl (more (h, m, sym (same x y h m) ∙ r.2) v)) (λ v. inr (more r v.0, v.1)) (way w m l))
        (below_suc y n r.1)

    never : Plus (Below (suc n) S) n n → ⊥
    never w = let l : n < n = leaves w refl in omega (arith, l)

    no_ring : has_ring S (suc n) ≡ false
    no_ring = untrue (has_ring S (suc n)) (λ t. let r = has_ring-ring S (suc n) t in go r.0 r.1)
      where
        go : (x : ℕ) → Plus (Below (suc n) S) x x → ⊥
        go x w =
            ⊎_elim
            (λ (q : x ≡ n). never (rw q at w))
            (λ (l : x < n). ⊎_elim (λ v. clash (has_ring R n) (ring-has_ring R n (x, v)) none) (λ v. never (plus_trans v.1 v.0)) (way w l l))
            (below_suc x n (plus_start S (suc n) w))

  pub added_ring : closes_ring rows needed dependents ≡ has_ring S (n + 1)
  unfolding closes_ring
  added_ring = rw (add-one n) (go (eqb (bit_and (reached rows needed) dependents) 0) refl)
    where
      go : (t : Bool) → eqb (bit_and (reached rows needed) dependents) 0 ≡ t → not t ≡ has_ring S (suc n)
      go true e =
          sym (no_ring (λ i h f. untrue (S i n) (λ s. clash (bit dependents i) (rw b (member_mask (λ i. S i n) n i h s))
          (apart-bit (reached rows needed) dependents i (eqb-true _ _ e) (from_reached rows needed i (omega arith) f)))))
      go false e = sym (true_unless (has_ring S (suc n)) (λ f. eqb-false (bit_and (reached rows needed) dependents) 0 e
          (bits_apart (reached rows needed) dependents (λ i g. untrue (bit dependents i) (λ h. clash (has_ring S (suc n)) (ring-has_ring S (suc n) (n, round_by i (reached_from rows needed i g) h)) f)))))

-- ---- closes_ring

module _ (rows : List ℕ) (needed dependents : ℕ) where
  pub closes_none : dependents ≡ 0 → false ≡ closes_ring rows needed dependents
  unfolding closes_ring
  closes_none e = rw (e, and_zero_r (reached rows needed))

  pub closes_reached : (r : ℕ) → r ≡ reached rows needed → not (eqb (bit_and r dependents) 0) ≡ closes_ring rows needed dependents
  unfolding closes_ring
  closes_reached r e = rw e

pub ruleset closing = (rules, closes_none, closes_reached)
