-- Warshall's closure of a table relates exactly what is reached in one or more steps, by induction on the numbers that a walk may pass;
-- and where there is no ring, a set has a number that is related to none of it, by induction on the bound of the set.
use mathlib.Core.Path.{◌≡◌, refl, sym, ap, subst, ◌∙◌}
use mathlib.Core.Logic.{◌⊎◌, inl, inr, ⊎_elim}
use mathlib.Core.Bool.{Bool, true, false, cond, true≢false, and-true, or-false, ◌&&◌, ◌||◌}
use mathlib.Core.List.{List, map}
use Prim.Native.Nat.{ℕ, zero, suc, ◌≤◌, ◌<◌}
use native.Mathlib.Omega.{arith}
use lib.ListN.{get_or, take, get_or-map}
use lib.Seq.{get_or-take}
use lib.Bits.{bit_or}
use borrow.Author.Tests.{lt-ltb}
use Rattle.relation.specs.Bits.{bit, mask_of}
use Rattle.relation.specs.Lists.{any_below}
use Rattle.relation.specs.Transitive.{Plus, one, more, Ring}
use Rattle.relation.specs.Finite.{Below, related, rows_of, joined, round, closed, loops, has_ring, reaches}
use Rattle.relation.proofs.ListLaws.{or_cases, or_left, or_right, and_left, and_right, and_intro, bool_equal, below_suc, below_extend, any_below-true, any_below_intro, any_below-false, any_below_ext, get_or_tabulate}
use Rattle.relation.proofs.BitLaws.{bit-zero, bit-or, bit_mask}
use Rattle.relation.proofs.TransitiveLaws.{plus_trans, plus_snoc, plus_map}

-- ---- one round

joined-zero : (k through : ℕ) → joined k through 0 ≡ 0
unfolding joined
joined-zero k through = rw (bit-zero k)

row-round : (k : ℕ) (rows : List ℕ) (i : ℕ) → get_or (round k rows) i 0 ≡ joined k (get_or rows k 0) (get_or rows i 0)
unfolding round
row-round k rows i =
    let f = joined k (get_or rows k 0) in
    subst (λ (z : ℕ). get_or (map f rows) i z ≡ f (get_or rows i 0)) (joined-zero k (get_or rows k 0)) (get_or-map f rows i 0)

related-joined : (k through row j : ℕ) → bit (joined k through row) j ≡ bit row j || bit row k && bit through j
unfolding joined
related-joined k through row j = go (bit row k)
  where
    go : (t : Bool) → bit (cond t (bit_or row through) row) j ≡ bit row j || t && bit through j
    go true = bit-or row through j
    go false = sym (or-false (bit row j))

pub related-round : (k : ℕ) (rows : List ℕ) (i j : ℕ) → related (round k rows) i j ≡ related rows i j || related rows i k && related rows k j
unfolding related
related-round k rows i j = rw (row-round k rows i) (related-joined k (get_or rows k 0) (get_or rows i 0) j)

-- ---- all rounds

-- from i to j by way of numbers below k
Via : (ℕ → ℕ → Bool) → ℕ → ℕ → ℕ → Type 0
Via R zero i j = R i j ≡ true
Via R (suc k) i j = Via R k i j ⊎ (Via R k i k × Via R k k j)

closed_via : (rows : List ℕ) (k i j : ℕ) → related (closed k rows) i j ≡ true → Via (related rows) k i j
unfolding closed Via
closed_via rows zero i j h = h
closed_via rows (suc k) i j h =
    ⊎_elim
    (λ a. inl (closed_via rows k i j a))
    (λ b. inr (closed_via rows k i k (and_left _ _ b), closed_via rows k k j (and_right (related (closed k rows) i k) _ b)))
    (or_cases _ _ (sym (related-round k (closed k rows) i j) ∙ h))

via_closed : (rows : List ℕ) (k i j : ℕ) → Via (related rows) k i j → related (closed k rows) i j ≡ true
unfolding closed Via
via_closed rows zero i j h = h
via_closed rows (suc k) i j h =
    related-round k (closed k rows) i j
    ∙ ⊎_elim
    (λ a. or_left _ _ (via_closed rows k i j a))
    (λ b. or_right (related (closed k rows) i j) _ (and_intro _ _ (via_closed rows k i k b.0) (via_closed rows k k j b.1)))
    h

module _ (R : ℕ → ℕ → Bool) where
  via_one : (k i j : ℕ) → R i j ≡ true → Via R k i j
  unfolding Via
  via_one zero i j h = h
  via_one (suc k) i j h = inl (via_one k i j h)

  via_trans : (k x i j : ℕ) → x < k → Via R k i x → Via R k x j → Via R k i j
  unfolding Via
  via_trans zero x i j h a b = absurd (omega arith)
  via_trans (suc k) x i j h a b = ⊎_elim last (inside (λ i' j'. via_trans k x i' j')) (below_suc x k h)
    where
      last : x ≡ k → Via R k i j ⊎ (Via R k i k × Via R k k j)
      last e = inr (⊎_elim (λ p. p) (λ p. p.0) (rw e at a), ⊎_elim (λ p. p) (λ p. p.1) (rw e at b))

      inside : ((i' j' : ℕ) → x < k → Via R k i' x → Via R k x j' → Via R k i' j') → x < k → Via R k i j ⊎ (Via R k i k × Via R k k j)
      inside trans l =
          ⊎_elim
          (λ p. ⊎_elim (λ q. inl (trans i j l p q)) (λ q. inr (trans i k l p q.0, q.1)) b)
          (λ p. ⊎_elim (λ q. inr (p.0, trans k j l p.1 q)) (λ q. inr (p.0, q.1)) b)
          a

  plus_via : (n : ℕ) {i j : ℕ} → Plus (Below n R) i j → Via R n i j
  plus_via n (one {x = i} {y = j} r) = via_one n i j r.2
  plus_via n (more {x = i} {y = x} {z = j} r w) = via_trans n x i j r.1 (via_one n i x r.2) (plus_via n w)

  via_plus : (n k i j : ℕ) → k ≤ n → i < n → j < n → Via R k i j → Plus (Below n R) i j
  unfolding Via
  via_plus n zero i j h hi hj r = one (hi, hj, r)
  via_plus n (suc k) i j h hi hj r =
      ⊎_elim
      (λ a. via_plus n k i j (omega arith) hi hj a)
      (λ b. plus_trans (via_plus n k i k (omega arith) hi h b.0) (via_plus n k k j (omega arith) h hj b.1))
      r

pub closed_plus : (rows : List ℕ) (n i j : ℕ) → i < n → j < n → related (closed n rows) i j ≡ true → Plus (Below n (related rows)) i j
closed_plus rows n i j hi hj h = via_plus (related rows) n n i j (omega arith) hi hj (closed_via rows n i j h)

pub plus_closed : (rows : List ℕ) (n i j : ℕ) → Plus (Below n (related rows)) i j → related (closed n rows) i j ≡ true
plus_closed rows n i j w = via_closed rows n i j (plus_via (related rows) n w)

-- ---- a table of a relation

pub related-rows : (R : ℕ → ℕ → Bool) (n i j : ℕ) → i < n → j < n → related (rows_of R n) i j ≡ R i j
unfolding related rows_of
related-rows R n i j hi hj = rw (get_or_tabulate (λ x. mask_of (R x) n) n i 0 hi, bit_mask (R i) n j, lt-ltb j n hj)

abbrev pub Agree : ℕ → (ℕ → ℕ → Bool) → (ℕ → ℕ → Bool) → Type 0
Agree n R S = (i j : ℕ) → i < n → j < n → R i j ≡ S i j

-- a table whose first rows are those of a relation
module _ (R : ℕ → ℕ → Bool) (n : ℕ) (rows : List ℕ) (e : take n rows ≡ rows_of R n) where
  pub table_row : (i : ℕ) → i < n → get_or rows i 0 ≡ mask_of (R i) n
  unfolding rows_of
  table_row i h = sym (get_or-take n rows i 0 h) ∙ ap (λ (l : List ℕ). get_or l i 0) e ∙ get_or_tabulate (λ x. mask_of (R x) n) n i 0 h

  pub table_related : Agree n (related rows) R
  unfolding related
  table_related i j hi hj = rw (table_row i hi, bit_mask (R i) n j, lt-ltb j n hj)

agree-sym : (R S : ℕ → ℕ → Bool) (n : ℕ) → Agree n R S → Agree n S R
agree-sym R S n same i j hi hj = sym (same i j hi hj)

-- relations that agree below n reach the same
pub plus_agree : (R S : ℕ → ℕ → Bool) (n : ℕ) → Agree n R S → {i j : ℕ} → Plus (Below n R) i j → Plus (Below n S) i j
plus_agree R S n same w = plus_map (λ x. x) (λ x y r. (r.0, r.1, sym (same x y r.0 r.1) ∙ r.2)) w

closed-agree : (k l : List ℕ) (n : ℕ) → Agree n (related k) (related l) → Agree n (related (closed n k)) (related (closed n l))
closed-agree k l n same i j hi hj = bool_equal _ _ (go k l same) (go l k (agree-sym (related k) (related l) n same))
  where
    go : (k l : List ℕ) → Agree n (related k) (related l) → related (closed n k) i j ≡ true → related (closed n l) i j ≡ true
    go k l same h = plus_closed l n i j (plus_agree (related k) (related l) n same (closed_plus k n i j hi hj h))

pub reaches_plus : (R : ℕ → ℕ → Bool) (n i j : ℕ) → i < n → j < n → reaches R n i j ≡ true → Plus (Below n R) i j
unfolding reaches
reaches_plus R n i j hi hj h = plus_agree (related (rows_of R n)) R n (related-rows R n) (closed_plus (rows_of R n) n i j hi hj h)

pub plus_reaches : (R : ℕ → ℕ → Bool) (n i j : ℕ) → Plus (Below n R) i j → reaches R n i j ≡ true
unfolding reaches
plus_reaches R n i j w =
    let table = related (rows_of R n) in
    plus_closed (rows_of R n) n i j (plus_agree R table n (agree-sym table R n (related-rows R n)) w)

-- tables with the same first n rows
pub related-first : (n : ℕ) (k l : List ℕ) → take n k ≡ take n l → (i j : ℕ) → i < n → related k i j ≡ related l i j
unfolding related
related-first n k l e i j h = ap (λ (row : ℕ). bit row j) (sym (get_or-take n k i 0 h) ∙ ap (λ (rows : List ℕ). get_or rows i 0) e ∙ get_or-take n l i 0 h)

-- a table that agrees with R below n
module _ (rows : List ℕ) (R : ℕ → ℕ → Bool) (n : ℕ) (agrees : Agree n (related rows) R) where
  pub related-closed : (i j : ℕ) → i < n → j < n → related (closed n rows) i j ≡ reaches R n i j
  unfolding reaches
  related-closed = closed-agree rows (rows_of R n) n (λ i j hi hj. agrees i j hi hj ∙ sym (related-rows R n i j hi hj))

  pub loops_closed : loops (closed n rows) n ≡ has_ring R n
  unfolding loops has_ring
  loops_closed = any_below_ext _ _ n (λ i h. unfold reaches in related-closed i i h h)

module _ (R S : ℕ → ℕ → Bool) (n : ℕ) (same : Agree n R S) where
  table_agrees : Agree n (related (rows_of R n)) S
  table_agrees i j hi hj = related-rows R n i j hi hj ∙ same i j hi hj

  pub reaches_ext : (i j : ℕ) → i < n → j < n → reaches R n i j ≡ reaches S n i j
  reaches_ext i j hi hj = unfold reaches in related-closed (rows_of R n) S n table_agrees i j hi hj

  pub has_ring_ext : has_ring R n ≡ has_ring S n
  has_ring_ext = unfold has_ring in loops_closed (rows_of R n) S n table_agrees

-- a table whose first rows are those of a relation has a ring where that has one
pub table_ring : (R : ℕ → ℕ → Bool) (n : ℕ) (rows : List ℕ) → take n rows ≡ rows_of R n → has_ring (related rows) n ≡ has_ring R n
table_ring R n rows e = has_ring_ext (related rows) R n (table_related R n rows e)

-- ---- rings

pub has_ring-ring : (R : ℕ → ℕ → Bool) (n : ℕ) → has_ring R n ≡ true → Ring (Below n R)
unfolding has_ring loops
has_ring-ring R n h =
    let w = any_below-true (λ i. reaches R n i i) n (unfold reaches in h) in
    (w.0, reaches_plus R n w.0 w.0 w.1 w.1 w.2)

pub plus_start : (R : ℕ → ℕ → Bool) (n : ℕ) {i j : ℕ} → Plus (Below n R) i j → i < n
plus_start R n (one r) = r.0
plus_start R n (more r w) = r.0

pub ring-has_ring : (R : ℕ → ℕ → Bool) (n : ℕ) → Ring (Below n R) → has_ring R n ≡ true
unfolding has_ring loops
ring-has_ring R n w =
    unfold reaches in (any_below_intro (λ i. reaches R n i i) n w.0 (plus_start R n w.1) (plus_reaches R n w.0 w.0 w.1))

-- ---- a set without a ring

-- some k is in the set w and related to none of it, of the numbers below m
abbrev Ready : (ℕ → ℕ → Bool) → ℕ → (ℕ → Bool) → Type 0
Ready R m w = (k : ℕ) × (k < m) × (w k ≡ true) × ((j : ℕ) → j < m → R k j ≡ true → w j ≡ false)

module _ (R : ℕ → ℕ → Bool) (n : ℕ) (no_ring : Ring (Below n R) → ⊥) where
  module _ (m : ℕ) (h : m < n) (rest : (w : ℕ → Bool) (i : ℕ) → i < m → w i ≡ true → Ready R m w) (w : ℕ → Bool) where
    -- the part of the set that m reaches
    reached : ℕ → Bool
    reached x = w x && reaches R n m x

    outside : (j : ℕ) → j < suc m → Plus (Below n R) m j → (j < m → reached j ≡ false) → w j ≡ false
    unfolding reached
    outside j l p none = ⊎_elim
        (λ q. absurd (no_ring (m, rw q at p)))
        (λ b. sym (and-true (w j)) ∙ (rw (plus_reaches R n m j p) at (none b)))
        (below_suc j m l)

    -- nothing that m reaches is related to m: some number of that part, or m where it is empty
    ready_with : w m ≡ true → Ready R (suc m) w
    unfolding reached
    ready_with t = go (any_below reached m) refl
      where
        go : (b : Bool) → any_below reached m ≡ b → Ready R (suc m) w
        go true e =
            let f = any_below-true reached m e in
            let r = rest reached f.0 f.1 f.2 in
            let k = r.0 in
            let lt : k < m = r.1 in
            let p : Plus (Below n R) m k = reaches_plus R n m k h (omega arith) (and_right (w k) _ r.2) in
            (k, omega arith, and_left (w k) _ r.2, λ j l s. outside j l (plus_snoc p (omega arith, omega arith, s)) (λ b. r.3 j b s))
        go false e = (m, omega arith, t, λ j l s. outside j l (one (h, omega arith, s)) (any_below-false reached m e j))

    ready-without : w m ≡ false → (i : ℕ) → i < suc m → w i ≡ true → Ready R (suc m) w
    ready-without f i l t =
        let below : i < m = ⊎_elim (λ q. absurd (true≢false (sym t ∙ (rw q f)))) (λ b. b) (below_suc i m l) in
        let r = rest w i below t in
        let lt : r.0 < m = r.1 in
        (r.0, omega arith, r.2, below_extend _ m r.3 (λ s. f))

    ready-suc : (i : ℕ) → i < suc m → w i ≡ true → Ready R (suc m) w
    ready-suc = go (w m) refl
      where
        go : (b : Bool) → w m ≡ b → (i : ℕ) → i < suc m → w i ≡ true → Ready R (suc m) w
        go true e i l t = ready_with e
        go false e i l t = ready-without e i l t

  ready-below : (m : ℕ) → m ≤ n → (w : ℕ → Bool) (i : ℕ) → i < m → w i ≡ true → Ready R m w
  ready-below zero h w i l t = absurd (omega arith)
  ready-below (suc m) h w i l t = ready-suc m h (ready-below m (omega arith)) w i l t

-- where there is no ring, a set that has a number has one that is related to none of the set
pub ready : (R : ℕ → ℕ → Bool) (n : ℕ) (w : ℕ → Bool) → (Ring (Below n R) → ⊥) → (i : ℕ) → i < n → w i ≡ true
    → (k : ℕ) × (k < n) × (w k ≡ true) × ((j : ℕ) → j < n → R k j ≡ true → w j ≡ false)
ready R n w no_ring = ready-below R n no_ring n (omega arith) w
