-- The best of the numbers that pass a test: what is computed from 0 up is best, in any order that the choice between two follows. Then the order by
-- members and number: there is at most one smallest, it is what is computed, and ranks are in this order.
use mathlib.Core.Path.{◌≡◌, refl, sym, ap, subst, ◌∙◌}
use mathlib.Core.Logic.{◌⊎◌, inl, inr, ⊎_elim}
use mathlib.Core.Bool.{Bool, true, false, cond}
use mathlib.Core.Option.{Option, none, some}
use Prim.Native.Nat.{ℕ, zero, suc, ◌+◌, ◌*◌, ◌/◌, ◌%◌, ◌^◌, ◌≤◌, ◌<◌}
use native.Mathlib.Nat.{div-one, pow-suc}
use native.Mathlib.Decide.{ℕ_discrete}
use native.Mathlib.Omega.{arith}
use lib.Arith.{digits_mod}
use lib.Count.{ones, ones_step, ones-le}
use lib.Dec.{ltb}
use borrow.Author.Tests.{ltb-true, ltb-false}
use borrow.Author.Rules.{rules}
use Rattle.relation.specs.Best.{taken, best_below, Smaller, Smallest, fewer, smallest_below}
use Rattle.relation.specs.Rank.{small_sets, rank}
use Rattle.relation.specs.Bits.{bit}
use Rattle.relation.specs.Union.{part_of}
use Rattle.relation.proofs.BitLaws.{two_cases}
use Rattle.relation.proofs.ListLaws.{clash, below_suc}
use Rattle.relation.proofs.UnionLaws.{part-true, part_from}
use Rattle.relation.proofs.WithoutLaws.{lowest_odd}

-- none passes, or the one given does, and stands in a relation to all that do
unfoldable pub BestOf : (ℕ → ℕ → Type 0) → (ℕ → Bool) → ℕ → Option ℕ → Type 0
BestOf R p n none = (k : ℕ) → k < n → p k ≡ false
BestOf R p n (some m) = (m < n) × (p m ≡ true) × ((k : ℕ) → k < n → p k ≡ true → R m k)

module _ (R : ℕ → ℕ → Type 0) (over : ℕ → ℕ → Bool) (self : (m : ℕ) → R m m) (through : (a b c : ℕ) → R a b → R b c → R a c)
    (takes : (m k : ℕ) → k < m → over m k ≡ true → R m k) (keeps : (m k : ℕ) → k < m → over m k ≡ false → R k m) (p : ℕ → Bool) where
  best_skip : (n : ℕ) (o : Option ℕ) → p n ≡ false → BestOf R p n o → BestOf R p (suc n) o
  unfolding BestOf
  best_skip n none e b = λ k h. ⊎_elim (λ (q : k ≡ n). rw q e) (λ (l : k < n). b k l) (below_suc k n h)
  best_skip n (some m) e b =
      let l = b.0 in (
        omega arith,
        b.1,
        λ k h f. ⊎_elim (λ (q : k ≡ n). clash (p k) f (rw q e)) (λ (l : k < n). b.2 k l f) (below_suc k n h),
      )

  best_take : (n : ℕ) (o : Option ℕ) → p n ≡ true → BestOf R p n o → BestOf R p (suc n) (taken over n o)
  unfolding BestOf taken
  best_take n none e b = (
    omega arith,
    e,
    λ k h f. ⊎_elim (λ (q : k ≡ n). rw q (self n)) (λ (l : k < n). clash (p k) f (b k l)) (below_suc k n h),
  )
  best_take n (some m) e b = go (over n m) refl
    where
      go : (t : Bool) → over n m ≡ t → BestOf R p (suc n) (cond t (some n) (some m))
      go true q = (
        omega arith,
        e,
        λ k h f. ⊎_elim (λ (z : k ≡ n). rw z (self n)) (λ (l : k < n). through n m k (takes n m b.0 q) (b.2 k l f)) (below_suc k n h),
      )
      go false q =
          let l = b.0 in (
            omega arith,
            b.1,
            λ k h f. ⊎_elim (λ (z : k ≡ n). rw z (keeps n m b.0 q)) (λ (l : k < n). b.2 k l f) (below_suc k n h),
          )

  pub best-below : (n : ℕ) → BestOf R p n (best_below over p n)
  unfolding best_below
  best-below zero = unfold BestOf in λ k h. absurd (omega arith)
  best-below (suc n) = go (p n) refl (best-below n)
    where
      go : (b : Bool) → p n ≡ b → BestOf R p n (best_below over p n) → BestOf R p (suc n) (cond b (taken over n (best_below over p n)) (best_below over p n))
      go true e k = best_take n (best_below over p n) e k
      go false e k = best_skip n (best_below over p n) e k

-- tests that agree below the bound
pub best_same : (over : ℕ → ℕ → Bool) (p q : ℕ → Bool) (n : ℕ) → ((k : ℕ) → k < n → p k ≡ q k) → best_below over p n ≡ best_below over q n
unfolding best_below
best_same over p q zero h = refl
best_same over p q (suc n) h = rw (h n (omega arith), best_same over p q n (λ k l. h k (omega arith)))

-- ---- fewest members first

-- no more members, and of as many one that stands in a relation
unfoldable pub ByMembers : (ℕ → ℕ → Type 0) → ℕ → ℕ → Type 0
ByMembers T m k = (ones m ≤ ones k) × (ones k ≡ ones m → T m k)

module _ (T : ℕ → ℕ → Type 0) where
  pub members_self : ((m : ℕ) → T m m) → (m : ℕ) → ByMembers T m m
  unfolding ByMembers
  members_self self m = (omega arith, λ e. self m)

  pub members_through : ((a b c : ℕ) → T a b → T b c → T a c) → (a b c : ℕ) → ByMembers T a b → ByMembers T b c → ByMembers T a c
  unfolding ByMembers
  members_through through a b c u v =
      let x = u.0 in
      let y = v.0 in
      (omega (arith, x, y), λ e. through a b c (u.1 (omega (arith, x, y, e))) (v.1 (omega (arith, x, y, e))))

-- a set comes before another, or is that one
abbrev Upto : ℕ → ℕ → Type 0
Upto s k = ByMembers (λ (m k : ℕ). m ≤ k) s k

upto_self : (m : ℕ) → Upto m m
upto_self = members_self (λ (m k : ℕ). m ≤ k) (λ m. omega arith)

upto_through : (a b c : ℕ) → Upto a b → Upto b c → Upto a c
upto_through = members_through (λ (m k : ℕ). m ≤ k) (λ a b c h l. omega (arith, h, l))

upto_takes : (m k : ℕ) → k < m → fewer m k ≡ true → Upto m k
unfolding ByMembers fewer
upto_takes m k h e = let l = ltb-true (ones m) (ones k) e in (omega arith, λ q. absurd (omega (arith, l, q)))

upto_keeps : (m k : ℕ) → k < m → fewer m k ≡ false → Upto k m
unfolding ByMembers fewer
upto_keeps m k h e = let l = ltb-false (ones m) (ones k) e in (omega arith, λ q. omega arith)

upto_smaller : (s k : ℕ) → Upto s k → (k ≡ s → ⊥) → Smaller s k
unfolding ByMembers Smaller
upto_smaller s k u d = go (ltb (ones s) (ones k)) refl
  where
    go : (b : Bool) → ltb (ones s) (ones k) ≡ b → (ones s < ones k) ⊎ ((ones s ≡ ones k) × (s < k))
    go true e = inl (ltb-true (ones s) (ones k) e)
    go false e =
        let l = ltb-false (ones s) (ones k) e in
        let x = u.0 in
        let same : ones s ≡ ones k = omega (arith, l, x) in
        let y = u.1 (sym same) in
        inr (same, less (ltb s k) refl y)
      where
        less : (t : Bool) → ltb s k ≡ t → s ≤ k → s < k
        less true q y = ltb-true s k q
        less false q y = absurd (d (let z = ltb-false s k q in omega (arith, z, y)))

smaller_upto : (s k : ℕ) → Smaller s k → Upto s k
unfolding ByMembers Smaller
smaller_upto s k (inl l) = (omega (arith, l), λ e. absurd (omega (arith, l, e)))
smaller_upto s k (inr c) = let e = c.0 in let l = c.1 in (omega (arith, e), λ q. omega (arith, l))

-- two that are each before the other or the same are the same
upto_one : (s k : ℕ) → Upto s k → Upto k s → s ≡ k
unfolding ByMembers
upto_one s k u v =
    let x = u.0 in
    let y = v.0 in
    let a = u.1 (omega (arith, x, y)) in
    let b = v.1 (omega (arith, x, y)) in
    omega (arith, a, b)

-- there is at most one smallest
pub smallest_one : (P : ℕ → Type 0) (s k : ℕ) → Smallest P s → Smallest P k → s ≡ k
unfolding Smallest
smallest_one P s k a b = elim (ℕ_discrete s k) [
  | yes e ↦ e
  | no d ↦ upto_one s k (smaller_upto s k (a.1 k b.0 (λ e. d (sym e)))) (smaller_upto k s (b.1 s a.0 d))
]

-- ---- what is computed

module _ (p : ℕ → Bool) (n : ℕ) where
  -- below n, and passing
  abbrev pub Passes : ℕ → Type 0
  Passes k = (k < n) × (p k ≡ true)

  smallest_best : BestOf Upto p n (smallest_below p n)
  smallest_best = best-below Upto fewer upto_self upto_through upto_takes upto_keeps p n

  pub none_passes : smallest_below p n ≡ none → (k : ℕ) → k < n → p k ≡ false
  unfolding BestOf
  none_passes e = subst (BestOf Upto p n) e smallest_best

  pub smallest_is : (s : ℕ) → smallest_below p n ≡ some s → Smallest Passes s
  unfolding Smallest BestOf
  smallest_is s e = let b = subst (BestOf Upto p n) e smallest_best in ((b.0, b.1), λ k h d. upto_smaller s k (b.2 k h.0 h.1) d)

  pub is_smallest : (s : ℕ) → Smallest Passes s → smallest_below p n ≡ some s
  unfolding Smallest
  is_smallest s h = go (smallest_below p n) refl
    where
      go : (o : Option ℕ) → smallest_below p n ≡ o → smallest_below p n ≡ some s
      go none e = clash (p s) h.0.1 (none_passes e s h.0.0)
      go (some m) e = e ∙ ap some (smallest_one Passes m s (smallest_is m e) h)

  pub passes_none : ((k : ℕ) → k < n → p k ≡ false) → smallest_below p n ≡ none
  unfolding Smallest
  passes_none h = go (smallest_below p n) refl
    where
      go : (o : Option ℕ) → smallest_below p n ≡ o → smallest_below p n ≡ none
      go none e = e
      go (some m) e = let q = (smallest_is m e).0 in clash (p m) q.1 (h m q.0)

-- ---- ranks

module _ (s k : ℕ) (hs : s < small_sets) (hk : k < small_sets) where
  rank_upto : rank s ≤ rank k → Upto s k
  unfolding rank ByMembers
  rank_upto h = (omega arith, λ e. omega (arith, h, e))

pub rank-set : (s : ℕ) → s < small_sets → rank s % small_sets ≡ s
unfolding rank
rank-set s h = digits_mod (ones s) {m = small_sets} {r = s} h

-- the least rank of those that pass is that of the smallest
pub least_smallest : (p : ℕ → Bool) (n s : ℕ) → n ≤ small_sets → s < n → p s ≡ true → ((k : ℕ) → k < n → p k ≡ true → rank s ≤ rank k) → smallest_below p n ≡ some s
least_smallest p n s m h e least =
    is_smallest p n s
    (unfold Smallest in ((h, e), λ k q d. upto_smaller s k (rank_upto s k (omega arith) (let l = q.0 in omega (arith, l, m)) (least k q.0 q.1)) d))

-- a part of a set has no more members, and no larger number
pub part-most : (k t s : ℕ) → t < 2 ^ k → s < 2 ^ k → part_of t s ≡ true → (ones t ≤ ones s) × (t ≤ s)
part-most zero t s h l e = let a : t ≡ 0 = omega arith in let b : s ≡ 0 = omega arith in rw (a, b) (omega arith, omega arith)
part-most (suc k) t s h l e =
    let d = pow-suc 2 k in
    let r = part-most k (t / 2) (s / 2) (omega arith) (omega arith) (part_from t s 1 e) in
    let a = r.0 in
    let b = r.1 in
    let x = ones_step t in
    let y = ones_step s in
    let z = low (two_cases t) in
    (omega (arith, a, x, y, z), omega (arith, b, z))
  where
    low : (t % 2 ≡ 0) ⊎ (t % 2 ≡ 1) → t % 2 ≤ s % 2
    low (inl q) = omega (arith, q)
    low (inr q) = let o = lowest_odd s (part-true t s 0 e (unfold bit in rw (div-one t, q))) in omega (arith, q, o)

pub part-rank : (k t s : ℕ) → t < 2 ^ k → s < 2 ^ k → part_of t s ≡ true → rank t ≤ rank s
unfolding rank
part-rank k t s h l e = let m = part-most k t s h l e in let a = m.0 in let b = m.1 in omega (arith, a, b)

-- ---- rank

-- so few members: all steps stay in 64 bits
module _ (s : ℕ) (h : s < small_sets) where
  few : ones s ≤ 32
  few = ones-le 32 s h

  pub ones_fit : ones s < 2 ^ 64
  ones_fit = let l = few in omega (arith, l)

  pub ones_scaled : ones s * 4294967296 < 2 ^ 64
  ones_scaled = let l = few in omega (arith, l)

  pub rank-fits : ones s * 4294967296 + s < 2 ^ 64
  rank-fits = let l = few in omega (arith, l)

pub rank_is : (s : ℕ) → ones s * 4294967296 + s ≡ rank s
unfolding rank
rank_is s = refl

pub ruleset ranking = (rules, ones_fit, ones_scaled, rank-fits, rank_is)
