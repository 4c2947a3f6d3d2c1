-- Epochs along a list of rules can return to where they began exactly if the rules use only =, or both > and <. By counting: without a <
-- the epochs fall by at least the number of >, and the other way round; with p of > and q of <, let each > fall by q and each < rise by p.
use mathlib.Core.Path.{◌≡◌, refl, sym, ◌∙◌}
use mathlib.Core.Logic.{◌⊎◌, inl, inr, ⊎_elim}
use mathlib.Core.Bool.{Bool, true, false, cond, false≢true, ◌||◌}
use mathlib.Core.List.Memᴰ
use mathlib.Core.List.{List, [], ◌∷◌}
use Prim.Native.Nat.{ℕ, zero, suc, ◌+◌, ◌-◌, ◌*◌, ◌≤◌, ◌<◌}
use native.Mathlib.Nat.{zero-add, mul-add, mul_comm, mul-zero, mul-one}
use native.Mathlib.Omega.{arith}
use lib.Dec.{eqb, ltb}
use borrow.Author.Tests.{eqb-true, ltb-true, lt-ltb, eq-eqb}
use Rattle.relation.specs.Lists.{any, all}
use Rattle.relation.proofs.ListLaws.{and_left, and_right, and_intro}
use Rattle.model.specs.declared.Rule.{Rule}
use Rattle.model.specs.Rules.{stands, Known}
use Rattle.model.specs.Cyclic.{only_equal, both_ways}

-- epochs along a list of rules, from t to u
unfoldable pub Epochs : ℕ → List Rule → ℕ → Type 0
Epochs t [] u = t ≡ u
Epochs t (r ∷ rs) u = (v : ℕ) × (stands r.predicate t v ≡ true) × Epochs v rs u

-- 1 where the predicate k is p
abbrev used : ℕ → ℕ → ℕ
used p k = cond (eqb k p) 1 0

-- how many rules have predicate p
counted : ℕ → List Rule → ℕ
counted p [] = 0
counted p (r ∷ rs) = used p r.predicate + counted p rs

zero_or : (n : ℕ) → (n ≡ 0) ⊎ (0 < n)
zero_or zero = inl refl
zero_or (suc n) = inr (omega arith)

any-counted : (p : ℕ) (rs : List Rule) → any (λ r. eqb r.predicate p) rs ≡ ltb 0 (counted p rs)
unfolding any counted
any-counted p [] = refl
any-counted p (r ∷ rs) = go (eqb r.predicate p) (any-counted p rs)
  where
    go : (b : Bool) → any (λ r. eqb r.predicate p) rs ≡ ltb 0 (counted p rs)
        → b || any (λ r. eqb r.predicate p) rs ≡ ltb 0 (cond b 1 0 + counted p rs)
    go true ih = sym (lt-ltb 0 (1 + counted p rs) (omega arith))
    go false ih = rw (zero-add (counted p rs)) ih

-- ---- from epochs that return to the rules

step_falls : (k t v : ℕ) → stands k t v ≡ true → used 2 k ≡ 0 → v + used 1 k ≤ t
unfolding stands
step_falls zero t v e z = omega (arith, eqb-true t v e)
step_falls (suc zero) t v e z = omega (arith, ltb-true v t e)
step_falls (suc (suc zero)) t v e z = absurd (omega arith)
step_falls (suc (suc (suc k))) t v e z = absurd (false≢true e)

step_rises : (k t v : ℕ) → stands k t v ≡ true → used 1 k ≡ 0 → t + used 2 k ≤ v
unfolding stands
step_rises zero t v e z = omega (arith, eqb-true t v e)
step_rises (suc zero) t v e z = absurd (omega arith)
step_rises (suc (suc zero)) t v e z = omega (arith, ltb-true t v e)
step_rises (suc (suc (suc k))) t v e z = absurd (false≢true e)

step-equal : (k t v : ℕ) → stands k t v ≡ true → used 1 k ≡ 0 → used 2 k ≡ 0 → eqb k 0 ≡ true
unfolding stands
step-equal zero t v e g l = refl
step-equal (suc zero) t v e g l = absurd (omega arith)
step-equal (suc (suc zero)) t v e g l = absurd (omega arith)
step-equal (suc (suc (suc k))) t v e g l = absurd (false≢true e)

falls : (t : ℕ) (rs : List Rule) (u : ℕ) → Epochs t rs u → counted 2 rs ≡ 0 → u + counted 1 rs ≤ t
unfolding Epochs counted
falls t [] u w z = omega arith
falls t (r ∷ rs) u w z =
    let here = step_falls r.predicate t w.0 w.1 (omega arith) in
    let rest = falls w.0 rs u w.2 (omega arith) in
    omega arith

rises : (t : ℕ) (rs : List Rule) (u : ℕ) → Epochs t rs u → counted 1 rs ≡ 0 → t + counted 2 rs ≤ u
unfolding Epochs counted
rises t [] u w z = omega arith
rises t (r ∷ rs) u w z =
    let here = step_rises r.predicate t w.0 w.1 (omega arith) in
    let rest = rises w.0 rs u w.2 (omega arith) in
    omega arith

stays : (t : ℕ) (rs : List Rule) (u : ℕ) → Epochs t rs u → counted 1 rs ≡ 0 → counted 2 rs ≡ 0 → only_equal rs ≡ true
unfolding Epochs counted only_equal all
stays t [] u w g l = refl
stays t (r ∷ rs) u w g l =
    and_intro _ _ (step-equal r.predicate t w.0 w.1 (omega arith) (omega arith))
    (stays w.0 rs u w.2 (omega arith) (omega arith))

pub epochs_mixed : (t : ℕ) (rs : List Rule) → Epochs t rs t → (only_equal rs ≡ true) ⊎ (both_ways rs ≡ true)
unfolding both_ways
epochs_mixed t rs w = ⊎_elim
    (λ g. let h = rises t rs t w g in inl (stays t rs t w g (omega arith)))
    (λ g. ⊎_elim
    (λ l. let h = falls t rs t w l in absurd (omega arith))
    (λ l. inr (and_intro _ _ (any-counted 1 rs ∙ lt-ltb 0 _ g) (any-counted 2 rs ∙ lt-ltb 0 _ l)))
    (zero_or (counted 2 rs)))
    (zero_or (counted 1 rs))

-- ---- from the rules to epochs that return

level : (t : ℕ) (rs : List Rule) → only_equal rs ≡ true → Epochs t rs t
unfolding Epochs only_equal all stands
level t [] e = refl
level t (r ∷ rs) e =
    let same : r.predicate ≡ 0 = eqb-true r.predicate 0 (and_left _ _ e) in
    (t, rw same (eq-eqb t t refl), level t rs (and_right (eqb r.predicate 0) _ e))

-- the epoch after a rule with predicate k, where each > falls by q and each < rises by p
moved : ℕ → ℕ → ℕ → ℕ → ℕ
moved p q zero t = t
moved p q (suc zero) t = t - q
moved p q (suc (suc k)) t = t + p

module _ (p q : ℕ) (hp : 0 < p) (hq : 0 < q) where
  moved_stands : (k t : ℕ) → k ≤ 2 → q * used 1 k ≤ t → stands k t (moved p q k t) ≡ true
  unfolding stands moved
  moved_stands zero t k h = eq-eqb t t refl
  moved_stands (suc zero) t k h = lt-ltb (t - q) t (omega (arith, mul-one q))
  moved_stands (suc (suc zero)) t k h = lt-ltb t (t + p) (omega arith)
  moved_stands (suc (suc (suc k))) t l h = absurd (omega arith)

  moved_by : (k t : ℕ) → k ≤ 2 → q * used 1 k ≤ t → moved p q k t + q * used 1 k ≡ t + p * used 2 k
  unfolding moved
  moved_by zero t l h = omega (arith, mul-zero p, mul-zero q)
  moved_by (suc zero) t l h = omega (arith, mul-zero p, mul-one q)
  moved_by (suc (suc zero)) t l h = omega (arith, mul-one p, mul-zero q)
  moved_by (suc (suc (suc k))) t l h = absurd (omega arith)

  build : (rs : List Rule) → Known rs → (t u : ℕ) → t + p * counted 2 rs ≡ u + q * counted 1 rs → q * counted 1 rs ≤ t → Epochs t rs u
  unfolding Epochs Known counted
  build [] known t u e h = omega (arith, mul-zero p, mul-zero q)
  build (r ∷ rs) known t u e h =
      let k = r.predicate in
      let l : k ≤ 2 = known r (Memᴰ.head refl) in
      let greater = mul-add q (used 1 k) (counted 1 rs) in
      let less = mul-add p (used 2 k) (counted 2 rs) in
      let fits : q * used 1 k ≤ t = omega arith in
      let by = moved_by k t l fits in
      (moved p q k t, moved_stands k t l fits, build rs (λ x m. known x (Memᴰ.tail m)) (moved p q k t) u (omega arith) (omega arith))

pub mixed_epochs : (rs : List Rule) → Known rs → (only_equal rs ≡ true) ⊎ (both_ways rs ≡ true) → (t : ℕ) × Epochs t rs t
unfolding both_ways
mixed_epochs rs known m = ⊎_elim
    (λ e. (0, level 0 rs e))
    (λ b.
    let p = counted 1 rs in
    let q = counted 2 rs in
    let hp : 0 < p = ltb-true 0 p (sym (any-counted 1 rs) ∙ and_left _ _ b) in
    let hq : 0 < q = ltb-true 0 q (sym (any-counted 2 rs) ∙ and_right (any (λ r. eqb r.predicate 1) rs) _ b) in
    let c = mul_comm p q in
    (p * q, build p q hp hq rs known (p * q) (p * q) (omega arith) (omega arith)))
    m
