-- Any sufficient set of any rules, cut down to its candidates, is sufficient and no larger: a rule that matches no two different main writes
-- forbids nothing, a part of an acyclic set is acyclic, and candidates that are members of a list are no more than its members.
use mathlib.Core.Path.{◌≡◌, refl, sym, ap, ◌∙◌}
use mathlib.Core.Logic.{◌⊎◌, inl, inr, ⊎_elim}
use mathlib.Core.Bool.{Bool, true, false, cond, ◌&&◌, false≢true}
use mathlib.Core.List.Memᴰ
use mathlib.Core.List.{List, [], ◌∷◌, Memᴰ}
use Prim.Native.Nat.{ℕ, suc, ◌+◌, ◌*◌, ◌/◌, ◌%◌, ◌^◌, ◌≤◌, ◌<◌}
use native.Mathlib.Nat.{pow-suc}
use native.Mathlib.Omega.{arith}
use lib.Dec.{eqb, lit<}
use lib.ListN.{length}
use borrow.Author.Tests.{eqb-true, eqb-false, eq-eqb}
use Rattle.relation.specs.Lists.{any}
use Rattle.relation.specs.Transitive.{Plus, one, more}
use Rattle.relation.proofs.ListLaws.{and_left, and_right, any-true, any_intro}
use Rattle.model.specs.declared.Rule.{Rule}
use Rattle.model.specs.Rules.{Label, DependsOn}
use Rattle.model.specs.Cyclic.{Cyclic}
use Rattle.model.specs.Schedule.{flagged, Valid}
use Rattle.model.specs.Test.{Test, TestHolds}
use Rattle.model.specs.Find.{Candidate, Ordered, Candidates, Suffices, picked, candidates_of}
use Rattle.find_laws.specs.Theorem.{CutDown}
use Rattle.find_laws.proofs.OrderLaws.{rule-equal, before_self}
use Rattle.find_laws.proofs.CandidateLaws.{collected}

-- ---- the set of a number

pub picked_member : (cs : List Rule) (m : ℕ) (x : Rule) → Memᴰ x (picked cs m) → Memᴰ x cs
unfolding picked
picked_member [] m x k = k
picked_member (c ∷ cs) m x k = go (eqb (m % 2) 1) k (picked_member cs (m / 2) x)
  where
    go : (b : Bool) → Memᴰ x (cond b (c ∷ picked cs (m / 2)) (picked cs (m / 2))) → (Memᴰ x (picked cs (m / 2)) → Memᴰ x cs) → Memᴰ x (c ∷ cs)
    go true k f = ⊎_elim (λ e. Memᴰ.head e) (λ n. Memᴰ.tail (f n)) (Memᴰ.cases_cons k)
    go false k f = Memᴰ.tail (f k)

picked_ordered : (cs : List Rule) (m : ℕ) → Ordered cs → Ordered (picked cs m)
unfolding picked Ordered
picked_ordered [] m o = tt
picked_ordered (c ∷ cs) m o = go (eqb (m % 2) 1) (picked_ordered cs (m / 2) o.1)
  where
    go : (b : Bool) → Ordered (picked cs (m / 2)) → Ordered (cond b (c ∷ picked cs (m / 2)) (picked cs (m / 2)))
    go true k = ((λ q n. o.0 q (picked_member cs (m / 2) q n)), k)
    go false k = k

-- ---- the candidates that are members of a list

abbrev same : Rule → Rule → Bool
same r q = eqb r.first q.first && (eqb r.predicate q.predicate && eqb r.second q.second)

same-equal : (r q : Rule) → same r q ≡ true → r ≡ q
same-equal r q e =
    let a = eqb r.first q.first in
    let b = eqb r.predicate q.predicate in
    let rest = and_right a _ e in
    rule-equal r q (eqb-true _ _ (and_left a _ e)) (eqb-true _ _ (and_left b _ rest)) (eqb-true _ _ (and_right b _ rest))

equal-same : (r q : Rule) → r ≡ q → same r q ≡ true
equal-same r q e = rw e (rw (eq-eqb q.first q.first refl, eq-eqb q.predicate q.predicate refl, eq-eqb q.second q.second refl))

-- the number of the candidates that are members of a list
unfoldable kept_mask : List Rule → List Rule → ℕ
kept_mask [] rules = 0
kept_mask (c ∷ cs) rules = cond (any (same c) rules) 1 0 + 2 * kept_mask cs rules

kept-below : (cs rules : List Rule) → kept_mask cs rules < 2 ^ length cs
unfolding kept_mask
kept-below [] rules = lit< tt
kept-below (c ∷ cs) rules = go (any (same c) rules) (kept-below cs rules)
  where
    go : (b : Bool) → kept_mask cs rules < 2 ^ length cs → cond b 1 0 + 2 * kept_mask cs rules < 2 ^ suc (length cs)
    go true h = let e = pow-suc 2 (length cs) in omega arith
    go false h = let e = pow-suc 2 (length cs) in omega arith

module _ (rules : List Rule) where
  -- the first candidate is kept exactly if it is a member
  kept_step : (c : Rule) (cs : List Rule)
      → picked (c ∷ cs) (kept_mask (c ∷ cs) rules) ≡ cond (any (same c) rules) (c ∷ picked cs (kept_mask cs rules)) (picked cs (kept_mask cs rules))
  unfolding picked kept_mask
  kept_step c cs = go (any (same c) rules) (kept_mask cs rules)
    where
      go : (b : Bool) (k : ℕ)
          → cond (eqb ((cond b 1 0 + 2 * k) % 2) 1) (c ∷ picked cs ((cond b 1 0 + 2 * k) / 2)) (picked cs ((cond b 1 0 + 2 * k) / 2))
          ≡ cond b (c ∷ picked cs k) (picked cs k)
      go true k =
          let e : (1 + 2 * k) % 2 ≡ 1 = omega arith in
          let h : (1 + 2 * k) / 2 ≡ k = omega arith in
          rw (e, h)
      go false k =
          let e : (0 + 2 * k) % 2 ≡ 0 = omega arith in
          let h : (0 + 2 * k) / 2 ≡ k = omega arith in
          rw (e, h)

  kept_out : (cs : List Rule) (x : Rule) → Memᴰ x (picked cs (kept_mask cs rules)) → Memᴰ x rules
  kept_out [] x k = unfold picked in absurd (Memᴰ.not-nil k)
  kept_out (c ∷ cs) x k = go (any (same c) rules) refl (rw (kept_step c cs) at k) (kept_out cs x)
    where
      go : (b : Bool) → any (same c) rules ≡ b → Memᴰ x (cond b (c ∷ picked cs (kept_mask cs rules)) (picked cs (kept_mask cs rules)))
          → (Memᴰ x (picked cs (kept_mask cs rules)) → Memᴰ x rules) → Memᴰ x rules
      go true e n f = ⊎_elim
          (λ (q : x ≡ c). let (y, m, p) = any-true (same c) rules e in rw (q ∙ same-equal c y p) m)
          f
          (Memᴰ.cases_cons n)
      go false e n f = f n

  kept_in : (cs : List Rule) (x : Rule) → Memᴰ x cs → Memᴰ x rules → Memᴰ x (picked cs (kept_mask cs rules))
  kept_in [] x n m = absurd (Memᴰ.not-nil n)
  kept_in (c ∷ cs) x n m = rw (kept_step c cs) (go (any (same c) rules) refl (Memᴰ.cases_cons n) (λ k. kept_in cs x k m))
    where
      go : (b : Bool) → any (same c) rules ≡ b → (x ≡ c) ⊎ Memᴰ x cs → (Memᴰ x cs → Memᴰ x (picked cs (kept_mask cs rules)))
          → Memᴰ x (cond b (c ∷ picked cs (kept_mask cs rules)) (picked cs (kept_mask cs rules)))
      go true e (inl q) f = Memᴰ.head q
      go true e (inr k) f = Memᴰ.tail (f k)
      go false e (inl q) f = absurd (false≢true (sym e ∙ any_intro (same c) m (equal-same c x (sym q))))
      go false e (inr k) f = f k

-- ---- an ordered list of members of another is no longer

-- a list without one occurrence of a member
without : (c : Rule) (l : List Rule) → Memᴰ c l → (k : List Rule) × (length l ≡ suc (length k)) × ((x : Rule) → Memᴰ x l → (x ≡ c → ⊥) → Memᴰ x k)
without c [] m = absurd (Memᴰ.not-nil m)
without c (y ∷ ys) m = ⊎_elim
    (λ (e : c ≡ y). (ys, refl, λ x n d. ⊎_elim (λ q. absurd (d (q ∙ sym e))) (λ k. k) (Memᴰ.cases_cons n)))
    (λ n. let (k, h, f) = without c ys n in (y ∷ k, ap suc h, λ x p d. ⊎_elim (λ q. Memᴰ.head q) (λ q. Memᴰ.tail (f x q d)) (Memᴰ.cases_cons p)))
    (Memᴰ.cases_cons m)

no_longer : (l rules : List Rule) → Ordered l → ((x : Rule) → Memᴰ x l → Memᴰ x rules) → length l ≤ length rules
unfolding Ordered
no_longer [] rules o f = omega arith
no_longer (c ∷ cs) rules o f =
    let (k, h, g) = without c rules (f c (Memᴰ.head refl)) in
    let d : (x : Rule) → Memᴰ x cs → x ≡ c → ⊥ = λ x m e. before_self c (rw e at (o.0 x m)) in
    let n = no_longer cs k o.1 (λ x m. g x (f x (Memᴰ.tail m)) (d x m)) in
    omega arith

-- ---- fewer rules forbid less

module _ (few rules : List Rule) (part : (x : Rule) → Memᴰ x few → Memᴰ x rules) where
  depends_more : (l m : Label) → DependsOn few l m → DependsOn rules l m
  unfolding DependsOn
  depends_more l m (r, k, e) = (r, part r k, e)

  ring-more : {l m : Label} → Plus (DependsOn few) l m → Plus (DependsOn rules) l m
  ring-more (one {x = l} {y = m} d) = one (depends_more l m d)
  ring-more (more {x = l} {y = m} d w) = more (depends_more l m d) (ring-more w)

  pub cyclic-more : Cyclic few → Cyclic rules
  unfolding Cyclic
  cyclic-more c = (c.0, ring-more c.1)

module _ (tests : List Test) (cs rules : List Rule) (given : Candidates tests cs) where
  abbrev cut : List Rule
  cut = picked cs (kept_mask cs rules)

  cut_valid : (t : Test) (s : ℕ) → Memᴰ t tests → Valid cut t.main s → Valid rules t.main s
  unfolding Valid DependsOn Candidates Candidate
  cut_valid t s k v i j hi hj f (r, m, e) = go (eqb i j) refl
    where
      go : (b : Bool) → eqb i j ≡ b → flagged s j ≡ true
      go true q = rw (← eqb-true i j q) f
      go false q = v i j hi hj f (r, kept_in rules cs r ((given.1 r).1 (t, k, i, j, hi, hj, eqb-false i j q, e)) m, e)

  cut_suffices : Suffices tests rules → Suffices tests cut
  unfolding Suffices TestHolds
  cut_suffices h = ((λ c. h.0 (cyclic-more cut rules (kept_out rules cs) c)), λ t k s l v. h.1 t k s l (cut_valid t s k v))

  cut_shorter : length cut ≤ length rules
  unfolding Candidates
  cut_shorter = no_longer cut rules (picked_ordered cs (kept_mask cs rules) given.0) (kept_out rules cs)

pub cut_down : CutDown
cut_down tests rules h =
    let cs = candidates_of tests in
    let given = collected tests in
    (kept_mask cs rules, kept-below cs rules, cut_suffices tests cs rules given h, cut_shorter tests cs rules given)
