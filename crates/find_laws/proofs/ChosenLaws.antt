-- `chosen_below` gives the number that is preferred among those that pass, or none if none passes. With the cut down to candidates:
-- a chosen set is the smallest of any sufficient rules, and none is chosen exactly if no rules suffice.
use mathlib.Core.Path.{◌≡◌, refl, sym, subst, ◌∙◌}
use mathlib.Core.Logic.{◌⊎◌, inl, inr}
use mathlib.Core.Bool.{Bool, true, false, not, false≢true, true≢false}
use mathlib.Core.List.{List, [], ◌∷◌}
use mathlib.Core.Option.{Option, none, some}
use Prim.Native.Nat.{ℕ, ◌+◌, ◌/◌, ◌%◌, ◌^◌, ◌≤◌, ◌<◌}
use native.Mathlib.Nat.{pow-suc}
use native.Mathlib.Omega.{arith}
use lib.Count.{ones, ones_step}
use lib.ListN.{length}
use borrow.Author.Tests.{leb-true, leb-false, not-true}
use Rattle.relation.specs.Lists.{all}
use Rattle.relation.proofs.BitLaws.{two_cases}
use Rattle.relation.proofs.BestLaws.{BestOf, best-below, ByMembers, members_self, members_through}
use Rattle.relation.proofs.ListLaws.{and_left, and_right, and_intro, all_true, all_intro}
use Rattle.model.specs.declared.Rule.{Rule}
use Rattle.model.specs.Rules.{Known}
use Rattle.model.specs.Cyclic.{cyclic}
use Rattle.model.specs.Schedule.{label_at}
use Rattle.model.specs.Test.{Test, test_holds}
use Rattle.model.specs.Find.{Candidate, Candidates, Suffices, NoneSuffices, Fewest, picked, Chosen, candidates_of, suffices, preferred, chosen_below, chosen}
use Rattle.model.proofs.TestLaws.{test_holds-true, true-test_holds}
use Rattle.rule_cyclelaws.proofs.CyclicLaws.{cyclic-true, true-cyclic}
use Rattle.find_laws.specs.Theorem.{Counted, Given, Refused}
use Rattle.find_laws.proofs.CandidateLaws.{matches-known, collected}
use Rattle.find_laws.proofs.CutLaws.{picked_member, cut_down}

-- ---- a set's size

step : (c : Rule) (cs : List Rule) (m : ℕ) → (m % 2 ≡ 0) ⊎ (m % 2 ≡ 1) → length (picked cs (m / 2)) ≡ ones (m / 2) → length (picked (c ∷ cs) m) ≡ m % 2 + ones (m / 2)
unfolding picked
step c cs m (inl e) q = rw e (omega (arith, q))
step c cs m (inr e) q = rw e (omega (arith, q))

pub counted : Counted
counted [] m h = let e : m ≡ 0 = omega arith in rw e (unfold picked ones in refl)
counted (c ∷ cs) m h =
    let e = pow-suc 2 (length cs) in
    rw (ones_step m) (step c cs m (two_cases m) (counted cs (m / 2) (omega arith)))

-- ---- the number that is preferred

-- no more ones, and of as many no smaller number
abbrev Preferred : ℕ → ℕ → Type 0
Preferred m k = ByMembers (λ (m k : ℕ). k ≤ m) m k

abbrev Best : (ℕ → Bool) → ℕ → Option ℕ → Type 0
Best p n o = BestOf Preferred p n o

preferred_takes : (m k : ℕ) → k < m → preferred m k ≡ true → Preferred m k
unfolding ByMembers preferred
preferred_takes m k h e = let l = leb-true (ones m) (ones k) e in (omega arith, λ q. omega arith)

preferred-keeps : (m k : ℕ) → k < m → preferred m k ≡ false → Preferred k m
unfolding ByMembers preferred
preferred-keeps m k h e = let l = leb-false (ones m) (ones k) e in (omega arith, λ q. absurd (omega (arith, l, q)))

best : (p : ℕ → Bool) (n : ℕ) → Best p n (chosen_below p n)
best p n =
    best-below Preferred preferred
    (members_self (λ (m k : ℕ). k ≤ m) (λ m. omega arith))
    (members_through (λ (m k : ℕ). k ≤ m) (λ a b c h l. omega (arith, h, l)))
    preferred_takes preferred-keeps p n

-- ---- the computed form of sufficiency

module _ (tests : List Test) (rules : List Rule) where
  suffices-true : suffices tests rules ≡ true → Suffices tests rules
  unfolding suffices Suffices
  suffices-true e =
      let a = not (cyclic rules) in
      let acyclic = not-true (cyclic rules) (and_left a _ e) in
      ((λ c. false≢true (sym acyclic ∙ true-cyclic rules c)), λ t k. test_holds-true rules t (all_true (test_holds rules) (and_right a _ e) t k))

  true-suffices : Known rules → Suffices tests rules → suffices tests rules ≡ true
  unfolding suffices Suffices
  true-suffices known h =
      and_intro (not (cyclic rules)) (all (test_holds rules) tests) (go (cyclic rules) refl)
      (all_intro (test_holds rules) tests (λ t k. true-test_holds rules t (h.1 t k)))
    where
      go : (b : Bool) → cyclic rules ≡ b → not b ≡ true
      go true e = absurd (h.0 (cyclic-true rules known e))
      go false e = refl

pub picked-known : (tests : List Test) (m : ℕ) → Known (picked (candidates_of tests) m)
unfolding Known Candidates Candidate
picked-known tests m r k =
    let (t, n, i, j, hi, hj, d, e) = ((collected tests).1 r).0 (picked_member (candidates_of tests) m r k) in
    matches-known r (label_at t.main i) (label_at t.main j) e

-- ---- what is chosen

module _ (tests : List Test) where
  abbrev cs : List Rule
  cs = candidates_of tests

  abbrev passes : ℕ → Bool
  passes m = suffices tests (picked cs m)

  some_best : (m : ℕ) → chosen tests cs ≡ some m → Best passes (2 ^ length cs) (some m)
  unfolding chosen
  some_best m e = subst (Best passes (2 ^ length cs)) e (best passes (2 ^ length cs))

  none_best : chosen tests cs ≡ none → Best passes (2 ^ length cs) none
  unfolding chosen
  none_best e = subst (Best passes (2 ^ length cs)) e (best passes (2 ^ length cs))

  pub some-chosen : (m : ℕ) → chosen tests cs ≡ some m → Chosen tests cs m
  unfolding Chosen BestOf ByMembers
  some-chosen m e =
      let b = some_best m e in
      (b.0, suffices-true tests (picked cs m) b.1, λ k l h. b.2 k l (true-suffices tests (picked cs k) (picked-known tests k) h))

  pub some_fewest : (m : ℕ) → chosen tests cs ≡ some m → Fewest tests (picked cs m)
  unfolding Fewest Chosen
  some_fewest m e others h =
      let c = some-chosen m e in
      let (k, l, s, short) = cut_down tests others h in
      let w = (c.2 k l s).0 in
      let a = counted cs m c.0 in
      let b = counted cs k l in
      omega arith

  none-suffices : chosen tests cs ≡ none → NoneSuffices tests
  unfolding NoneSuffices BestOf
  none-suffices e rules h =
      let (k, l, s, short) = cut_down tests rules h in
      true≢false (sym (true-suffices tests (picked cs k) (picked-known tests k) s) ∙ none_best e k l)

  suffices-none : NoneSuffices tests → chosen tests cs ≡ none
  unfolding NoneSuffices Chosen
  suffices-none n = go (chosen tests cs) refl
    where
      go : (o : Option ℕ) → chosen tests cs ≡ o → o ≡ none
      go none e = refl
      go (some m) e = absurd (n (picked cs m) (some-chosen m e).1)

pub given : Given
unfolding Chosen
given tests m e = ((some-chosen tests m e).1, some-chosen tests m e, some_fewest tests m e)

pub refused : Refused
refused tests = (none-suffices tests, suffices-none tests)

-- ---- no number that passes has fewer ones than the preferred one

pub chosen_fewest : (p : ℕ → Bool) (n k : ℕ) → k < n → p k ≡ true → (m : ℕ) × (chosen_below p n ≡ some m) × (ones m ≤ ones k)
unfolding BestOf ByMembers
chosen_fewest p n k h e = go (chosen_below p n) refl (best p n)
  where
    go : (o : Option ℕ) → chosen_below p n ≡ o → Best p n o → (m : ℕ) × (o ≡ some m) × (ones m ≤ ones k)
    go none q b = absurd (false≢true (sym (b k h) ∙ e))
    go (some m) q b = (m, refl, (b.2 k h e).0)
