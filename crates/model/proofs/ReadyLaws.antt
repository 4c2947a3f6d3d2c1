-- The write that `ready` finds is the earliest that waits and whose needs are all stored, and without a ring of needs there is one as long as any waits.
use mathlib.Core.Path.{◌≡◌, refl, sym, subst, ◌∙◌}
use mathlib.Core.Logic.{◌≢◌}
use mathlib.Core.Bool.{Bool, true, false, cond, not, ◌&&◌, false≢true}
use mathlib.Core.List.{List}
use Prim.Native.Nat.{ℕ, zero, suc, ◌+◌, ◌≤◌, ◌<◌}
use native.Mathlib.Decide.{ℕ_discrete, dec_lt}
use native.Mathlib.Omega.{arith}
use lib.ListN.{length}
use borrow.Author.Tests.{not-true, not-false}
use Rattle.relation.specs.Finite.{Below}
use Rattle.relation.specs.Transitive.{Ring}
use Rattle.relation.proofs.ListLaws.{and_left, and_right, and_intro, all_below-true, all_below_intro}
use Rattle.relation.proofs.MaskLaws.{implies, implied}
use Rattle.relation.proofs.TransitiveLaws.{plus_map}
use Rattle.relation.proofs.FiniteLaws as Finite
use Rattle.model.specs.declared.Write.{Write}
use Rattle.model.specs.declared.Rule.{Rule}
use Rattle.model.specs.Needs.{Needs, NeedsRing, Earliest, needs, met, ready_from, ready}
use Rattle.model.proofs.NeedsLaws.{needs-true, true-needs, below-needs}

pub needs-left : (rules : List Rule) (ws : List Write) (i j : ℕ) → Needs rules ws i j → i < length ws
unfolding Needs
needs-left rules ws i j n = n.0

pub needs_right : (rules : List Rule) (ws : List Write) (i j : ℕ) → Needs rules ws i j → j < length ws
unfolding Needs
needs_right rules ws i j n = n.1

module _ (rules : List Rule) (ws : List Write) (stored : ℕ → Bool) where
  pub met-true : (i : ℕ) → met rules ws stored i ≡ true → (j : ℕ) → Needs rules ws i j → stored j ≡ true
  unfolding met
  met-true i e j n =
      implies (needs rules ws i j) (stored j) (all_below-true _ (length ws) e j (needs_right rules ws i j n)) (true-needs rules ws i j n)

  pub true-met : (i : ℕ) → i < length ws → ((j : ℕ) → Needs rules ws i j → stored j ≡ true) → met rules ws stored i ≡ true
  unfolding met
  true-met i h f = all_below_intro _ (length ws) (λ j l. implied (needs rules ws i j) (stored j) (λ e. f j (needs-true rules ws i j h l e)))

  -- write i can be stored now
  abbrev can : ℕ → Bool
  can i = not (stored i) && met rules ws stored i

  ready-found : (n i k : ℕ) → ready_from rules ws stored i n ≡ suc k → (i ≤ k) × (k < i + n) × (can k ≡ true) × ((j : ℕ) → i ≤ j → j < k → can j ≡ false)
  unfolding ready_from
  ready-found zero i k e = absurd (omega arith)
  ready-found (suc n) i k e = go (can i) refl e (ready-found n (suc i) k)
    where
      go : (c : Bool) → can i ≡ c → cond c (suc i) (ready_from rules ws stored (suc i) n) ≡ suc k
          → (ready_from rules ws stored (suc i) n ≡ suc k → (suc i ≤ k) × (k < suc i + n) × (can k ≡ true) × ((j : ℕ) → suc i ≤ j → j < k → can j ≡ false))
          → (i ≤ k) × (k < i + suc n) × (can k ≡ true) × ((j : ℕ) → i ≤ j → j < k → can j ≡ false)
      go true c q ih = let z : i ≡ k = omega arith in (omega arith, omega arith, subst (λ (x : ℕ). can x ≡ true) z c, λ j a b. absurd (omega arith))
      go false c q ih =
          let w = ih q in
          let a = w.0 in let b = w.1 in (
            omega arith,
            omega arith,
            w.2,
            λ j l m. elim (ℕ_discrete j i) [
              | yes z ↦ rw z c
              | no ne ↦ w.3 j (let d : j ≢ i = ne in omega arith) m
            ],
          )

  ready-none : (n i : ℕ) → ready_from rules ws stored i n ≡ 0 → (j : ℕ) → i ≤ j → j < i + n → can j ≡ false
  unfolding ready_from
  ready-none zero i e j l h = absurd (omega arith)
  ready-none (suc n) i e j l h = go (can i) refl e (λ q m k. ready-none n (suc i) q j m k)
    where
      go : (c : Bool) → can i ≡ c → cond c (suc i) (ready_from rules ws stored (suc i) n) ≡ 0
          → (ready_from rules ws stored (suc i) n ≡ 0 → suc i ≤ j → j < suc i + n → can j ≡ false) → can j ≡ false
      go true c q ih = absurd (omega arith)
      go false c q ih = elim (ℕ_discrete j i) [
        | yes z ↦ rw z c
        | no ne ↦ ih q (let d : j ≢ i = ne in omega arith) (omega arith)
      ]

  pub ready_earliest : (i : ℕ) → ready rules ws stored ≡ suc i → Earliest rules ws stored i
  unfolding ready
  ready_earliest i e =
      let w = ready-found (length ws) 0 i e in
      let l = w.1 in
      record {
        accepted = omega arith;
        waits = not-true (stored i) (and_left (not (stored i)) _ w.2);
        met = met-true i (and_right (not (stored i)) _ w.2);
        first = λ k h s f. false≢true (sym (w.3 k (omega arith) h) ∙ and_intro (not (stored k)) _ (rw s) (true-met k (omega arith) f));
      }

  -- and the earliest is found
  pub earliest_ready : (i : ℕ) → Earliest rules ws stored i → ready rules ws stored ≡ suc i
  unfolding ready
  earliest_ready i w = go (ready_from rules ws stored 0 (length ws)) refl
    where
      now : can i ≡ true
      now = and_intro (not (stored i)) _ (rw w.waits) (true-met i w.accepted w.met)

      go : (k : ℕ) → ready_from rules ws stored 0 (length ws) ≡ k → k ≡ suc i
      go zero e = let h = w.accepted in absurd (false≢true (sym (ready-none (length ws) 0 e i (omega arith) (omega arith)) ∙ now))
      go (suc k) e =
          let v = ready_earliest k e in
          elim (dec_lt k i) [
            | yes l ↦ absurd (w.first k l v.waits v.met)
            | no g ↦ elim (dec_lt i k) [ yes l ↦ absurd (v.first i l w.waits w.met) | no h ↦ omega (arith, g, h) ]
          ]

  -- without a ring of needs, none is ready only if all are stored
  pub none-ready : (NeedsRing rules ws → ⊥) → ready rules ws stored ≡ 0 → (i : ℕ) → i < length ws → stored i ≡ true
  unfolding ready
  none-ready ringless e i h = go (stored i) refl
    where
      no_ring : Ring (Below (length ws) (needs rules ws)) → ⊥
      no_ring r = ringless (unfold NeedsRing in (r.0, plus_map {R = Below (length ws) (needs rules ws)} {S = Needs rules ws} (λ k. k) (below-needs rules ws) r.1))

      go : (b : Bool) → stored i ≡ b → stored i ≡ true
      go true q = q
      go false q =
          let k = Finite.ready (needs rules ws) (length ws) (λ x. not (stored x)) no_ring i h (rw q) in
          let m = true-met k.0 k.1 (λ j n. not-false (stored j) (k.3 j (needs_right rules ws k.0 j n) (true-needs rules ws k.0 j n))) in
          let l = k.1 in
          absurd (false≢true (sym (ready-none (length ws) 0 e k.0 (omega arith) (omega arith)) ∙ and_intro (not (stored k.0)) _ k.2 m))
