-- The computed forms of needs, of a ring of needs and of a late write agree with their meaning; and they are the same for writes that differ in their blocks only.
use mathlib.Core.Path.{◌≡◌, refl, sym, ap, ◌∙◌}
use mathlib.Core.Logic.{inl, inr, ⊎_elim}
use mathlib.Core.Bool.{Bool, true, ◌&&◌}
use mathlib.Core.List.{List, [], ◌∷◌, ◌++◌}
use Prim.Native.Nat.{ℕ, ◌<◌}
use native.Mathlib.Omega.{arith}
use lib.Dec.{ltb}
use lib.ListN.{length, length-append, get_or-append}
use lib.Seq.{get_or_at}
use borrow.Author.Tests.{ltb-true, lt-ltb, eqb-true, eq-eqb}
use Rattle.relation.specs.Bits.{mask_of}
use Rattle.relation.specs.Lists.{tabulate, any_below}
use Rattle.relation.specs.Finite.{Below, rows_of, has_ring}
use Rattle.relation.proofs.BitLaws.{mask_ext}
use Rattle.relation.proofs.ListLaws.{or_cases, or_left, or_right, and_left, and_right, and_intro, any_below-true, any_below_intro, any_below_ext, tabulate_ext, below_suc}
use Rattle.relation.proofs.TransitiveLaws.{plus_map}
use Rattle.relation.proofs.FiniteLaws.{has_ring-ring, ring-has_ring}
use Rattle.model.specs.declared.Write.{Write}
use Rattle.model.specs.declared.Rule.{Rule}
use Rattle.model.specs.Rules.{label_of, depends_on}
use Rattle.model.specs.Schedule.{no_write, write_at, label_at}
use Rattle.model.proofs.RuleLaws.{depends_on-true, true-depends_on}
use Rattle.model.specs.Needs.{Needs, NeedsRing, Late, needs, needs_ring, late}

module _ (rules : List Rule) (ws : List Write) where
  pub needs-true : (i j : ℕ) → i < length ws → j < length ws → needs rules ws i j ≡ true → Needs rules ws i j
  unfolding needs Needs
  needs-true i j hi hj e = (
    hi,
    hj,
    ⊎_elim
        (λ d. inl (depends_on-true rules (label_at ws i) (label_at ws j) d))
        (λ a. inr (ltb-true j i (and_left (ltb j i) _ a), eqb-true _ _ (and_right (ltb j i) _ a)))
        (or_cases (depends_on rules (label_at ws i) (label_at ws j)) _ e),
  )

  pub true-needs : (i j : ℕ) → Needs rules ws i j → needs rules ws i j ≡ true
  unfolding needs Needs
  true-needs i j n = ⊎_elim
      (λ d. or_left (depends_on rules (label_at ws i) (label_at ws j)) _ (true-depends_on rules (label_at ws i) (label_at ws j) d))
      (λ a. or_right (depends_on rules (label_at ws i) (label_at ws j)) _ (and_intro (ltb j i) _ (lt-ltb j i a.0) (eq-eqb _ _ a.1)))
      n.2

  pub needs-below : (i j : ℕ) → Needs rules ws i j → Below (length ws) (needs rules ws) i j
  needs-below i j n = (unfold Needs in n.0, unfold Needs in n.1, true-needs i j n)

  pub below-needs : (i j : ℕ) → Below (length ws) (needs rules ws) i j → Needs rules ws i j
  below-needs i j b = needs-true i j b.0 b.1 b.2

  pub needs_ring-true : needs_ring rules ws ≡ true → NeedsRing rules ws
  unfolding needs_ring NeedsRing
  needs_ring-true e =
      let r = has_ring-ring (needs rules ws) (length ws) e in
      (r.0, plus_map {R = Below (length ws) (needs rules ws)} {S = Needs rules ws} (λ i. i) below-needs r.1)

  pub true-needs_ring : NeedsRing rules ws → needs_ring rules ws ≡ true
  unfolding needs_ring NeedsRing
  true-needs_ring r =
      ring-has_ring (needs rules ws) (length ws)
      (r.0, plus_map {R = Needs rules ws} {S = Below (length ws) (needs rules ws)} (λ i. i) needs-below r.1)

  module _ (stored : ℕ → Bool) (w : Write) where
    pub late-true : late rules ws stored w ≡ true → Late rules ws stored w
    unfolding late Late
    late-true e =
        let k = any_below-true (λ i. stored i && depends_on rules (label_at ws i) (label_of w)) (length ws) e in
        (k.0, k.1, and_left (stored k.0) _ k.2, depends_on-true rules (label_at ws k.0) (label_of w) (and_right (stored k.0) _ k.2))

    pub true-late : Late rules ws stored w → late rules ws stored w ≡ true
    unfolding late Late
    true-late l =
        any_below_intro (λ i. stored i && depends_on rules (label_at ws i) (label_of w)) (length ws) l.0 l.1
        (and_intro (stored l.0) _ l.2 (true-depends_on rules (label_at ws l.0) (label_of w) l.3))

-- ---- writes that differ in their blocks only

pub record Alike (ws vs : List Write) : Type 0 where
  pub as_long : length ws ≡ length vs
  pub address : (i : ℕ) → i < length ws → (write_at ws i).address ≡ (write_at vs i).address
  pub label : (i : ℕ) → i < length ws → label_at ws i ≡ label_at vs i

module _ (rules : List Rule) (ws vs : List Write) (alike : Alike ws vs) where
  pub alike-needs : (i j : ℕ) → i < length ws → j < length ws → needs rules ws i j ≡ needs rules vs i j
  unfolding needs
  alike-needs i j hi hj = rw (alike.label i hi, alike.label j hj, alike.address i hi, alike.address j hj)

  pub alike-rows : rows_of (needs rules ws) (length ws) ≡ rows_of (needs rules vs) (length vs)
  unfolding rows_of
  alike-rows =
      tabulate_ext _ _ (length ws) (λ i hi. mask_ext _ _ (length ws) (λ j hj. alike-needs i j hi hj))
      ∙ ap (λ (n : ℕ). tabulate (λ i. mask_of (needs rules vs i) n) n) alike.as_long

  pub alike-ring : needs_ring rules ws ≡ needs_ring rules vs
  unfolding needs_ring has_ring
  alike-ring = rw (alike-rows, alike.as_long)

  pub alike-late : (stored : ℕ → Bool) (w : Write) → late rules ws stored w ≡ late rules vs stored w
  unfolding late
  alike-late stored w =
      any_below_ext _ _ (length ws) (λ i h. rw (alike.label i h))
      ∙ ap (any_below (λ i. stored i && depends_on rules (label_at vs i) (label_of w))) alike.as_long

-- with a write behind both
module _ (ws vs : List Write) (alike : Alike ws vs) (w : Write) where
  more-at : (i : ℕ) (P : Write → Write → Type 0) → ((j : ℕ) → j < length ws → P (write_at ws j) (write_at vs j)) → P w w → i < length (ws ++ (w ∷ []))
      → P (write_at (ws ++ (w ∷ [])) i) (write_at (vs ++ (w ∷ [])) i)
  more-at i P front last h = ⊎_elim
      (λ (z : i ≡ length ws). rw (get_or_at ws w [] no_write i (sym z), get_or_at vs w [] no_write i (sym alike.as_long ∙ sym z)) last)
      (λ (l : i < length ws). rw (get_or-append ws (w ∷ []) no_write i l, get_or-append vs (w ∷ []) no_write i (rw (← alike.as_long) l)) (front i l))
      (below_suc i (length ws) (let l = length-append ws (w ∷ []) in omega (arith, l, h)))

  pub alike-more : Alike (ws ++ (w ∷ [])) (vs ++ (w ∷ []))
  alike-more = record {
    as_long = rw (length-append ws (w ∷ []), length-append vs (w ∷ []), alike.as_long);
    address = λ i h. more-at i (λ x y. x.address ≡ y.address) alike.address refl h;
    label = λ i h. more-at i (λ x y. label_of x ≡ label_of y) alike.label refl h;
  }
