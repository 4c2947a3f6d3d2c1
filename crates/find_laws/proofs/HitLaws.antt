-- A set makes all tests hold exactly if it is no part of a marked set: a schedule is valid under rules exactly if it is so under each alone,
-- and marks handed down candidate by candidate reach exactly the parts of the marked sets.
use mathlib.Core.Path.{◌≡◌, refl, sym, ap, subst, ◌∙◌}
use mathlib.Core.Logic.{⊎_elim}
use mathlib.Core.Bool.{Bool, true, false, cond, not, ◌&&◌, ◌||◌, or-false, false≢true}
use mathlib.Core.List.Memᴰ
use mathlib.Core.List.{List, [], ◌∷◌, Memᴰ}
use Prim.Native.Nat.{ℕ, zero, suc, ◌/◌, ◌%◌, ◌^◌, ◌≤◌, ◌<◌}
use native.Mathlib.Omega.{arith}
use lib.Dec.{eqb, ltb}
use lib.ListN.{length}
use borrow.Author.Tests.{eqb-true, eqb-false, eq-eqb, ne_eqb, lt-ltb, not-true}
use Rattle.relation.specs.Bits.{bit, with_bit}
use Rattle.relation.specs.Lists.{all}
use Rattle.relation.proofs.BitLaws.{bit-suc, bit_with, with_below, bit_mask, mask_below, bits_equal}
use Rattle.relation.proofs.ListLaws.{or_cases, or_left, or_right, and_left, and_right, and_intro, any-true, any_intro, all_true, all_intro, any_below-true, any_below_intro, all_below-true, all_below_intro}
use Rattle.model.specs.declared.Rule.{Rule}
use Rattle.model.specs.declared.Write.{Write}
use Rattle.model.specs.Rules.{DependsOn}
use Rattle.model.specs.Cyclic.{rule_at}
use Rattle.model.specs.Schedule.{Valid, valid}
use Rattle.model.specs.Check.{consistent}
use Rattle.model.specs.Test.{Test, schedules, disk_after, bad, test_holds}
use Rattle.model.specs.Find.{picked}
use Rattle.model.proofs.ScheduleLaws.{valid-true, true-valid}
use Rattle.find_laws.specs.Hit.{allows, allowed, marks, marked, spread, Hits}
use Rattle.find_laws.proofs.PickedLaws.{bit-lowest}

-- ---- the members of a set by their numbers

-- x is candidate k, and bit k is set
abbrev Index : Rule → List Rule → ℕ → Type 0
Index x cs m = (k : ℕ) × (k < length cs) × (bit m k ≡ true) × (rule_at cs k ≡ x)

picked_index : (cs : List Rule) (m : ℕ) (x : Rule) → Memᴰ x (picked cs m) → Index x cs m
unfolding picked
picked_index [] m x n = absurd (Memᴰ.not-nil n)
picked_index (c ∷ cs) m x n = go (eqb (m % 2) 1) refl n (picked_index cs (m / 2) x)
  where
    later : Index x cs (m / 2) → Index x (c ∷ cs) m
    later (k, h, b, e) = (suc k, omega arith, bit-suc m k ∙ b, e)

    go : (b : Bool) → eqb (m % 2) 1 ≡ b → Memᴰ x (cond b (c ∷ picked cs (m / 2)) (picked cs (m / 2)))
        → (Memᴰ x (picked cs (m / 2)) → Index x cs (m / 2)) → Index x (c ∷ cs) m
    go true e n f = ⊎_elim (λ q. (0, omega arith, bit-lowest m ∙ e, sym q)) (λ k. later (f k)) (Memᴰ.cases_cons n)
    go false e n f = later (f n)

index_picked : (cs : List Rule) (m k : ℕ) → k < length cs → bit m k ≡ true → Memᴰ (rule_at cs k) (picked cs m)
unfolding picked
index_picked [] m k h e = absurd (omega arith)
index_picked (c ∷ cs) m zero h e = rw (sym (bit-lowest m) ∙ e) (Memᴰ.head refl)
index_picked (c ∷ cs) m (suc k) h e = go (eqb (m % 2) 1) (index_picked cs (m / 2) k (omega arith) (sym (bit-suc m k) ∙ e))
  where
    go : (b : Bool) → Memᴰ (rule_at cs k) (picked cs (m / 2)) → Memᴰ (rule_at cs k) (cond b (c ∷ picked cs (m / 2)) (picked cs (m / 2)))
    go true n = Memᴰ.tail n
    go false n = n

-- ---- validity, rule by rule

module _ (rules : List Rule) (ws : List Write) (s : ℕ) where
  valid-each : Valid rules ws s → (r : Rule) → Memᴰ r rules → Valid (r ∷ []) ws s
  unfolding Valid DependsOn
  valid-each v r m i j hi hj f (q, n, e) = v i j hi hj f (r, m, rw (Memᴰ.eq_of_singleton n) at e)

  each-valid : ((r : Rule) → Memᴰ r rules → Valid (r ∷ []) ws s) → Valid rules ws s
  unfolding Valid DependsOn
  each-valid v i j hi hj f (r, m, e) = v r m i j hi hj f (r, Memᴰ.head refl, e)

module _ (cs : List Rule) (ws : List Write) (s m : ℕ) where
  -- each candidate of the set leaves the schedule valid
  abbrev Part : Type 0
  Part = (k : ℕ) → k < length cs → bit m k ≡ true → allows cs ws s k ≡ true

  valid-part : valid (picked cs m) ws s ≡ true → Part
  unfolding allows
  valid-part v k h e =
      true-valid (rule_at cs k ∷ []) ws s (valid-each (picked cs m) ws s (valid-true (picked cs m) ws s v) (rule_at cs k) (index_picked cs m k h e))

  part-valid : Part → valid (picked cs m) ws s ≡ true
  unfolding allows
  part-valid p = true-valid (picked cs m) ws s (each-valid (picked cs m) ws s each)
    where
      each : (r : Rule) → Memᴰ r (picked cs m) → Valid (r ∷ []) ws s
      each r n =
          let (k, h, b, e) = picked_index cs m r n in
          subst (λ (x : Rule). Valid (x ∷ []) ws s) e (valid-true (rule_at cs k ∷ []) ws s (p k h b))

-- ---- marks handed down

module _ (f : ℕ → Bool) (n : ℕ) where
  -- x is part of a marked z
  abbrev Under : ℕ → Type 0
  Under x = (z : ℕ) × (z < 2 ^ n) × (f z ≡ true) × ((j : ℕ) → bit x j ≡ true → bit z j ≡ true)

  spread-under : (b x : ℕ) → b ≤ n → x < 2 ^ n → spread f b x ≡ true → Under x
  unfolding spread
  spread-under zero x l h e = (x, h, e, λ j q. q)
  spread-under (suc b) x l h e = ⊎_elim
      (λ q. spread-under b x (omega arith) h q)
      (λ q. let (z, k, m, p) = spread-under b (with_bit x b) (omega arith) (with_below x b n h (omega arith)) q in
      (z, k, m, λ j i. p j (bit_with x b j ∙ or_left (bit x j) (eqb j b) i)))
      (or_cases (spread f b x) _ e)

  under-spread : (b x z : ℕ) → b ≤ n → x < 2 ^ n → z < 2 ^ n → f z ≡ true → ((j : ℕ) → j < n → bit x j ≡ true → bit z j ≡ true)
      → ((j : ℕ) → b ≤ j → j < n → bit x j ≡ bit z j) → spread f b x ≡ true
  unfolding spread
  under-spread zero x z l hx hz e p q = rw (bits_equal n x z hx hz (λ j i. q j (omega arith) i)) e
  under-spread (suc b) x z l hx hz e p q = go (bit x b) (bit z b) refl refl (under-spread b x z (omega arith) hx hz e p) (under-spread b (with_bit x b) z (omega arith) (with_below x b n hx (omega arith)) hz e)
    where
      -- one bit more on which they agree
      agree : (y : ℕ) → bit y b ≡ bit z b → ((j : ℕ) → suc b ≤ j → j < n → bit y j ≡ bit z j) → (j : ℕ) → b ≤ j → j < n → bit y j ≡ bit z j
      agree y same above j k i = here (eqb j b) refl
        where
          here : (t : Bool) → eqb j b ≡ t → bit y j ≡ bit z j
          here true w = rw (eqb-true j b w) same
          here false w = let d : j ≡ b → ⊥ = eqb-false j b w in above j (omega arith) i

      go : (s t : Bool) → bit x b ≡ s → bit z b ≡ t
          → (((j : ℕ) → b ≤ j → j < n → bit x j ≡ bit z j) → spread f b x ≡ true)
          → (((j : ℕ) → j < n → bit (with_bit x b) j ≡ true → bit z j ≡ true) → ((j : ℕ) → b ≤ j → j < n → bit (with_bit x b) j ≡ bit z j) → spread f b (with_bit x b) ≡ true)
          → spread f b x || spread f b (with_bit x b) ≡ true
      go true true u v keep add = or_left (spread f b x) _ (keep (agree x (u ∙ sym v) q))
      go false false u v keep add = or_left (spread f b x) _ (keep (agree x (u ∙ sym v) q))
      go true false u v keep add = absurd (false≢true (sym v ∙ p b (omega arith) u))
      go false true u v keep add =
          or_right (spread f b x) _
          (add
          (λ j i w. ⊎_elim (λ g. p j i g) (λ g. rw (eqb-true j b g) v) (or_cases (bit x j) (eqb j b) (sym (bit_with x b j) ∙ w)))
          (agree (with_bit x b) (bit_with x b b ∙ or_right (bit x b) (eqb b b) (eq-eqb b b refl) ∙ sym v)
          (λ j k i. bit_with x b j ∙ rw (ne_eqb j b (λ (g : j ≡ b). absurd (omega arith))) (or-false (bit x j)) ∙ q j k i)))

-- ---- sets that make all tests hold

module _ (cs : List Rule) (m : ℕ) (h : m < 2 ^ length cs) where
  -- a schedule that the set leaves valid marks a set that it is part of
  valid-under : (ws : List Write) (s : ℕ) → valid (picked cs m) ws s ≡ true → (j : ℕ) → j < length cs → bit m j ≡ true → bit (allowed cs ws s) j ≡ true
  unfolding allowed
  valid-under ws s v j l e =
      bit_mask (allows cs ws s) (length cs) j ∙ and_intro (ltb j (length cs)) _ (lt-ltb j (length cs) l) (valid-part cs ws s m v j l e)

  under-valid : (ws : List Write) (s : ℕ) → ((j : ℕ) → bit m j ≡ true → bit (allowed cs ws s) j ≡ true) → valid (picked cs m) ws s ≡ true
  unfolding allowed
  under-valid ws s p =
      part-valid cs ws s m (λ k l e. and_right (ltb k (length cs)) _ (sym (bit_mask (allows cs ws s) (length cs) k) ∙ p k e))

  module _ (tests : List Test) where
    abbrev reached : Bool
    reached = spread (marked cs tests) (length cs) m

    reached-fails : reached ≡ true → all (test_holds (picked cs m)) tests ≡ true → ⊥
    unfolding marked marks test_holds bad
    reached-fails e a =
        let (z, l, k, p) = spread-under (marked cs tests) (length cs) (length cs) m (omega arith) h e in
        let (t, n, g) = any-true (λ t. marks cs t z) tests k in
        let (s, i, w) = any_below-true (λ s. not (consistent t.checks (disk_after t s)) && eqb (allowed cs t.main s) z) (schedules t) g in
        let spoils = and_left (not (consistent t.checks (disk_after t s))) _ w in
        let same = eqb-true (allowed cs t.main s) z (and_right (not (consistent t.checks (disk_after t s))) _ w) in
        let v = under-valid t.main s (λ j q. ap (λ (x : ℕ). bit x j) same ∙ p j q) in
        let good = not-true _ (all_below-true (λ x. not (bad (picked cs m) t x)) (schedules t) (all_true (test_holds (picked cs m)) a t n) s i) in
        false≢true (sym good ∙ and_intro (valid (picked cs m) t.main s) _ v spoils)

    fails-reached : (t : Test) (s : ℕ) → Memᴰ t tests → s < schedules t → bad (picked cs m) t s ≡ true → reached ≡ true
    unfolding marked marks bad allowed
    fails-reached t s n i e =
        let z = allowed cs t.main s in
        let spoils = and_right (valid (picked cs m) t.main s) _ e in
        let mark : marks cs t z ≡ true = any_below_intro _ (schedules t) s i (and_intro (not (consistent t.checks (disk_after t s))) _ spoils (eq-eqb z z refl)) in
        under-spread (marked cs tests) (length cs) (length cs) m z (omega arith) h (mask_below (allows cs t.main s) (length cs))
        (any_intro (λ t. marks cs t z) n mark)
        (valid-under t.main s (and_left (valid (picked cs m) t.main s) _ e))
        (λ j l k. absurd (omega arith))

    holds-all : reached ≡ false → all (test_holds (picked cs m)) tests ≡ true
    unfolding test_holds bad
    holds-all e = all_intro (test_holds (picked cs m)) tests (λ t n. all_below_intro _ (schedules t) (λ s i. go t s n i (bad (picked cs m) t s) refl))
      where
        go : (t : Test) (s : ℕ) → Memᴰ t tests → s < schedules t → (b : Bool) → bad (picked cs m) t s ≡ b → not b ≡ true
        go t s n i true w = absurd (false≢true (sym e ∙ fails-reached t s n i w))
        go t s n i false w = refl

pub hits : Hits
hits tests cs m h = go (spread (marked cs tests) (length cs) m) (all (test_holds (picked cs m)) tests) refl refl
  where
    go : (r a : Bool) → spread (marked cs tests) (length cs) m ≡ r → all (test_holds (picked cs m)) tests ≡ a → a ≡ not r
    go true true e f = absurd (reached-fails cs m h tests e f)
    go true false e f = refl
    go false a e f = sym f ∙ holds-all cs m h tests e
