-- The computed forms of a bad schedule, of the smallest one and of a test that holds agree with their meaning, and so does the count of bad schedules: for any
-- meaning of which schedules count, with a computed form that agrees with it. At the end what others use of the valid ones.
use mathlib.Core.Path.{◌≡◌, refl, sym, ◌∙◌}
use mathlib.Core.Logic.{◌⊎◌, inl, inr}
use mathlib.Core.Bool.{Bool, true, false, not, false≢true}
use mathlib.Core.List.{List}
use mathlib.Core.Option.{Option, none, some}
use Prim.Native.Nat.{ℕ, ◌<◌}
use borrow.Author.Tests.{not-true}
use Rattle.relation.proofs.ListLaws.{not_so, and_left, and_right, and_intro, all_below-true, all_below_intro, any_below-true, any_below-false}
use Rattle.relation.proofs.BestLaws.{Passes, none_passes, passes_none, smallest_is, is_smallest, smallest_one}
use Rattle.relation.specs.Best.{Smallest}
use Rattle.relation.specs.Lists.{any_below}
use Rattle.model.specs.declared.Rule.{Rule}
use Rattle.model.specs.Schedule.{Valid, valid}
use Rattle.model.specs.Check.{Consistent, consistent}
use Rattle.model.specs.Test.{Test, schedules, disk_after, HoldsFor, holds_for, BadFor, bad_for, bad_count_for, SmallestBadFor, smallest_bad_for, TestHolds, test_holds, Bad, bad, bad_count, SmallestBad, smallest_bad}
use Rattle.model.specs.Theorem.{Agrees}
use Rattle.model.proofs.ScheduleLaws.{valid-true, true-valid}
use Rattle.model.proofs.CheckLaws.{consistent-true, true-consistent}
use Rattle.model.proofs.CountLaws.{count_none, none-count}

module _ (Counts : ℕ → Type 0) (counts : ℕ → Bool) (t : Test) (agrees : Agrees Counts counts t) where
  -- ---- a bad schedule

  pub is-bad_for : (s : ℕ) → s < schedules t → bad_for counts t s ≡ true → BadFor Counts t s
  is-bad_for s l e = (
    l,
    (agrees s l).1 (and_left (counts s) _ e),
    λ c. false≢true (sym (not-true _ (and_right (counts s) _ e)) ∙ true-consistent (disk_after t s) t.checks c),
  )

  pub bad_for-is : (s : ℕ) → BadFor Counts t s → bad_for counts t s ≡ true
  bad_for-is s b =
      and_intro (counts s) _ ((agrees s b.0).0 b.1)
      (not_so (consistent t.checks (disk_after t s)) (λ e. b.2 (consistent-true (disk_after t s) t.checks e)))

  -- ---- a test that holds

  -- a test holds where the computed form finds no bad schedule
  none-bad : ((s : ℕ) → s < schedules t → bad_for counts t s ≡ false) → HoldsFor Counts t
  none-bad n s l c = go (consistent t.checks (disk_after t s)) refl
    where
      go : (b : Bool) → consistent t.checks (disk_after t s) ≡ b → Consistent t.checks (disk_after t s)
      go true q = consistent-true (disk_after t s) t.checks q
      go false q = absurd (false≢true (sym (n s l) ∙ and_intro (counts s) _ ((agrees s l).0 c) (rw q)))

  -- and only there
  bad-none : HoldsFor Counts t → (s : ℕ) → s < schedules t → bad_for counts t s ≡ false
  bad-none h s l = not-true _ (not_so (bad_for counts t s) (λ e. let b = is-bad_for s l e in b.2 (h s l b.1)))

  pub is-holds_for : holds_for counts t ≡ true → HoldsFor Counts t
  is-holds_for e = none-bad (λ s l. not-true _ (all_below-true (λ x. not (bad_for counts t x)) (schedules t) e s l))

  pub holds_for-is : HoldsFor Counts t → holds_for counts t ≡ true
  holds_for-is h = all_below_intro (λ x. not (bad_for counts t x)) (schedules t) (λ s l. rw (bad-none h s l))

  -- no bad schedule is counted exactly if the test holds
  pub count-holds_for : bad_count_for counts t ≡ 0 → HoldsFor Counts t
  count-holds_for e = none-bad (count_none (bad_for counts t) (schedules t) e)

  pub holds_for-count : HoldsFor Counts t → bad_count_for counts t ≡ 0
  holds_for-count h = none-count (bad_for counts t) (schedules t) (bad-none h)

  -- a test holds, or a schedule that counts and is inconsistent shows that it does not
  pub holds_for_or_bad : HoldsFor Counts t ⊎ ((s : ℕ) × BadFor Counts t s)
  holds_for_or_bad = go (any_below (bad_for counts t) (schedules t)) refl
    where
      go : (b : Bool) → any_below (bad_for counts t) (schedules t) ≡ b → HoldsFor Counts t ⊎ ((s : ℕ) × BadFor Counts t s)
      go true e = let w = any_below-true (bad_for counts t) (schedules t) e in inr (w.0, is-bad_for w.0 w.1 w.2)
      go false e = inl (none-bad (any_below-false (bad_for counts t) (schedules t) e))

  pub bad_for-fails : (s : ℕ) → BadFor Counts t s → HoldsFor Counts t → ⊥
  bad_for-fails s b h = b.2 (h s b.0 b.1)

  -- ---- the smallest bad schedule

  -- bad by its meaning, and by the computed form below the count of schedules
  bad_passes : (s : ℕ) → BadFor Counts t s → Passes (bad_for counts t) (schedules t) s
  bad_passes s b = (b.0, bad_for-is s b)

  passes_bad : (s : ℕ) → Passes (bad_for counts t) (schedules t) s → BadFor Counts t s
  passes_bad s q = is-bad_for s q.0 q.1

  pub smallest_for_only : (s k : ℕ) → SmallestBadFor Counts t s → SmallestBadFor Counts t k → s ≡ k
  smallest_for_only s k a b = smallest_one (BadFor Counts t) s k a b

  pub smallest_for_computed : (s : ℕ) → SmallestBadFor Counts t s → smallest_bad_for counts t ≡ some s
  smallest_for_computed s h =
      is_smallest (bad_for counts t) (schedules t) s (unfold Smallest in (bad_passes s h.0, λ k q d. h.1 k (passes_bad k q) d))

  pub computed_smallest_for : (s : ℕ) → smallest_bad_for counts t ≡ some s → SmallestBadFor Counts t s
  computed_smallest_for s e =
      let h = smallest_is (bad_for counts t) (schedules t) s e in
      unfold Smallest in (passes_bad s h.0, λ k b d. h.1 k (bad_passes k b) d)

  pub holds_for-none : HoldsFor Counts t → smallest_bad_for counts t ≡ none
  holds_for-none h = passes_none (bad_for counts t) (schedules t) (bad-none h)

  pub none-holds_for : smallest_bad_for counts t ≡ none → HoldsFor Counts t
  none-holds_for e = none-bad (none_passes (bad_for counts t) (schedules t) e)

  pub some_smallest_for : (HoldsFor Counts t → ⊥) → (s : ℕ) × SmallestBadFor Counts t s
  some_smallest_for f = go (smallest_bad_for counts t) refl
    where
      go : (o : Option ℕ) → smallest_bad_for counts t ≡ o → (s : ℕ) × SmallestBadFor Counts t s
      go none e = absurd (f (none-holds_for e))
      go (some s) e = (s, computed_smallest_for s e)

-- ---- where the valid schedules count

module _ (rules : List Rule) (t : Test) where
  abbrev Counts : ℕ → Type 0
  Counts = Valid rules t.main

  abbrev counts : ℕ → Bool
  counts = valid rules t.main

  pub valid_agrees : Agrees (Valid rules t.main) (valid rules t.main) t
  valid_agrees s l = (true-valid rules t.main s, valid-true rules t.main s)

  pub bad-true : (s : ℕ) → s < schedules t → bad rules t s ≡ true → Bad rules t s
  unfolding bad Bad
  bad-true = is-bad_for Counts counts t valid_agrees

  pub true-bad : (s : ℕ) → Bad rules t s → bad rules t s ≡ true
  unfolding bad Bad
  true-bad = bad_for-is Counts counts t valid_agrees

  pub bad-fails : (s : ℕ) → Bad rules t s → TestHolds rules t → ⊥
  unfolding Bad TestHolds
  bad-fails = bad_for-fails Counts counts t valid_agrees

  pub test_holds-true : test_holds rules t ≡ true → TestHolds rules t
  unfolding test_holds TestHolds
  test_holds-true = is-holds_for Counts counts t valid_agrees

  pub true-test_holds : TestHolds rules t → test_holds rules t ≡ true
  unfolding test_holds TestHolds
  true-test_holds = holds_for-is Counts counts t valid_agrees

  pub count-holds : bad_count rules t ≡ 0 → TestHolds rules t
  unfolding bad_count TestHolds
  count-holds = count-holds_for Counts counts t valid_agrees

  pub computed_smallest : (s : ℕ) → smallest_bad rules t ≡ some s → SmallestBad rules t s
  unfolding smallest_bad
  computed_smallest = computed_smallest_for Counts counts t valid_agrees
