-- The walk: where all checks are settled the valid schedules are counted at once, else those without a free write and those with it add up. The least rank of the
-- bad ones goes along: of all that lie between two sets it is that of what is chosen, a part of every other one; at the end it says which bad one is the smallest.
use mathlib.Core.Path.{◌≡◌, refl, sym, ap, ◌∙◌}
use mathlib.Core.Logic.{◌⊎◌, inl, inr, ⊎_elim}
use mathlib.Core.Bool.{Bool, true, false, cond, not, ◌&&◌, ◌||◌, and_comm, and-true, and-false}
use mathlib.Core.List.{List}
use Prim.Native.Nat.{ℕ, suc, min, ◌+◌, ◌-◌, ◌*◌, ◌%◌, ◌^◌, ◌≤◌, ◌<◌}
use native.Mathlib.Decide.{dec_lt}
use native.Mathlib.Omega.{arith}
use lib.Bits.{bit_or}
use lib.Count.{ones-le}
use lib.ListN.{get_or, take}
use lib.Pow.{pow_mono, pow_pos}
use borrow.Author.Rules.{rules}
use Rattle.relation.specs.Best.{fewer, smallest_below}
use Rattle.relation.specs.Rank.{small_sets, rank}
use Rattle.relation.specs.Bits.{bit, without}
use Rattle.relation.proofs.BestLaws.{best_same, passes_none, least_smallest, rank-set, part-rank}
use Rattle.relation.proofs.BitLaws.{power_is}
use Rattle.relation.proofs.ListLaws.{untrue, or_cases, or_left, or_right, and_left, and_right, clash}
use Rattle.relation.proofs.UnionLaws.{part_intro}
use Rattle.model.specs.declared.Check.{Check}
use Rattle.model.specs.Limits.{most_main, most_schedules}
use Rattle.model.specs.Check.{consistent}
use Rattle.model.specs.Test.{shown_of, count_below}
use Rattle.model.proofs.CountLaws.{count_ext, count_less, count_most, none-count}
use Rattle.judge_checks.proofs.CheckSteps.{checks-start}
use Rattle.judge_disks.specs.Packed.{held_from}
use Rattle.judge_schedules.specs.Valid.{valid_rows, bad_rows}
use Rattle.judge_closed.specs.Closed.{Order, Orders, between, valid_between, Choice}
use Rattle.judge_closed.proofs.ClosedLaws.{between-has, valid-between, free_below, left_less, right_less, left-choice, right_choice, between_left, between_right, counts-split, chosen-valid, all_free, all-between}
use Rattle.judge_settled.specs.declared.Answer.{Answer}
use Rattle.judge_settled.specs.declared.Answer.TheVariants.{Yes, No, Open}
use Rattle.judge_settled.specs.Settled.{Says, disk_of, all_hold, Ready}
use Rattle.judge_counting.specs.declared.Tally.{Tally}
use Rattle.judge_counting.specs.Tally.{tallied, no_rank, with_good, with_bad, bad_between, Room, Gains}

-- more in the counts
pub good_is : (t : Tally) (many : ℕ) → record { valid = t.valid + many; bad = t.bad; best = t.best } ≡ with_good t many
unfolding with_good
good_is t many = refl

pub bad-is : (t : Tally) (many s k r : ℕ) → k ≡ rank s → r ≡ min t.best k → record { valid = t.valid + many; bad = t.bad + many; best = r } ≡ with_bad t many s
unfolding with_bad
bad-is t many s k r e q = rw (q, e)

-- the lesser of two is one of them
least-is : (x y : ℕ) → (min x y ≡ x) ⊎ (min x y ≡ y)
least-is x y = elim (dec_lt x y) [ yes l ↦ inl (omega arith) | no l ↦ inr (omega arith) ]

module _ (column base : List ℕ) (n : ℕ) (checks : List Check) (dependencies : List ℕ) (chosen free : ℕ) (g : Choice dependencies n chosen free) (old new : Tally)
    (many : ℕ) (count : many ≡ count_below (valid_between dependencies n chosen free) (2 ^ n)) where
  abbrev valid-here : ℕ → Bool
  valid-here = valid_between dependencies n chosen free

  abbrev bad-here : ℕ → Bool
  bad-here = bad_between column base n checks dependencies chosen free

  pub walk_good : Says (all_hold column base n checks) chosen free Yes → new ≡ with_good old many → Gains valid-here bad-here (2 ^ n) old new
  unfolding with_good bad_between
  walk_good says z =
      let all : (s : ℕ) → between chosen free s ≡ true → all_hold column base n checks s ≡ true = unfold Says in says in
      let no : (s : ℕ) → s < 2 ^ n → bad-here s ≡ false = (λ s l.
      untrue (bad-here s) (λ b. let v = and_right (not (all_hold column base n checks s)) (valid-here s) b in
      clash (not (all_hold column base n checks s)) (and_left (not (all_hold column base n checks s)) (valid-here s) b) (rw (all s (valid-between dependencies n chosen free s v))))) in
      let none : count_below bad-here (2 ^ n) ≡ 0 = none-count bad-here (2 ^ n) no in
      rw z
      (record {
        valid = ap (λ (k : ℕ). old.valid + k) count;
        bad = omega (arith, none);
        kept = omega arith;
        least = λ s l b. clash (bad-here s) b (no s l);
        one = inl refl;
      })

  pub walk-bad : Says (all_hold column base n checks) chosen free No → new ≡ with_bad old many chosen → Gains valid-here bad-here (2 ^ n) old new
  unfolding with_bad bad_between
  walk-bad says z =
      let all : (s : ℕ) → between chosen free s ≡ true → all_hold column base n checks s ≡ false = unfold Says in says in
      let same : count_below bad-here (2 ^ n) ≡ count_below valid-here (2 ^ n) = count_ext bad-here valid-here (2 ^ n) (λ s l. go s all (valid-here s) refl) in
      let here : valid-here chosen ≡ true = chosen-valid n dependencies chosen free g in
      rw z
      (record {
        valid = ap (λ (k : ℕ). old.valid + k) count;
        bad = ap (λ (k : ℕ). old.bad + k) (count ∙ sym same);
        kept = omega arith;
        least = λ s l b.
            let v = and_right (not (all_hold column base n checks s)) (valid-here s) b in
            let p = part-rank n chosen s g.chosen-most l (part_intro chosen s (between-has chosen free s (valid-between dependencies n chosen free s v))) in
            omega (arith, p);
        one = ⊎_elim inl (λ k. inr (chosen, g.chosen-most, rw (all chosen (valid-between dependencies n chosen free chosen here)) here, k)) (least-is old.best (rank chosen));
      })
    where
      go : (s : ℕ) → ((s : ℕ) → between chosen free s ≡ true → all_hold column base n checks s ≡ false) → (t : Bool) → valid-here s ≡ t → not (all_hold column base n checks s) && valid-here s ≡ valid-here s
      go s all true v = rw (all s (valid-between dependencies n chosen free s v))
      go s all false v = rw v (and-false (not (all_hold column base n checks s)))

-- there is room for what is counted
module _ (dependencies : List ℕ) (n chosen free : ℕ) (t : Tally) (room : Room dependencies n chosen free t) (many : ℕ) (e : many ≡ count_below (valid_between dependencies n chosen free) (2 ^ n)) where
  pub fits-valid : t.valid + many ≤ most_schedules
  fits-valid = rw e room.valid

  pub fits-bad : t.bad + many ≤ most_schedules
  fits-bad = rw e room.bad

-- schedules are small enough to have a rank
words : (n : ℕ) → n ≤ most_main → 2 ^ n ≤ small_sets
words n few = let p = pow_mono {i = n} {j = most_main} few in omega (arith, p)

pub chosen-word : (column base writers dependencies : List ℕ) (n chosen free : ℕ) → Ready column base n writers → Choice dependencies n chosen free → chosen < small_sets
chosen-word column base writers dependencies n chosen free ready g = let w = words n ready.few in let m = g.chosen-most in omega (arith, w, m)

-- ---- a free write left out, or flagged

-- a free write between two sets
pub record Fork (dependencies dependents : List ℕ) (n chosen free h : ℕ) : Type 0 where
  pub few : n ≤ most_main
  pub order : Order n dependencies dependents
  pub choice : Choice dependencies n chosen free
  pub here : bit free h ≡ true

-- an open answer names a free write
pub open_free : (p : ℕ → Bool) (chosen free h : ℕ) (answer : Answer) → Says p chosen free answer → answer ≡ Open h → bit free h ≡ true
unfolding Says
open_free p chosen free h answer g e = rw e at g

module _ (dependencies dependents : List ℕ) (n chosen free h : ℕ) (k : Fork dependencies dependents n chosen free h) where
  few : n ≤ most_main
  few = k.few

  o : Order n dependencies dependents
  o = k.order

  g : Choice dependencies n chosen free
  g = k.choice

  e : bit free h ≡ true
  e = k.here

  pub open_below : h < 64
  open_below = let l = free_below n dependencies dependents o few chosen free g h e in omega (arith, l, few)

  module _ (c f : ℕ) (ec : c ≡ chosen) (z : f ≡ without free (get_or dependents h 0)) where
    pub out_falls : (t : ℕ) → free ≡ t → f < t
    out_falls t q = rw (← q, z) (left_less n dependencies dependents o few chosen free g h e)

    pub out_free : Choice dependencies n c f
    out_free = rw (ec, z) (left-choice n dependencies dependents o few chosen free g h e)

    pub out_says : (p : ℕ → Bool) → Says p chosen free Yes → Says p c f Yes
    unfolding Says
    out_says p y = λ s b. y s (between_left n dependencies dependents o few chosen free g h e s (rw (← ec, ← z) b))

  module _ (d f : ℕ) (ed : d ≡ bit_or chosen (get_or dependencies h 0)) (z : f ≡ without free (get_or dependencies h 0)) where
    pub in_falls : (t : ℕ) → free ≡ t → f < t
    in_falls t q = rw (← q, z) (right_less n dependencies dependents o few chosen free g h e)

    pub in_free : Choice dependencies n d f
    in_free = rw (ed, z) (right_choice n dependencies dependents o few chosen free g h e)

    pub in_says : (p : ℕ → Bool) → Says p chosen free Yes → Says p d f Yes
    unfolding Says
    in_says p y = λ s b. y s (between_right n dependencies dependents o few chosen free g h e s (rw (← ed, ← z) b))

  module _ (c f d r : ℕ) (ec : c ≡ chosen) (ef : f ≡ without free (get_or dependents h 0)) (ed : d ≡ bit_or chosen (get_or dependencies h 0)) (er : r ≡ without free (get_or dependencies h 0)) where
    both : (q : ℕ → Bool) (m : ℕ) → count_below (λ s. q s && valid_between dependencies n chosen free s) m
        ≡ count_below (λ s. q s && valid_between dependencies n c f s) m + count_below (λ s. q s && valid_between dependencies n d r s) m
    both q m = rw (ec, ef, ed, er) (counts-split n dependencies dependents o few chosen free g h e q m)

    module _ (old : Tally) (room : Room dependencies n chosen free old) where
      pub room-left : Room dependencies n c f old
      room-left = let b = both (λ s. true) (2 ^ n) in let v = room.valid in let w = room.bad in record { valid = omega (arith, b, v); bad = omega (arith, b, w) }

      module _ (column base : List ℕ) (checks : List Check) (first : Tally)
          (gain : Gains (valid_between dependencies n c f) (bad_between column base n checks dependencies c f) (2 ^ n) old first) where
        abbrev bad-left : ℕ → Bool
        bad-left = bad_between column base n checks dependencies c f

        abbrev bad_right : ℕ → Bool
        bad_right = bad_between column base n checks dependencies d r

        fewer-bad : count_below bad-left (2 ^ n) ≤ count_below (valid_between dependencies n c f) (2 ^ n)
        unfolding bad_between
        fewer-bad = count_less _ _ (2 ^ n) (λ s b. and_right (not (all_hold column base n checks s)) (valid_between dependencies n c f s) b)

        pub room_right : Room dependencies n d r first
        room_right =
            let b = both (λ s. true) (2 ^ n) in
            let l = fewer-bad in
            record {
              valid = let v = room.valid in let q = gain.valid in omega (arith, b, v, q);
              bad = let v = room.bad in let q = gain.bad in omega (arith, b, v, q, l);
            }

        -- what is bad is so without the write or with it: the counts add up below each schedule, and with it
        bad_either : (s : ℕ) → bad_between column base n checks dependencies chosen free s ≡ bad-left s || bad_right s
        unfolding bad_between count_below
        bad_either s =
            let x = both (λ s. not (all_hold column base n checks s)) s in
            let y = both (λ s. not (all_hold column base n checks s)) (suc s) in
            go (bad_between column base n checks dependencies chosen free s) (bad-left s) (bad_right s) (omega (arith, x, y))
          where
            go : (a b c : Bool) → cond a 1 0 ≡ cond b 1 0 + cond c 1 0 → a ≡ b || c
            go true true c q = refl
            go true false true q = refl
            go true false false q = absurd (omega (arith, q))
            go false true c q = absurd (omega (arith, q))
            go false false true q = absurd (omega (arith, q))
            go false false false q = refl

        pub walk_both : (last : Tally) → Gains (valid_between dependencies n d r) bad_right (2 ^ n) first last
            → Gains (valid_between dependencies n chosen free) (bad_between column base n checks dependencies chosen free) (2 ^ n) old last
        walk_both last next =
            let later = next.kept in
            record {
              valid = let b = both (λ s. true) (2 ^ n) in let x = gain.valid in let y = next.valid in omega (arith, b, x, y);
              bad = unfold bad_between in (let b = both (λ s. not (all_hold column base n checks s)) (2 ^ n) in let x = gain.bad in let y = next.bad in omega (arith, b, x, y));
              kept = let k = gain.kept in omega (arith, later, k);
              least = λ s l b.
                  ⊎_elim (λ c. let k = gain.least s l c in omega (arith, later, k)) (next.least s l) (or_cases (bad-left s) (bad_right s) (sym (bad_either s) ∙ b));
              one =
                  ⊎_elim
                  (λ (z : last.best ≡ first.best).
                  ⊎_elim (λ y. inl (z ∙ y)) (λ y. inr (y.0, y.1, bad_either y.0 ∙ or_left (bad-left y.0) (bad_right y.0) y.2, z ∙ y.3)) gain.one)
                  (λ y. inr (y.0, y.1, bad_either y.0 ∙ or_right (bad-left y.0) (bad_right y.0) y.2, y.3))
                  next.one;
            }

-- ---- all schedules

all_are : (n : ℕ) → n ≤ most_main → 1 * 2 ^ n % 18446744073709551616 ≡ 2 ^ n
all_are n few = power_is n (omega arith)

pub all-some : (n : ℕ) → n ≤ most_main → 1 ≤ 1 * 2 ^ n % 18446744073709551616
all-some n few = rw (all_are n few) (pow_pos n)

module _ (rows dependencies dependents : List ℕ) (n : ℕ) (few : n ≤ most_main) (o : Orders rows n dependencies dependents) where
  pub start-choice : Choice dependencies n 0 (1 * 2 ^ n % 18446744073709551616 - 1)
  start-choice = rw (all_are n few) (all_free n dependencies dependents o.order)

  pub start-room : (t : Tally) → t.valid ≡ 0 → t.bad ≡ 0 → Room dependencies n 0 (1 * 2 ^ n % 18446744073709551616 - 1) t
  start-room t v b =
      let f = 1 * 2 ^ n % 18446744073709551616 - 1 in
      let m = count_most (valid_between dependencies n 0 f) (2 ^ n) in
      let p = pow_mono {i = n} {j = most_main} few in
      record { valid = omega (arith, m, p, v); bad = omega (arith, m, p, b) }

  pub start_says : (column base : List ℕ) (checks : List Check) (chosen free : ℕ) → Says (all_hold column base n (take 0 checks)) chosen free Yes
  unfolding Says all_hold
  start_says column base checks chosen free = λ s b. checks-start (disk_of column base n s) checks

  module _ (column base : List ℕ) (checks : List Check) (t r : Tally) (zero-valid : t.valid ≡ 0) (zero-bad : t.bad ≡ 0) (no-best : t.best ≡ no_rank)
      (gain : Gains (valid_between dependencies n 0 (1 * 2 ^ n % 18446744073709551616 - 1)) (bad_between column base n checks dependencies 0 (1 * 2 ^ n % 18446744073709551616 - 1)) (2 ^ n) t r) where
    abbrev bad-any : ℕ → Bool
    bad-any = bad_between column base n checks dependencies 0 (1 * 2 ^ n % 18446744073709551616 - 1)

    abbrev bad-rows : ℕ → Bool
    bad-rows = bad_rows rows n base (held_from column 0 n) checks

    valid_same : (s : ℕ) → s < 2 ^ n → valid_between dependencies n 0 (1 * 2 ^ n % 18446744073709551616 - 1) s ≡ valid_rows rows n s
    unfolding valid_between
    valid_same s h = rw (all_are n few, all-between n dependencies dependents o.order s h, o.same s h) (and-true (valid_rows rows n s))

    bad-same : (s : ℕ) → s < 2 ^ n → bad-any s ≡ bad-rows s
    unfolding bad_between bad_rows all_hold
    bad-same s h = rw (valid_same s h) (and_comm (not (consistent checks (disk_of column base n s))) (valid_rows rows n s))

    -- no schedule's rank is as large as the one to begin with
    ranked : (s : ℕ) → s < 2 ^ n → rank s < no_rank
    unfolding rank
    ranked s l = let w = words n few in let o = ones-le 32 s (omega (arith, l, w)) in omega (arith, l, w, o)

    shown-any : r.best % small_sets ≡ shown_of (smallest_below bad-any (2 ^ n))
    unfolding shown_of
    shown-any =
        ⊎_elim
        (λ e.
        let none : r.best ≡ no_rank = e ∙ no-best in
        rw (none, passes_none bad-any (2 ^ n) (λ s l. untrue (bad-any s) (λ b. let m = gain.least s l b in let k = ranked s l in omega (arith, none, m, k)))))
        (λ y.
        let w = words n few in
        rw (y.3, least_smallest bad-any (2 ^ n) y.0 w y.1 y.2 (λ k l b. rw (← y.3) (gain.least k l b)))
        (rank-set y.0 (let l = y.1 in omega (arith, l, w))))
        gain.one

    pub count-done : record { valid = r.valid; bad = r.bad; shown = r.best % 4294967296 } ≡ tallied (valid_rows rows n) bad-rows (2 ^ n)
    unfolding tallied
    count-done =
        let v : r.valid ≡ count_below (valid_rows rows n) (2 ^ n) = let g = gain.valid in let e = count_ext _ _ (2 ^ n) valid_same in omega (arith, g, e, zero-valid) in
        let b : r.bad ≡ count_below bad-rows (2 ^ n) = let g = gain.bad in let e = count_ext _ _ (2 ^ n) bad-same in omega (arith, g, e, zero-bad) in
        let s : r.best % small_sets ≡ shown_of (smallest_below bad-rows (2 ^ n)) = shown-any ∙ ap shown_of (best_same fewer bad-any bad-rows (2 ^ n) bad-same) in
        rw (v, b, s)

pub ruleset walking = (rules, good_is, bad-is, fits-valid, fits-bad, chosen-word, walk_good, walk-bad, all-some)
