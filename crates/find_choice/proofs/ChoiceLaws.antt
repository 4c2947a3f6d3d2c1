-- The choice from the table: set by set it is `chosen_below`, and the sets that pass are the sufficient ones, by `hits`.
use mathlib.Core.Path.{◌≡◌, refl, sym, ap, subst, ◌∙◌}
use mathlib.Core.Logic.{inl, inr, ⊎_elim}
use mathlib.Core.Bool.{Bool, true, false, false≢true, cond, not, ◌&&◌, and-true, and-false}
use mathlib.Core.List.{List}
use mathlib.Core.Option as math
use mathlib.Core.Option.{none, some}
use Rattle.std.proofs.Common.{Option, Some, None, min}
use Rattle.std.specs.Int.{div_ceil}
use Prim.Native.Nat.{ℕ, zero, suc, ◌+◌, ◌-◌, ◌*◌, ◌/◌, ◌%◌, ◌^◌, ◌≤◌, ◌<◌}
use native.Mathlib.Nat.{one-mul, lt_of_lt_of_le, add-zero, mod-lt}
use native.Mathlib.Numerals.{add-one}
use native.Mathlib.Omega.{arith}
use lib.Bits.{bit_or, bit_xor, or_add_and, xor_add_and}
use lib.Count.{ones}
use lib.Dec.{eqb, leb, lit<}
use lib.ListN.{length, get_or}
use lib.Pow.{pow_mono, pow_pos}
use lib.Seq.{length-take-le}
use borrow.Author.Tests.{lt-leb, leb-false, eqb-true, not-true, not-false}
use Rattle.relation.specs.Best.{taken, best_below}
use Rattle.relation.specs.Bits.{bit, with_bit}
use Rattle.relation.specs.Lists.{all, any_below}
use Rattle.relation.proofs.BestLaws.{best_same}
use Rattle.relation.proofs.BitLaws.{or_bit}
use Rattle.relation.proofs.UnionLaws.{bit-ones}
use Rattle.relation.proofs.ListLaws.{and_left, and_right, any_below-true, any_below_intro}
use Rattle.relation.proofs.WithoutLaws.{bit-most, ones-without, ones_upper}
use Rattle.model.specs.Limits.{most_rules, most_candidates, candidate_sets}
use Rattle.model.specs.declared.Rule.{Rule}
use Rattle.model.specs.Cyclic.{cyclic}
use Rattle.model.specs.Test.{Test, test_holds}
use Rattle.model.specs.Find.{picked, suffices, preferred, chosen_below, chosen}
use Rattle.rule_match.specs.declared.Rules.{Rules}
use Rattle.rule_match.specs.Held.{rules_of}
use Rattle.find_laws.specs.Hit.{marked, spread}
use Rattle.find_laws.proofs.ChosenLaws.{chosen_fewest}
use Rattle.find_laws.proofs.HitLaws.{hits}
use Rattle.find_laws.proofs.PartLaws.{cyclic-without}
use Rattle.find_table.specs.Table.{set_words, mark_at, Shows, Spreads}
use Rattle.find_choice.specs.Choice.{passing, spare, rivals, better, choice_code, Hopeless}
use Rattle.find_table.proofs.ForbidLaws.{power}

-- ---- rivals

pub rivals-some : (best : Option ℕ) (k m : ℕ) (b : Bool) → best ≡ Some k → b ≡ leb (ones m) (ones k) → b ≡ rivals best m
unfolding rivals
rivals-some best k m b e q = rw e q

pub rivals-none : (best : Option ℕ) (m : ℕ) → best ≡ None → true ≡ rivals best m
unfolding rivals
rivals-none best m e = rw e

-- ---- better_of

module _ (table : List ℕ) (cs : List Rule) (m : ℕ) (best : Option ℕ) where
  pub better-more : (b : Bool) → b ≡ rivals best m → not b ≡ true → best ≡ better (passing table cs) m best
  unfolding better
  better-more b e t = rw (← e, not-true b t)

  pub better-marked : (b : Bool) → b ≡ mark_at table m → b ≡ true → best ≡ better (passing table cs) m best
  unfolding better passing
  better-marked b e t = rw (← e, t, and-false (not (cyclic (picked cs m))), and-false (rivals best m))

  module _ (set : Rules) (b : Bool) (q : rules_of set ≡ picked cs m) (e : b ≡ cyclic (rules_of set)) where
    pub better-cyclic : b ≡ true → best ≡ better (passing table cs) m best
    unfolding better passing
    better-cyclic t = rw (← q, ← e, t, and-false (rivals best m))

    pub better_yes : (r d : Bool) → r ≡ rivals best m → not r ≡ false → d ≡ mark_at table m → d ≡ false → b ≡ false → Some m ≡ better (passing table cs) m best
    unfolding better passing
    better_yes r d h t n z f = rw (← h, not-false r t, ← q, ← e, f, ← n, z)

-- ---- is_spare, has_spare

module _ (table : List ℕ) (m i : ℕ) (b : Bool) (e : b ≡ bit m i) where
  pub spare-not : b ≡ false → false ≡ spare table m i
  unfolding spare
  spare-not t = rw (← e, t)

  module _ (t : b ≡ true) (few : i < most_candidates) where
    abbrev flag : ℕ
    flag = 1 * 2 ^ i % 18446744073709551616

    set : bit m i ≡ true
    set = sym e ∙ t

    -- a flag that is set is taken away by turning it over
    less_is : bit_xor m flag ≡ m - 2 ^ i
    unfolding with_bit
    less_is =
        let whole : bit_or m (2 ^ i) ≡ m = rw (one-mul (2 ^ i)) at (or_bit m i) ∙ rw set in
        let both = or_add_and m (2 ^ i) in
        let rest = xor_add_and m (2 ^ i) in
        let most = bit-most m i set in
        rw (power i (omega arith)) (omega arith)

    pub spare-within : m < candidate_sets → bit_xor m flag < candidate_sets
    spare-within h = rw less_is (omega arith)

    pub spare-is : (d : Bool) → d ≡ mark_at table (bit_xor m flag) → not d ≡ spare table m i
    unfolding spare
    spare-is d k = rw (k, less_is, set)

module _ (table : List ℕ) (m : ℕ) where
  pub spares_begun : any_below (spare table m) 0 ≡ false
  unfolding any_below
  spares_begun = refl

  pub spares_more : (i : ℕ) (b : Bool) → any_below (spare table m) i ≡ false → b ≡ spare table m i → b ≡ false → any_below (spare table m) (i + 1) ≡ false
  unfolding any_below
  spares_more i b h e f = rw (add-one i, h, ← e, f)

  pub spares_found : (i n : ℕ) (b : Bool) → i < n → b ≡ spare table m i → b ≡ true → true ≡ any_below (spare table m) n
  spares_found i n b h e t = sym (any_below_intro (spare table m) n i h (sym e ∙ t))

  pub spares_done : (i n : ℕ) → any_below (spare table m) i ≡ false → i ≤ n → n ≤ i → false ≡ any_below (spare table m) n
  spares_done i n h l k = let z : i ≡ n = omega arith in sym (rw z at h)

-- a set that is sufficient without one of its candidates: without it, it was taken or is cyclic
module _ (table : List ℕ) (cs : List Rule) (m : ℕ) (best : Option ℕ) where
  spare-better : (i : ℕ) → best ≡ choice_code (chosen_below (passing table cs) m) → spare table m i ≡ true → best ≡ better (passing table cs) m best
  unfolding better passing spare choice_code
  spare-better i e s = go (cyclic (picked cs less)) refl
    where
      less : ℕ
      less = m - 2 ^ i

      has : bit m i ≡ true
      has = and_left (bit m i) _ s

      go : (b : Bool) → cyclic (picked cs less) ≡ b → best ≡ better (passing table cs) m best
      go true c = rw (cyclic-without cs m i has c, and-false (rivals best m))
      go false c =
          let most = bit-most m i has in
          let power = pow_pos i in
          let (k, q, l) = chosen_fewest (passing table cs) m less (omega arith) (rw c (and_right (bit m i) _ s)) in
          let best-is : best ≡ Some k = e ∙ ap choice_code q in
          let n = ones-without m i has in
          better-more table cs m best false (rivals-some best k m false best-is (sym (lt-leb (ones m) (ones k) (omega arith)))) refl

  pub better-spare : (n : ℕ) (b : Bool) → best ≡ choice_code (chosen_below (passing table cs) m) → b ≡ any_below (spare table m) n → b ≡ true
      → best ≡ better (passing table cs) m best
  better-spare n b e q t = let (i, l, s) = any_below-true (spare table m) n (sym q ∙ t) in spare-better i e s

-- ---- choose

-- the words of a number of sets
words_cover : (total : ℕ) → total ≤ div_ceil total 64 * 64
words_cover total = omega arith

words_begin : (total word : ℕ) → word < div_ceil total 64 → word * 64 < total
words_begin total word h = omega arith

module _ (p : ℕ → Bool) where
  pub chosen-begun : (n : ℕ) → None ≡ choice_code (chosen_below p (min n (0 * 64)))
  unfolding choice_code best_below
  chosen-begun n = let z : min n (0 * 64) ≡ 0 = omega arith in rw z

  pub chosen_more : (m : ℕ) (best next : Option ℕ) → best ≡ choice_code (chosen_below p m) → next ≡ better p m best → next ≡ choice_code (chosen_below p (m + 1))
  unfolding best_below taken better preferred choice_code rivals
  chosen_more m best next e q = q ∙ rw (add-one m, e) (go (p m) (chosen_below p m))
    where
      pick : (b : Bool) (k : ℕ) → cond b (Some m) (Some k) ≡ choice_code (cond b (some m) (some k))
      pick true k = refl
      pick false k = refl

      go : (b : Bool) (o : math.Option ℕ) → cond (rivals (choice_code o) m && b) (Some m) (choice_code o) ≡ choice_code (cond b (taken preferred m o) o)
      go false o = rw (and-false (rivals (choice_code o) m))
      go true none = refl
      go true (some k) = rw (and-true (leb (ones m) (ones k))) (pick (leb (ones m) (ones k)) k)

  -- numbers that change nothing
  pub chosen-same : (d m : ℕ) (best : Option ℕ) → best ≡ choice_code (chosen_below p m) → ((k : ℕ) → m ≤ k → k < m + d → best ≡ better p k best)
      → best ≡ choice_code (chosen_below p (m + d))
  chosen-same zero m best e f = rw (add-zero m) e
  chosen-same (suc d) m best e f =
      let r = chosen-same d m best e (λ k a b. f k a (omega arith)) in
      let z : m + suc d ≡ m + d + 1 = omega arith in
      rw z (chosen_more (m + d) best best r (f (m + d) (omega arith) (omega arith)))

  pub chosen_end : (m : ℕ) (best : Option ℕ) (end : ℕ) → best ≡ choice_code (chosen_below p m) → m ≤ end → end ≤ m → best ≡ choice_code (chosen_below p end)
  chosen_end m best end e h l = let z : m ≡ end = omega arith in rw z at e

  pub chosen-done : (word : ℕ) (best : Option ℕ) (total n : ℕ) → best ≡ choice_code (chosen_below p (min total (word * 64))) → total ≡ 2 ^ n
      → div_ceil total 64 ≤ word → best ≡ choice_code (chosen_below p (2 ^ n))
  chosen-done word best total n e t h = let z : min total (word * 64) ≡ 2 ^ n = (let c = words_cover total in omega arith) in rw z at e

-- ---- is_marked, is_hopeless

pub marked-is : (table : List ℕ) (m : ℕ) (b : Bool) → b ≡ bit (get_or table (m / 64) 0) (m % 64) → b ≡ mark_at table m
unfolding mark_at
marked-is table m b e = e

module _ (table : List ℕ) (word : ℕ) (best : Option ℕ) where
  pub hopeless_more : (b : Bool) → b ≡ rivals best word → not b ≡ true → Hopeless table word best true
  unfolding rivals
  hopeless_more b e t = record { each = λ u m q. inl (go best (sym e ∙ not-true b t) m q) }
    where
      go : (o : Option ℕ) → rivals o word ≡ false → (m : ℕ) → m / 64 ≡ word → rivals o m ≡ false
      go None f m q = absurd (false≢true (sym f))
      go (Some k) f m q =
          let h = leb-false (ones word) (ones k) f in
          let u : ones (m / 2 ^ 6) ≤ ones m = ones_upper m 6 in
          let z : ones (m / 64) ≡ ones word = ap ones q in
          lt-leb (ones m) (ones k) (omega arith)

  pub hopeless_full : Hopeless table word best (eqb (get_or table word 0) 18446744073709551615)
  unfolding mark_at
  hopeless_full =
      record { each = λ t m e. inr (rw (e, eqb-true (get_or table word 0) 18446744073709551615 t) (bit-ones 64 (m % 64) (mod-lt m {m = 64} (lit< tt)))) }

-- ---- the sets of a word

module _ (word total : ℕ) (h : word < div_ceil total 64) where
  word-begins : word * 64 < total
  word-begins = let c = words_begin total word h in omega arith

  pub word-from : word * 64 ≤ min total (word * 64 + 64)
  word-from = let c = word-begins in omega arith

  pub word-most : total ≤ candidate_sets → min total (word * 64 + 64) ≤ candidate_sets
  word-most k = omega arith

  pub word-fits : total ≤ candidate_sets → word < set_words
  word-fits k = let c = word-begins in omega arith

  pub word-small : total ≤ candidate_sets → word * 64 < 18446744073709551616
  word-small k = let c = word-begins in omega arith

  pub word-small_yet : total ≤ candidate_sets → word * 64 + 64 < 18446744073709551616
  word-small_yet k = let c = word-begins in omega arith

  word-next : min total ((word + 1) * 64) ≡ min total (word * 64 + 64)
  word-next = let z : (word + 1) * 64 ≡ word * 64 + 64 = omega arith in ap (min total) z

  module _ (p : ℕ → Bool) (best : Option ℕ) where
    pub word-start : best ≡ choice_code (chosen_below p (min total (word * 64))) → best ≡ choice_code (chosen_below p (word * 64))
    word-start e = let c = word-begins in let z : min total (word * 64) ≡ word * 64 = omega arith in rw z at e

    pub word-done : best ≡ choice_code (chosen_below p (min total (word * 64 + 64))) → best ≡ choice_code (chosen_below p (min total ((word + 1) * 64)))
    word-done e = rw word-next e

  pub word_hopeless : (table : List ℕ) (cs : List Rule) (best : Option ℕ) (b : Bool) → best ≡ choice_code (chosen_below (passing table cs) (min total (word * 64)))
      → Hopeless table word best b → b ≡ true → best ≡ choice_code (chosen_below (passing table cs) (min total ((word + 1) * 64)))
  word_hopeless table cs best b q p t =
      let m = word * 64 in
      let c = word-begins in
      let end = min total (m + 64) in
      let z : m + (end - m) ≡ end = omega arith in
      rw word-next
      (subst (λ (k : ℕ). best ≡ choice_code (chosen_below (passing table cs) k)) z
      (chosen-same (passing table cs) (end - m) m best (word-start (passing table cs) best q) (λ k i j. ⊎_elim
      (λ (more : rivals best k ≡ false). better-more table cs k best false (sym more) refl)
      (λ (mark : mark_at table k ≡ true). better-marked table cs k best true (sym mark) refl)
      (p.each t k (omega arith)))))

-- ---- choice

module _ (tests : List Test) (cands : Rules) (first table : List ℕ) where
  pub choice-is : (r : Option ℕ) → Shows (marked (rules_of cands) tests) first candidate_sets → Spreads cands.count cands.count first table
      → r ≡ choice_code (chosen_below (passing table (rules_of cands)) (2 ^ cands.count)) → length cands.items ≡ most_rules → cands.count ≤ most_candidates
      → r ≡ choice_code (chosen tests (rules_of cands))
  unfolding chosen passing suffices
  choice-is r o k e whole few =
      let cs = rules_of cands in
      let n = cands.count in
      let held : length cs ≡ n = length-take-le n cands.items (omega arith) in
      let most : 2 ^ n ≤ candidate_sets = pow_mono {i = n} {j = most_candidates} few in
      let shown = k.shows (marked cs tests) (record { size = o.size; at = λ x h. o.at x (lt_of_lt_of_le h most) }) in
      e
      ∙ ap choice_code
      (best_same preferred
      (λ m. not (cyclic (picked cs m)) && not (mark_at table m))
      (λ m. not (cyclic (picked cs m)) && all (test_holds (picked cs m)) tests)
      (2 ^ n)
      (λ m h. ap (λ (b : Bool). not (cyclic (picked cs m)) && b)
      (ap not (shown.at m h ∙ ap (λ (j : ℕ). spread (marked cs tests) j m) (sym held)) ∙ sym (hits tests cs m (rw held h))))
      ∙ ap (chosen_below (λ m. not (cyclic (picked cs m)) && all (test_holds (picked cs m)) tests)) (ap (λ (j : ℕ). 2 ^ j) (sym held)))
