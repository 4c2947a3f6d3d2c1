-- 1,024 bytes have the layout exactly if they pass the code's tests, and byte 2 counts their flags.
use mathlib.Core.Path.{◌≡◌}
use mathlib.Core.Bool.{Bool, true, ◌&&◌}
use mathlib.Core.List.{List}
use Prim.Native.Nat.{ℕ, ◌+◌, ◌-◌, ◌≤◌, ◌<◌}
use native.Mathlib.Omega.{arith}
use lib.Dec.{eqb}
use lib.ListN.{length}
use borrow.Author.Tests.{eqb-true, eq-eqb, leb-true, le-leb}
use Rattle.relation.proofs.ListLaws.{and_intro, all_below-true, all_below_intro, bool_equal}
use Rattle.model.specs.Test.{count_below}
use Rattle.file_format.specs.Bytes.{byte}
use Rattle.cache_model.specs.State.{state_size, writes_start, rule_count, accepted_count, stored_count, rule_base, write_base, stored_in}
use Rattle.cache_model.specs.Sound.{layout}
use Rattle.cache_statelaws.specs.Theorem.{Clauses}
use Rattle.cache_statelaws.proofs.ClauseLaws.{equation_clauses, clauses_equation}
use Rattle.cache_statelaws.proofs.SoundLaws.{same_true, true_same, both}
use Rattle.cache_layout.specs.Flags.{zeros, flag_fits, framed}

module _ (s : List ℕ) where
  zeros-true : (from end : ℕ) → zeros s from (end - from) ≡ true → (k : ℕ) → from ≤ k → k < end → byte s k ≡ 0
  unfolding zeros
  zeros-true from end e k a b =
      let z : from + (k - from) ≡ k = omega arith in
      rw z at (eqb-true (byte s (from + (k - from))) 0 (all_below-true (λ x. eqb (byte s (from + x)) 0) (end - from) e (k - from) (omega arith)))

  true-zeros : (from end : ℕ) → ((k : ℕ) → from ≤ k → k < end → byte s k ≡ 0) → zeros s from (end - from) ≡ true
  unfolding zeros
  true-zeros from end h =
      all_below_intro (λ x. eqb (byte s (from + x)) 0) (end - from) (λ x l. eq-eqb _ _ (h (from + x) (omega arith) (omega arith)))

  -- byte 2 counts the flags
  abbrev pub counted : Bool
  counted = eqb (stored_count s) (count_below (stored_in s) (accepted_count s))

  pub to_tests : layout s ≡ true → framed s && counted ≡ true
  unfolding framed flag_fits layout
  to_tests e =
      let bytes-part = both _ _ e in
      let most-part = both _ _ bytes-part.0 in
      let few = leb-true _ _ most-part.0 in
      let most = leb-true _ _ most-part.1 in
      let c = equation_clauses s few most (same_true s _ bytes-part.1) in
      and_intro _ _ (and_intro _ _ (and_intro _ _ (and_intro _ _ (and_intro _ _ bytes-part.0
      (eq-eqb _ _ c.third))
      (true-zeros (rule_base (rule_count s)) writes_start c.rules-rest))
      (true-zeros (write_base (accepted_count s)) state_size c.writes-rest))
      (all_below_intro _ (accepted_count s) (λ i l. le-leb _ _ (c.flags i l))))
      (eq-eqb _ _ c.counted)

  module _ (size : length s ≡ state_size) (small : (i : ℕ) → byte s i < 256) where
    from_tests : framed s && counted ≡ true → layout s ≡ true
    unfolding framed flag_fits layout
    from_tests e =
        let count-part = both _ _ e in
        let flags-part = both _ _ count-part.0 in
        let tail-part = both _ _ flags-part.0 in
        let gap-part = both _ _ tail-part.0 in
        let third-part = both _ _ gap-part.0 in
        let most-part = both _ _ third-part.0 in
        let few = leb-true _ _ most-part.0 in
        let most = leb-true _ _ most-part.1 in
        let clauses : Clauses s =
        record {
          size = size;
          third = eqb-true _ _ third-part.1;
          rules-rest = zeros-true (rule_base (rule_count s)) writes_start gap-part.1;
          writes-rest = zeros-true (write_base (accepted_count s)) state_size tail-part.1;
          flags = λ i h. leb-true _ _ (all_below-true _ (accepted_count s) flags-part.1 i h);
          counted = eqb-true _ _ count-part.1;
        } in
        and_intro _ _ third-part.0 (true_same s _ (clauses_equation s few most (λ i h. small i) clauses))

    pub layout-tests : layout s ≡ framed s && counted
    layout-tests = bool_equal (layout s) (framed s && counted) to_tests from_tests
