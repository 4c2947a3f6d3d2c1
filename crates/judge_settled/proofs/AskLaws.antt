-- The parts of a check by what is said of the blocks they look at, and the checks one after the other.
use mathlib.Core.Path.{◌≡◌, refl, sym, ap, ◌∙◌}
use mathlib.Core.Bool.{Bool, true, false, cond, not}
use mathlib.Core.List.{List, [], ◌∷◌}
use Prim.Native.Nat.{ℕ, ◌+◌, ◌-◌, ◌≤◌, ◌<◌}
use native.Mathlib.Decide.{ℕ_discrete, dec_lt}
use native.Mathlib.Numerals.{add-one}
use native.Mathlib.Omega.{arith}
use lib.Dec.{eqb}
use lib.ListN.{length, get_or, take}
use lib.Seq.{get_or-set_same, get_or-set_other, take-suc, take-length}
use borrow.Author.Rules.{rules}
use borrow.Author.Tests.{eq-eqb, ne_eqb, le-leb, lt-leb}
use Rattle.relation.specs.Lists.{all_below, all}
use Rattle.relation.proofs.ListLaws.{untrue, all_below-true, all_below_intro, clash, and_intro, all_append, all_true, index_mem}
use Rattle.model.specs.declared.Check.{Check}
use Rattle.model.specs.declared.Check.TheVariants.{Range, Pair, Pointer}
use Rattle.model.specs.Limits.{disk_blocks, last_block}
use Rattle.model.specs.Disk.{empty, first_of, second_of, block_at}
use Rattle.model.specs.Check.{damaged, range_holds, holds, consistent}
use Rattle.model.proofs.CheckLaws.{undamaged_ordered, undamaged_inside}
use Rattle.judge_disks.specs.Packed.{held_from}
use Rattle.judge_disks.proofs.RestoreLaws.{mid_length}
use Rattle.judge_closed.specs.Closed.{between}
use Rattle.judge_settled.specs.declared.Answer.{Answer}
use Rattle.judge_settled.specs.declared.Answer.TheVariants.{Yes, No, Open}
use Rattle.judge_settled.specs.Settled.{Says, opposed, disk_of, laid, is_block, holds_in, all_hold, own_block, known_of, is_known, is_there, range_in, holds_by, valued, Ready, Runs, later_of}
use Rattle.judge_settled.proofs.SettledLaws.{fixed_there}
use Rattle.judge_settled.proofs.RunLaws.{Passes, later_passes}

-- ---- answers handed on

module _ (p q : ℕ → Bool) (chosen free : ℕ) where
  -- of tests that agree
  pub says_same : (answer : Answer) → ((s : ℕ) → p s ≡ q s) → Says p chosen free answer → Says q chosen free answer
  unfolding Says
  says_same Yes f g = λ s b. sym (f s) ∙ g s b
  says_same No f g = λ s b. sym (f s) ∙ g s b
  says_same (Open h) f g = g

  -- of opposite tests
  says_opposed : (answer : Answer) → ((s : ℕ) → q s ≡ not (p s)) → Says p chosen free answer → Says q chosen free (opposed answer)
  unfolding Says opposed
  says_opposed Yes f g = λ s b. f s ∙ rw (g s b)
  says_opposed No f g = λ s b. f s ∙ rw (g s b)
  says_opposed (Open h) f g = g

-- what is said with a yes, and with another answer
says_yes : (p : ℕ → Bool) (chosen free : ℕ) (answer : Answer) → Says p chosen free answer → answer ≡ Yes → (s : ℕ) → between chosen free s ≡ true → p s ≡ true
unfolding Says
says_yes p chosen free answer g e = rw e at g

says_other : (p q : ℕ → Bool) (chosen free : ℕ) (answer : Answer) → Says p chosen free answer → (answer ≡ Yes → ⊥) → ((s : ℕ) → between chosen free s ≡ true → p s ≡ false → q s ≡ false) → Says q chosen free answer
unfolding Says
says_other p q chosen free Yes g e f = absurd (e refl)
says_other p q chosen free No g e f = λ s b. f s b (g s b)
says_other p q chosen free (Open h) g e f = g

-- ---- a list of checks, one more and one that fails

module _ (d : List ℕ) (checks : List Check) (z : Check) (i : ℕ) (l : i < length checks) where
  passes_more : consistent (take i checks) d ≡ true → holds d (get_or checks i z) ≡ true → consistent (take (i + 1) checks) d ≡ true
  unfolding consistent
  passes_more p q =
      rw (add-one i, take-suc checks i z l, all_append (holds d) (take i checks) (get_or checks i z ∷ []))
      (and_intro (all (holds d) (take i checks)) _ p (unfold all in and_intro (holds d (get_or checks i z)) true q refl))

  passes_not : holds d (get_or checks i z) ≡ false → consistent checks d ≡ false
  unfolding consistent
  passes_not q = untrue (all (holds d) checks) (λ p. clash (holds d (get_or checks i z)) (all_true (holds d) p (get_or checks i z) (index_mem checks i z l refl)) q)

module _ (column base : List ℕ) (n chosen free : ℕ) where
  -- ---- one block known

  known_at : (writers : List ℕ) → Ready column base n writers → (a own s : ℕ) → a < disk_blocks → block_at (known_of column base n a own s) a ≡ own
  known_at writers ready a own s inside =
      let size : length (disk_of column base n s) ≡ disk_blocks = mid_length (held_from column 0 n) s base (disk_of column base n s) ready.size refl in
      get_or-set_same (disk_of column base n s) a own 0 (omega (arith, size, inside))

  module _ (a own k v : ℕ) (answer : Answer) where
    pub known-own : (writers : List ℕ) → Ready column base n writers → k < disk_blocks → k ≡ a → answer ≡ valued own v → Says (is_known column base n a own k v) chosen free answer
    unfolding is_known valued
    known-own writers ready inside e q = rw q (go (eqb own v) refl)
      where
        there : (s : ℕ) → block_at (known_of column base n a own s) k ≡ own
        there s = rw e (known_at writers ready a own s (rw (← e) inside))

        go : (t : Bool) → eqb own v ≡ t → Says (is_known column base n a own k v) chosen free (cond t Yes No)
        go true z = unfold Says in λ s b. rw (there s) z
        go false z = unfold Says in λ s b. rw (there s) z

    pub known-other : (k ≡ a → ⊥) → Says (is_block column base n k v) chosen free answer → Says (is_known column base n a own k v) chosen free answer
    unfolding is_known is_block laid
    known-other d =
        says_same (is_block column base n k v) (is_known column base n a own k v) chosen free answer
        (λ s. ap (λ (b : ℕ). eqb b v) (sym (get_or-set_other (disk_of column base n s) a k own 0 d)))

  module _ (a own : ℕ) where
    pub there_says : (k : ℕ) (answer r : Answer) → Says (is_known column base n a own k 0) chosen free answer → r ≡ opposed answer → Says (is_there column base n a own k) chosen free r
    unfolding is_known is_there empty
    there_says k answer r g e = rw e (says_opposed (is_known column base n a own k 0) (is_there column base n a own k) chosen free answer (λ s. refl) g)

    -- ---- a range

    module _ (writers runs : List ℕ) (k tail r : ℕ) (rs : Runs base writers 0 runs) (l : k < tail) (m : tail ≤ disk_blocks) (e : r ≡ later_of runs a k tail) where
      passed : Passes base writers a k tail r
      passed = later_passes base writers runs a k tail r rs l m e

      pub passed_from : (head : ℕ) → head ≤ k → head ≤ r
      passed_from head h = omega (arith, h, passed.over)

      pub passed-most : r ≤ tail
      passed-most = passed.most

      pub passed-falls : tail - r < tail - k
      passed-falls = omega (arith, passed.over, l)

    -- the blocks from head up to k - 1 are there
    pub record There (head k : ℕ) : Type 0 where
      pub at : (s : ℕ) → between chosen free s ≡ true → all_below (λ i. not (empty (block_at (known_of column base n a own s) (head + i)))) (k - head) ≡ true

    module _ (head : ℕ) where
      pub there-none : There head head
      unfolding all_below
      there-none = record { at = λ s b. ap (all_below (λ i. not (empty (block_at (known_of column base n a own s) (head + i))))) {x = head - head} {y = 0} (omega arith) }

      -- one block that is there, and those that are passed behind it
      pub there-passed : (writers runs : List ℕ) (k tail r : ℕ) (answer : Answer) → Ready column base n writers → Runs base writers 0 runs → There head k → head ≤ k → k < tail → tail ≤ disk_blocks
          → Says (is_there column base n a own k) chosen free answer → answer ≡ Yes → r ≡ later_of runs a k tail → There head r
      unfolding is_there
      there-passed writers runs k tail r answer ready rs g h l m says q e =
          let p = later_passes base writers runs a k tail r rs l m e in
          record {
            at = λ s b.
                all_below_intro (λ i. not (empty (block_at (known_of column base n a own s) (head + i)))) (r - head)
                (λ i x. elim (dec_lt (head + i) k) [
                  | yes o ↦ all_below-true (λ i. not (empty (block_at (known_of column base n a own s) (head + i)))) (k - head) (g.at s b) i (omega (arith, o))
                  | no o ↦ elim (ℕ_discrete (head + i) k) [
                    | yes w ↦ rw w (says_yes (is_there column base n a own k) chosen free answer says q s b)
                    | no w ↦ (
                        let (fixed, other) = p.at (head + i) (omega (arith, o, w)) (omega (arith, x, h, p.over)) in
                        let same : block_at (known_of column base n a own s) (head + i) ≡ block_at (disk_of column base n s) (head + i) = get_or-set_other (disk_of column base n s) a (head + i) own 0 other in
                        rw (same, fixed_there column base n writers ready (head + i) s (omega (arith, x, h, p.over, p.most, m)) fixed))
                  ]
                ]);
          }

    module _ (head tail : ℕ) (t : Bool) (d : t ≡ damaged head tail) where
      pub range-damaged : t ≡ true → Says (range_in column base n a own head tail) chosen free No
      unfolding Says range_in range_holds
      range-damaged e = λ s b. rw (sym d ∙ e)

      module _ (whole : t ≡ false) where
        pub range_ordered : head ≤ tail
        range_ordered = undamaged_ordered head tail (sym d ∙ whole)

        pub range_inside : (k : ℕ) → head ≤ k → k < tail → k < disk_blocks
        range_inside k x y = undamaged_inside head tail k (sym d ∙ whole) x y

        pub range-most : (k : ℕ) → head ≤ k → k < tail → tail ≤ disk_blocks
        range-most k x y = let z = undamaged_inside head tail (tail - 1) (sym d ∙ whole) (omega (arith, x, y)) (omega (arith, y)) in omega (arith, z)

        pub there_stop : (k : ℕ) (answer : Answer) → head ≤ k → k < tail → Says (is_there column base n a own k) chosen free answer → (answer ≡ Yes → ⊥)
            → Says (range_in column base n a own head tail) chosen free answer
        unfolding range_in range_holds is_there
        there_stop k answer h l says q =
            says_other (is_there column base n a own k) (range_in column base n a own head tail) chosen free answer says q
            (λ s b none. rw (sym d ∙ whole)
            (untrue (all_below (λ i. not (empty (block_at (known_of column base n a own s) (head + i)))) (tail - head))
            (λ all.
            let place : head + (k - head) ≡ k = omega (arith, h) in
            clash (not (empty (block_at (known_of column base n a own s) k))) (rw place at (all_below-true (λ i. not (empty (block_at (known_of column base n a own s) (head + i)))) (tail - head) all (k - head) (omega (arith, h, l)))) none)))

        pub there-all : (k : ℕ) → There head k → k ≤ tail → tail ≤ k → Says (range_in column base n a own head tail) chosen free Yes
        unfolding Says range_in range_holds
        there-all k g x y = λ s c. let z : k ≡ tail = omega arith in rw (sym d ∙ whole, ← z) (g.at s c)

  -- ---- a pair, a pointer, a check by its form

  module _ (writers : List ℕ) (ready : Ready column base n writers) (a own : ℕ) (inside : a < disk_blocks) where
    at : (s : ℕ) → block_at (known_of column base n a own s) a ≡ own
    at s = known_at writers ready a own s inside

    module _ (v b w : ℕ) where
      pub pair_other : (own ≡ v → ⊥) → Says (holds_by column base n (Pair a v b w) own) chosen free Yes
      unfolding Says holds_by holds own_block
      pair_other d = λ s k. rw (at s, ne_eqb own v d)

      pub pair_same : (answer : Answer) → own ≡ v → Says (is_known column base n a own b w) chosen free answer → Says (holds_by column base n (Pair a v b w) own) chosen free answer
      unfolding holds_by holds own_block is_known
      pair_same answer e = says_same (is_known column base n a own b w) (holds_by column base n (Pair a v b w) own) chosen free answer (λ s. rw (at s, eq-eqb own v e))

    pub pointer_none : own ≡ 0 → Says (holds_by column base n (Pointer a) own) chosen free Yes
    unfolding Says holds_by holds own_block empty
    pointer_none e = λ s k. rw (at s, eq-eqb own 0 e)

    module _ (d : own ≡ 0 → ⊥) (to : ℕ) (e : to ≡ second_of own) where
      pub pointer_past : last_block < to → Says (holds_by column base n (Pointer a) own) chosen free No
      unfolding Says holds_by holds own_block empty
      pointer_past l = λ s k. rw (at s, ne_eqb own 0 d, ← e, lt-leb to last_block l)

      pub pointer_to : (answer : Answer) → to ≤ last_block → Says (is_there column base n a own to) chosen free answer → Says (holds_by column base n (Pointer a) own) chosen free answer
      unfolding holds_by holds own_block is_there empty
      pointer_to answer l = says_same (is_there column base n a own to) (holds_by column base n (Pointer a) own) chosen free answer (λ s. rw (at s, ne_eqb own 0 d, ← e, le-leb to last_block l))

    module _ (c : Check) (answer : Answer) where
      pub with_range : (head tail : ℕ) → c ≡ Range a → head ≡ first_of own → tail ≡ second_of own → Says (range_in column base n a own head tail) chosen free answer
          → Says (holds_by column base n c own) chosen free answer
      unfolding range_in holds_by holds own_block
      with_range head tail e h t = says_same (range_in column base n a own head tail) (holds_by column base n c own) chosen free answer (λ s. rw (e, at s, h, t))

  module _ (c form : Check) (own : ℕ) (answer : Answer) where
    pub with_form : c ≡ form → Says (holds_by column base n form own) chosen free answer → Says (holds_by column base n c own) chosen free answer
    with_form e g = rw e g

  -- ---- one check after the other

  module _ (checks : List Check) (z : Check) (i : ℕ) (l : i < length checks) (answer : Answer) (g : Says (holds_in column base n (get_or checks i z)) chosen free answer) where
    pub ask_more : answer ≡ Yes → Says (all_hold column base n (take i checks)) chosen free Yes → Says (all_hold column base n (take (i + 1) checks)) chosen free Yes
    unfolding Says all_hold holds_in
    ask_more e h = λ s b. passes_more (disk_of column base n s) checks z i l (h s b) (says_yes (holds_in column base n (get_or checks i z)) chosen free answer g e s b)

    pub ask_stop : (answer ≡ Yes → ⊥) → Says (all_hold column base n checks) chosen free answer
    unfolding all_hold holds_in
    ask_stop e =
        says_other (holds_in column base n (get_or checks i z)) (all_hold column base n checks) chosen free answer g e (λ s b none. passes_not (disk_of column base n s) checks z i l none)

  pub ask_all : (checks : List Check) (answer : Answer) → answer ≡ Yes → Says (all_hold column base n (take (length checks) checks)) chosen free Yes → Says (all_hold column base n checks) chosen free answer
  ask_all checks answer e g = rw e (rw take-length at g)

pub ruleset asking = (rules, known-own, known-other, there_says, range-damaged, range_inside, range-most, there-none, there-passed, passed_from, passed-most, passed-falls, there_stop, there-all, range_ordered, pair_other, pair_same, pointer_none, pointer_past, pointer_to, with_range, with_form, ask_more, ask_stop, ask_all)
