-- The chosen rules as fields at the front of the buffer, and the answers and refusals of the call.
use mathlib.Core.Path.{◌≡◌, refl, sym, ap, ◌∙◌}
use mathlib.Core.Bool.{Bool, true, false, cond, ◌&&◌}
use mathlib.Core.List.{List, [], ◌∷◌, ◌++◌, append_assoc, append-nil}
use mathlib.Core.Option as math
use mathlib.Core.Option.{none, some}
use Rattle.std.specs.Prelude.{Option, Some, None, Result, Ok, Err, IsErrAnd}
use Rattle.std.proofs.lemmas.Option.{none-some}
use Prim.Native.Nat.{ℕ, ◌+◌, ◌*◌, ◌≤◌, ◌<◌}
use native.Mathlib.Nat.{zero-add}
use native.Mathlib.Numerals.{add-one}
use native.Mathlib.Omega.{arith}
use lib.Dec.{ltb}
use lib.ListN.{length, get_or, take}
use lib.Seq.{sets-eq, take-suc, take_all, length-take-le, get_or-take}
use borrow.Author.Rules.{rules}
use borrow.Author.Tests.{ltb-true, lt-ltb, le-ltb}
use Rattle.relation.specs.Lists.{any, any_below}
use Rattle.relation.proofs.ListLaws.{and_left, and_right, bool_equal, any_below-true, any_below_intro, any-true, any_intro, mem_index, index_mem}
use Rattle.model.specs.Limits.{narrow_names, words, most_rules, most_tests, most_found, most_candidates}
use Rattle.model.specs.declared.Refusal.{Refusal}
use Rattle.model.specs.declared.Rule.{Rule}
use Rattle.model.specs.declared.Cause.TheVariants.{FileHasRules, TooManyCandidates, BufferTooShort, NoSetDoes, TestTooLong}
use Rattle.model.specs.Answer.{Outcome, answer, refused, coded, at_zero, outcome}
use Rattle.model.specs.Rules.{Known}
use Rattle.model.specs.Test.{Test}
use Rattle.model.specs.Find.{candidates_of, picked, chosen}
use Rattle.file_format.specs.declared.Extent.{Extent}
use Rattle.file_format.specs.declared.Contents.{Contents}
use Rattle.file_format.specs.File.{narrow_rule_length, wide_rule_length}
use Rattle.file_format.specs.Bytes.{bytes2, narrow_rule_bytes, wide_rule_bytes}
use Rattle.file_format.specs.Encode.{field_bytes, rule_field_bytes, rule_fields}
use Rattle.file_format.specs.Scan.{rule_field, write_field, main_place, test_at, scan_of}
use Rattle.file_format.specs.Held.{no_test, no_extent, extent_of, Finds, Scans, Placed}
use Rattle.file_writing.specs.Writing.{Wrote}
use Rattle.file_writing.proofs.WroteLaws.{wrote_then, wrote_none}
use Rattle.file_reader.specs.Limits.{longest_rule}
use Rattle.file_reader.proofs.CallerLaws.{refused-read, refused-most, accepted, accepted-file, accepted-read, accepted-at, accepted_placed}
use Rattle.file_loading.proofs.LoadSteps.{fields_length}
use Rattle.rule_match.specs.declared.Rules.{Rules}
use Rattle.rule_match.specs.Held.{rules_of}
use Rattle.find_sets.specs.Kept.{Keeps}
use Rattle.find_candidates.specs.Tests.{tests_of, tests_in, too_long}
use Rattle.find_sets.proofs.KeepLaws.{keeps_short, keeps_same, keeps-long}
use Rattle.find_laws.proofs.ChosenLaws.{picked-known}
use Rattle.find_choice.specs.Choice.{choice_code}
use Rattle.find_call.specs.Finder.{found_length, long_below, Found, found, over, wrote, find_among, find_in, find_of, find_leaves, found_coded}

-- ---- put_rule

pub narrow_wrote : (l : List ℕ) (at : ℕ) (l₁ : List ℕ) (r₁ : ℕ) (r : Rule)
    → Wrote l at (3 ∷ 0 ∷ narrow_rule_length ∷ r.first ∷ r.predicate ∷ r.second ∷ []) l₁ r₁ → Wrote l at (field_bytes 3 (narrow_rule_bytes r)) l₁ r₁
unfolding field_bytes narrow_rule_bytes
narrow_wrote l at l₁ r₁ r a = a

pub wide-wrote : (l : List ℕ) (at : ℕ) (l₁ l₂ l₃ l₄ : List ℕ) (r₁ r₂ r₃ r₄ : ℕ) (r : Rule)
    → Wrote l at (10 ∷ 0 ∷ wide_rule_length ∷ []) l₁ r₁ → Wrote l₁ r₁ (bytes2 r.first) l₂ r₂ → Wrote l₂ r₂ (r.predicate ∷ []) l₃ r₃
    → Wrote l₃ r₃ (bytes2 r.second) l₄ r₄ → Wrote l at (field_bytes 10 (wide_rule_bytes r)) l₄ r₄
unfolding field_bytes wide_rule_bytes
wide-wrote l at l₁ l₂ l₃ l₄ r₁ r₂ r₃ r₄ r a b c d =
    wrote_then _ _ _ _ _ _ _ _ a (wrote_then _ _ _ _ _ _ _ _ b (wrote_then _ _ _ _ _ _ _ _ c d))

-- a rule's field, with either kind of names
module _ (r : Rule) (b : Bool) (e : b ≡ ltb r.first narrow_names && ltb r.second narrow_names) where
  pub narrow_first : b ≡ true → r.first < narrow_names
  narrow_first q = ltb-true _ _ (and_left (ltb r.first narrow_names) (ltb r.second narrow_names) (sym e ∙ q))

  pub narrow_second : b ≡ true → r.second < narrow_names
  narrow_second q = ltb-true _ _ (and_right (ltb r.first narrow_names) (ltb r.second narrow_names) (sym e ∙ q))

  module _ (l : List ℕ) (at : ℕ) (l₁ : List ℕ) (n : ℕ) where
    pub narrow_field : b ≡ true → Wrote l at (field_bytes 3 (narrow_rule_bytes r)) l₁ n → Wrote l at (rule_field_bytes r) l₁ n
    unfolding rule_field_bytes
    narrow_field q w = rw (← e, q) w

    pub wide-field : b ≡ false → Wrote l at (field_bytes 10 (wide_rule_bytes r)) l₁ n → Wrote l at (rule_field_bytes r) l₁ n
    unfolding rule_field_bytes
    wide-field q w = rw (← e, q) w

module _ (l : List ℕ) (at : ℕ) (r : Rule) (l₁ : List ℕ) (n : ℕ) where
  pub narrow_most : Wrote l at (field_bytes 3 (narrow_rule_bytes r)) l₁ n → n ≤ at + longest_rule
  unfolding field_bytes narrow_rule_bytes
  narrow_most w = let p = w.place in omega arith

  pub wide-most : Wrote l at (field_bytes 10 (wide_rule_bytes r)) l₁ n → n ≤ at + longest_rule
  unfolding field_bytes wide_rule_bytes
  wide-most w = let p = w.place in omega arith

pub ruleset spelling = (rules, narrow_first, narrow_second, narrow_field, wide-field, narrow_most, wide-most)

-- ---- put_rules

fields_snoc : (l : List Rule) (r : Rule) → rule_fields (l ++ (r ∷ [])) ≡ rule_fields l ++ rule_field_bytes r
unfolding rule_fields
fields_snoc [] r = append-nil (rule_field_bytes r)
fields_snoc (q ∷ qs) r = rw (fields_snoc qs r, append_assoc (rule_field_bytes q) (rule_fields qs) (rule_field_bytes r))

module _ (set : List Rule) (old : List ℕ) where
  -- a known predicate is of one byte
  pub predicate-fits : (i : ℕ) → Known set → i < length set → (get_or set i (record { first = 0; predicate = 0; second = 0 })).predicate < 256
  unfolding Known
  predicate-fits i known h =
      let l = known (get_or set i (record { first = 0; predicate = 0; second = 0 })) (index_mem set i (record { first = 0; predicate = 0; second = 0 }) h refl) in
      omega arith

  pub fields_none : Wrote old 0 (rule_fields (take 0 set)) old 0
  unfolding rule_fields
  fields_none = wrote_none old 0

  pub fields_more : (i at r : ℕ) (new next : List ℕ) → Wrote old 0 (rule_fields (take i set)) new at → i < length set
      → Wrote new at (rule_field_bytes (get_or set i (record { first = 0; predicate = 0; second = 0 }))) next r → Wrote old 0 (rule_fields (take (i + 1) set)) next r
  fields_more i at r new next w h v =
      rw (add-one i, take-suc set i (record { first = 0; predicate = 0; second = 0 }) h, fields_snoc (take i set) (get_or set i (record { first = 0; predicate = 0; second = 0 }))) (wrote_then _ _ _ _ _ _ _ _ w v)

  pub fields_done : (i at : ℕ) (new : List ℕ) → Wrote old 0 (rule_fields (take i set)) new at → length set ≤ i → i ≤ length set → at ≤ longest_rule * i → length set ≤ most_candidates → found_length ≤ length old
      → new ≡ over (rule_fields set) old
  unfolding over
  fields_done i at new w m h l few room =
      let p = w.place in
      let b = rule_fields (take i set) in
      let size : 0 + length b ≤ length old = omega arith in
      w.buffer ∙ sets-eq b old 0 size ∙ rw (take_all i set m, zero-add (length (rule_fields set)))

-- ---- find_among

-- a choice can be read back
choice-none : (o : math.Option ℕ) → choice_code o ≡ None → o ≡ none
unfolding choice_code
choice-none none e = refl
choice-none (some m) e = absurd (none-some m (sym e))

choice-some : (o : math.Option ℕ) (m : ℕ) → choice_code o ≡ Some m → o ≡ some m
unfolding choice_code
choice-some none m e = absurd (none-some m e)
choice-some (some k) m e = let z : k ≡ m = cc in ap some z

module _ (tests : List Test) (few : length (candidates_of tests) ≤ most_candidates) where
  among-few : (buffer : List ℕ) → find_among tests buffer ≡ wrote (candidates_of tests) (chosen tests (candidates_of tests)) buffer
  unfolding find_among
  among-few buffer = rw (le-ltb most_candidates (length (candidates_of tests)) few)

module _ (tests : List Test) (cands : Rules) (buffer : List ℕ) (k : Keeps (candidates_of tests) cands) where
  pub among_many : (why : Refusal) → most_candidates < cands.count → why ≡ at_zero TooManyCandidates → found (outcome {A = ℕ} (Err why)) buffer ≡ find_among tests buffer
  unfolding find_among
  among_many why h e = rw (lt-ltb most_candidates (length (candidates_of tests)) (keeps-long (candidates_of tests) cands k h), e)

  module _ (few : cands.count ≤ most_candidates) (choice : Option ℕ) (e : choice ≡ choice_code (chosen tests (rules_of cands))) where
    short : length (candidates_of tests) ≤ most_candidates
    short = keeps_short (candidates_of tests) cands k few

    same : rules_of cands ≡ candidates_of tests
    same = keeps_same (candidates_of tests) cands k few

    code : choice ≡ choice_code (chosen tests (candidates_of tests))
    code = e ∙ ap (λ (l : List Rule). choice_code (chosen tests l)) same

    pub among_none : (why : Refusal) → choice ≡ None → why ≡ at_zero NoSetDoes → found (outcome {A = ℕ} (Err why)) buffer ≡ find_among tests buffer
    unfolding wrote
    among_none why n q = rw (among-few tests short buffer, choice-none (chosen tests (candidates_of tests)) (sym code ∙ n), q)

    module _ (best : ℕ) (h : choice ≡ Some best) where
      -- the predicates of candidates are known
      pub among-known : (set : Rules) → rules_of set ≡ picked (rules_of cands) best → Known (rules_of set)
      among-known set q = rw (q, same) (picked-known tests best)

      pub among-some : (set : Rules) (new : List ℕ) → length set.items ≡ most_rules → set.count ≤ cands.count
          → rules_of set ≡ picked (rules_of cands) best → new ≡ over (rule_fields (rules_of set)) buffer → found (outcome (Ok set.count)) new ≡ find_among tests buffer
      unfolding wrote
      among-some set new whole less q p =
          let o = choice-some (chosen tests (candidates_of tests)) best (sym code ∙ h) in
          let held : set.count ≡ length (rules_of set) = sym (length-take-le set.count set.items (omega arith)) in
          rw (among-few tests short buffer, o, ← same, ← q, p) (ap (λ (n : ℕ). found (answer n) (over (rule_fields (rules_of set)) buffer)) held)

-- ---- too_long

module _ (extents : List Extent) (n i : ℕ) where
  pub long-none : long_below extents 0 ≡ false
  unfolding long_below any_below
  long-none = refl

  module _ (room : n ≤ length extents) where
    within : i < length (take n extents) → i < n
    within h = omega (arith, length-take-le n extents room)

    pub long-found : i < length (take n extents) → most_found < (extent_of (take n extents) i).main → true ≡ long_below extents n
    unfolding long_below
    long-found h l =
        let e = get_or-take n extents i no_extent (within h) in
        sym (any_below_intro (λ k. ltb most_found (extent_of extents k).main) n i (within h) (lt-ltb most_found (extent_of extents i).main (rw e at l)))

    pub long-more : long_below extents i ≡ false → i < length (take n extents) → (extent_of (take n extents) i).main ≤ most_found → long_below extents (i + 1) ≡ false
    unfolding long_below any_below
    long-more p h l =
        let e = get_or-take n extents i no_extent (within h) in
        rw (add-one i, p, le-ltb most_found (extent_of extents i).main (rw e at l))

    pub long-all : i ≤ length (take n extents) → length (take n extents) ≤ i → long_below extents i ≡ false → false ≡ long_below extents n
    long-all h k p = let z : i ≡ n = omega (arith, length-take-le n extents room) in sym (rw z at p)

main-length : (s : List ℕ) (e : Extent) → length (test_at s e).main ≡ e.main
unfolding test_at
main-length s e = fields_length write_field s (main_place s e) e.main

-- the extents tell how many main writes the tests have
long-tests : (s : List ℕ) (tests : List Test) (extents : List Extent) (n : ℕ) → Placed s tests extents n → long_below extents n ≡ too_long tests
unfolding long_below too_long
long-tests s tests extents n placed =
    bool_equal (any_below p n) (any q tests)
    (λ e.
    let (i, h, l) = any_below-true p n e in
    any_intro q (index_mem tests i no_test (inside i h) refl) (same i h ∙ l))
    (λ e.
    let (t, m, l) = any-true q tests e in
    let (i, h, g) = mem_index m no_test in
    let k = within i h in
    any_below_intro p n i k (sym (same i k) ∙ ap q g ∙ l))
  where
    p : ℕ → Bool
    p i = ltb most_found (extent_of extents i).main

    q : Test → Bool
    q t = ltb most_found (length t.main)

    inside : (i : ℕ) → i < n → i < length tests
    inside i h = let c = placed.count in omega arith

    within : (i : ℕ) → i < length tests → i < n
    within i h = let c = placed.count in omega arith

    same : (i : ℕ) → i < n → q (get_or tests i no_test) ≡ p i
    same i h = ap q (placed.each i h) ∙ ap (ltb most_found) (main-length s (extent_of extents i))

-- ---- find

module _ (s buffer : List ℕ) (x : Result Contents Refusal) (g : Scans (scan_of s) x) where
  module _ (why : Refusal) (e : x ≡ Err why) where
    pub find-refused : found (outcome {A = ℕ} (Err why)) buffer ≡ find_of s buffer
    unfolding find_of find_in
    find-refused = rw (refused-read s x g why e)

    pub place-fits : why.place < words
    place-fits = let h = (refused-most s x g why e).1 in omega arith

  module _ (c : Contents) (e : x ≡ Ok c) where
    finds : Finds (scan_of s) c
    finds = accepted s x g c e

    same_tests : tests_in s ≡ (accepted-file s c finds).tests
    unfolding tests_in tests_of
    same_tests = rw (accepted-read s c finds)

    pub find_placed : Placed s (tests_in s) c.tests c.count
    find_placed = rw same_tests (accepted_placed s c finds)

    pub find-few : c.count ≤ most_tests
    find-few = find_placed.most

    rules-count : length (accepted-file s c finds).rules ≡ c.rules
    rules-count = ap length (accepted-at s c finds) ∙ fields_length rule_field s 0 c.rules

    -- what is left once the file is read
    reads : find_of s buffer
        ≡ cond (ltb 0 c.rules) (found (refused 10 0) buffer) (cond (too_long (tests_in s)) (found (refused 24 0) buffer) (cond (ltb (length buffer) found_length) (found (refused 12 0) buffer) (find_among (tests_in s) buffer)))
    unfolding find_of find_in
    reads = rw (same_tests, accepted-read s c finds, rules-count)

    long-is : (b : Bool) → b ≡ long_below c.tests c.count → b ≡ too_long (tests_in s)
    long-is b q = q ∙ long-tests s (tests_in s) c.tests c.count find_placed

    pub find-rules : (why : Refusal) → 0 < c.rules → why ≡ at_zero FileHasRules → found (outcome {A = ℕ} (Err why)) buffer ≡ find_of s buffer
    find-rules why h q = rw q (sym (reads ∙ rw (lt-ltb 0 c.rules h)))

    pub find-long : (b : Bool) (why : Refusal) → c.rules ≤ 0 → b ≡ long_below c.tests c.count → b ≡ true → why ≡ at_zero TestTooLong → found (outcome {A = ℕ} (Err why)) buffer ≡ find_of s buffer
    find-long b why h q l z = rw z (sym (reads ∙ rw (le-ltb 0 c.rules h, ← long-is b q, l)))

    pub none-long : (b : Bool) → b ≡ long_below c.tests c.count → b ≡ false → too_long (tests_in s) ≡ false
    none-long b q l = sym (long-is b q) ∙ l

    pub find_short : (b : Bool) (why : Refusal) → c.rules ≤ 0 → b ≡ long_below c.tests c.count → b ≡ false → length buffer < found_length → why ≡ at_zero BufferTooShort
        → found (outcome {A = ℕ} (Err why)) buffer ≡ find_of s buffer
    find_short b why h q k l z = rw z (sym (reads ∙ rw (le-ltb 0 c.rules h, none-long b q k, lt-ltb (length buffer) found_length l)))

    pub find-done : (b : Bool) (r : Result ℕ Refusal) (new : List ℕ) → c.rules ≤ 0 → b ≡ long_below c.tests c.count → b ≡ false → found_length ≤ length buffer
        → found (outcome r) new ≡ find_among (tests_in s) buffer → found (outcome r) new ≡ find_of s buffer
    find-done b r new h q k l z = z ∙ sym (reads ∙ rw (le-ltb 0 c.rules h, none-long b q k, le-ltb (length buffer) found_length l))

-- a refusal that `?` hands on
pub handed_on : (r : Result ℕ Refusal) (why : Refusal) → IsErrAnd r (λ w. w ≡ why) → r ≡ Err why
handed_on (Ok n) why h = absurd h
handed_on (Err w) why h = ap Err h

-- the outcome in one number
pub found-coded : (o : Outcome ℕ) (b : List ℕ) (f : Found) (n : ℕ) → found o b ≡ f → n ≡ coded o → find_leaves n b ≡ found_coded f
unfolding found_coded
found-coded o b f n e q = rw (q, ← e)
