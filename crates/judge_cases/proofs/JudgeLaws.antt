-- From the loops' answers to the judge's: the rows are the rules', the disk is the test's initial one, the checks are the test's.
use mathlib.Core.Path.{◌≡◌, refl, sym, ap, ◌∙◌}
use mathlib.Core.Bool.{Bool, true, false, cond, not, ◌&&◌}
use mathlib.Core.List.{List}
use mathlib.Core.Option.{none, some}
use mathlib.Core.Option as maybe
use Rattle.std.specs.Prelude.{Option, Result, Ok, Err}
use Prim.Native.Nat.{ℕ, ◌-◌, ◌*◌, ◌^◌, ◌≤◌, ◌<◌}
use native.Mathlib.Omega.{arith}
use lib.Pow.{pow_mono}
use lib.Dec.{leb}
use lib.ListN.{length, get_or, take}
use lib.Seq.{get_or-take}
use borrow.Author.Rules.{rules}
use borrow.Author.Tests.{not-true, not-false}
use Rattle.relation.specs.Best.{Smallest, fewer, smallest_below}
use Rattle.relation.specs.Bits.{mask_of}
use Rattle.relation.proofs.BestLaws.{best_same, smallest_is}
use Rattle.relation.proofs.BitLaws.{mask_below}
use Rattle.relation.proofs.ListLaws.{get_or_tabulate}
use Rattle.model.specs.declared.Rule.{Rule}
use Rattle.model.specs.declared.Check.{Check}
use Rattle.model.specs.declared.Refusal.{Refusal}
use Rattle.model.specs.declared.Cause.TheVariants.{CyclicRules, NoSuchTest}
use Rattle.model.specs.Limits.{most_rules, most_tests, most_main, most_schedules}
use Rattle.model.specs.Answer.{Outcome, answer, refused, number_of, at_zero}
use Rattle.model.specs.Rules.{depends_on}
use Rattle.model.specs.Cyclic.{cyclic}
use Rattle.model.specs.Schedule.{valid}
use Rattle.model.specs.Test.{File, bad_for, smallest_bad_for, shown_of}
use Rattle.model.proofs.CountLaws.{count_ext, count_most}
use Rattle.file_format.specs.declared.Extent.{Extent}
use Rattle.file_format.specs.File.{is_rule, read_of}
use Rattle.file_format.specs.Scan.{write_field, main_place, rules_at, test_at, scan_of}
use Rattle.file_format.specs.declared.Contents.{Contents}
use Rattle.file_format.specs.Held.{Fields, Inside, extent_of, test_of, Finds, Scans}
use Rattle.file_reader.proofs.CallerLaws.{refused-read, refused-most, accepted, accepted-rules, accepted_fields, accepted-file, accepted-read, accepted-at, accepted_placed, listed_below}
use Rattle.rule_match.specs.declared.Rules.{Rules}
use Rattle.rule_match.specs.Held.{rules_of}
use Rattle.judge_disks.specs.Packed.{labelled, held_from}
use Rattle.judge_disks.proofs.DiskSteps.{stores_run}
use Rattle.judge_loading.specs.declared.Loaded.{Loaded}
use Rattle.judge_loading.specs.Loaded.{LoadsTest, LoadsChecks}
use Rattle.file_loading.proofs.LoadSteps.{fields_length}
use Rattle.judge_schedules.specs.Valid.{valid_rows, bad_rows, Narrow}
use Rattle.judge_rows.specs.Rows.{row_of, rows_from}
use Rattle.judge_rows.proofs.RowLaws.{valid-rows}
use Rattle.judge_counting.specs.declared.Judgement.{Judgement}
use Rattle.judge_counting.specs.Tally.{tallied}
use Rattle.judge_search.specs.Verdict.{verdict_by}
use Rattle.judge_search.specs.Search.{verdict_below}
use Rattle.judge_cases.specs.declared.Opened.{Opened}
use Rattle.judge_cases.specs.declared.Selected.{Selected}
use Rattle.judge_cases.specs.Judge.{Case, case_of, case_in, case_at, judgement_for, verdict_for, judgement_of, verdict_of, SmallRefusal, judged_file, OpensTo, OpensFile, SelectsTo, Selects, judged_of, decided_of, FewNumbers, Few, FewDecided}

-- ---- the rows

-- a row names none but the test's main writes
pub narrow_rows : (rules : List Rule) (column rows : List ℕ) (n : ℕ) → take n rows ≡ rows_from rules column n n → Narrow rows n
unfolding Narrow rows_from row_of
narrow_rows rules column rows n e i h =
    rw (← get_or-take n rows i 0 h, e, get_or_tabulate (λ i. mask_of (λ j. depends_on rules (labelled (get_or column i 0)) (labelled (get_or column j 0))) n) n i 0 h)
    (mask_below (λ j. depends_on rules (labelled (get_or column i 0)) (labelled (get_or column j 0))) n)

-- ---- a loaded test, and rows that decide which of its schedules count

-- by the rows a schedule counts, and its disk is inconsistent
abbrev bad_loaded : Loaded → List ℕ → List Check → ℕ → Bool
bad_loaded test rows cs = bad_rows rows test.main test.base (held_from test.stores 0 test.main) (take test.checks cs)

module _ (counts : ℕ → Bool) (s : List ℕ) (e : Extent) (test : Loaded) (rows : List ℕ) (cs : List Check) (el : LoadsTest (test_at s e) test)
    (same : (x : ℕ) → valid_rows rows test.main x ≡ counts x)
    (ec : LoadsChecks (test_at s e) cs) where
  all-checks : take test.checks cs ≡ (test_at s e).checks
  unfolding LoadsChecks
  all-checks = rw (← el.checks) ec

  same-bad : (x : ℕ) → bad_loaded test rows cs x ≡ bad_for counts (test_at s e) x
  unfolding bad_rows
  same-bad x = rw (same x, all-checks, stores_run test.stores (test_at s e).main test.main x test.base el.stores el.main, el.base)

  size : 2 ^ test.main ≡ 2 ^ length (test_at s e).main
  size = ap (λ (n : ℕ). 2 ^ n) (sym el.main)

  -- the smallest bad one by the rows is that of the test
  same_smallest : smallest_below (bad_loaded test rows cs) (2 ^ test.main) ≡ smallest_bad_for counts (test_at s e)
  same_smallest = best_same fewer (bad_loaded test rows cs) (bad_for counts (test_at s e)) (2 ^ test.main) (λ x h. same-bad x) ∙ ap (smallest_below (bad_for counts (test_at s e))) size

  pub judged-by : tallied (valid_rows rows test.main) (bad_loaded test rows cs) (2 ^ test.main) ≡ judgement_for counts (test_at s e)
  unfolding tallied
  judged-by =
      rw (count_ext (valid_rows rows test.main) counts (2 ^ test.main) (λ x h. same x), count_ext (bad_loaded test rows cs) (bad_for counts (test_at s e)) (2 ^ test.main) (λ x h. same-bad x), same_smallest, size)

  pub decided-by : verdict_below (bad_loaded test rows cs) (2 ^ test.main) ≡ verdict_for counts (test_at s e)
  unfolding verdict_below
  decided-by = ap verdict_by same_smallest

-- ---- no number is larger than the count of schedules

module _ (counts : ℕ → Bool) (s : List ℕ) (e : Extent) (i : Inside s e) where
  schedules-most : 2 ^ length (test_at s e).main ≤ most_schedules
  unfolding test_at
  schedules-most = rw (fields_length write_field s (main_place s e) e.main) (pow_mono {i = e.main} {j = most_main} i.main-most)

  -- nor is the smallest bad one's
  smallest_most : (o : maybe.Option ℕ) → smallest_bad_for counts (test_at s e) ≡ o → (shown_of o ≤ most_schedules) × FewDecided (Ok (verdict_by o))
  unfolding shown_of FewDecided verdict_by Smallest
  smallest_most none q = (omega arith, tt)
  smallest_most (some x) q =
      let l = (smallest_is (bad_for counts (test_at s e)) (2 ^ length (test_at s e).main) x q).0.0 in
      let m = schedules-most in
      (omega (arith, l, m), omega (arith, l, m))

  pub judgement_few : FewNumbers (judgement_for counts (test_at s e))
  unfolding FewNumbers
  judgement_few =
      let m = schedules-most in
      let a = count_most counts (2 ^ length (test_at s e).main) in
      let b = count_most (bad_for counts (test_at s e)) (2 ^ length (test_at s e).main) in
      (omega (arith, a, m), omega (arith, b, m), (smallest_most (smallest_bad_for counts (test_at s e)) refl).0)

  pub verdict-few : FewDecided (Ok (verdict_for counts (test_at s e)))
  verdict-few = (smallest_most (smallest_bad_for counts (test_at s e)) refl).1

-- ---- the same for the rows of rules, which decide which schedules are valid

module _ (rules : List Rule) (s : List ℕ) (e : Extent) (test : Loaded) (rows : List ℕ) (cs : List Check) (el : LoadsTest (test_at s e) test)
    (er : take test.main rows ≡ rows_from rules test.labels test.main test.main)
    (ec : LoadsChecks (test_at s e) cs) where
  same-valid : (x : ℕ) → valid_rows rows test.main x ≡ valid rules (test_at s e).main x
  same-valid x = valid-rows rules (test_at s e).main test.labels rows test.main el.main el.labels er x

  pub judges_all : (j : Judgement) → j ≡ tallied (valid_rows rows test.main) (bad_loaded test rows cs) (2 ^ test.main) → j ≡ judgement_of (case_at rules s e)
  unfolding judgement_of
  judges_all j t = t ∙ judged-by (valid rules (test_at s e).main) s e test rows cs el same-valid ec

  pub decides_all : (v : Option ℕ) → v ≡ verdict_below (bad_loaded test rows cs) (2 ^ test.main) → v ≡ verdict_of (case_at rules s e)
  unfolding verdict_of
  decides_all v t = t ∙ decided-by (valid rules (test_at s e).main) s e test rows cs el same-valid ec

module _ (rules : List Rule) (s : List ℕ) (e : Extent) (i : Inside s e) where
  pub judges_few : (j : Judgement) → j ≡ judgement_of (case_at rules s e) → FewNumbers j
  unfolding judgement_of
  judges_few j p = rw p (judgement_few (valid rules (test_at s e).main) s e i)

  pub decides_few : (v : Option ℕ) → v ≡ verdict_of (case_at rules s e) → FewDecided (Ok v)
  unfolding verdict_of
  decides_few v p = rw p (verdict-few (valid rules (test_at s e).main) s e i)

pub loaded_few : (rules : List Rule) (s : List ℕ) (e : Extent) (test : Loaded) (rows : List ℕ) (cs : List Check) (j : Judgement) → Inside s e → LoadsTest (test_at s e) test
    → take test.main rows ≡ rows_from rules test.labels test.main test.main → LoadsChecks (test_at s e) cs
    → j ≡ tallied (valid_rows rows test.main) (bad_loaded test rows cs) (2 ^ test.main) → FewNumbers j
loaded_few rules s e test rows cs j i el er ec t = judges_few rules s e i j (judges_all rules s e test rows cs el er ec j t)

pub ruleset loops = (rules, narrow_rows, judges_all, decides_all, loaded_few)

-- ---- a file opened

module _ (s : List ℕ) (x : Result Contents Refusal) (g : Scans (scan_of s) x) where
  pub opened-unread : (why : Refusal) → x ≡ Err why → OpensFile s (Err why)
  unfolding OpensFile judged_file
  opened-unread why e =
      let l = refused-most s x g why e in
      let m = l.0 in
      (rw (refused-read s x g why e), (omega arith, l.1))

  module _ (c : Contents) (e : x ≡ Ok c) where
    held : Finds (scan_of s) c
    held = accepted s x g c e

    pub rules-few : c.rules ≤ most_rules
    rules-few = accepted-rules s c held

    pub rules_fields : Fields is_rule s 0 c.rules
    rules_fields = accepted_fields s c held

    here : File
    here = accepted-file s c held

    module _ (r : Rules) (k : r.count ≡ c.rules) where
      pub count-few : r.count ≤ most_rules
      count-few = let m = rules-few in omega arith

      module _ (b : Bool) (q : rules_of r ≡ rules_at s c.rules) (p : b ≡ cyclic (rules_of r)) where
        same-rules : rules_of r ≡ here.rules
        unfolding here
        same-rules = q ∙ sym (accepted-at s c held)

        judged : judged_file (read_of s) ≡ cond b (refused 8 0) (answer here)
        unfolding judged_file here
        judged = rw (accepted-read s c held, p, same-rules)

        pub opened-cyclic : b ≡ true → (why : Refusal) → why ≡ at_zero CyclicRules → OpensFile s (Err why)
        unfolding OpensFile
        opened-cyclic h why z = rw z (judged ∙ ap (λ (c : Bool). cond c (refused 8 0) (answer here)) h, (omega arith, omega arith))

        pub opened-tests : b ≡ false → OpensFile s (Ok (record { rules = r; count = c.count; tests = c.tests }))
        unfolding OpensFile here
        opened-tests h = (here, judged ∙ ap (λ (c : Bool). cond c (refused 8 0) (answer here)) h, same-rules, count-few, accepted_placed s c held)

pub ruleset opens = (rules, opened-unread, count-few, rules-few, rules_fields, opened-cyclic, opened-tests)

-- ---- the test that a call asks for

-- the case by the file that is judged
case_judged : (o : Outcome File) (k : ℕ) (number place : ℕ) → judged_file o ≡ refused number place → case_of o k ≡ refused number place
unfolding case_of judged_file
case_judged (refused number place) k a b e = cc
case_judged (answer f) k a b e = go (cyclic f.rules) e
  where
    go : (c : Bool) → cond {A = Outcome File} c (refused 8 0) (answer f) ≡ refused a b
        → cond {A = Outcome Case} c (refused 8 0) (cond (leb 1 k && leb k (length f.tests)) (answer (record { rules = f.rules; test = test_of f (k - 1) })) (refused 9 0)) ≡ refused a b
    go true q = cc
    go false q = let z : ◌≡◌ {A = ℕ} 0 1 = cc in absurd (omega arith)

case_among : (o : Outcome File) (k : ℕ) (f : File) → judged_file o ≡ answer f
    → case_of o k ≡ cond (leb 1 k && leb k (length f.tests)) (answer (record { rules = f.rules; test = test_of f (k - 1) })) (refused 9 0)
unfolding case_of judged_file
case_among (refused number place) k f e = let z : ◌≡◌ {A = ℕ} 0 1 = cc in absurd (omega arith)
case_among (answer g) k f e = go (cyclic g.rules) e
  where
    go : (c : Bool) → cond {A = Outcome File} c (refused 8 0) (answer g) ≡ answer f
        → cond {A = Outcome Case} c (refused 8 0) (cond (leb 1 k && leb k (length g.tests)) (answer (record { rules = g.rules; test = test_of g (k - 1) })) (refused 9 0))
        ≡ cond (leb 1 k && leb k (length f.tests)) (answer (record { rules = f.rules; test = test_of f (k - 1) })) (refused 9 0)
    go true q = let z : ◌≡◌ {A = ℕ} 0 1 = cc in absurd (omega arith)
    go false q = let z : g ≡ f = cc in rw z

module _ (s : List ℕ) (k : ℕ) (x : Result Opened Refusal) (o : OpensFile s x) where
  pub selects_refused : (why : Refusal) → x ≡ Err why → Selects s k (Err why)
  unfolding OpensFile Selects case_in
  selects_refused why e =
      let h : (judged_file (read_of s) ≡ refused (number_of why.cause) why.place) × SmallRefusal why = rw e at o in
      (case_judged (read_of s) k (number_of why.cause) why.place h.0, h.1)

  module _ (y : Opened) (e : x ≡ Ok y) where
    found : OpensTo s y
    unfolding OpensFile
    found = rw e at o

    pub selects_few : y.count ≤ most_tests
    selects_few = found.4.most

    module _ (d : Bool) (g : d ≡ leb 1 k && leb k y.count) where
      case_here : case_in s k ≡ cond d (answer (record { rules = found.0.rules; test = test_of found.0 (k - 1) })) (refused 9 0)
      unfolding case_in
      case_here = case_among (read_of s) k found.0 found.1
          ∙ ap (λ (b : Bool). cond b (answer (record { rules = found.0.rules; test = test_of found.0 (k - 1) })) (refused 9 0)) {x = leb 1 k && leb k (length found.0.tests)} {y = d} (rw found.4.count (sym g))

      pub selects_none : not d ≡ true → (why : Refusal) → why ≡ at_zero NoSuchTest → Selects s k (Err why)
      unfolding Selects
      selects_none h why z =
          rw z (case_here ∙ ap (λ (b : Bool). cond b (answer (record { rules = found.0.rules; test = test_of found.0 (k - 1) })) (refused 9 0)) (not-true d h), (omega arith, omega arith))

      pub selects_below : (w : ℕ) → w ≡ k - 1 → not d ≡ false → w < most_tests
      selects_below w z h = let l = listed_below k w y.count d z g h in let m = selects_few in omega arith

      pub selects_scaled : (w : ℕ) → w ≡ k - 1 → not d ≡ false → w * 32 < 18446744073709551616
      selects_scaled w z h = let l = selects_below w z h in omega arith

      pub selects_test : (w : ℕ) → w ≡ k - 1 → not d ≡ false → Selects s k (Ok (record { rules = y.rules; test = extent_of y.tests w }))
      unfolding Selects
      selects_test w z h =
          let i : w < y.count = listed_below k w y.count d z g h in (
            case_here ∙ ap (λ (b : Bool). cond b (answer (record { rules = found.0.rules; test = test_of found.0 (k - 1) })) (refused 9 0)) (not-false d h)
                ∙ rw (← z, found.4.each w i, found.2),
            found.3,
            found.4.inside w i,
          )

pub ruleset selects = (rules, selects_refused, selects_none, selects_below, selects_scaled, selects_few, selects_test)

-- ---- from the test that is selected to the answers

module _ (s : List ℕ) (k : ℕ) (x : Result Selected Refusal) (t : Selects s k x) where
  module _ (why : Refusal) (e : x ≡ Err why) where
    refused_so : (case_in s k ≡ refused (number_of why.cause) why.place) × SmallRefusal why
    unfolding Selects
    refused_so = rw e at t

    pub judging_refused : refused (number_of why.cause) why.place ≡ judged_of (case_in s k)
    unfolding judged_of
    judging_refused = rw refused_so.0

    pub deciding_refused : refused (number_of why.cause) why.place ≡ decided_of (case_in s k)
    unfolding decided_of
    deciding_refused = rw refused_so.0

    pub few-refused : Few (Err why)
    unfolding Few
    few-refused = refused_so.1

    pub few_decided_refused : FewDecided (Err why)
    unfolding FewDecided
    few_decided_refused = refused_so.1

  module _ (y : Selected) (q : x ≡ Ok y) where
    chosen : SelectsTo s k y
    unfolding Selects
    chosen = rw q at t

    pub chosen-rules : y.rules.count ≤ most_rules
    chosen-rules = chosen.1

    pub chosen-inside : Inside s y.test
    chosen-inside = chosen.2

    pub judging_found : (j : Judgement) → j ≡ judgement_of (case_at (rules_of y.rules) s y.test) → answer j ≡ judged_of (case_in s k)
    unfolding judged_of
    judging_found j p = rw (chosen.0, p)

    pub few-found : (j : Judgement) → FewNumbers j → Few (Ok j)
    unfolding Few
    few-found j f = f

    pub deciding_found : (v : Option ℕ) → v ≡ verdict_of (case_at (rules_of y.rules) s y.test) → answer v ≡ decided_of (case_in s k)
    unfolding decided_of
    deciding_found v p = rw (chosen.0, p)

    pub few_decided_found : (v : Option ℕ) → v ≡ verdict_of (case_at (rules_of y.rules) s y.test) → FewDecided (Ok v)
    few_decided_found v p = decides_few (rules_of y.rules) s y.test chosen-inside v p

pub ruleset judges = (rules, judging_refused, deciding_refused, few-refused, few_decided_refused, chosen-rules, chosen-inside, judging_found, few-found, deciding_found, few_decided_found)
