-- What a caller of `read` learns of the file from the answer.
use mathlib.Core.Path.{◌≡◌, sym, ap, ◌∙◌}
use mathlib.Core.Bool.{Bool, true, false, not, ◌&&◌}
use mathlib.Core.List.{List, map}
use Prim.Native.Nat.{ℕ, ◌-◌, ◌≤◌, ◌<◌}
use native.Mathlib.Omega.{arith}
use lib.Dec.{leb}
use lib.ListN.{length, get_or, take, length-map, get_or-map}
use lib.Seq.{get_or-take, length-take-le}
use borrow.Author.Tests.{leb-true, not-false}
use Rattle.relation.proofs.ListLaws.{and_left, and_right, length-tabulate, get_or_other}
use Rattle.model.specs.declared.Refusal.{Refusal}
use Rattle.model.specs.Limits.{most_rules, most_tests}
use Rattle.model.specs.Test.{Test, File}
use Rattle.file_format.specs.declared.Contents.{Contents}
use Rattle.std.specs.Prelude.{Result, Ok, Err}
use Rattle.model.specs.Answer.{answer, refused, number_of}
use Rattle.file_format.specs.File.{is_rule, read_of}
use Rattle.file_format.specs.Scan.{rules_at, rule_field, field_place, fields_at, test_at, Places, places, scan_of}
use Rattle.file_format.specs.Held.{Tells, Fields, Inside, extent_of, no_extent, no_test, test_of, Placed, Finds, Scans}
use Rattle.file_reader.specs.Limits.{FileLimits, Limited, longest}
use Rattle.file_reader.proofs.PrefixLaws.{limited}
use Rattle.file_reader.proofs.TellsLaws.{tells}

pub refused-limits : (s : List ℕ) (number place : ℕ) → read_of s ≡ refused number place → (1 ≤ number) × (number ≤ 7) × (place ≤ longest)
unfolding Limited
refused-limits s number place e = rw e at (limited s)

pub holding-limits : (s : List ℕ) (f : File) → read_of s ≡ answer f → FileLimits f × (length s ≤ longest)
unfolding Limited
holding-limits s f e = rw e at (limited s)

-- ---- a file whose places are known

module _ (s : List ℕ) (p : Places) (e : scan_of s ≡ answer p) where
  told : Tells s (read_of s) (answer p)
  told = rw e at (tells s)

  pub held-file : File
  unfolding Tells
  held-file = told.0

  pub held-read : read_of s ≡ answer held-file
  unfolding Tells held-file
  held-read = told.1

  pub held-rules : held-file.rules ≡ rules_at s p.rules
  unfolding Tells held-file
  held-rules = told.2

  pub held-tests : held-file.tests ≡ map (test_at s) p.tests
  unfolding Tells held-file
  held-tests = told.3

  pub held_fields : Fields is_rule s 0 p.rules
  unfolding Tells
  held_fields = told.4

  pub held-inside : (i : ℕ) → i < length p.tests → Inside s (extent_of p.tests i)
  unfolding Tells
  held-inside = told.5

  pub held-count : length held-file.tests ≡ length p.tests
  held-count = ap length held-tests ∙ length-map p.tests (test_at s)

  pub held-most : (p.rules ≤ most_rules) × (length p.tests ≤ most_tests) × (length s ≤ longest)
  held-most =
      let l = holding-limits s held-file held-read in
      let a = l.0.rules in let b = l.0.tests in
      let n : length held-file.rules ≡ p.rules = ap length held-rules ∙ (unfold fields_at in length-tabulate (λ i. rule_field s (field_place s 0 i)) p.rules) in
      (omega arith, omega (arith, held-count), l.1)

  -- test i, where there is one
  pub held_test : (i : ℕ) → i < length p.tests → test_of held-file i ≡ test_at s (extent_of p.tests i)
  held_test i h =
      ap (λ (l : List Test). get_or l i no_test) held-tests
      ∙ get_or_other (map (test_at s) p.tests) i no_test (test_at s no_extent) (omega (arith, length-map p.tests (test_at s)))
      ∙ get_or-map (test_at s) p.tests i no_extent

-- ---- the code's answer

module _ (s : List ℕ) (x : Result Contents Refusal) (g : Scans (scan_of s) x) where
  module _ (why : Refusal) (e : x ≡ Err why) where
    pub refused_scan : scan_of s ≡ refused (number_of why.cause) why.place
    unfolding Scans
    refused_scan = rw e at g

    pub refused-read : read_of s ≡ refused (number_of why.cause) why.place
    unfolding Tells
    refused-read = rw refused_scan at (tells s)

    pub refused-most : (number_of why.cause ≤ 7) × (why.place ≤ longest)
    refused-most = let l = refused-limits s (number_of why.cause) why.place refused-read in (l.1, l.2)

  pub accepted : (c : Contents) → x ≡ Ok c → Finds (scan_of s) c
  unfolding Scans
  accepted c e = rw e at g

-- what a file holds
module _ (s : List ℕ) (c : Contents) (g : Finds (scan_of s) c) where
  pub accepted-places : scan_of s ≡ answer (places c.rules (take c.count c.tests))
  accepted-places = g.0

  pub accepted-rules : c.rules ≤ most_rules
  accepted-rules = g.1

  pub accepted-tests : c.count ≤ most_tests
  accepted-tests = g.2

  pub accepted-room : length c.tests ≡ most_tests
  accepted-room = g.3

  pub accepted_fields : Fields is_rule s 0 c.rules
  accepted_fields = held_fields s _ accepted-places

  pub accepted-file : File
  accepted-file = held-file s _ accepted-places

  pub accepted-read : read_of s ≡ answer accepted-file
  unfolding accepted-file
  accepted-read = held-read s _ accepted-places

  pub accepted-at : accepted-file.rules ≡ rules_at s c.rules
  unfolding accepted-file
  accepted-at = held-rules s _ accepted-places

  -- where the tests stand
  pub accepted_placed : Placed s accepted-file.tests c.tests c.count
  unfolding accepted-file
  accepted_placed =
      let size : length (take c.count c.tests) ≡ c.count = length-take-le c.count c.tests (let k = accepted-tests in let l = accepted-room in omega arith) in
      record {
        count = held-count s _ accepted-places ∙ size;
        most = accepted-tests;
        inside = λ i h. rw (← get_or-take c.count c.tests i no_extent h) (held-inside s _ accepted-places i (omega (arith, size)));
        each = λ i h. held_test s _ accepted-places i (omega (arith, size)) ∙ ap (test_at s) (get_or-take c.count c.tests i no_extent h);
      }

-- a test that is there, counted from 1, is one of those that count from 0
pub listed_below : (k w tests : ℕ) (b : Bool) → w ≡ k - 1 → b ≡ leb 1 k && leb k tests → not b ≡ false → w < tests
listed_below k w tests b z e n =
    let t : leb 1 k && leb k tests ≡ true = sym e ∙ not-false b n in
    let l = leb-true 1 k (and_left (leb 1 k) (leb k tests) t) in
    let m = leb-true k tests (and_right (leb 1 k) (leb k tests) t) in
    omega arith
