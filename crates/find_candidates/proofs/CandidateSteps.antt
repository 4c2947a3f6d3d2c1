-- The code's steps: one law for each return and each turn of a loop, whose premises are what is known at that place.
use mathlib.Core.Path.{◌≡◌, sym, ap, subst, ◌∙◌}
use mathlib.Core.List.{List, [], ◌∷◌}
use Prim.Native.Nat.{ℕ, suc, ◌+◌, ◌≤◌, ◌<◌}
use native.Mathlib.Numerals.{add-one}
use native.Mathlib.Omega.{arith}
use lib.ListN.{length, get_or, drop, drop_of_length-le}
use lib.Seq.{drop-cons}
use borrow.Author.Rules.{rules}
use borrow.Author.Tests.{eq-eqb, ne_eqb}
use Rattle.model.specs.declared.Rule.{Rule}
use Rattle.model.specs.Rules.{label}
use Rattle.model.specs.Test.{Test}
use Rattle.model.specs.Find.{pairing, inserted, from_write, from_trace, candidates_of}
use Rattle.file_format.specs.declared.Extent.{Extent}
use Rattle.file_format.specs.Scan.{test_at}
use Rattle.file_format.specs.Held.{no_test, extent_of, Inside, Placed}
use Rattle.rule_match.specs.declared.Rules.{Rules}
use Rattle.rule_match.specs.Held.{rules_of}
use Rattle.rule_match.proofs.MatchSteps.{length_mapped}
use Rattle.judge_disks.specs.Packed.{labelled, Labels}
use Rattle.judge_loading.specs.declared.Loaded.{Loaded}
use Rattle.judge_loading.specs.Loaded.{LoadsTest}
use Rattle.find_sets.specs.Kept.{Keeps, Follows}
use Rattle.find_sets.proofs.KeepLaws.{keeps-all}
use Rattle.find_candidates.specs.Tests.{paired, Pairs, Traces, tests_in}

-- ---- rule_of

-- the rule of two labels, by their parts
pub rule_made : (one other : ℕ) (r : Rule) (n t m u : ℕ) → n ≡ (labelled one).name → t ≡ (labelled one).epoch → m ≡ (labelled other).name → u ≡ (labelled other).epoch
    → r ≡ pairing (label n t) (label m u) → r ≡ pairing (labelled one) (labelled other)
unfolding labelled
rule_made one other r n t m u en et em eu e = e ∙ rw (en, et, em, eu)

module _ (i j one other : ℕ) (c : Rules) where
  pub paired_self : i ≡ j → Follows (paired i j (labelled one) (labelled other)) c c
  unfolding paired
  paired_self e = record { keeps = λ x k. rw (eq-eqb i j e) k }

  pub paired-other : (d : Rules) (r : Rule) → (i ≡ j → ⊥) → r ≡ pairing (labelled one) (labelled other) → Follows (inserted r) c d
      → Follows (paired i j (labelled one) (labelled other)) c d
  unfolding paired
  paired-other d r k e f = record { keeps = λ x h. rw (ne_eqb i j k) (rw e at (f.keeps x h)) }

-- ---- from_write, from_trace

module _ (column : List ℕ) (n : ℕ) (c : Rules) where
  pub write-begun : (i : ℕ) → Pairs column n i 0 c c
  unfolding from_write
  write-begun i = record { follows = λ ws e l. record { keeps = λ x k. k } }

  pub write-more : (i j : ℕ) (d e : Rules) → i < n → j < n → Pairs column n i j c d
      → Follows (paired i j (labelled (get_or column i 0)) (labelled (get_or column j 0))) d e → Pairs column n i (j + 1) c e
  unfolding from_write paired Labels
  write-more i j d e hi hj f g =
      record {
        follows = λ ws z l. record {
          keeps = λ x k.
              rw (add-one j, ← l i (omega arith), ← l j (omega arith)) (g.keeps _ ((f.follows ws z l).keeps x k));
        };
      }

  pub write_done : (i j : ℕ) (d : Rules) → j ≤ n → n ≤ j → Pairs column n i j c d → Pairs column n i n c d
  write_done i j d h l f = let z : j ≡ n = omega arith in subst (λ (x : ℕ). Pairs column n i x c d) z f

  pub trace-begun : Traces column n 0 c c
  unfolding from_trace
  trace-begun = record { follows = λ ws e l. record { keeps = λ x k. k } }

  pub trace-more : (i : ℕ) (d e : Rules) → Traces column n i c d → Pairs column n i n d e → Traces column n (i + 1) c e
  unfolding from_trace
  trace-more i d e f g =
      record { follows = λ ws z l. record { keeps = λ x k. rw (add-one i, z) ((g.follows ws z l).keeps _ ((f.follows ws z l).keeps x k)) } }

  pub trace-done : (i : ℕ) (d : Rules) → i ≤ n → n ≤ i → Traces column n i c d → Traces column n n c d
  trace-done i d h l f = let z : i ≡ n = omega arith in subst (λ (x : ℕ). Traces column n x c d) z f

-- ---- collect

-- the candidates of the tests from t on are held
pub record Gathered (s : List ℕ) (t : ℕ) (c : Rules) : Type 0 where
  pub keeps : Keeps (candidates_of (drop t (tests_in s))) c

module _ (s : List ℕ) (extents : List Extent) (many : ℕ) (placed : Placed s (tests_in s) extents many) where
  pub collect-begun : (c : Rules) → rules_of c ≡ [] → c.count ≡ 0 → Gathered s many c
  unfolding candidates_of
  collect-begun c e z =
      let h = placed.count in
      record { keeps = rw (drop_of_length-le (tests_in s) {i = many} (omega arith)) (keeps-all [] c e z (omega arith)) }

  pub test-inside : (t : ℕ) → t < many → Inside s (extent_of extents t)
  test-inside t h = placed.inside t h

  pub collect-more : (t n : ℕ) (r : Loaded) (c d : Rules) → Gathered s n c → n ≤ many → t + 1 ≡ n → LoadsTest (test_at s (extent_of extents t)) r
      → Traces r.labels r.main r.main c d → Gathered s t d
  collect-more t n r c d k h z l f =
      let w : suc t ≡ n = omega arith in
      let b : t < length (tests_in s) = let m = placed.count in omega arith in
      let front : drop t (tests_in s) ≡ test_at s (extent_of extents t) ∷ drop n (tests_in s)
      = drop-cons (tests_in s) t no_test b ∙ ap (λ (x : Test). x ∷ drop (suc t) (tests_in s)) (placed.each t (omega arith)) ∙ ap (λ (m : ℕ). test_at s (extent_of extents t) ∷ drop m (tests_in s)) w in
      record {
        keeps = subst (λ (x : List Test). Keeps (candidates_of x) d) (sym front)
            (unfold candidates_of in rw l.main ((f.follows (test_at s (extent_of extents t)).main l.main l.labels).keeps (candidates_of (drop n (tests_in s))) k.keeps));
      }

pub collect-done : (s : List ℕ) (t : ℕ) (c : Rules) → t ≤ 0 → Gathered s t c → Keeps (candidates_of (tests_in s)) c
collect-done s t c h k = let z : t ≡ 0 = omega arith in subst (λ (n : ℕ). Keeps (candidates_of (drop n (tests_in s))) c) z k.keeps

pub ruleset steps = (rules, length_mapped, rule_made, paired_self, paired-other, write-begun, write-more, write_done, trace-begun, trace-more, trace-done, collect-begun, test-inside, collect-more, collect-done)
