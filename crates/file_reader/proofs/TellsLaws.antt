-- The scan and the reading go in step: the places that the scan keeps are those of the lists that the reading keeps.
use mathlib.Core.Path.{◌≡◌, refl, sym, ap, ◌∙◌}
use mathlib.Core.Logic.{⊎_elim}
use mathlib.Core.Bool.{Bool, true, false, cond, ◌||◌, false≢true, true≢false}
use mathlib.Core.List.{List, [], ◌∷◌, ◌++◌, map}
use Prim.Native.Nat.{ℕ, zero, suc, ◌+◌, ◌≤◌, ◌<◌}
use native.Mathlib.Numerals.{add-one}
use native.Mathlib.Omega.{arith}
use lib.ListN.{length, length-append, get_or-append}
use lib.Seq.{get_or_at}
use lib.Dec.{eqb, ltb}
use borrow.Author.Tests.{ltb-false, eqb-true}
use Rattle.relation.specs.Lists.{tabulate}
use Rattle.relation.proofs.ListLaws.{below_extend, below_suc, map_snoc}
use Rattle.model.specs.Test.{test, file}
use Rattle.file_format.specs.declared.Counts.{Counts}
use Rattle.file_format.specs.declared.Extent.{Extent}
use Rattle.file_format.specs.declared.ScanState.{ScanState}
use Rattle.model.specs.Answer.{answer, refused}
use Rattle.file_format.specs.Bytes.{byte}
use Rattle.file_format.specs.File.{is_tag, is_wide, kind_of, is_rule, is_write, is_check, out_of_order, fault_of, body_at, field_end, rule_of, write_of, check_of, Progress, progress, counts_of, grown, finished, read_from, read_of, nothing}
use Rattle.file_format.specs.Scan.{rule_field, write_field, check_field, field_place, fields_at, rules_at, writes_at, main_place, checks_place, test_at, extent, in_hand, counts, counted, test_from, found, advanced, places, ended, scan_from, started, scan_of}
use Rattle.file_format.specs.Held.{Fields, Inside, extent_of, no_extent, Tells}
use Rattle.file_reader.specs.Limits.{Within}
use Rattle.file_reader.specs.Theorem.{Told}
use Rattle.file_reader.proofs.LimitLaws.{clean, clean_fits, by_tag, by_kind, within-counted}

-- ---- one field more, whatever it holds

module _ (s : List ℕ) (from at n : ℕ) (here : at ≡ field_place s from n) where
  next_place : field_end s at ≡ field_place s from (n + 1)
  unfolding field_place
  next_place = rw (add-one n, ← here)

  fields_more : {A : Type 0} (field : List ℕ → ℕ → A) → fields_at field s from n ++ (field s at ∷ []) ≡ fields_at field s from (n + 1)
  unfolding fields_at tabulate
  fields_more field = rw (here, add-one n)

  inside-more : (is : ℕ → Bool) → Fields is s from n → is (byte s at) ≡ true → field_end s at ≤ length s → Fields is s from (n + 1)
  inside-more is f k l =
      rw (add-one n)
      (below_extend (λ i. (is (byte s (field_place s from i)) ≡ true) × (field_end s (field_place s from i) ≤ length s)) n f (rw (← here) (k, l)))

-- a scan's state at a place against a reading's
record Tracks (s : List ℕ) (at : ℕ) (p : Progress) (st : ScanState) (tests : List Extent) : Type 0 where
  same : st.counts ≡ counts_of p
  within : Within st.counts
  rules : p.rules ≡ rules_at s st.counts.rules
  current : p.current ≡ test_at s (in_hand st)
  place : at ≡ field_place s (checks_place s (in_hand st)) st.counts.checks
  first : st.counts.tests ≡ 0 → st.counts.begun ≡ false → at ≡ field_place s 0 st.counts.rules
  before : p.tests ≡ map (test_at s) tests
  each : (i : ℕ) → i < length tests → Inside s (extent_of tests i)
  rules-in : Fields is_rule s 0 st.counts.rules
  inside : Inside s (in_hand st)

inside-none : (s : List ℕ) (at : ℕ) → at ≤ length s → Inside s (extent at 0 0 0)
inside-none s at h =
    record {
      at = h;
      initial = λ i l. absurd (omega arith);
      main = λ i l. absurd (omega arith);
      checks = λ i l. absurd (omega arith);
      initial-most = omega arith;
      main-most = omega arith;
      checks-most = omega arith;
    }

tracks_start : (s : List ℕ) → Tracks s 0 nothing started []
unfolding nothing started counts_of fields_at field_place test_at tabulate
tracks_start s =
    record {
      same = refl;
      within = record {
        rules = omega arith;
        tests = omega arith;
        begun = λ q. omega arith;
        initial = omega arith;
        main = omega arith;
        checks = omega arith;
        none = λ q. (refl, refl, refl);
      };
      rules = refl;
      current = refl;
      place = refl;
      first = λ p q. refl;
      before = refl;
      each = λ i l. absurd (omega arith);
      rules-in = λ i l. absurd (omega arith);
      inside = inside-none s 0 (omega arith);
    }

pub counts-grown : (b : List ℕ) (p : Progress) (tag : ℕ) → is_tag tag ≡ true → counted (kind_of tag) (counts_of p) ≡ counts_of (grown tag b p)
unfolding counts_of grown counted kind_of is_wide
counts-grown b p =
    by_tag (λ tag. counted (kind_of tag) (counts_of p) ≡ counts_of (grown tag b p))
    (simp length-append) (simp length-append) (simp length-append) (simp length-append) (simp length-append) (simp length-append) (simp length-append) (simp length-append) (simp length-append) (simp length-append)

-- what one more field adds, by its kind
module _ (b : List ℕ) (p : Progress) (tag : ℕ) where
  grown-rule : kind_of tag ≡ 3 → grown tag b p ≡ progress (p.rules ++ (rule_of tag b ∷ [])) p.tests p.begun p.current
  unfolding grown
  grown-rule e = rw e

  grown-initial : kind_of tag ≡ 1 → grown tag b p ≡ progress p.rules p.tests true (test (p.current.initial ++ (write_of tag b ∷ [])) p.current.main p.current.checks)
  unfolding grown
  grown-initial e = rw e

  grown-main : kind_of tag ≡ 2 → grown tag b p ≡ progress p.rules p.tests true (test p.current.initial (p.current.main ++ (write_of tag b ∷ [])) p.current.checks)
  unfolding grown
  grown-main e = rw e

  grown_end : kind_of tag ≡ 7 → grown tag b p ≡ progress p.rules (p.tests ++ (p.current ∷ [])) false (test [] [] [])
  unfolding grown
  grown_end e = rw e

  grown_check : (kind : ℕ) → kind_of tag ≡ kind → eqb kind 3 ≡ false → eqb kind 1 ≡ false → eqb kind 2 ≡ false → eqb kind 7 ≡ false
      → grown tag b p ≡ progress p.rules p.tests true (test p.current.initial p.current.main (p.current.checks ++ (check_of tag b ∷ [])))
  unfolding grown
  grown_check kind e x y z w = rw (e, x, y, z, w)

-- a check's kind is its tag
check_tag : (tag : ℕ) → is_tag tag ≡ true → is_check (kind_of tag) ≡ true → is_check tag ≡ true
unfolding kind_of is_wide is_check
check_tag = by_tag (λ tag. is_check (kind_of tag) ≡ true → is_check tag ≡ true) (λ e. e) (λ e. e) (λ e. e) (λ e. e) (λ e. e) (λ e. e) (λ e. e) (λ e. e) (λ e. e) (λ e. e)

or_none : (a b : Bool) → a || b ≡ false → (a ≡ false) × (b ≡ false)
or_none true b e = absurd (true≢false e)
or_none false b e = (refl, e)

none_yet : (n : ℕ) → ltb 0 n ≡ false → n ≡ 0
none_yet n e = let h = ltb-false 0 n e in omega arith

-- ---- one more field of each kind

module _ (s : List ℕ) (at : ℕ) (p : Progress) (st : ScanState) (tests : List Extent) (t : Tracks s at p st tests) where
  abbrev Goes : ℕ → Type 0
  Goes kind =
      kind_of (byte s at) ≡ kind → is_tag (byte s at) ≡ true → out_of_order kind st.counts ≡ false → Within (counted kind st.counts) → field_end s at ≤ length s
      → Tracks s (field_end s at) (grown (byte s at) (body_at s at) p) (advanced kind (field_end s at) st) (found kind st tests)

  same-grown : (kind : ℕ) → kind_of (byte s at) ≡ kind → is_tag (byte s at) ≡ true → counted kind st.counts ≡ counts_of (grown (byte s at) (body_at s at) p)
  same-grown kind e h = rw (← e) (ap (counted (kind_of (byte s at))) t.same ∙ counts-grown (body_at s at) p (byte s at) h)

  on_rule : Goes 3
  unfolding advanced counted test_from found out_of_order test_at rule_field is_rule field_place fields_at tabulate
  on_rule e h o w l =
      let q = or_none st.counts.begun (ltb 0 st.counts.tests) o in
      let none = t.within.none q.0 in
      let here : at ≡ field_place s 0 st.counts.rules = t.first (none_yet _ q.1) q.0 in
      rw (grown-rule (body_at s at) p (byte s at) e)
      (record {
        same = same-grown 3 e h ∙ ap counts_of (grown-rule (body_at s at) p (byte s at) e);
        within = w;
        rules = rw t.rules (fields_more s 0 at st.counts.rules here rule_field);
        current = t.current ∙ rw (none.0, none.1, none.2);
        place = rw (none.0, none.1, none.2);
        first = λ a b. next_place s 0 at st.counts.rules here;
        before = t.before;
        each = t.each;
        rules-in = inside-more s 0 at st.counts.rules here is_rule t.rules-in (rw e) l;
        inside = rw (none.0, none.1, none.2) (inside-none s (field_end s at) l);
      })

  on_initial : Goes 1
  unfolding advanced counted test_from found out_of_order test_at write_field is_write field_place fields_at tabulate
  on_initial e h o w l =
      let q = or_none (ltb 0 st.counts.main) (ltb 0 st.counts.checks) o in
      let m = none_yet st.counts.main q.0 in
      let k = none_yet st.counts.checks q.1 in
      let here : at ≡ field_place s st.from st.counts.initial = rw (m, k) at t.place in
      rw (grown-initial (body_at s at) p (byte s at) e)
      (record {
        same = same-grown 1 e h ∙ ap counts_of (grown-initial (body_at s at) p (byte s at) e);
        within = w;
        rules = t.rules;
        current = rw (t.current, m, k) (ap (λ ws. test ws [] []) (fields_more s st.from at st.counts.initial here write_field));
        place = rw (m, k) (next_place s st.from at st.counts.initial here);
        first = λ a b. absurd (true≢false b);
        before = t.before;
        each = t.each;
        rules-in = t.rules-in;
        inside = record {
          at = t.inside.at;
          initial = inside-more s st.from at st.counts.initial here is_write t.inside.initial (rw e) l;
          main = rw m (λ i b. absurd (omega arith));
          checks = rw k (λ i b. absurd (omega arith));
          initial-most = w.initial;
          main-most = w.main;
          checks-most = w.checks;
        };
      })

  on_main : Goes 2
  unfolding advanced counted test_from found out_of_order test_at write_field is_write field_place fields_at tabulate
  on_main e h o w l =
      let k = none_yet st.counts.checks o in
      let here : at ≡ field_place s (main_place s (in_hand st)) st.counts.main = rw k at t.place in
      rw (grown-main (body_at s at) p (byte s at) e)
      (record {
        same = same-grown 2 e h ∙ ap counts_of (grown-main (body_at s at) p (byte s at) e);
        within = w;
        rules = t.rules;
        current = rw (t.current, k)
            (ap (λ ws. test (writes_at s st.from st.counts.initial) ws []) (fields_more s (main_place s (in_hand st)) at st.counts.main here write_field));
        place = rw k (next_place s (main_place s (in_hand st)) at st.counts.main here);
        first = λ a b. absurd (true≢false b);
        before = t.before;
        each = t.each;
        rules-in = t.rules-in;
        inside = record {
          at = t.inside.at;
          initial = t.inside.initial;
          main = inside-more s (main_place s (in_hand st)) at st.counts.main here is_write t.inside.main (rw e) l;
          checks = rw k (λ i b. absurd (omega arith));
          initial-most = w.initial;
          main-most = w.main;
          checks-most = w.checks;
        };
      })

  on_end : Goes 7
  unfolding advanced counted test_from found test_at field_place fields_at tabulate
  on_end e h o w l =
      rw (grown_end (body_at s at) p (byte s at) e)
      (record {
        same = same-grown 7 e h ∙ ap counts_of (grown_end (body_at s at) p (byte s at) e);
        within = w;
        rules = t.rules;
        current = refl;
        place = refl;
        first = λ a b. absurd (omega arith);
        before = rw (t.before, t.current) (sym (map_snoc (test_at s) tests (in_hand st)));
        each = λ i b. ⊎_elim
            (λ (z : i ≡ length tests). rw (get_or_at tests (in_hand st) [] no_extent i (sym z)) t.inside)
            (λ (lt : i < length tests). rw (get_or-append tests (in_hand st ∷ []) no_extent i lt) (t.each i lt))
            (below_suc i (length tests) (rw (length-append tests (in_hand st ∷ []), add-one (length tests)) at b));
        rules-in = t.rules-in;
        inside = inside-none s (field_end s at) l;
      })

  -- a check of any of the three forms
  on_check : (c : Counts) → c ≡ counts st.counts.rules st.counts.tests true st.counts.initial st.counts.main (st.counts.checks + 1)
      → (p' : Progress) → p' ≡ progress p.rules p.tests true (test p.current.initial p.current.main (p.current.checks ++ (check_of (byte s at) (body_at s at) ∷ [])))
      → c ≡ counts_of p' → Within c → is_check (byte s at) ≡ true → field_end s at ≤ length s
      → Tracks s (field_end s at) p' (record { counts = c; from = st.from }) tests
  unfolding test_at check_field
  on_check c ec p' ep same w k l =
      let from = checks_place s (in_hand st) in
      record {
        same = same;
        within = w;
        rules = rw (ep, ec) t.rules;
        current = rw (ep, ec, t.current) (ap (λ cs. test (writes_at s st.from st.counts.initial) (writes_at s (main_place s (in_hand st)) st.counts.main) cs) (fields_more s from at st.counts.checks t.place check_field));
        place = rw ec (next_place s from at st.counts.checks t.place);
        first = λ a b. absurd (true≢false (rw ec at b));
        before = rw ep t.before;
        each = t.each;
        rules-in = rw ec t.rules-in;
        inside = rw ec (record {
          at = t.inside.at;
          initial = t.inside.initial;
          main = t.inside.main;
          checks = inside-more s from at st.counts.checks t.place is_check t.inside.checks k l;
          initial-most = rw ec at w.initial;
          main-most = rw ec at w.main;
          checks-most = rw ec at w.checks;
        });
      }

  goes : is_tag (byte s at) ≡ true → Goes (kind_of (byte s at))
  unfolding advanced counted test_from found is_check
  goes =
      by_kind Goes on_initial on_main on_rule
      (λ e h o w l. on_check _ refl _ (grown_check (body_at s at) p (byte s at) 4 e refl refl refl refl) (same-grown 4 e h) w (check_tag (byte s at) h (rw e)) l)
      (λ e h o w l. on_check _ refl _ (grown_check (body_at s at) p (byte s at) 5 e refl refl refl refl) (same-grown 5 e h) w (check_tag (byte s at) h (rw e)) l)
      (λ e h o w l. on_check _ refl _ (grown_check (body_at s at) p (byte s at) 6 e refl refl refl refl) (same-grown 6 e h) w (check_tag (byte s at) h (rw e)) l)
      on_end
      (byte s at)

  tracks_on : fault_of s at st.counts ≡ 0
      → Tracks s (field_end s at) (grown (byte s at) (body_at s at) p) (advanced (kind_of (byte s at)) (field_end s at) st) (found (kind_of (byte s at)) st tests)
  tracks_on z =
      let k = clean s at st.counts z in
      goes k.tag refl k.tag k.order (within-counted st.counts t.within (byte s at) k.tag k.limit) (clean_fits s at st.counts k)

  tells_end : Tells s (finished s p) (ended (length s) st tests)
  unfolding finished ended Tells
  tells_end = go p.begun st.counts.begun (unfold counts_of in ap (λ (c : Counts). c.begun) t.same)
    where
      go : (b d : Bool) → d ≡ b
          → Tells s (cond b (refused 7 (length s)) (answer (file p.rules p.tests))) (cond d (refused 7 (length s)) (answer (places st.counts.rules tests)))
      go true true e = refl
      go false false e = (file p.rules p.tests, refl, t.rules, t.before, t.rules-in, t.each)
      go true false e = absurd (false≢true e)
      go false true e = absurd (true≢false e)

tells_from : (f : ℕ) (s : List ℕ) (at : ℕ) (p : Progress) (st : ScanState) (tests : List Extent) → Tracks s at p st tests
    → Tells s (read_from f s at p) (scan_from f s at st tests)
unfolding read_from scan_from
tells_from zero s at p st tests t = unfold Tells in refl
tells_from (suc f) s at p st tests t =
    rw (ap (fault_of s at) t.same)
    (go (ltb at (length s)) (eqb (fault_of s at (counts_of p)) 0) refl (λ z. tells_from f s _ _ _ _ (tracks_on s at p st tests t (ap (fault_of s at) t.same ∙ z))))
  where
    go : (b d : Bool) → eqb (fault_of s at (counts_of p)) 0 ≡ d
        → (fault_of s at (counts_of p) ≡ 0 → Tells s (read_from f s (field_end s at) (grown (byte s at) (body_at s at) p)) (scan_from f s (field_end s at) (advanced (kind_of (byte s at)) (field_end s at) st) (found (kind_of (byte s at)) st tests)))
        → Tells s
        (cond b (cond d (read_from f s (field_end s at) (grown (byte s at) (body_at s at) p)) (refused (fault_of s at (counts_of p)) at)) (finished s p))
        (cond b (cond d (scan_from f s (field_end s at) (advanced (kind_of (byte s at)) (field_end s at) st) (found (kind_of (byte s at)) st tests)) (refused (fault_of s at (counts_of p)) at)) (ended (length s) st tests))
    go false d e ih = tells_end s at p st tests t
    go true true e ih = ih (eqb-true _ _ e)
    go true false e ih = unfold Tells in refl

pub tells : Told
unfolding read_of scan_of
tells s = tells_from (suc (length s)) s 0 nothing started [] (tracks_start s)
