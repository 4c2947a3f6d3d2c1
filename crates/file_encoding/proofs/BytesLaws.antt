-- What is accepted is the bytes of what was read: at every place, the bytes before it are those of what has been read so far.
use mathlib.Core.Path.{◌≡◌, refl, sym, ap, ◌∙◌}
use mathlib.Core.Logic.{inl, inr}
use mathlib.Core.Bool.{Bool, true, false, cond}
use mathlib.Core.List.{List, [], ◌∷◌, ◌++◌, append_assoc, append-nil}
use Prim.Native.Nat.{ℕ, zero, suc, ◌+◌, ◌*◌, ◌/◌, ◌%◌, ◌≤◌}
use native.Mathlib.Numerals.{add-one}
use native.Mathlib.Omega.{arith}
use lib.ListN.{length, take, drop, length-drop, drop_of_length-le}
use lib.Seq.{take-add, take_all, length-take-le, drop-cons}
use lib.Dec.{eqb, ltb}
use borrow.Author.Tests.{ltb-false, eqb-true}
use Rattle.relation.proofs.ListLaws.{or_none-left, or_none_right}
use Rattle.model.specs.declared.Write.{Write}
use Rattle.model.specs.declared.Rule.{Rule}
use Rattle.model.specs.declared.Check.{Check}
use Rattle.model.specs.Answer.{answer, refused}
use Rattle.model.specs.Test.{test, File, file}
use Rattle.file_format.specs.declared.Counts.{Counts}
use Rattle.file_format.specs.Bytes.{byte, Small, half}
use Rattle.file_format.specs.File.{end_tag, is_tag, is_wide, kind_of, body_length, out_of_order, fault_of, field_end, body_at, narrow_rule, wide_rule, rule_of, narrow_write, wide_write, write_of, check_of, Progress, progress, counts_of, grown, finished, read_from, read_of, nothing, head_length, narrow_rule_length, wide_rule_length, narrow_write_length, wide_write_length}
use Rattle.file_reader.specs.Limits.{Within}
use Rattle.file_format.specs.Encode.{field_bytes, check_field_bytes, SpellsRule, SpellsWrite, SpellsCheck, SpellsEach, SpellsTest, SpellsFile, FileFits}
use Rattle.file_reader.proofs.LimitLaws.{Clean, clean, by_tag, within-counted}
use Rattle.file_reader.proofs.CallerLaws.{holding-limits}
use Rattle.file_reader.proofs.TellsLaws.{counts-grown}
use Rattle.file_encoding.specs.Theorem.{ReadsExactly, ShortestSpelled}
use Rattle.file_encoding.proofs.FitLaws.{bounded, bounded_part, Fitting, fitting_start, fitting_on}
use Rattle.file_encoding.proofs.RunLaws.{each_none, each_last, file_shortest, file-least}
use Rattle.file_encoding.proofs.ReadLaws.{read-spelled}
use Rattle.file_encoding.proofs.PartLaws.{Bounded, narrow_write_forth, wide-write_forth, narrow_rule_forth, wide-rule_forth, range_forth, pair_forth, pointer_forth}

-- ---- one field's bytes

module _ (b : List ℕ) (h : Bounded b) where
  narrow_spelled : (kind : ℕ) → length b ≡ narrow_write_length → SpellsWrite kind (narrow_write b) (field_bytes kind b)
  unfolding SpellsWrite narrow_write
  narrow_spelled kind e = inl (h 1, ap (field_bytes kind) (sym (narrow_write_forth b h e)))

  wide-spelled : (kind : ℕ) → length b ≡ wide_write_length → SpellsWrite kind (wide_write b) (field_bytes (kind + end_tag) b)
  unfolding SpellsWrite
  wide-spelled kind e = inr (ap (field_bytes (kind + end_tag)) (sym (wide-write_forth b h e)))

  narrow_rule-spelled : length b ≡ narrow_rule_length → SpellsRule (narrow_rule b) (field_bytes 3 b)
  unfolding SpellsRule narrow_rule
  narrow_rule-spelled e = inl (h 0, h 2, ap (field_bytes 3) (sym (narrow_rule_forth b e)))

  wide-rule-spelled : length b ≡ wide_rule_length → SpellsRule (wide_rule b) (field_bytes 10 b)
  unfolding SpellsRule
  wide-rule-spelled e = inr (ap (field_bytes 10) (sym (wide-rule_forth b h e)))

-- ---- the bytes of what has been read

-- rules, finished tests, and the test in hand without its end
record SoFar (p : Progress) (s : List ℕ) : Type 0 where
  rules : List ℕ
  tests : List ℕ
  initial : List ℕ
  main : List ℕ
  checks : List ℕ
  spells_rules : SpellsEach SpellsRule p.rules rules
  spells_tests : SpellsEach SpellsTest p.tests tests
  spells_initial : SpellsEach (SpellsWrite 1) p.current.initial initial
  spells_main : SpellsEach (SpellsWrite 2) p.current.main main
  spells_checks : SpellsEach SpellsCheck p.current.checks checks
  whole : s ≡ rules ++ (tests ++ (initial ++ (main ++ checks)))

empty : {A : Type 0} (l : List A) → length l ≡ 0 → l ≡ []
empty l e = drop_of_length-le l {i = 0} (omega arith)

none_yet : {A : Type 0} (l : List A) → ltb 0 (length l) ≡ false → l ≡ []
none_yet l e = empty l (let h = ltb-false 0 (length l) e in omega arith)

module _ (p : Progress) (w : Within (counts_of p)) (s : List ℕ) (so : SoFar p s) where
  no_initial : length p.current.initial ≡ 0 → so.initial ≡ []
  no_initial e = each_none (SpellsWrite 1) p.current.initial so.initial (empty p.current.initial e) so.spells_initial

  no_main : p.current.main ≡ [] → so.main ≡ []
  no_main e = each_none (SpellsWrite 2) p.current.main so.main e so.spells_main

  no_checks : p.current.checks ≡ [] → so.checks ≡ []
  no_checks e = each_none SpellsCheck p.current.checks so.checks e so.spells_checks

  adds_rule : (r : Rule) (one : List ℕ) → SpellsRule r one → out_of_order 3 (counts_of p) ≡ false
      → SoFar (progress (p.rules ++ (r ∷ [])) p.tests p.begun p.current) (s ++ one)
  unfolding out_of_order counts_of
  adds_rule r one spelled o =
      let n = w.none (or_none-left _ (ltb 0 (length p.tests)) o) in
      let t = each_none SpellsTest p.tests so.tests (none_yet p.tests (or_none_right p.begun _ o)) so.spells_tests in
      let i = no_initial n.0 in
      let m = no_main (empty p.current.main n.1) in
      let c = no_checks (empty p.current.checks n.2) in
      record {
        rules = so.rules ++ one;
        tests = so.tests;
        initial = so.initial;
        main = so.main;
        checks = so.checks;
        spells_rules = each_last SpellsRule p.rules r so.rules one so.spells_rules spelled;
        spells_tests = so.spells_tests;
        spells_initial = so.spells_initial;
        spells_main = so.spells_main;
        spells_checks = so.spells_checks;
        whole = ap (λ (l : List ℕ). l ++ one) so.whole ∙ rw (t, i, m, c) (simp append-nil);
      }

  adds_initial : (x : Write) (one : List ℕ) → SpellsWrite 1 x one → out_of_order 1 (counts_of p) ≡ false
      → SoFar (progress p.rules p.tests true (test (p.current.initial ++ (x ∷ [])) p.current.main p.current.checks)) (s ++ one)
  unfolding out_of_order counts_of
  adds_initial x one spelled o =
      let m = no_main (none_yet p.current.main (or_none-left _ _ o)) in
      let c = no_checks (none_yet p.current.checks (or_none_right (ltb 0 (length p.current.main)) _ o)) in
      record {
        rules = so.rules;
        tests = so.tests;
        initial = so.initial ++ one;
        main = so.main;
        checks = so.checks;
        spells_rules = so.spells_rules;
        spells_tests = so.spells_tests;
        spells_initial = each_last (SpellsWrite 1) p.current.initial x so.initial one so.spells_initial spelled;
        spells_main = so.spells_main;
        spells_checks = so.spells_checks;
        whole = ap (λ (l : List ℕ). l ++ one) so.whole ∙ rw (m, c) (simp (append-nil, append_assoc));
      }

  adds_main : (x : Write) (one : List ℕ) → SpellsWrite 2 x one → out_of_order 2 (counts_of p) ≡ false
      → SoFar (progress p.rules p.tests true (test p.current.initial (p.current.main ++ (x ∷ [])) p.current.checks)) (s ++ one)
  unfolding out_of_order counts_of
  adds_main x one spelled o =
      let c = no_checks (none_yet p.current.checks o) in
      record {
        rules = so.rules;
        tests = so.tests;
        initial = so.initial;
        main = so.main ++ one;
        checks = so.checks;
        spells_rules = so.spells_rules;
        spells_tests = so.spells_tests;
        spells_initial = so.spells_initial;
        spells_main = each_last (SpellsWrite 2) p.current.main x so.main one so.spells_main spelled;
        spells_checks = so.spells_checks;
        whole = ap (λ (l : List ℕ). l ++ one) so.whole ∙ rw c (simp (append-nil, append_assoc));
      }

  adds_check : (c : Check) (one : List ℕ) → check_field_bytes c ≡ one
      → SoFar (progress p.rules p.tests true (test p.current.initial p.current.main (p.current.checks ++ (c ∷ [])))) (s ++ one)
  adds_check c one e =
      record {
        rules = so.rules;
        tests = so.tests;
        initial = so.initial;
        main = so.main;
        checks = so.checks ++ one;
        spells_rules = so.spells_rules;
        spells_tests = so.spells_tests;
        spells_initial = so.spells_initial;
        spells_main = so.spells_main;
        spells_checks = each_last SpellsCheck p.current.checks c so.checks one so.spells_checks (unfold SpellsCheck in sym e);
        whole = ap (λ (l : List ℕ). l ++ one) so.whole ∙ simp append_assoc;
      }

  adds_end : SoFar (progress p.rules (p.tests ++ (p.current ∷ [])) false (test [] [] [])) (s ++ field_bytes 7 [])
  unfolding SpellsEach
  adds_end =
      let one = so.initial ++ (so.main ++ (so.checks ++ field_bytes 7 [])) in
      record {
        rules = so.rules;
        tests = so.tests ++ one;
        initial = [];
        main = [];
        checks = [];
        spells_rules = so.spells_rules;
        spells_tests = each_last SpellsTest p.tests p.current so.tests one so.spells_tests (record {
          initial = so.initial;
          main = so.main;
          checks = so.checks;
          spells_initial = so.spells_initial;
          spells_main = so.spells_main;
          spells_checks = so.spells_checks;
          whole = refl;
        });
        spells_initial = refl;
        spells_main = refl;
        spells_checks = refl;
        whole = ap (λ (l : List ℕ). l ++ field_bytes 7 []) so.whole ∙ simp (append-nil, append_assoc);
      }

  adds : (tag : ℕ) → is_tag tag ≡ true → out_of_order (kind_of tag) (counts_of p) ≡ false → (b : List ℕ) → Bounded b → length b ≡ body_length tag
      → SoFar (grown tag b p) (s ++ field_bytes tag b)
  unfolding grown body_length kind_of is_wide rule_of write_of
  adds =
      by_tag (λ tag. out_of_order (kind_of tag) (counts_of p) ≡ false → (b : List ℕ) → Bounded b → length b ≡ body_length tag → SoFar (grown tag b p) (s ++ field_bytes tag b))
      (λ o b h e. adds_initial (narrow_write b) (field_bytes 1 b) (narrow_spelled b h 1 e) o)
      (λ o b h e. adds_main (narrow_write b) (field_bytes 2 b) (narrow_spelled b h 2 e) o)
      (λ o b h e. adds_rule (narrow_rule b) (field_bytes 3 b) (narrow_rule-spelled b h e) o)
      (λ o b h e. adds_check (check_of 4 b) (field_bytes 4 b) (range_forth b e))
      (λ o b h e. adds_check (check_of 5 b) (field_bytes 5 b) (pair_forth b h e))
      (λ o b h e. adds_check (check_of 6 b) (field_bytes 6 b) (pointer_forth b e))
      (λ o b h e. rw (empty b e) adds_end)
      (λ o b h e. adds_initial (wide_write b) (field_bytes 8 b) (wide-spelled b h 1 e) o)
      (λ o b h e. adds_main (wide_write b) (field_bytes 9 b) (wide-spelled b h 2 e) o)
      (λ o b h e. adds_rule (wide_rule b) (field_bytes 10 b) (wide-rule-spelled b h e) o)

  -- with no test in hand
  all_done : (length p.current.initial ≡ 0) × (length p.current.main ≡ 0) × (length p.current.checks ≡ 0) → SpellsFile (file p.rules p.tests) s
  all_done n =
      record {
        rules = so.rules;
        tests = so.tests;
        spells_rules = so.spells_rules;
        spells_tests = so.spells_tests;
        whole = so.whole ∙ rw (no_initial n.0, no_main (empty p.current.main n.1), no_checks (empty p.current.checks n.2)) (simp append-nil);
      }

-- ---- one field

module _ (s : List ℕ) (small : Bounded s) (at : ℕ) (c : Counts) (k : Clean s at c) where
  size_of_body : length (body_at s at) ≡ body_length (byte s at)
  size_of_body = length-take-le _ _ (rw length-drop k.room)

  head_at : take head_length (drop at s) ≡ byte s at ∷ half s (at + 1) / 256 ∷ half s (at + 1) % 256 ∷ []
  unfolding half
  head_at =
      let a = small (at + 1) in
      let b = small (at + 1 + 1) in
      let x : (byte s (at + 1) * 256 + byte s (at + 1 + 1)) / 256 ≡ byte s (at + 1) = omega arith in
      let y : (byte s (at + 1) * 256 + byte s (at + 1 + 1)) % 256 ≡ byte s (at + 1 + 1) = omega arith in
      let l = k.whole in
      rw (x, y, drop-cons s at 0 (omega arith), drop-cons s (suc at) 0 (omega arith), drop-cons s (suc (suc at)) 0 (omega arith), add-one at, add-one (suc at))

  field_at : take (field_end s at) s ≡ take at s ++ field_bytes (byte s at) (body_at s at)
  unfolding field_bytes
  field_at =
      rw (take-add (at + head_length) (body_length (byte s at)) s, take-add at head_length s, head_at, size_of_body, k.size, append_assoc)

-- ---- reading

record Written (s : List ℕ) (at : ℕ) (p : Progress) : Type 0 where
  within : Within (counts_of p)
  fits : Fitting p
  bytes : SoFar p (take at s)

written_start : (s : List ℕ) → Written s 0 nothing
unfolding nothing counts_of SpellsEach
written_start s =
    record {
      within = record {
        rules = omega arith;
        tests = omega arith;
        begun = λ q. omega arith;
        initial = omega arith;
        main = omega arith;
        checks = omega arith;
        none = λ q. (refl, refl, refl);
      };
      fits = fitting_start;
      bytes = record {
        rules = [];
        tests = [];
        initial = [];
        main = [];
        checks = [];
        spells_rules = refl;
        spells_tests = refl;
        spells_initial = refl;
        spells_main = refl;
        spells_checks = refl;
        whole = refl;
      };
    }

module _ (s : List ℕ) (small : Bounded s) where
  written_on : (at : ℕ) (p : Progress) → Written s at p → Clean s at (counts_of p) → Written s (field_end s at) (grown (byte s at) (body_at s at) p)
  written_on at p w k =
      let b = bounded_part (body_length (byte s at)) (at + head_length) s small in
      record {
        within = rw (← counts-grown (body_at s at) p (byte s at) k.tag) (within-counted (counts_of p) w.within (byte s at) k.tag k.limit);
        fits = fitting_on p w.fits (body_at s at) b (byte s at) k.tag k.body;
        bytes = rw (field_at s small at (counts_of p) k)
            (adds p w.within (take at s) w.bytes (byte s at) k.tag k.order (body_at s at) b (size_of_body s small at (counts_of p) k));
      }

  abbrev Holds : File → Type 0
  Holds f = SpellsFile f s × FileFits f

  written_end : (at : ℕ) (p : Progress) (f : File) → Written s at p → length s ≤ at → finished s p ≡ answer f → Holds f
  unfolding finished
  written_end at p f w h = go p.begun refl
    where
      go : (b : Bool) → p.begun ≡ b → cond b (refused 7 (length s)) (answer (file p.rules p.tests)) ≡ answer f → Holds f
      go true q e = let z : ◌≡◌ {A = ℕ} 0 1 = cc in absurd (omega arith)
      go false q e =
          let g : f ≡ file p.rules p.tests = cc in
          rw g (rw (take_all at s h) at (all_done p w.within (take at s) w.bytes (unfold counts_of in w.within.none q)), record { rules = w.fits.rules; tests = w.fits.tests })

  written_from : (fuel at : ℕ) (p : Progress) (f : File) → Written s at p → read_from fuel s at p ≡ answer f → Holds f
  unfolding read_from
  written_from zero at p f w = λ e. let z : ◌≡◌ {A = ℕ} 0 1 = cc in absurd (omega arith)
  written_from (suc fuel) at p f w =
      go (ltb at (length s)) (eqb (fault_of s at (counts_of p)) 0) refl refl
      (λ k. written_from fuel (field_end s at) (grown (byte s at) (body_at s at) p) f (written_on at p w k))
    where
      go : (b d : Bool) → ltb at (length s) ≡ b → eqb (fault_of s at (counts_of p)) 0 ≡ d
          → (Clean s at (counts_of p) → read_from fuel s (field_end s at) (grown (byte s at) (body_at s at) p) ≡ answer f → Holds f)
          → cond b (cond d (read_from fuel s (field_end s at) (grown (byte s at) (body_at s at) p)) (refused (fault_of s at (counts_of p)) at)) (finished s p) ≡ answer f
          → Holds f
      go false d q r rest e = written_end at p f w (ltb-false _ _ q) e
      go true true q r rest e = rest (clean s at (counts_of p) (eqb-true _ _ r)) e
      go true false q r rest e = let z : ◌≡◌ {A = ℕ} 0 1 = cc in absurd (omega arith)

holds : (s : List ℕ) (f : File) → Small s → read_of s ≡ answer f → SpellsFile f s × FileFits f
unfolding read_of
holds s f h = written_from s (bounded s h) (suc (length s)) 0 nothing f (written_start s)

-- what is accepted is the bytes of what was read
pub spelled-read : (s : List ℕ) (f : File) → Small s → read_of s ≡ answer f → SpellsFile f s
spelled-read s f h e = (holds s f h e).0

-- and what was read fits
pub fits_read : (s : List ℕ) (f : File) → Small s → read_of s ≡ answer f → FileFits f
fits_read s f h e = (holds s f h e).1

-- reading accepts exactly the bytes of files
pub reads_exactly : ReadsExactly
unfolding ReadsExactly
reads_exactly s f h = (
  λ e. record { limits = (holding-limits s f e).0; fits = fits_read s f h e; spelled = spelled-read s f h e },
  λ k. read-spelled s f k.spelled k.limits k.fits,
)

-- what we write ourselves is one of them, and none is shorter
pub shortest_spelled : ShortestSpelled
shortest_spelled f = (file_shortest f, file-least f)
