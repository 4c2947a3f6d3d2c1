-- The bytes of a file within the limits are read as that file: each field lets the reading go on behind it, so the last field's answer is the first's.
use mathlib.Core.Path.{◌≡◌, refl, sym, ap, ◌∙◌}
use mathlib.Core.Logic.{⊎_elim}
use mathlib.Core.Bool.{Bool, true, false, cond}
use mathlib.Core.List.Memᴰ
use mathlib.Core.List.{List, [], ◌∷◌, ◌++◌, append_assoc, append-nil}
use Prim.Native.Nat.{ℕ, zero, suc, ◌+◌, ◌-◌, ◌<◌}
use native.Mathlib.Nat.{div-add-mod'}
use native.Mathlib.Omega.{arith}
use lib.ListN.{length, take, drop, length-append, length-drop}
use lib.Seq.{get_or-drop, drop-drop, take_at, drop_at}
use lib.Dec.{eqb, leb}
use borrow.Author.Tests.{eq-eqb, lt-ltb, le-ltb, lt-leb}
use Rattle.model.specs.Limits.{narrow_names, most_rules, most_tests, most_initial, most_main, most_checks}
use Rattle.model.specs.declared.Write.{Write}
use Rattle.model.specs.declared.Rule.{Rule}
use Rattle.model.specs.declared.Check.{Check}
use Rattle.model.specs.declared.Check.TheVariants.{Range, Pair, Pointer}
use Rattle.model.specs.Answer.{answer}
use Rattle.model.specs.Rules.{Known}
use Rattle.model.specs.Test.{Test, test, File, file}
use Rattle.file_format.specs.declared.Counts.{Counts}
use Rattle.file_format.specs.Bytes.{byte, half, bytes4, narrow_write_bytes, wide_write_bytes, narrow_rule_bytes, wide_rule_bytes}
use Rattle.file_format.specs.File.{end_tag, is_tag, is_wide, kind_of, is_rule, is_check, narrow_write_length, wide_write_length, body_length, out_of_order, over_test, over_limit, rule_fault, body_fault, fault_of, rule_of, write_of, check_of, Progress, progress, counts_of, grown, finished, read_from, read_of, nothing, head_length}
use Rattle.file_reader.specs.Limits.{TestLimits, FileLimits}
use Rattle.file_format.specs.Encode.{field_bytes, rule_fields, check_field_bytes, test_bytes, tests_bytes, file_bytes, SpellsRule, SpellsWrite, SpellsCheck, SpellsTest, SpellsFile, RuleFits, WriteFits, CheckFits, TestFits, FileFits}
use Rattle.file_reader.proofs.LimitLaws.{Clean}
use Rattle.file_encoding.proofs.RunLaws.{each_on, file_shortest}
use Rattle.file_encoding.proofs.PartLaws.{narrow_words-back, wide-words-back, narrow_rule-back, wide-rule-back, pair_back}

-- ---- one field

-- the converse of `clean`
fault-none : (s : List ℕ) (at : ℕ) (c : Counts) → Clean s at c → fault_of s at c ≡ 0
unfolding fault_of
fault-none s at c k =
    rw (le-ltb _ _ k.whole, k.tag, k.order, k.limit, eq-eqb _ _ k.size, le-ltb _ _ k.room) k.body

-- a field that is not refused, wherever it stands
pub record Fine (tag : ℕ) (body : List ℕ) (c : Counts) : Type 0 where
  pub known : is_tag tag ≡ true
  pub size : length body ≡ body_length tag
  pub order : out_of_order (kind_of tag) c ≡ false
  pub limit : over_limit (kind_of tag) c ≡ false
  pub fault : body_fault tag body ≡ 0

module _ (tag : ℕ) (body rest s : List ℕ) (at : ℕ) (e : drop at s ≡ field_bytes tag body ++ rest) where
  byte_at : (i : ℕ) → byte s (at + i) ≡ byte (field_bytes tag body ++ rest) i
  byte_at i = sym (get_or-drop at s i 0) ∙ ap (λ (l : List ℕ). byte l i) e

  tag_at : byte s at ≡ tag
  unfolding field_bytes
  tag_at = let z : at + 0 ≡ at = omega arith in rw z at (byte_at 0)

  half_at : half s (at + 1) ≡ length body
  unfolding half field_bytes
  half_at = let z : at + 1 + 1 ≡ at + 2 = omega arith in rw (z, byte_at 1, byte_at 2) (div-add-mod' (length body) 256)

  all-at : length s - at ≡ head_length + (length body + length rest)
  unfolding field_bytes
  all-at = let l = rw (length-drop, length-append) at (ap length e) in omega arith

  body_at : (n : ℕ) → length body ≡ n → take n (drop (at + head_length) s) ≡ body
  unfolding field_bytes
  body_at n z = rw (← drop-drop head_length at s, e) (take_at body rest n z)

  behind : (n : ℕ) → length body ≡ n → drop (at + head_length + n) s ≡ rest
  unfolding field_bytes
  behind n z = rw (← drop-drop n (at + head_length) s, ← drop-drop head_length at s, e) (drop_at body rest n z)

  clean_at : (c : Counts) → Fine tag body c → Clean s at c
  clean_at c k =
      let a = all-at in
      let h = half_at in
      let z = k.size in
      let t = tag_at in
      record {
        whole = omega arith;
        tag = rw t k.known;
        order = rw t k.order;
        limit = rw t k.limit;
        size = rw t (h ∙ z);
        room = rw t (omega arith);
        body = rw (t, body_at (body_length tag) z) k.fault;
      }

-- with these bytes still to come and enough fuel, reading ends with this file
abbrev pub Gives : List ℕ → Progress → File → Type 0
Gives rest p f = (fuel : ℕ) (s : List ℕ) (at : ℕ) → drop at s ≡ rest → length rest < fuel → read_from fuel s at p ≡ answer f

pub gives-field : (tag : ℕ) (body rest : List ℕ) (p : Progress) (f : File) → Fine tag body (counts_of p)
    → Gives rest (grown tag body p) f → Gives (field_bytes tag body ++ rest) p f
unfolding read_from field_bytes
gives-field tag body rest p f k g zero s at e l = absurd (omega arith)
gives-field tag body rest p f k g (suc fuel) s at e l =
    let a = all-at tag body rest s at e in
    let n = length-append (field_bytes tag body) rest in
    rw (lt-ltb at (length s) (omega arith), fault-none s at (counts_of p) (clean_at tag body rest s at e (counts_of p) k), tag_at tag body rest s at e, body_at tag body rest s at e (body_length tag) k.size)
    (g fuel s (at + head_length + body_length tag) (behind tag body rest s at e (body_length tag) k.size) (omega arith))

-- ---- ends and rules

abbrev none : Test
none = test [] [] []

gives-done : (rules : List Rule) (tests : List Test) → Gives [] (progress rules tests false none) (file rules tests)
unfolding read_from finished
gives-done rules tests zero s at e l = absurd (omega arith)
gives-done rules tests (suc fuel) s at e l =
    let n = rw length-drop at (ap length e) in
    rw (le-ltb at (length s) (omega arith))

gives-rule : (f : File) (r : Rule) (one : List ℕ) (done : List Rule) (rest : List ℕ) → SpellsRule r one → RuleFits r → length done < most_rules
    → Gives rest (progress (done ++ (r ∷ [])) [] false none) f → Gives (one ++ rest) (progress done [] false none) f
unfolding SpellsRule is_tag body_length narrow_rule_bytes kind_of is_wide wide_rule_bytes
gives-rule f r one done rest spelled h l g =
    ⊎_elim
    (λ (n : (r.first < narrow_names) × (r.second < narrow_names) × (one ≡ field_bytes 3 (narrow_rule_bytes r))). rw n.2 (with_tag 3 (narrow_rule_bytes r) refl refl (unfold rule_of is_wide in narrow_rule-back r) refl))
    (λ (e : one ≡ field_bytes 10 (wide_rule_bytes r)). rw e (with_tag 10 (wide_rule_bytes r) refl refl (unfold rule_of is_wide in wide-rule-back r) refl))
    spelled
  where
    with_tag : (tag : ℕ) (b : List ℕ) → is_tag tag ≡ true → length b ≡ body_length tag → rule_of tag b ≡ r → kind_of tag ≡ 3 → Gives (field_bytes tag b ++ rest) (progress done [] false none) f
    with_tag tag b k z e q =
        gives-field tag b rest (progress done [] false none) f
        (record {
          known = k;
          size = z;
          order = unfold out_of_order counts_of in rw q;
          limit = unfold over_limit counts_of in rw q (lt-leb most_rules (length done) l);
          fault = unfold body_fault is_rule rule_fault in rw (q, e, le-ltb 2 r.predicate h.predicate);
        })
        (unfold grown in rw (q, e) g)

-- ---- tests

-- a kind of write has two tags
record Twofold (kind : ℕ) : Type 0 where
  known : is_tag kind ≡ true
  known-wide : is_tag (kind + end_tag) ≡ true
  narrow : is_wide kind ≡ false
  wide : is_wide (kind + end_tag) ≡ true
  size : body_length kind ≡ narrow_write_length
  size-wide : body_length (kind + end_tag) ≡ wide_write_length
  same : kind_of kind ≡ kind
  same-wide : kind_of (kind + end_tag) ≡ kind

initial_twofold : Twofold 1
unfolding is_tag is_wide body_length kind_of
initial_twofold = record { known = refl; known-wide = refl; narrow = refl; wide = refl; size = refl; size-wide = refl; same = refl; same-wide = refl }

main_twofold : Twofold 2
unfolding is_tag is_wide body_length kind_of
main_twofold = record { known = refl; known-wide = refl; narrow = refl; wide = refl; size = refl; size-wide = refl; same = refl; same-wide = refl }

-- a write's field, with either kind of name: its tag is of this kind, and its body holds the write
by_spelling : (kind : ℕ) → Twofold kind → (w : Write) (one : List ℕ) → SpellsWrite kind w one → WriteFits w → (P : List ℕ → Type 0)
    → ((tag : ℕ) (body : List ℕ) → is_tag tag ≡ true → length body ≡ body_length tag → write_of tag body ≡ w → kind_of tag ≡ kind → P (field_bytes tag body)) → P one
unfolding SpellsWrite write_of
by_spelling kind k w one spelled h P each =
    ⊎_elim
    (λ (n : (w.name < narrow_names) × (one ≡ field_bytes kind (narrow_write_bytes w))).
    rw n.1 (each kind (narrow_write_bytes w) k.known (rw k.size (unfold narrow_write_bytes in refl)) (rw k.narrow (narrow_words-back w h.epoch h.block)) k.same))
    (λ (e : one ≡ field_bytes (kind + end_tag) (wide_write_bytes w)).
    rw e (each (kind + end_tag) (wide_write_bytes w) k.known-wide (rw k.size-wide (unfold wide_write_bytes in refl)) (rw k.wide (wide-words-back w h.epoch h.block)) k.same-wide))
    spelled

module _ (f : File) (rules : List Rule) (tests : List Test) (room : length tests < most_tests) where
  -- with this much of a test read, whether or not it has begun
  abbrev During : List ℕ → Test → Type 0
  During rest t = (b : Bool) → Gives rest (progress rules tests b t) f

  -- a field of a test is its first, or within its limit
  fine : (tag : ℕ) (body : List ℕ) (t : Test) (b : Bool) → is_tag tag ≡ true → eqb (kind_of tag) 3 ≡ false → length body ≡ body_length tag
      → out_of_order (kind_of tag) (counts_of (progress rules tests b t)) ≡ false → over_test (kind_of tag) (counts_of (progress rules tests b t)) ≡ false
      → Fine tag body (counts_of (progress rules tests b t))
  unfolding counts_of over_limit body_fault is_rule
  fine tag body t b k n z o l = record { known = k; size = z; order = o; limit = rw n (go b _ l); fault = rw n }
    where
      go : (b over : Bool) → over ≡ false → cond b over (leb most_tests (length tests)) ≡ false
      go true over e = e
      go false over e = lt-leb most_tests (length tests) room

  gives-initial : (w : Write) (one : List ℕ) (done : List Write) (rest : List ℕ) → SpellsWrite 1 w one → WriteFits w → length done < most_initial
      → During rest (test (done ++ (w ∷ [])) [] []) → During (one ++ rest) (test done [] [])
  gives-initial w one done rest spelled h l g b =
      by_spelling 1 initial_twofold w one spelled h (λ s. Gives (s ++ rest) (progress rules tests b (test done [] [])) f)
      (λ tag body k z e q.
      gives-field tag body rest (progress rules tests b (test done [] [])) f
      (fine tag body (test done [] []) b k (rw q) z (unfold out_of_order counts_of in rw q) (unfold over_test counts_of in rw q (lt-leb most_initial (length done) l)))
      (unfold grown in rw (q, e) (g true)))

  gives-main : (initial : List Write) (w : Write) (one : List ℕ) (done : List Write) (rest : List ℕ) → SpellsWrite 2 w one → WriteFits w → length done < most_main
      → During rest (test initial (done ++ (w ∷ [])) []) → During (one ++ rest) (test initial done [])
  gives-main initial w one done rest spelled h l g b =
      by_spelling 2 main_twofold w one spelled h (λ s. Gives (s ++ rest) (progress rules tests b (test initial done [])) f)
      (λ tag body k z e q.
      gives-field tag body rest (progress rules tests b (test initial done [])) f
      (fine tag body (test initial done []) b k (rw q) z (unfold out_of_order counts_of in rw q) (unfold over_test counts_of in rw q (lt-leb most_main (length done) l)))
      (unfold grown in rw (q, e) (g true)))

  gives_check : (initial main : List Write) (c : Check) (one : List ℕ) (done : List Check) (rest : List ℕ) → SpellsCheck c one → CheckFits c → length done < most_checks
      → During rest (test initial main (done ++ (c ∷ []))) → During (one ++ rest) (test initial main done)
  unfolding grown counts_of is_tag is_wide kind_of is_check body_length out_of_order over_test SpellsCheck check_field_bytes check_of CheckFits
  gives_check initial main (Range a) one done rest e h l g b =
      rw e
      (gives-field 4 (a ∷ []) rest (progress rules tests b (test initial main done)) f
      (fine 4 (a ∷ []) (test initial main done) b refl refl refl refl (lt-leb most_checks (length done) l)) (g true))
  gives_check initial main (Pair a v d w) one done rest e h l g b =
      let body = a ∷ (bytes4 v ++ (d ∷ bytes4 w)) in
      rw e
      (gives-field 5 body rest (progress rules tests b (test initial main done)) f
      (fine 5 body (test initial main done) b refl refl refl refl (lt-leb most_checks (length done) l)) (rw (pair_back a v d w h.1 h.3) (g true)))
  gives_check initial main (Pointer a) one done rest e h l g b =
      rw e
      (gives-field 6 (a ∷ []) rest (progress rules tests b (test initial main done)) f
      (fine 6 (a ∷ []) (test initial main done) b refl refl refl refl (lt-leb most_checks (length done) l)) (g true))

  gives_end : (t : Test) (rest : List ℕ) → Gives rest (progress rules (tests ++ (t ∷ [])) false none) f → During (field_bytes 7 [] ++ rest) t
  unfolding grown counts_of is_tag is_wide kind_of is_check body_length out_of_order over_test
  gives_end t rest g b = gives-field 7 [] rest (progress rules tests b t) f (fine 7 [] t b refl refl refl refl refl) g

  gives-test : (t : Test) (one rest : List ℕ) → SpellsTest t one → TestLimits t → TestFits t
      → Gives rest (progress rules (tests ++ (t ∷ [])) false none) f → During (one ++ rest) none
  gives-test t one rest spelled l k g =
      rw (spelled.whole, append_assoc, append_assoc, append_assoc)
      (each_on (SpellsWrite 1) WriteFits most_initial (λ r done. During r (test done [] [])) gives-initial t.initial spelled.initial [] _ spelled.spells_initial k.initial (omega (arith, l.initial))
      (each_on (SpellsWrite 2) WriteFits most_main (λ r done. During r (test t.initial done [])) (gives-main t.initial) t.main spelled.main [] _ spelled.spells_main k.main (omega (arith, l.main))
      (each_on SpellsCheck CheckFits most_checks (λ r done. During r (test t.initial t.main done)) (gives_check t.initial t.main) t.checks spelled.checks [] _ spelled.spells_checks k.checks (omega (arith, l.checks))
      (gives_end t rest g))))

-- ---- files

-- the bytes of a file within the limits are read as that file, however its names are spelled
pub read-spelled : (s : List ℕ) (f : File) → SpellsFile f s → FileLimits f → FileFits f → read_of s ≡ answer f
unfolding read_of nothing
read-spelled s f spelled l k =
    all (suc (length s)) s 0 spelled.whole (let z : length s ≡ length (spelled.rules ++ spelled.tests) = ap length spelled.whole in omega arith)
  where
    all : Gives (spelled.rules ++ spelled.tests) (progress [] [] false none) f
    all =
        each_on SpellsRule RuleFits most_rules (λ rest done. Gives rest (progress done [] false none) f) (gives-rule f) f.rules spelled.rules [] spelled.tests spelled.spells_rules k.rules (omega (arith, l.rules))
        (rw append-nil at
        (each_on SpellsTest (λ t. TestLimits t × TestFits t) most_tests (λ rest done. Gives rest (progress f.rules done false none) f)
        (λ t one done rest sp h room g. gives-test f f.rules done room t one rest sp h.0 h.1 g false)
        f.tests spelled.tests [] [] spelled.spells_tests (λ t m. (l.each t m, k.tests t m)) (omega (arith, l.tests)) (gives-done f.rules f.tests)))

pub read-bytes : (f : File) → FileLimits f → FileFits f → read_of (file_bytes f) ≡ answer f
read-bytes f = read-spelled (file_bytes f) f (file_shortest f)

-- a test alone
pub one-test : (t : Test) → TestLimits t → TestFits t → read_of (test_bytes t) ≡ answer (file [] (t ∷ []))
unfolding file_bytes rule_fields tests_bytes Known
one-test t l k =
    rw append-nil at (read-bytes (file [] (t ∷ []))
    (record {
      rules = omega arith;
      tests = omega arith;
      known = λ r m. absurd (Memᴰ.not-nil m);
      each = λ u m. let e : u ≡ t = Memᴰ.eq_of_singleton m in rw e l;
    })
    (record {
      rules = λ r m. absurd (Memᴰ.not-nil m);
      tests = λ u m. let e : u ≡ t = Memᴰ.eq_of_singleton m in rw e k;
    }))
