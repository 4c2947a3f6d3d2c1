-- The bytes of a list are those of its elements, one after the other: the last element's bytes come last, and what one element does the list does.
use mathlib.Core.Path.{◌≡◌, refl, ap}
use mathlib.Core.Logic.{inl, inr}
use mathlib.Core.Bool.{Bool, true, false, cond, ◌&&◌}
use mathlib.Core.List.{List, [], ◌∷◌, ◌++◌, append_assoc, append-nil, Memᴰ}
use Prim.Native.Nat.{ℕ, ◌+◌, ◌≤◌, ◌<◌}
use native.Mathlib.Omega.{arith}
use lib.Dec.{ltb}
use lib.ListN.{length, length-append}
use borrow.Author.Tests.{ltb-true, lt-ltb}
use Rattle.relation.proofs.ListLaws.{and_left, and_right}
use Rattle.model.specs.Limits.{narrow_names}
use Rattle.model.specs.declared.Write.{Write}
use Rattle.model.specs.declared.Rule.{Rule}
use Rattle.model.specs.declared.Check.{Check}
use Rattle.model.specs.Test.{Test, File}
use Rattle.file_format.specs.Bytes.{narrow_write_bytes, wide_write_bytes, narrow_rule_bytes, wide_rule_bytes}
use Rattle.file_format.specs.File.{end_tag}
use Rattle.file_format.specs.Encode.{field_bytes, rule_field_bytes, rule_fields, write_field_bytes, write_fields, check_field_bytes, check_fields, test_bytes, tests_bytes, file_bytes, SpellsRule, SpellsWrite, SpellsCheck, SpellsEach, SpellsTest, SpellsFile}

module _ {A : Type 0} (Spells : A → List ℕ → Type 0) where
  -- nothing is spelled by no bytes
  pub each_none : (xs : List A) (s : List ℕ) → xs ≡ [] → SpellsEach Spells xs s → s ≡ []
  unfolding SpellsEach
  each_none [] s e h = h
  each_none (x ∷ xs) s e h = let z : length (x ∷ xs) ≡ 0 = ap length e in absurd (omega arith)

  -- one element more
  pub each_last : (xs : List A) (x : A) (s one : List ℕ) → SpellsEach Spells xs s → Spells x one → SpellsEach Spells (xs ++ (x ∷ [])) (s ++ one)
  unfolding SpellsEach
  each_last [] x s one e h = (one, [], h, refl, rw (e, append-nil))
  each_last (y ∷ xs) x s one (a, b, k, rest, e) h = (a, b ++ one, k, each_last xs x b one rest h, rw (e, append_assoc))

  -- G rest done: with `done` read and `rest` to come, a reading goes well. One element more is read, up to a limit; so is a list
  pub each_on : (Fits : A → Type 0) (most : ℕ) (G : List ℕ → List A → Type 0)
      → ((x : A) (one : List ℕ) (done : List A) (rest : List ℕ) → Spells x one → Fits x → length done < most → G rest (done ++ (x ∷ [])) → G (one ++ rest) done)
      → (xs : List A) (s : List ℕ) (done : List A) (rest : List ℕ) → SpellsEach Spells xs s → ((x : A) → Memᴰ x xs → Fits x) → length done + length xs ≤ most
      → G rest (done ++ xs) → G (s ++ rest) done
  unfolding SpellsEach
  each_on Fits most G step [] s done rest e fits l g = rw e (rw append-nil at g)
  each_on Fits most G step (x ∷ xs) s done rest (a, b, k, others, e) fits l g =
      rw (e, append_assoc)
      (step x a done (b ++ rest) k (fits x (Memᴰ.head refl)) (omega arith)
      (each_on Fits most G step xs b (done ++ (x ∷ [])) rest others (λ y m. fits y (Memᴰ.tail m)) (rw length-append (omega arith)) (rw append_assoc g)))

  -- a list whose elements are spelled by a function
  pub each-by : (bytes : A → List ℕ) (all : List A → List ℕ) → all [] ≡ [] → ((x : A) (xs : List A) → all (x ∷ xs) ≡ bytes x ++ all xs)
      → ((x : A) → Spells x (bytes x)) → (xs : List A) → SpellsEach Spells xs (all xs)
  unfolding SpellsEach
  each-by bytes all none more one [] = none
  each-by bytes all none more one (x ∷ xs) = (bytes x, all xs, one x, each-by bytes all none more one xs, more x xs)

  -- and is no longer than any other, if its elements are not
  pub each-least : (bytes : A → List ℕ) (all : List A → List ℕ) → all [] ≡ [] → ((x : A) (xs : List A) → all (x ∷ xs) ≡ bytes x ++ all xs)
      → ((x : A) (one : List ℕ) → Spells x one → length (bytes x) ≤ length one) → (xs : List A) (s : List ℕ) → SpellsEach Spells xs s → length (all xs) ≤ length s
  unfolding SpellsEach
  each-least bytes all none more one [] s e = rw none (omega arith)
  each-least bytes all none more one (x ∷ xs) s (a, b, h, rest, e) =
      let l = one x a h in
      let m = each-least bytes all none more one xs b rest in
      rw (more x xs, e, length-append (bytes x) (all xs), length-append a b) (omega arith)

-- ---- the shortest spelling is one

rule_shortest : (r : Rule) → SpellsRule r (rule_field_bytes r)
unfolding SpellsRule rule_field_bytes
rule_shortest r = go (ltb r.first narrow_names && ltb r.second narrow_names) refl
  where
    go : (b : Bool) → ltb r.first narrow_names && ltb r.second narrow_names ≡ b → SpellsRule r (cond b (field_bytes 3 (narrow_rule_bytes r)) (field_bytes 10 (wide_rule_bytes r)))
    go true e =
        inl (ltb-true _ _ (and_left (ltb r.first narrow_names) (ltb r.second narrow_names) e), ltb-true _ _ (and_right (ltb r.first narrow_names) (ltb r.second narrow_names) e), refl)
    go false e = inr refl

write_shortest : (kind : ℕ) (w : Write) → SpellsWrite kind w (write_field_bytes kind w)
unfolding SpellsWrite write_field_bytes
write_shortest kind w = go (ltb w.name narrow_names) refl
  where
    go : (b : Bool) → ltb w.name narrow_names ≡ b → SpellsWrite kind w (cond b (field_bytes kind (narrow_write_bytes w)) (field_bytes (kind + end_tag) (wide_write_bytes w)))
    go true e = inl (ltb-true _ _ e, refl)
    go false e = inr refl

pub rules_shortest : (rules : List Rule) → SpellsEach SpellsRule rules (rule_fields rules)
unfolding rule_fields
rules_shortest = each-by SpellsRule rule_field_bytes rule_fields refl (λ r rs. refl) rule_shortest

pub writes_shortest : (kind : ℕ) (ws : List Write) → SpellsEach (SpellsWrite kind) ws (write_fields kind ws)
unfolding write_fields
writes_shortest kind = each-by (SpellsWrite kind) (write_field_bytes kind) (write_fields kind) refl (λ w ws. refl) (write_shortest kind)

checks-only : (checks : List Check) → SpellsEach SpellsCheck checks (check_fields checks)
unfolding check_fields SpellsCheck
checks-only = each-by SpellsCheck check_field_bytes check_fields refl (λ c cs. refl) (λ c. refl)

pub test_shortest : (t : Test) → SpellsTest t (test_bytes t)
unfolding test_bytes
test_shortest t =
    record {
      initial = write_fields 1 t.initial;
      main = write_fields 2 t.main;
      checks = check_fields t.checks;
      spells_initial = writes_shortest 1 t.initial;
      spells_main = writes_shortest 2 t.main;
      spells_checks = checks-only t.checks;
      whole = refl;
    }

pub file_shortest : (f : File) → SpellsFile f (file_bytes f)
unfolding file_bytes tests_bytes
file_shortest f =
    record {
      rules = rule_fields f.rules;
      tests = tests_bytes f.tests;
      spells_rules = rules_shortest f.rules;
      spells_tests = each-by SpellsTest test_bytes tests_bytes refl (λ t ts. refl) test_shortest f.tests;
      whole = refl;
    }

-- ---- and no other is shorter

rule-least : (r : Rule) (s : List ℕ) → SpellsRule r s → length (rule_field_bytes r) ≤ length s
unfolding SpellsRule rule_field_bytes field_bytes narrow_rule_bytes wide_rule_bytes
rule-least r s (inl (a, b, e)) = rw (lt-ltb _ _ a, lt-ltb _ _ b, e) (omega arith)
rule-least r s (inr e) = rw e (go (ltb r.first narrow_names && ltb r.second narrow_names))
  where
    go : (b : Bool) → length (cond b (field_bytes 3 (narrow_rule_bytes r)) (field_bytes 10 (wide_rule_bytes r))) ≤ length (field_bytes 10 (wide_rule_bytes r))
    go true = omega arith
    go false = omega arith

write-least : (kind : ℕ) (w : Write) (s : List ℕ) → SpellsWrite kind w s → length (write_field_bytes kind w) ≤ length s
unfolding SpellsWrite write_field_bytes field_bytes narrow_write_bytes wide_write_bytes
write-least kind w s (inl (a, e)) = rw (lt-ltb _ _ a, e) (omega arith)
write-least kind w s (inr e) = rw e (go (ltb w.name narrow_names))
  where
    go : (b : Bool) → length (cond b (field_bytes kind (narrow_write_bytes w)) (field_bytes (kind + end_tag) (wide_write_bytes w))) ≤ length (field_bytes (kind + end_tag) (wide_write_bytes w))
    go true = omega arith
    go false = omega arith

writes-least : (kind : ℕ) (ws : List Write) (s : List ℕ) → SpellsEach (SpellsWrite kind) ws s → length (write_fields kind ws) ≤ length s
unfolding write_fields
writes-least kind = each-least (SpellsWrite kind) (write_field_bytes kind) (write_fields kind) refl (λ w ws. refl) (write-least kind)

checks-least : (checks : List Check) (s : List ℕ) → SpellsEach SpellsCheck checks s → length (check_fields checks) ≤ length s
unfolding check_fields SpellsCheck
checks-least = each-least SpellsCheck check_field_bytes check_fields refl (λ c cs. refl) (λ c one e. rw e (omega arith))

test-least : (t : Test) (s : List ℕ) → SpellsTest t s → length (test_bytes t) ≤ length s
unfolding test_bytes
test-least t s h =
    let i = writes-least 1 t.initial h.initial h.spells_initial in
    let m = writes-least 2 t.main h.main h.spells_main in
    let c = checks-least t.checks h.checks h.spells_checks in
    rw h.whole (simp length-append (omega arith))

pub file-least : (f : File) (s : List ℕ) → SpellsFile f s → length (file_bytes f) ≤ length s
unfolding file_bytes tests_bytes rule_fields
file-least f s h =
    let r = each-least SpellsRule rule_field_bytes rule_fields refl (λ q qs. refl) rule-least f.rules h.rules h.spells_rules in
    let t = each-least SpellsTest test_bytes tests_bytes refl (λ u us. refl) test-least f.tests h.tests h.spells_tests in
    rw h.whole (simp length-append (omega arith))
