-- What is read fits its widths, field by field, as the bytes are below 256.
use mathlib.Core.Path.{◌≡◌, refl}
use mathlib.Core.Logic.{⊎_elim}
use mathlib.Core.Bool.{Bool, true, false, cond}
use mathlib.Core.List.Memᴰ
use mathlib.Core.List.{List, [], ◌∷◌, ◌++◌, Memᴰ}
use Prim.Native.Nat.{ℕ, zero, suc, ◌+◌, ◌≤◌, ◌<◌}
use native.Mathlib.Omega.{arith}
use lib.ListN.{take, drop}
use lib.Seq.{get_or-drop}
use lib.Dec.{ltb}
use borrow.Author.Tests.{ltb-false}
use Rattle.model.specs.Limits.{names, words}
use Rattle.model.specs.declared.Write.{Write}
use Rattle.model.specs.declared.Rule.{Rule}
use Rattle.model.specs.declared.Check.{Check}
use Rattle.model.specs.Test.{Test, test}
use Rattle.file_format.specs.Bytes.{byte, Small, half, word}
use Rattle.file_format.specs.File.{is_tag, is_wide, kind_of, is_rule, rule_fault, body_fault, narrow_rule, wide_rule, rule_of, narrow_write, wide_write, write_of, check_of, Progress, progress, grown, nothing}
use Rattle.file_format.specs.Encode.{RuleFits, WriteFits, CheckFits, TestFits}
use Rattle.file_reader.proofs.LimitLaws.{by_tag}
use Rattle.file_encoding.proofs.PartLaws.{Bounded}

-- ---- bytes

pub bounded : (s : List ℕ) → Small s → Bounded s
bounded [] h i = omega arith
bounded (x ∷ s) h zero = h 0 (omega arith)
bounded (x ∷ s) h (suc i) = bounded s (λ j l. h (suc j) (omega arith)) i

pub bounded_part : (n m : ℕ) (s : List ℕ) → Bounded s → Bounded (take n (drop m s))
bounded_part n m s h = front n (drop m s) (λ i. rw get_or-drop (h (m + i)))
  where
    front : (n : ℕ) (s : List ℕ) → Bounded s → Bounded (take n s)
    front zero s h i = omega arith
    front (suc n) [] h i = omega arith
    front (suc n) (x ∷ s) h zero = h 0
    front (suc n) (x ∷ s) h (suc i) = front n s (λ j. h (suc j)) i

-- ---- one body

module _ (b : List ℕ) (h : Bounded b) where
  word_fits : (i : ℕ) → word b i < words
  unfolding word half
  word_fits i = omega (arith, h i, h (i + 1), h (i + 2), h (i + 2 + 1))

  half-fits : (i : ℕ) → half b i < names
  unfolding half
  half-fits i = omega (arith, h i, h (i + 1))

  narrow_fits : (i : ℕ) → byte b i < names
  narrow_fits i = omega (arith, h i)

  -- with either kind of name
  write-fits : (tag : ℕ) → WriteFits (write_of tag b)
  unfolding write_of wide_write narrow_write
  write-fits tag = go (is_wide tag)
    where
      go : (wide : Bool) → WriteFits (cond wide (wide_write b) (narrow_write b))
      go true = record { address = h 0; name = half-fits 1; epoch = word_fits 3; block = word_fits 7 }
      go false = record { address = h 0; name = narrow_fits 1; epoch = word_fits 2; block = word_fits 6 }

  rule_fits : (tag : ℕ) → rule_fault (rule_of tag b) ≡ 0 → RuleFits (rule_of tag b)
  unfolding rule_fault rule_of wide_rule narrow_rule
  rule_fits tag e = go (is_wide tag) e
    where
      known : (p : ℕ) (t : Bool) → ltb 2 p ≡ t → ◌≡◌ {A = ℕ} (cond t 5 0) 0 → p ≤ 2
      known p true q z = absurd (omega arith)
      known p false q z = ltb-false _ _ q

      go : (wide : Bool) → rule_fault (cond wide (wide_rule b) (narrow_rule b)) ≡ 0 → RuleFits (cond wide (wide_rule b) (narrow_rule b))
      go true z = record { first = half-fits 0; predicate = known (byte b 2) (ltb 2 (byte b 2)) refl z; second = half-fits 3 }
      go false z = record { first = narrow_fits 0; predicate = known (byte b 1) (ltb 2 (byte b 1)) refl z; second = narrow_fits 2 }

-- ---- what has been read

pub record Fitting (p : Progress) : Type 0 where
  pub rules : (r : Rule) → Memᴰ r p.rules → RuleFits r
  pub tests : (t : Test) → Memᴰ t p.tests → TestFits t
  pub current : TestFits p.current

-- one element more
also : {A : Type 0} (P : A → Type 0) (xs : List A) (x : A) → ((y : A) → Memᴰ y xs → P y) → P x → (y : A) → Memᴰ y (xs ++ (x ∷ [])) → P y
also P xs x h k y m = ⊎_elim (h y) (λ i. let e : y ≡ x = Memᴰ.eq_of_singleton i in rw e k) (Memᴰ.append_cases xs m)

none-fits : TestFits (test [] [] [])
none-fits = record { initial = λ w m. absurd (Memᴰ.not-nil m); main = λ w m. absurd (Memᴰ.not-nil m); checks = λ c m. absurd (Memᴰ.not-nil m) }

pub fitting_start : Fitting nothing
unfolding nothing
fitting_start = record { rules = λ r m. absurd (Memᴰ.not-nil m); tests = λ t m. absurd (Memᴰ.not-nil m); current = none-fits }

module _ (p : Progress) (f : Fitting p) where
  one-initial : (w : Write) → WriteFits w → Fitting (progress p.rules p.tests true (test (p.current.initial ++ (w ∷ [])) p.current.main p.current.checks))
  one-initial w k = record { rules = f.rules; tests = f.tests; current = record { initial = also WriteFits p.current.initial w f.current.initial k; main = f.current.main; checks = f.current.checks } }

  one-main : (w : Write) → WriteFits w → Fitting (progress p.rules p.tests true (test p.current.initial (p.current.main ++ (w ∷ [])) p.current.checks))
  one-main w k = record { rules = f.rules; tests = f.tests; current = record { initial = f.current.initial; main = also WriteFits p.current.main w f.current.main k; checks = f.current.checks } }

  one-rule : (r : Rule) → RuleFits r → Fitting (progress (p.rules ++ (r ∷ [])) p.tests p.begun p.current)
  one-rule r k = record { rules = also RuleFits p.rules r f.rules k; tests = f.tests; current = f.current }

  one_check : (c : Check) → CheckFits c → Fitting (progress p.rules p.tests true (test p.current.initial p.current.main (p.current.checks ++ (c ∷ []))))
  one_check c k = record { rules = f.rules; tests = f.tests; current = record { initial = f.current.initial; main = f.current.main; checks = also CheckFits p.current.checks c f.current.checks k } }

  pub fitting_on : (b : List ℕ) → Bounded b → (tag : ℕ) → is_tag tag ≡ true → body_fault tag b ≡ 0 → Fitting (grown tag b p)
  unfolding grown body_fault check_of CheckFits is_rule kind_of is_wide
  fitting_on b h =
      by_tag (λ tag. body_fault tag b ≡ 0 → Fitting (grown tag b p))
      (λ e. one-initial (write_of 1 b) (write-fits b h 1)) (λ e. one-main (write_of 2 b) (write-fits b h 2)) (λ e. one-rule (rule_of 3 b) (rule_fits b h 3 e))
      (λ e. one_check (check_of 4 b) (h 0))
      (λ e. one_check (check_of 5 b) (h 0, word_fits b h 1, h 5, word_fits b h 6))
      (λ e. one_check (check_of 6 b) (h 0))
      (λ e. record { rules = f.rules; tests = also TestFits p.tests p.current f.tests f.current; current = none-fits })
      (λ e. one-initial (write_of 8 b) (write-fits b h 8)) (λ e. one-main (write_of 9 b) (write-fits b h 9)) (λ e. one-rule (rule_of 10 b) (rule_fits b h 10 e))
