-- A line from its items.
use mathlib.Core.Path.{◌≡◌}
use mathlib.Core.Bool.{cond}
use mathlib.Core.List.{List, [], ◌∷◌, ◌++◌}
use Prim.Native.Nat.{ℕ, suc, ◌+◌, ◌-◌, ◌≤◌}
use native.Mathlib.Omega.{arith}
use lib.Dec.{eqb}
use lib.ListN.{length}
use borrow.Author.Rules.{rules}
use borrow.Author.Tests.{eq-eqb, ne_eqb}
use Rattle.judge_text.specs.Decimal.{decimal, Digits}
use Rattle.file_writing.specs.Writing.{Wrote}
use Rattle.judge_text.specs.Lines.{blank, line_feed, refused_line, test_line, refused_text, holds_text, fails_text}
use Rattle.file_writing.proofs.WroteLaws.{wrote_then}
use Rattle.judge_text.proofs.WriteLaws.{decimal-most}

pub number-most : (n digits : ℕ) → Digits digits n → length (decimal n) ≤ digits
unfolding Digits
number-most n digits (some, few) =
    let z : digits ≡ suc (digits - 1) = omega arith in
    rw z (decimal-most (digits - 1) n (rw z at few))

pub number_fits : (n digits at size : ℕ) → Digits digits n → at + digits ≤ size → at + length (decimal n) ≤ size
number_fits n digits at size h l = let m = number-most n digits h in omega arith

pub number_ends : (n digits at : ℕ) (l l₁ : List ℕ) (r : ℕ) → Digits digits n → Wrote l at (decimal n) l₁ r → r ≤ at + digits
number_ends n digits at l l₁ r h w = let m = number-most n digits h in let p = w.place in omega arith

module _ (l : List ℕ) (at : ℕ) (l₁ l₂ l₃ l₄ l₅ : List ℕ) (r₁ r₂ r₃ r₄ r₅ : ℕ) where
  pub refused-wrote : (number place : ℕ) → Wrote l at (refused_text ++ (blank ∷ [])) l₁ r₁ → Wrote l₁ r₁ (decimal number) l₂ r₂
      → Wrote l₂ r₂ (blank ∷ []) l₃ r₃ → Wrote l₃ r₃ (decimal place) l₄ r₄ → Wrote l₄ r₄ (line_feed ∷ []) l₅ r₅ → Wrote l at (refused_line number place) l₅ r₅
  unfolding refused_line
  refused-wrote number place a b c d e =
      wrote_then _ _ _ _ _ _ _ _ a (wrote_then _ _ _ _ _ _ _ _ b (wrote_then _ _ _ _ _ _ _ _ c (wrote_then _ _ _ _ _ _ _ _ d e)))

  pub line_wrote : (l₆ l₇ l₈ : List ℕ) (r₆ r₇ r₈ k valid bad : ℕ) → Wrote l at (decimal k) l₁ r₁ → Wrote l₁ r₁ (blank ∷ []) l₂ r₂ → Wrote l₂ r₂ (decimal valid) l₃ r₃
      → Wrote l₃ r₃ (blank ∷ []) l₄ r₄ → Wrote l₄ r₄ (decimal bad) l₅ r₅ → Wrote l₅ r₅ (blank ∷ []) l₆ r₆ → Wrote l₆ r₆ (cond (eqb bad 0) holds_text fails_text) l₇ r₇
      → Wrote l₇ r₇ (line_feed ∷ []) l₈ r₈ → Wrote l at (test_line k valid bad) l₈ r₈
  unfolding test_line
  line_wrote l₆ l₇ l₈ r₆ r₇ r₈ k valid bad a b c d e f g h =
      wrote_then _ _ _ _ _ _ _ _ a (wrote_then _ _ _ _ _ _ _ _ b (wrote_then _ _ _ _ _ _ _ _ c (wrote_then _ _ _ _ _ _ _ _ d
      (wrote_then _ _ _ _ _ _ _ _ e (wrote_then _ _ _ _ _ _ _ _ f (wrote_then _ _ _ _ _ _ _ _ g h))))))

module _ (l : List ℕ) (at : ℕ) (l₁ : List ℕ) (r bad : ℕ) where
  pub holds-wrote : bad ≡ 0 → Wrote l at holds_text l₁ r → Wrote l at (cond (eqb bad 0) holds_text fails_text) l₁ r
  holds-wrote e w = rw (eq-eqb bad 0 e) w

  pub fails-wrote : (bad ≡ 0 → ⊥) → Wrote l at fails_text l₁ r → Wrote l at (cond (eqb bad 0) holds_text fails_text) l₁ r
  fails-wrote e w = rw (ne_eqb bad 0 e) w

pub ruleset line_steps = (rules, number_fits, number_ends, refused-wrote, line_wrote, holds-wrote, fails-wrote)
