-- Laws by which `search` follows a definition by cases, in the shape of the tests that the code took.
use mathlib.Core.Path.{◌≡◌, sym, ◌∙◌}
use mathlib.Core.Bool.{Bool, true, false, cond, not, ◌&&◌, ◌||◌}
use borrow.Author.Rules.{rules}
use borrow.Author.Tests.{eq-eqb, ne_eqb, lt-ltb, le-ltb, le-leb, lt-leb, not-true, not-false}

module _ {A : Type 0} where
  pub cond-true : {x : A} (y z : A) (b : Bool) → b ≡ true → x ≡ y → x ≡ cond b y z
  cond-true y z b e q = rw e q

  pub cond-false : {x : A} (y z : A) (b : Bool) → b ≡ false → x ≡ z → x ≡ cond b y z
  cond-false y z b e q = rw e q

pub or-true : (a b : Bool) → a ≡ true → true ≡ a || b
or-true a b e = rw e

pub or_rest : {x : Bool} (a b : Bool) → a ≡ false → x ≡ b → x ≡ a || b
or_rest a b e q = rw e q

pub and-false : (a b : Bool) → a ≡ false → false ≡ a && b
and-false a b e = rw e

pub and-rest : {x : Bool} (a b : Bool) → a ≡ true → x ≡ b → x ≡ a && b
and-rest a b e q = rw e q

pub not_yes : (a : Bool) → a ≡ true → not a ≡ false
not_yes a e = rw e

pub not_no : (a : Bool) → a ≡ false → not a ≡ true
not_no a e = rw e

-- a callee's answer, tested
pub told : {a b : Bool} (x : Bool) → x ≡ a → x ≡ b → a ≡ b
told x e q = sym e ∙ q

pub untold_true : {a : Bool} (x : Bool) → x ≡ a → not x ≡ true → a ≡ false
untold_true x e q = sym e ∙ not-true x q

pub untold_false : {a : Bool} (x : Bool) → x ≡ a → not x ≡ false → a ≡ true
untold_false x e q = sym e ∙ not-false x q

pub ruleset cases = (rules, cond-true, cond-false, or-true, or_rest, and-false, and-rest, not_yes, not_no, eq-eqb, ne_eqb, lt-ltb, le-ltb, le-leb, lt-leb)

-- with tests of callees' answers
pub ruleset calls = (cases, told, untold_true, untold_false)
