-- One field more: the array's front is what stands in the file.
use mathlib.Core.Path.{◌≡◌, refl}
use mathlib.Core.Bool.{Bool, true}
use mathlib.Core.List.{List}
use Prim.Native.Nat.{ℕ, ◌+◌, ◌≤◌, ◌<◌}
use native.Mathlib.Numerals.{add-one}
use native.Mathlib.Omega.{arith}
use lib.ListN.{length, take, set}
use lib.Seq.{take-suc-set}
use borrow.Author.Rules.{rules}
use Rattle.relation.specs.Lists.{tabulate}
use Rattle.relation.proofs.ListLaws.{length-tabulate}
use Rattle.file_format.specs.Bytes.{byte}
use Rattle.file_format.specs.File.{is_rule, is_write, is_check, field_end}
use Rattle.file_format.specs.Scan.{field_place, fields_at, rules_at}
use Rattle.file_format.specs.Held.{Fields}
use Rattle.rule_match.specs.declared.Rules.{Rules}
use Rattle.rule_match.specs.Held.{rules_of}
use Rattle.rule_match.proofs.MatchSteps.{length_mapped}

pub fields_length : {A : Type 0} (field : List ℕ → ℕ → A) (s : List ℕ) (at n : ℕ) → length (fields_at field s at n) ≡ n
unfolding fields_at
fields_length field s at n = length-tabulate (λ i. field s (field_place s at i)) n

module _ (s : List ℕ) (from : ℕ) where
  -- ---- the places, one behind the other

  pub place_none : from ≡ field_place s from 0
  unfolding field_place
  place_none = refl

  pub next_place : (at i r : ℕ) → at ≡ field_place s from i → r ≡ field_end s at → r ≡ field_place s from (i + 1)
  unfolding field_place
  next_place at i r e q = rw (add-one i, ← e) q

  pub place-all : (at i n : ℕ) → i ≤ n → n ≤ i → at ≡ field_place s from i → at ≡ field_place s from n
  place-all at i n h k e = let z : i ≡ n = omega arith in rw z at e

  -- what stands at the place reached is a field of its kind inside the file
  module _ (is : ℕ → Bool) (at i n : ℕ) (f : Fields is s from n) (h : i < n) (e : at ≡ field_place s from i) where
    pub field_is : is (byte s at) ≡ true
    field_is = rw e (f i h).0

    pub field_ends : field_end s at ≤ length s
    field_ends = rw e (f i h).1

    pub field-starts : at < length s
    field-starts = let l = field_ends in omega arith

  -- ---- what stands there

  module _ {A : Type 0} (field : List ℕ → ℕ → A) where
    pub fields_none : (l : List A) → take 0 l ≡ fields_at field s from 0
    unfolding fields_at tabulate
    fields_none l = refl

    pub fields_more : (l : List A) (at i n most : ℕ) (r : A) → length l ≡ most → i < n → n ≤ most → at ≡ field_place s from i → take i l ≡ fields_at field s from i → r ≡ field s at
        → take (i + 1) (set l i r) ≡ fields_at field s from (i + 1)
    unfolding fields_at tabulate
    fields_more l at i n most r h lt le p e q = rw (add-one i, take-suc-set l i r (omega arith), e, q, p)

    pub fields_all : (l : List A) (i n : ℕ) → i ≤ n → n ≤ i → take i l ≡ fields_at field s from i → take n l ≡ fields_at field s from n
    fields_all l i n h k e = let z : i ≡ n = omega arith in rw z at e

-- the same for each kind, so that a search finds it
module _ (s : List ℕ) (from at i n : ℕ) where
  pub rule-is : Fields is_rule s from n → i < n → at ≡ field_place s from i → is_rule (byte s at) ≡ true
  rule-is = field_is s from is_rule at i n

  pub write-is : Fields is_write s from n → i < n → at ≡ field_place s from i → is_write (byte s at) ≡ true
  write-is = field_is s from is_write at i n

  pub check_is : Fields is_check s from n → i < n → at ≡ field_place s from i → is_check (byte s at) ≡ true
  check_is = field_is s from is_check at i n

pub ruleset places = (rules, place_none, next_place, place-all, rule-is, write-is, check_is, field_ends, field-starts)

pub ruleset steps = (places, fields_none, fields_more, fields_all)

-- all rules are loaded
pub rules-all : (s : List ℕ) (r : Rules) (i n : ℕ) → i ≤ n → n ≤ i → r.count ≡ n → take i r.items ≡ rules_at s i → rules_of r ≡ rules_at s n
rules-all s r i n h k c e = let z : i ≡ n = omega arith in rw c (rw z at e)

pub ruleset rules_loaded = (steps, length_mapped, rules-all)
