-- Fields by their places: a reader that is handed the middle part of a file reads the field there.
use mathlib.Core.Path.{◌≡◌, refl, sym, ◌∙◌}
use mathlib.Core.Bool.{Bool, true, false, ◌&&◌, false≢true}
use mathlib.Core.List.{List}
use Prim.Native.Nat.{ℕ, ◌-◌, ◌≤◌, ◌<◌}
use native.Mathlib.Decide.{dec_lt}
use native.Mathlib.Omega.{arith}
use lib.ListN.{length}
use lib.Dec.{leb}
use borrow.Author.Rules.{rules}
use borrow.Author.Tests.{eqb-true, ltb-true, ltb-false, leb-true}
use Rattle.model.specs.declared.Rule.{Rule}
use Rattle.model.specs.declared.Write.{Write}
use Rattle.model.specs.declared.Check.{Check}
use Rattle.model.specs.declared.Check.TheVariants.{Range, Pointer}
use Rattle.file_format.specs.Bytes.{byte}
use Rattle.file_format.specs.File.{end_tag, is_wide, kind_of, is_rule, is_write, is_check, narrow_rule_length, wide_rule_length, narrow_write_length, wide_write_length, body_length, narrow_rule, wide_rule, rule_of, narrow_write, wide_write, write_of, check_of, pair_length}

and_both : (a b : Bool) → a && b ≡ true → (a ≡ true) × (b ≡ true)
and_both true b e = (refl, e)
and_both false b e = absurd (false≢true e)

-- as long as the tag's names make them
module _ (tag : ℕ) (b : List ℕ) (w : Bool) (q : w ≡ is_wide tag) where
  is-wide : w ≡ true → end_tag < tag
  unfolding is_wide
  is-wide e = ltb-true end_tag tag (sym q ∙ e)

  is-narrow : w ≡ false → tag ≤ end_tag
  unfolding is_wide
  is-narrow e = ltb-false end_tag tag (sym q ∙ e)

  kind-wide : w ≡ true → kind_of tag ≡ tag - end_tag
  unfolding kind_of
  kind-wide e = rw (sym q ∙ e)

  kind_narrow : w ≡ false → kind_of tag ≡ tag
  unfolding kind_of
  kind_narrow e = rw (sym q ∙ e)

  module _ (size : length b ≡ body_length tag) where
    module _ (h : is_rule tag ≡ true) where
      kind-rule : kind_of tag ≡ 3
      unfolding is_rule
      kind-rule = eqb-true (kind_of tag) 3 h

      pub wide-rule-long : w ≡ true → length b ≡ wide_rule_length
      unfolding body_length is_wide
      wide-rule-long e =
          let l = is-wide e in let k = kind-wide e in let r = kind-rule in let t : tag ≡ 10 = omega arith in
          size ∙ rw t

      pub narrow_rule-long : w ≡ false → length b ≡ narrow_rule_length
      unfolding body_length is_wide
      narrow_rule-long e =
          let k = kind_narrow e in let r = kind-rule in let t : tag ≡ 3 = omega arith in
          size ∙ rw t

    module _ (h : is_write tag ≡ true) where
      kind-write : (1 ≤ kind_of tag) × (kind_of tag ≤ 2)
      unfolding is_write
      kind-write = let p = and_both (leb 1 (kind_of tag)) (leb (kind_of tag) 2) h in (leb-true 1 (kind_of tag) p.0, leb-true (kind_of tag) 2 p.1)

      pub wide-write-long : w ≡ true → length b ≡ wide_write_length
      unfolding body_length
      wide-write-long e =
          let l = is-wide e in let k = kind-wide e in let u = kind-write.1 in
          size ∙ elim (dec_lt tag 9) [
            | yes h ↦ let t : tag ≡ 8 = omega (arith, h) in rw t
            | no h ↦ let t : tag ≡ 9 = omega (arith, h) in rw t
          ]

      pub narrow_write-long : w ≡ false → length b ≡ narrow_write_length
      unfolding body_length
      narrow_write-long e =
          let k = kind_narrow e in let l = kind-write.0 in let u = kind-write.1 in
          size ∙ elim (dec_lt tag 2) [
            | yes h ↦ let t : tag ≡ 1 = omega (arith, h) in rw t
            | no h ↦ let t : tag ≡ 2 = omega (arith, h) in rw t
          ]

  pub wide-rule-read : (r : Rule) → w ≡ true → r ≡ wide_rule b → r ≡ rule_of tag b
  unfolding rule_of
  wide-rule-read r e h = h ∙ rw (← q, e)

  pub narrow_rule-read : (r : Rule) → w ≡ false → r ≡ narrow_rule b → r ≡ rule_of tag b
  unfolding rule_of
  narrow_rule-read r e h = h ∙ rw (← q, e)

  pub wide-write-read : (r : Write) → w ≡ true → r ≡ wide_write b → r ≡ write_of tag b
  unfolding write_of
  wide-write-read r e h = h ∙ rw (← q, e)

  pub narrow_write-read : (r : Write) → w ≡ false → r ≡ narrow_write b → r ≡ write_of tag b
  unfolding write_of
  narrow_write-read r e h = h ∙ rw (← q, e)

module _ (tag : ℕ) (b : List ℕ) where
  pub one-byte-range : tag ≡ 4 → length b ≡ body_length tag → 0 < length b
  unfolding body_length
  one-byte-range e h = let q : length b ≡ 1 = h ∙ rw e in omega arith

  pub pair_bytes : tag ≡ 5 → length b ≡ body_length tag → length b ≡ pair_length
  unfolding body_length
  pair_bytes e h = h ∙ rw e

  is_pointer : is_check tag ≡ true → (tag ≡ 4 → ⊥) → (tag ≡ 5 → ⊥) → tag ≡ 6
  unfolding is_check
  is_pointer h p q =
      let w = and_both (leb 4 tag) (leb tag 6) h in
      let l = leb-true 4 tag w.0 in let u = leb-true tag 6 w.1 in
      omega arith

  pub one-byte_pointer : is_check tag ≡ true → (tag ≡ 4 → ⊥) → (tag ≡ 5 → ⊥) → length b ≡ body_length tag → 0 < length b
  unfolding body_length
  one-byte_pointer h p q e = let z : length b ≡ 1 = e ∙ rw (is_pointer h p q) in omega arith

  pub range-read : tag ≡ 4 → Range (byte b 0) ≡ check_of tag b
  unfolding check_of
  range-read e = rw e

  pub pair_read : (r : Check) → tag ≡ 5 → r ≡ check_of 5 b → r ≡ check_of tag b
  pair_read r e q = rw e q

  pub pointer_read : is_check tag ≡ true → (tag ≡ 4 → ⊥) → (tag ≡ 5 → ⊥) → Pointer (byte b 0) ≡ check_of tag b
  unfolding check_of
  pointer_read h p q = rw (is_pointer h p q)

pub ruleset fields = (rules, wide-rule-long, narrow_rule-long, wide-write-long, narrow_write-long, wide-rule-read, narrow_rule-read, wide-write-read, narrow_write-read, one-byte-range, pair_bytes, one-byte_pointer, range-read, pair_read, pointer_read)
