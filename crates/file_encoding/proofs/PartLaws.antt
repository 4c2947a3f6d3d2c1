-- Each part is read from its bytes, and writes them back: a number by division, a body byte by byte.
use mathlib.Core.Path.{◌≡◌, refl, sym, ap, ap₂, ◌∙◌}
use mathlib.Core.List.{List, [], ◌∷◌, ◌++◌}
use Prim.Native.Nat.{ℕ, ◌+◌, ◌*◌, ◌/◌, ◌%◌, ◌<◌}
use native.Mathlib.Omega.{arith}
use lib.ListN.{length}
use lib.Seq.{ext_get_or}
use Rattle.relation.specs.Lists.{tabulate}
use Rattle.relation.proofs.ListLaws.{length-tabulate, get_or_tabulate}
use Rattle.model.specs.Limits.{words}
use Rattle.model.specs.declared.Write.{Write}
use Rattle.model.specs.declared.Rule.{Rule}
use Rattle.model.specs.declared.Check.TheVariants.{Pair}
use Rattle.file_format.specs.Bytes.{byte, half, word, bytes2, bytes4, narrow_write_bytes, wide_write_bytes, narrow_rule_bytes, wide_rule_bytes}
use Rattle.file_format.specs.File.{narrow_write, wide_write, narrow_rule, wide_rule, check_of, narrow_rule_length, wide_rule_length, narrow_write_length, wide_write_length, pair_length, address_length}
use Rattle.file_format.proofs.ByteLaws.{number}
use Rattle.file_format.specs.Encode.{field_bytes, check_field_bytes}

-- ---- numbers

-- four bytes are those of their number
digits : (a b c d : ℕ) → a < 256 → b < 256 → c < 256 → d < 256 → bytes4 ((a * 256 + b) * 65536 + (c * 256 + d)) ≡ a ∷ b ∷ c ∷ d ∷ []
digits a b c d ha hb hc hd =
    let p : ((a * 256 + b) * 65536 + (c * 256 + d)) / 16777216 % 256 ≡ a = omega arith in
    let q : ((a * 256 + b) * 65536 + (c * 256 + d)) / 65536 % 256 ≡ b = omega arith in
    let r : ((a * 256 + b) * 65536 + (c * 256 + d)) / 256 % 256 ≡ c = omega arith in
    let t : ((a * 256 + b) * 65536 + (c * 256 + d)) % 256 ≡ d = omega arith in
    rw (p, q, r, t)

-- ---- from the part to its bytes and back

-- two bytes are those of their number
pub half_back : (n : ℕ) → n / 256 * 256 + n % 256 ≡ n
half_back n = omega arith

-- (an address and a name of one byte are a byte each)
pub narrow_words-back : (w : Write) → w.epoch < words → w.block < words → narrow_write (narrow_write_bytes w) ≡ w
unfolding narrow_write narrow_write_bytes word half
narrow_words-back w e b = rw (number w.epoch e, number w.block b)

pub wide-words-back : (w : Write) → w.epoch < words → w.block < words → wide_write (wide_write_bytes w) ≡ w
unfolding wide_write wide_write_bytes word half
wide-words-back w e b = rw (half_back w.name, number w.epoch e, number w.block b)

pub narrow_rule-back : (r : Rule) → narrow_rule (narrow_rule_bytes r) ≡ r
unfolding narrow_rule narrow_rule_bytes
narrow_rule-back r = refl

pub wide-rule-back : (r : Rule) → wide_rule (wide_rule_bytes r) ≡ r
unfolding wide_rule wide_rule_bytes half
wide-rule-back r = rw (half_back r.first, half_back r.second)

pub pair_back : (a v b w : ℕ) → v < words → w < words → check_of 5 (a ∷ (bytes4 v ++ (b ∷ bytes4 w))) ≡ Pair a v b w
unfolding check_of word half
pair_back a v b w h k = rw (number v h, number w k)

-- ---- from the bytes to the part and back

-- bytes are below 256, at every place, as behind the end stands a 0
abbrev pub Bounded : List ℕ → Type 0
Bounded b = (i : ℕ) → byte b i < 256

spelled : (b : List ℕ) (n : ℕ) → length b ≡ n → tabulate (byte b) n ≡ b
spelled b n e = ext_get_or 0 _ _ (length-tabulate (byte b) n ∙ sym e) (λ i h. get_or_tabulate (byte b) n i 0 (omega (arith, length-tabulate (byte b) n)))

module _ (b : List ℕ) (small : Bounded b) where
  word_digits : (i : ℕ) → bytes4 (word b i) ≡ byte b i ∷ byte b (i + 1) ∷ byte b (i + 2) ∷ byte b (i + 2 + 1) ∷ []
  unfolding word half
  word_digits i = digits _ _ _ _ (small i) (small (i + 1)) (small (i + 2)) (small (i + 2 + 1))

  half_digits : (i : ℕ) → bytes2 (half b i) ≡ byte b i ∷ byte b (i + 1) ∷ []
  unfolding half
  half_digits i =
      let l = small (i + 1) in
      let p : (byte b i * 256 + byte b (i + 1)) / 256 ≡ byte b i = omega arith in
      let q : (byte b i * 256 + byte b (i + 1)) % 256 ≡ byte b (i + 1) = omega arith in
      rw (p, q)

  pub narrow_write_forth : length b ≡ narrow_write_length → narrow_write_bytes (narrow_write b) ≡ b
  unfolding narrow_write_bytes narrow_write tabulate
  narrow_write_forth e = ap₂ (λ (x y : List ℕ). byte b 0 ∷ byte b 1 ∷ (x ++ y)) (word_digits 2) (word_digits 6) ∙ spelled b narrow_write_length e

  pub wide-write_forth : length b ≡ wide_write_length → wide_write_bytes (wide_write b) ≡ b
  unfolding wide_write_bytes wide_write tabulate
  wide-write_forth e =
      ap₂ (λ (x y : List ℕ). byte b 0 ∷ (x ++ y)) (half_digits 1) (ap₂ (λ (x y : List ℕ). x ++ y) (word_digits 3) (word_digits 7)) ∙ spelled b wide_write_length e

  pub wide-rule_forth : length b ≡ wide_rule_length → wide_rule_bytes (wide_rule b) ≡ b
  unfolding wide_rule_bytes wide_rule tabulate
  wide-rule_forth e = ap₂ (λ (x y : List ℕ). x ++ (byte b 2 ∷ y)) (half_digits 0) (half_digits 3) ∙ spelled b wide_rule_length e

  pub pair_forth : length b ≡ pair_length → check_field_bytes (check_of 5 b) ≡ field_bytes 5 b
  unfolding check_field_bytes check_of tabulate
  pair_forth e = ap₂ (λ (x y : List ℕ). field_bytes 5 (byte b 0 ∷ (x ++ (byte b 5 ∷ y)))) (word_digits 1) (word_digits 6) ∙ ap (field_bytes 5) (spelled b pair_length e)

pub narrow_rule_forth : (b : List ℕ) → length b ≡ narrow_rule_length → narrow_rule_bytes (narrow_rule b) ≡ b
unfolding narrow_rule_bytes narrow_rule tabulate
narrow_rule_forth b e = spelled b narrow_rule_length e

pub range_forth : (b : List ℕ) → length b ≡ address_length → check_field_bytes (check_of 4 b) ≡ field_bytes 4 b
unfolding check_field_bytes check_of tabulate
range_forth b e = ap (field_bytes 4) (spelled b address_length e)

pub pointer_forth : (b : List ℕ) → length b ≡ address_length → check_field_bytes (check_of 6 b) ≡ field_bytes 6 b
unfolding check_field_bytes check_of tabulate
pointer_forth b e = ap (field_bytes 6) (spelled b address_length e)
