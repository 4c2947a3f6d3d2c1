-- The members of a set: they are below its length; and going through them, from the highest down or from the lowest up, what is known of those that are no longer left.
use mathlib.Core.Path.{◌≡◌, refl, ◌∙◌}
use mathlib.Core.Bool.{Bool, true, false}
use Prim.Native.Nat.{ℕ, ◌*◌, ◌%◌, ◌^◌, ◌<◌}
use native.Mathlib.Decide.{dec_lt}
use native.Mathlib.Omega.{arith}
use lib.Dec.{eqb, ltb}
use lib.Pow.{pow_mono}
use borrow.Author.Tests.{eqb-true, eq-eqb, ltb-true, ltb-false}
use Rattle.relation.specs.Bits.{bit, without, Highest, Lowest}
use Rattle.relation.proofs.BitLaws.{bit-zero, bit_pow, power_is}
use Rattle.relation.proofs.ListLaws.{clash, untrue}
use Rattle.relation.proofs.WithoutLaws.{bit-most}
use Rattle.relation.proofs.SetLaws.{without_member, member_without, without-falls}

pub member_below : (m n i : ℕ) → m < 2 ^ n → bit m i ≡ true → i < n
member_below m n i h e = elim (dec_lt i n) [
  | yes l ↦ l
  | no l ↦ let p = pow_mono {i = n} {j = i} (omega (arith, l)) in let b = bit-most m i e in absurd (omega (arith, p, b, h))
]

module _ (P : ℕ → Type 0) (set : ℕ) where
  pub record Left (left : ℕ) : Type 0 where
    pub part : (j : ℕ) → bit left j ≡ true → bit set j ≡ true
    pub done : (j : ℕ) → bit set j ≡ true → bit left j ≡ false → P j

  pub left-all : Left set
  left-all = record { part = λ j e. e; done = λ j e f. clash (bit set j) e f }

  pub left-none : (left : ℕ) → Left left → left ≡ 0 → (j : ℕ) → bit set j ≡ true → P j
  left-none left l z j e = l.done j e (rw z (bit-zero j))

  -- any, where all are below 64
  module _ (left h next : ℕ) (l : Left left) (small : (j : ℕ) → bit left j ≡ true → j < 64) (b : h < 64) (q : next ≡ without left (1 * 2 ^ h % 18446744073709551616)) where
    left-without : P h → Left next
    left-without p = rw q (record {
      part = λ j e. l.part j (without_member left _ j e).0;
      done = λ j e f. go j e f (eqb j h) refl;
    })
      where
        go : (j : ℕ) → bit set j ≡ true → bit (without left (1 * 2 ^ h % 18446744073709551616)) j ≡ false → (t : Bool) → eqb j h ≡ t → P j
        go j e f true z = rw (eqb-true j h z) p
        go j e f false z =
            l.done j e
            (untrue (bit left j)
            (λ g. clash (bit (without left (1 * 2 ^ h % 18446744073709551616)) j) (member_without left _ j (small j g) g (rw (power_is h b) (bit_pow h j ∙ z))) f))

  -- the highest
  pub left-next : (left h next : ℕ) → Left left → Highest left h → h < 64 → next ≡ without left (1 * 2 ^ h % 18446744073709551616) → P h → Left next
  unfolding Highest
  left-next left h next l top b q p = left-without left h next l (λ j e. below j e (ltb h j) refl) b q p
    where
      below : (i : ℕ) → bit left i ≡ true → (u : Bool) → ltb h i ≡ u → i < 64
      below i g true k = clash (bit left i) g (top.1 i (ltb-true h i k))
      below i g false k = let m = ltb-false h i k in omega (arith, m)

  -- any, of a word of 64 bits
  pub left_after : (left h next : ℕ) → Left left → left < 2 ^ 64 → h < 64 → next ≡ without left (1 * 2 ^ h % 18446744073709551616) → P h → Left next
  left_after left h next l small b q p = left-without left h next l (λ j e. member_below left 64 j small e) b q p

falls : (left h next : ℕ) → bit left h ≡ true → h < 64 → next ≡ without left (1 * 2 ^ h % 18446744073709551616) → next < left
falls left h next e b q = rw q (without-falls left _ h b e (rw (power_is h b) (bit_pow h h ∙ eq-eqb h h refl)))

pub left_less : (left h next : ℕ) → Highest left h → h < 64 → next ≡ without left (1 * 2 ^ h % 18446744073709551616) → next < left
unfolding Highest
left_less left h next top b q = falls left h next top.0 b q

pub left-fewer : (left h next : ℕ) → Lowest left h → h < 64 → next ≡ without left (1 * 2 ^ h % 18446744073709551616) → next < left
unfolding Lowest
left-fewer left h next low b q = falls left h next low.0 b q
