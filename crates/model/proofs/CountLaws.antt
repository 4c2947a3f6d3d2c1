-- Counts of the numbers below a bound that pass a test: none, all, some or one of them; of tests that agree, and of a narrower one; of a sum; split by a second test; and
-- of two tests that a bit turns into each other. By induction on the bound, the last one by blocks of 2 ^ (h + 1) numbers.
use mathlib.Core.Path.{◌≡◌, refl, sym, ap, ◌∙◌}
use mathlib.Core.Logic.{⊎_elim}
use mathlib.Core.Bool.{Bool, true, false, cond, not, ◌&&◌, false≢true}
use Prim.Native.Nat.{ℕ, zero, suc, ◌+◌, ◌-◌, ◌*◌, ◌^◌, ◌≤◌, ◌<◌}
use native.Mathlib.Nat.{add-zero, add-suc, zero-mul, suc-mul, pow-suc}
use native.Mathlib.Decide.{dec_lt}
use native.Mathlib.Omega.{arith}
use lib.Arith.{digits_mod}
use lib.Count.{ones_in, ones}
use lib.Pow.{pow-add}
use Rattle.relation.specs.Bits.{bit}
use Rattle.relation.proofs.BitLaws.{bit_mod}
use Rattle.relation.proofs.ListLaws.{clash, untrue, below_suc}
use Rattle.relation.proofs.UnionLaws.{bit_past, bit_top, bit-under}
use Rattle.relation.proofs.WithoutLaws.{ones-without}
use Rattle.model.specs.Test.{count_below}

-- a count is 0 exactly if nothing below the bound passes
pub count_none : (p : ℕ → Bool) (n : ℕ) → count_below p n ≡ 0 → (s : ℕ) → s < n → p s ≡ false
unfolding count_below
count_none p zero e s l = absurd (omega arith)
count_none p (suc n) e s l = ⊎_elim
    (λ (q : s ≡ n). rw q (here (p n) (count_below p n) e))
    (λ (q : s < n). count_none p n (there (p n) (count_below p n) e) s q)
    (below_suc s n l)
  where
    here : (b : Bool) (k : ℕ) → cond b 1 0 + k ≡ 0 → b ≡ false
    here true k z = absurd (omega arith)
    here false k z = refl

    there : (b : Bool) (k : ℕ) → cond b 1 0 + k ≡ 0 → k ≡ 0
    there true k z = absurd (omega arith)
    there false k z = omega arith

pub none-count : (p : ℕ → Bool) (n : ℕ) → ((s : ℕ) → s < n → p s ≡ false) → count_below p n ≡ 0
unfolding count_below
none-count p zero h = refl
none-count p (suc n) h = rw (h n (omega arith), none-count p n (λ s l. h s (omega arith)))

-- all pass
pub count-all : (p : ℕ → Bool) (n : ℕ) → ((s : ℕ) → p s ≡ true) → count_below p n ≡ n
unfolding count_below
count-all p zero h = refl
count-all p (suc n) h = rw (h n, count-all p n h) (omega arith)

pub count_ext : (p q : ℕ → Bool) (n : ℕ) → ((s : ℕ) → s < n → p s ≡ q s) → count_below p n ≡ count_below q n
unfolding count_below
count_ext p q zero h = refl
count_ext p q (suc n) h = rw (h n (omega arith), count_ext p q n (λ s l. h s (omega arith)))

-- those below a sum are those below its first part, and those behind
pub count-append : (p : ℕ → Bool) (a b : ℕ) → count_below p (a + b) ≡ count_below p a + count_below (λ k. p (a + k)) b
unfolding count_below
count-append p a zero = rw (add-zero a) (omega arith)
count-append p a (suc b) = let h = count-append p a b in rw (add-suc a b) (omega arith)

pub count_most : (p : ℕ → Bool) (n : ℕ) → count_below p n ≤ n
unfolding count_below
count_most p zero = omega arith
count_most p (suc n) = go (p n) (count_most p n)
  where
    go : (b : Bool) → count_below p n ≤ n → cond b 1 0 + count_below p n ≤ suc n
    go true h = omega arith
    go false h = omega arith

-- those that pass a narrower test are no more
pub count_less : (p q : ℕ → Bool) (n : ℕ) → ((s : ℕ) → p s ≡ true → q s ≡ true) → count_below p n ≤ count_below q n
unfolding count_below
count_less p q zero f = omega arith
count_less p q (suc n) f = let h = count_less p q n f in let k = go (p n) (q n) refl refl in omega (arith, h, k)
  where
    go : (a b : Bool) → p n ≡ a → q n ≡ b → cond a 1 0 ≤ cond b 1 0
    go true true e z = omega arith
    go true false e z = clash (q n) (f n e) z
    go false b e z = omega arith

-- one that passes is counted
pub count-some : (p : ℕ → Bool) (n s : ℕ) → s < n → p s ≡ true → 0 < count_below p n
count-some p n s h e = go (count_below p n) refl
  where
    go : (k : ℕ) → count_below p n ≡ k → 0 < count_below p n
    go zero z = clash (p s) e (count_none p n z s h)
    go (suc k) z = omega (arith, z)

-- by a second test
pub count-split : (p t : ℕ → Bool) (n : ℕ) → count_below p n ≡ count_below (λ s. p s && not (t s)) n + count_below (λ s. p s && t s) n
unfolding count_below
count-split p t zero = refl
count-split p t (suc n) = let h = count-split p t n in let k = one (p n) (t n) in omega (arith, h, k)
  where
    one : (a b : Bool) → cond a 1 0 ≡ cond (a && not b) 1 0 + cond (a && b) 1 0
    one true true = refl
    one true false = refl
    one false b = refl

-- one number alone
pub count-one : (p : ℕ → Bool) (n c : ℕ) → c < n → p c ≡ true → ((s : ℕ) → p s ≡ true → s ≡ c) → count_below p n ≡ 1
unfolding count_below
count-one p zero c h e one = absurd (omega arith)
count-one p (suc n) c h e one =
    ⊎_elim
    (λ (z : c ≡ n).
    let rest : count_below p n ≡ 0 = none-count p n (λ s l. untrue (p s) (λ q. absurd (omega (arith, one s q, l, z)))) in
    rw (sym (ap p z) ∙ e, rest))
    (λ (l : c < n). rw (untrue (p n) (λ q. absurd (omega (arith, one n q, l))), count-one p n c l e one))
    (below_suc c n h)

-- the members of a set are as many as its number has ones: by the highest one
pub count_members : (n s : ℕ) → s < 2 ^ n → count_below (bit s) n ≡ ones s
unfolding count_below
count_members zero s h = let z : s ≡ 0 = omega (arith, h) in rw z (unfold ones ones_in in refl)
count_members (suc n) s h = let d = pow-suc 2 n in elim (dec_lt s (2 ^ n)) [
  | yes l ↦ let r = count_members n s l in rw (bit_past s n l) (omega (arith, r))
  | no l ↦
      let x = s - 2 ^ n in
      let e : s ≡ 2 ^ n + x = omega (arith, l) in
      let b : x < 2 ^ n = omega (arith, l, h, d) in
      let top : bit s n ≡ true = ap (λ (k : ℕ). bit k n) e ∙ bit_top x n b in
      let rest : count_below (bit s) n ≡ count_below (bit x) n = count_ext (bit s) (bit x) n (λ j k. ap (λ (y : ℕ). bit y j) e ∙ bit-under x n j b k) in
      let r = count_members n x b in
      let o = ones-without s n top in
      rw top (omega (arith, rest, r, o))
]

-- ---- two tests that a bit turns into each other

-- the numbers of a block of 2 ^ (h + 1): those of its first half have no bit h, those of its second half have it
module _ (h k i : ℕ) (l : i < 2 ^ h) where
  pub low_bit : bit (k * 2 ^ suc h + i) h ≡ false
  low_bit =
      let d = pow-suc 2 h in
      sym (bit_mod (k * 2 ^ suc h + i) (suc h) h (omega arith)) ∙ ap (λ (x : ℕ). bit x h) (digits_mod k {m = 2 ^ suc h} {r = i} (omega (arith, d, l))) ∙ bit_past i h l

  pub high_bit : bit (k * 2 ^ suc h + (2 ^ h + i)) h ≡ true
  high_bit =
      let d = pow-suc 2 h in
      sym (bit_mod (k * 2 ^ suc h + (2 ^ h + i)) (suc h) h (omega arith)) ∙ ap (λ (x : ℕ). bit x h) (digits_mod k {m = 2 ^ suc h} {r = 2 ^ h + i} (omega (arith, d, l))) ∙ bit_top i h l

module _ (h : ℕ) (p q : ℕ → Bool) (with_it : (s : ℕ) → p s ≡ true → bit s h ≡ true) (without-it : (s : ℕ) → q s ≡ true → bit s h ≡ false)
    (turned : (s : ℕ) → bit s h ≡ false → p (s + 2 ^ h) ≡ q s) where
  blocks : (k : ℕ) → count_below p (k * 2 ^ suc h) ≡ count_below q (k * 2 ^ suc h)
  blocks zero = rw (zero-mul (2 ^ suc h)) (unfold count_below in refl)
  blocks (suc k) =
      rw (suc-mul k (2 ^ suc h), count-append p (k * 2 ^ suc h) (2 ^ suc h), count-append q (k * 2 ^ suc h) (2 ^ suc h), blocks k)
      (ap (λ (x : ℕ). count_below q (k * 2 ^ suc h) + x) block)
    where
      d : 2 ^ suc h ≡ 2 ^ h + 2 ^ h
      d = let e = pow-suc 2 h in omega (arith, e)

      b : ℕ
      b = k * 2 ^ suc h

      first : count_below (λ i. p (b + i)) (2 ^ h) ≡ 0
      first = none-count (λ i. p (b + i)) (2 ^ h) (λ i l. untrue (p (b + i)) (λ e. absurd (false≢true (sym (low_bit h k i l) ∙ with_it (b + i) e))))

      second : count_below (λ i. q (b + (2 ^ h + i))) (2 ^ h) ≡ 0
      second = none-count (λ i. q (b + (2 ^ h + i))) (2 ^ h) (λ i l. untrue (q (b + (2 ^ h + i))) (λ e. absurd (false≢true (sym (without-it (b + (2 ^ h + i)) e) ∙ high_bit h k i l))))

      moved : count_below (λ i. p (b + (2 ^ h + i))) (2 ^ h) ≡ count_below (λ i. q (b + i)) (2 ^ h)
      moved =
          count_ext (λ i. p (b + (2 ^ h + i))) (λ i. q (b + i)) (2 ^ h)
          (λ i l. ap p {x = b + (2 ^ h + i)} {y = b + i + 2 ^ h} (omega arith) ∙ turned (b + i) (low_bit h k i l))

      block : count_below (λ i. p (b + i)) (2 ^ suc h) ≡ count_below (λ i. q (b + i)) (2 ^ suc h)
      block =
          ap (count_below (λ i. p (b + i))) d
          ∙ count-append (λ i. p (b + i)) (2 ^ h) (2 ^ h)
          ∙ rw (first, second, moved) (omega arith)
          ∙ sym (count-append (λ i. q (b + i)) (2 ^ h) (2 ^ h))
          ∙ sym (ap (count_below (λ i. q (b + i))) d)

  pub count-turned : (n : ℕ) → h < n → count_below p (2 ^ n) ≡ count_below q (2 ^ n)
  count-turned n l =
      let z : n - suc h + suc h ≡ n = omega (arith, l) in
      let e : 2 ^ (n - suc h) * 2 ^ suc h ≡ 2 ^ n = sym (pow-add 2 (n - suc h) (suc h)) ∙ ap (λ (x : ℕ). 2 ^ x) z in
      sym (ap (count_below p) e) ∙ blocks (2 ^ (n - suc h)) ∙ ap (count_below q) e
