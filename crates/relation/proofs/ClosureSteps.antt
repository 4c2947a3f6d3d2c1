-- The code's steps: one law for each return and each turn of a loop, whose premises are what is known at that place.
use mathlib.Core.Path.{◌≡◌, refl, sym, ap, ◌∙◌}
use mathlib.Core.Bool.{Bool, true, false}
use mathlib.Core.List.{List, [], ◌∷◌, ◌++◌, map, append-nil}
use Prim.Native.Nat.{ℕ, zero, suc, ◌+◌, ◌≤◌, ◌<◌}
use native.Mathlib.Numerals.{add-one}
use native.Mathlib.Omega.{arith}
use lib.ListN.{length, get_or, take, drop, set, get_or-map, length-map, drop_of_length-le}
use lib.Seq.{take-suc, take-append-le, drop-cons, set_at, get_or_at, get_or-take, take_all, append_snoc, length-take-le}
use lib.Bits.{bit_or}
use borrow.Author.Rules.{rules}
use Rattle.relation.specs.Bits.{bit}
use Rattle.relation.specs.Finite.{joined, round, closed}
use Rattle.relation.proofs.BitLaws.{test_bit, set-bit}

-- ---- join

pub join_on : (b : Bool) (row through k : ℕ) → b ≡ bit row k → b ≡ true → bit_or row through ≡ joined k through row
unfolding joined
join_on b row through k e h = rw (sym e ∙ h)

pub join_off : (b : Bool) (row through k : ℕ) → b ≡ bit row k → b ≡ false → row ≡ joined k through row
unfolding joined
join_off b row through k e h = rw (sym e ∙ h)

-- ---- join_all: a list mapped in place, from the front

abbrev pub mapped : (ℕ → ℕ) → List ℕ → ℕ → List ℕ
mapped f l i = take i (map f l) ++ drop i l

module _ (f : ℕ → ℕ) (l : List ℕ) (i : ℕ) (h : i < length l) where
  front : length (take i (map f l)) ≡ i
  front = length-take-le i (map f l) (omega (arith, length-map l f))

  mapped_at : get_or (mapped f l i) i 0 ≡ get_or l i 0
  mapped_at = rw (drop-cons l i 0 h) (get_or_at (take i (map f l)) (get_or l i 0) (drop (suc i) l) 0 i front)

  mapped_more : set (mapped f l i) i (f (get_or l i 0)) ≡ mapped f l (i + 1)
  mapped_more =
      let hm : i < length (map f l) = rw (length-map l f) h in
      rw (add-one i, drop-cons l i 0 h, set_at (take i (map f l)) (get_or l i 0) (drop (suc i) l) (f (get_or l i 0)) i front, take-suc (map f l) i (f 0) hm, get_or-map f l i 0)
      (sym (append_snoc (take i (map f l)) (f (get_or l i 0)) (drop (suc i) l)))

pub round-more : (k through n : ℕ) (l rows : List ℕ) (i row : ℕ) → n ≤ length l → i < n
    → rows ≡ mapped (joined k through) l i → row ≡ joined k through (get_or rows i 0)
    → set rows i row ≡ mapped (joined k through) l (i + 1)
round-more k through n l rows i row hl h e q =
    let hi : i < length l = omega arith in
    rw (q, e, mapped_at (joined k through) l i hi) (mapped_more (joined k through) l i hi)

take-map : (f : ℕ → ℕ) (n : ℕ) (l : List ℕ) → take n (map f l) ≡ map f (take n l)
take-map f zero l = refl
take-map f (suc n) [] = refl
take-map f (suc n) (x ∷ xs) = ap (λ (t : List ℕ). f x ∷ t) (take-map f n xs)

-- the first n rows of a round, by a row among them, are the round of the first n
round-first : (k n : ℕ) (l : List ℕ) → k < n → take n (round k l) ≡ round k (take n l)
unfolding round
round-first k n l h = rw (get_or-take n l k 0 h) (take-map (joined k (get_or l k 0)) n l)

-- the first n rows are mapped, and put back before the others
pub round-done : (k n : ℕ) (l rows : List ℕ) (i : ℕ) → n ≤ length l → i ≤ length (take n l) → length (take n l) ≤ i
    → rows ≡ mapped (joined k (get_or l k 0)) (take n l) i → take n (rows ++ drop n l) ≡ take n (round k l)
unfolding round
round-done k n l rows i hn a b e =
    let f = joined k (get_or l k 0) in
    let few : length (take n l) ≡ n = length-take-le n l hn in
    let same : i ≡ n = omega arith in
    let whole : rows ≡ map f (take n l)
    = e ∙ rw (same, drop_of_length-le (take n l) {i = n} (omega arith), take_all n (map f (take n l)) (omega (arith, length-map (take n l) f))) (append-nil (map f (take n l))) in
    rw (whole, take-append-le n (map f (take n l)) (drop n l) (omega (arith, length-map (take n l) f)), take_all n (map f (take n l)) (omega (arith, length-map (take n l) f)))
    (sym (take-map f n l))

-- ---- close

pub closed_none : (rows : List ℕ) (n : ℕ) → take n rows ≡ take n (closed 0 rows)
unfolding closed
closed_none rows n = refl

pub closed-more : (l rows next : List ℕ) (k n : ℕ) → k < n → take n rows ≡ take n (closed k l) → take n next ≡ take n (round k rows) → take n next ≡ take n (closed (k + 1) l)
unfolding closed
closed-more l rows next k n h e q = rw (add-one k) (q ∙ round-first k n rows h ∙ ap (round k) e ∙ sym (round-first k n (closed k l) h))

pub closed-done : (l rows : List ℕ) (k n : ℕ) → k ≤ n → n ≤ k → take n rows ≡ take n (closed k l) → take n rows ≡ take n (closed n l)
closed-done l rows k n a b e =
    let q : k ≡ n = omega arith in
    e ∙ ap (λ (j : ℕ). take n (closed j l)) q

pub ruleset steps = (rules, test_bit, set-bit, join_on, join_off, round-more, round-done, closed_none, closed-more, closed-done)
