-- Lists of conditions, whatever they are about: how what is given is shown, test by test, and that it is one outcome.
use mathlib.Core.Path.{◌≡◌, refl, sym, ap, subst}
use mathlib.Core.Logic.{◌⊎◌, inl, inr, ⊎_elim}
use mathlib.Core.Bool.{Bool, true, false, false≢true}
use mathlib.Core.List.{List, [], ◌∷◌}
use Prim.Native.Nat.{ℕ}
use native.Mathlib.Omega.{arith}
use Rattle.model.specs.Answer.{Outcome, answer, refused}
use Rattle.run_laws.specs.Gives.{Condition, by, Gives}

pub answer-refused : {A : Type 0} {x : A} {number place : ℕ} → answer x ≡ refused number place → ⊥
answer-refused e = let z : ◌≡◌ {A = ℕ} 0 1 = cc in omega arith

-- ---- what is given

pub met : (k : Condition) (ks : List Condition) (P : ℕ → Type 0) (number place : ℕ) → k number place → Gives (k ∷ ks) P (refused number place)
unfolding Gives
met k ks P number place h = inl h

pub unmet : (k : Condition) (ks : List Condition) (P : ℕ → Type 0) (o : Outcome ℕ) → ((i j : ℕ) → k i j → ⊥) → Gives ks P o → Gives (k ∷ ks) P o
unfolding Gives
unmet k ks P (answer n) h g = (h, g)
unmet k ks P (refused number place) h g = inr (h, g)

-- no condition is left
pub done : (P : ℕ → Type 0) (n : ℕ) (o : Outcome ℕ) → o ≡ answer n → P n → Gives [] P o
unfolding Gives
done P n o e h = rw e h

-- a condition that is decided: it is the next test
pub tested : (k : ℕ) (Q : Type 0) (ks : List Condition) (P : ℕ → Type 0) (o : Outcome ℕ) → Q ⊎ (Q → ⊥) → (Q → o ≡ refused k 0) → ((Q → ⊥) → Gives ks P o)
    → Gives (by k Q ∷ ks) P o
tested k Q ks P o d refuses goes_on = ⊎_elim
    (λ q. subst (Gives (by k Q ∷ ks) P) (sym (refuses q)) (met (by k Q) ks P k 0 (q, refl, refl)))
    (λ n. unmet (by k Q) ks P o (λ i j h. n h.0) (goes_on n))
    d

-- .. by a Bool
pub tested_by : (k : ℕ) (Q : Type 0) (ks : List Condition) (P : ℕ → Type 0) (o : Outcome ℕ) (t : Bool) → (t ≡ true → Q) → (Q → t ≡ true) → (t ≡ true → o ≡ refused k 0)
    → (t ≡ false → Gives ks P o) → Gives (by k Q ∷ ks) P o
tested_by k Q ks P o true holds decides refuses goes_on = tested k Q ks P o (inl (holds refl)) (λ q. refuses refl) (λ n. absurd (n (holds refl)))
tested_by k Q ks P o false holds decides refuses goes_on = tested k Q ks P o (inr (λ q. false≢true (decides q))) (λ q. absurd (false≢true (decides q))) (λ n. goes_on refl)

-- what answers has met none, and gives the answer
pub past : (k : ℕ) (Q : Type 0) (ks : List Condition) (P : ℕ → Type 0) (n : ℕ) → Gives (by k Q ∷ ks) P (answer n) → (Q → ⊥) × Gives ks P (answer n)
unfolding Gives
past k Q ks P n g = (λ q. g.0 k 0 (q, refl, refl), g.1)

pub gives-answer : (ks : List Condition) (P : ℕ → Type 0) (n : ℕ) → Gives ks P (answer n) → P n
unfolding Gives
gives-answer [] P n g = g
gives-answer (k ∷ ks) P n g = gives-answer ks P n g.1

-- ---- it is one outcome

-- a condition refuses with one number and place
abbrev pub Single : Condition → Type 0
Single k = (a b i j : ℕ) → k a b → k i j → ◌≡◌ {A = Outcome ℕ} (refused a b) (refused i j)

pub by_single : (k : ℕ) (Q : Type 0) → Single (by k Q)
by_single k Q a b i j g h = rw (g.1, g.2, h.1, h.2)

unfoldable pub Singles : List Condition → Type 0
Singles [] = Unit {0}
Singles (k ∷ ks) = Single k × Singles ks

pub gives_one : (ks : List Condition) (P : ℕ → Type 0) → Singles ks → ((m n : ℕ) → P m → P n → m ≡ n) → (o p : Outcome ℕ) → Gives ks P o → Gives ks P p → o ≡ p
unfolding Gives Singles
gives_one [] P s one (answer m) (answer n) g h = ap answer (one m n g h)
gives_one [] P s one (answer m) (refused i j) g h = absurd h
gives_one [] P s one (refused a b) p g h = absurd g
gives_one (k ∷ ks) P s one (answer m) (answer n) g h = gives_one ks P s.1 one (answer m) (answer n) g.1 h.1
gives_one (k ∷ ks) P s one (answer m) (refused i j) g h = ⊎_elim (λ x. absurd (g.0 i j x)) (λ x. gives_one ks P s.1 one (answer m) (refused i j) g.1 x.1) h
gives_one (k ∷ ks) P s one (refused a b) (answer n) g h = ⊎_elim (λ x. absurd (h.0 a b x)) (λ x. gives_one ks P s.1 one (refused a b) (answer n) x.1 h.1) g
gives_one (k ∷ ks) P s one (refused a b) (refused i j) g h = ⊎_elim
    (λ x. ⊎_elim (λ y. s.0 a b i j x y) (λ y. absurd (y.0 a b x)) h)
    (λ x. ⊎_elim (λ y. absurd (x.0 i j y)) (λ y. gives_one ks P s.1 one (refused a b) (refused i j) x.1 y.1) h)
    g
