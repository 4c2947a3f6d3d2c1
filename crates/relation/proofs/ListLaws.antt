-- What `any_below`, `all_below`, `any`, `all` and `tabulate` say of the numbers below a bound and of a list's members. By induction on either.
use mathlib.Core.Path.{◌≡◌, refl, sym, ap, ◌∙◌}
use mathlib.Core.Logic.{◌⊎◌, inl, inr, ⊎_elim}
use mathlib.Core.Bool.{Bool, true, false, true≢false, false≢true, not, ◌&&◌, ◌||◌, or_assoc, and_assoc, and-true}
use mathlib.Core.List.{List, map, [], ◌∷◌, ◌++◌, Memᴰ}
use Prim.Native.Nat.{ℕ, zero, suc, ◌+◌, ◌<◌}
use native.Mathlib.Nat.{eq-or-lt_of_le, add-zero, add-suc}
use native.Mathlib.Omega.{arith}
use lib.ListN.{length, get_or, length-append, get_or-append}
use lib.Seq.{get_or_at}
use Rattle.relation.specs.Lists.{any_below, all_below, tabulate, any, all}

-- ---- Booleans

-- nothing is both true and false
pub clash : {A : Type 0} (b : Bool) → b ≡ true → b ≡ false → A
clash b e q = absurd (false≢true (sym q ∙ e))

-- what does not hold is false, and its negation true
pub untrue : (b : Bool) → (b ≡ true → ⊥) → b ≡ false
untrue true n = absurd (n refl)
untrue false n = refl

pub true_unless : (b : Bool) → (b ≡ false → ⊥) → b ≡ true
true_unless true n = refl
true_unless false n = absurd (n refl)

pub not_so : (b : Bool) → (b ≡ true → ⊥) → not b ≡ true
not_so true n = absurd (n refl)
not_so false n = refl

pub or_cases : (a b : Bool) → a || b ≡ true → (a ≡ true) ⊎ (b ≡ true)
or_cases true b e = inl refl
or_cases false b e = inr e

pub or_left : (a b : Bool) → a ≡ true → a || b ≡ true
or_left a b e = rw e

pub or_right : (a b : Bool) → b ≡ true → a || b ≡ true
or_right true b e = refl
or_right false b e = e

-- neither holds where the disjunction fails
pub or_none-left : (a b : Bool) → a || b ≡ false → a ≡ false
or_none-left true b e = e
or_none-left false b e = refl

pub or_none_right : (a b : Bool) → a || b ≡ false → b ≡ false
or_none_right true b e = absurd (true≢false e)
or_none_right false b e = e

pub and_left : (a b : Bool) → a && b ≡ true → a ≡ true
and_left true b e = refl
and_left false b e = e

pub and_right : (a b : Bool) → a && b ≡ true → b ≡ true
and_right true b e = e
and_right false b e = absurd (false≢true e)

pub and_intro : (a b : Bool) → a ≡ true → b ≡ true → a && b ≡ true
and_intro a b p q = rw (p, q)

pub bool_equal : (a b : Bool) → (a ≡ true → b ≡ true) → (b ≡ true → a ≡ true) → a ≡ b
bool_equal true b f g = sym (f refl)
bool_equal false true f g = g refl
bool_equal false false f g = refl

-- ---- numbers below a bound

pub below_suc : (k n : ℕ) → k < suc n → (k ≡ n) ⊎ (k < n)
below_suc k n h = eq-or-lt_of_le {n = k} {m = n} (omega arith)

-- what holds of each number below n, and of n, holds below n + 1
pub below_extend : (P : ℕ → Type 0) (n : ℕ) → ((k : ℕ) → k < n → P k) → P n → (k : ℕ) → k < suc n → P k
below_extend P n h e k l = ⊎_elim (λ q. rw q e) (λ b. h k b) (below_suc k n l)

module _ (p : ℕ → Bool) where
  pub any_below-true : (n : ℕ) → any_below p n ≡ true → (k : ℕ) × (k < n) × (p k ≡ true)
  unfolding any_below
  any_below-true zero e = absurd (false≢true e)
  any_below-true (suc n) e = ⊎_elim
      (λ a. let w = any_below-true n a in (w.0, omega arith, w.2))
      (λ b. (n, omega arith, b))
      (or_cases (any_below p n) (p n) e)

  pub any_below_intro : (n k : ℕ) → k < n → p k ≡ true → any_below p n ≡ true
  unfolding any_below
  any_below_intro zero k h e = absurd (omega arith)
  any_below_intro (suc n) k h e = ⊎_elim
      (λ q. or_right (any_below p n) (p n) (rw q at e))
      (λ l. or_left (any_below p n) (p n) (any_below_intro n k l e))
      (below_suc k n h)

  pub any_below-false : (n : ℕ) → any_below p n ≡ false → (k : ℕ) → k < n → p k ≡ false
  unfolding any_below
  any_below-false zero e = λ k h. absurd (omega arith)
  any_below-false (suc n) e =
      below_extend _ n (any_below-false n (or_none-left (any_below p n) (p n) e)) (or_none_right (any_below p n) (p n) e)

  pub all_below-true : (n : ℕ) → all_below p n ≡ true → (k : ℕ) → k < n → p k ≡ true
  unfolding all_below
  all_below-true zero e = λ k h. absurd (omega arith)
  all_below-true (suc n) e =
      below_extend _ n (all_below-true n (and_left (all_below p n) (p n) e)) (and_right (all_below p n) (p n) e)

  pub all_below_intro : (n : ℕ) → ((k : ℕ) → k < n → p k ≡ true) → all_below p n ≡ true
  unfolding all_below
  all_below_intro zero h = refl
  all_below_intro (suc n) h = and_intro (all_below p n) (p n) (all_below_intro n (λ k l. h k (omega arith))) (h n (omega arith))

pub all_below-not : (p : ℕ → Bool) (n k : ℕ) → k < n → p k ≡ false → all_below p n ≡ false
all_below-not p n k h e = untrue (all_below p n) (λ t. clash (p k) (all_below-true p n t k h) e)

pub any_below_ext : (p q : ℕ → Bool) (n : ℕ) → ((k : ℕ) → k < n → p k ≡ q k) → any_below p n ≡ any_below q n
unfolding any_below
any_below_ext p q zero h = refl
any_below_ext p q (suc n) h = rw (any_below_ext p q n (λ k l. h k (omega arith)), h n (omega arith))

pub all_below_ext : (p q : ℕ → Bool) (n : ℕ) → ((k : ℕ) → k < n → p k ≡ q k) → all_below p n ≡ all_below q n
unfolding all_below
all_below_ext p q zero h = refl
all_below_ext p q (suc n) h = rw (all_below_ext p q n (λ k l. h k (omega arith)), h n (omega arith))

-- the numbers below a, and the b from a on
pub all_below-split : (p : ℕ → Bool) (a b : ℕ) → all_below p (a + b) ≡ all_below p a && all_below (λ i. p (a + i)) b
unfolding all_below
all_below-split p a zero = rw (add-zero a) (sym (and-true (all_below p a)))
all_below-split p a (suc b) =
    rw (add-suc a b, all_below-split p a b) (and_assoc (all_below p a) (all_below (λ i. p (a + i)) b) (p (a + b)))

module _ {A : Type 0} where
  pub length-tabulate : (f : ℕ → A) (n : ℕ) → length (tabulate f n) ≡ n
  unfolding tabulate
  length-tabulate f zero = refl
  length-tabulate f (suc n) = rw (length-append (tabulate f n) (f n ∷ [])) (omega (arith, length-tabulate f n))

  pub get_or_tabulate : (f : ℕ → A) (n i : ℕ) (d : A) → i < n → get_or (tabulate f n) i d ≡ f i
  unfolding tabulate
  get_or_tabulate f zero i d h = absurd (omega arith)
  get_or_tabulate f (suc n) i d h = ⊎_elim
      (λ q. rw q (get_or_at (tabulate f n) (f n) [] d n (length-tabulate f n)))
      (λ l. get_or-append (tabulate f n) (f n ∷ []) d i (omega (arith, length-tabulate f n)) ∙ get_or_tabulate f n i d l)
      (below_suc i n h)

  -- ---- a list's members

  pub any-true : (p : A → Bool) (l : List A) → any p l ≡ true → (x : A) × Memᴰ x l × (p x ≡ true)
  unfolding any
  any-true p [] e = absurd (false≢true e)
  any-true p (y ∷ ys) e = ⊎_elim
      (λ a. (y, Memᴰ.head refl, a))
      (λ b. let w = any-true p ys b in (w.0, Memᴰ.tail w.1, w.2))
      (or_cases (p y) (any p ys) e)

  pub any_intro : (p : A → Bool) {x : A} {l : List A} → Memᴰ x l → p x ≡ true → any p l ≡ true
  unfolding any
  any_intro p (Memᴰ.head {x = y} {xs = ys} q) e = or_left (p y) (any p ys) (rw q at e)
  any_intro p (Memᴰ.tail {x = y} {xs = ys} m) e = or_right (p y) (any p ys) (any_intro p m e)

  any_false_at : (p : A → Bool) (x : A) {l : List A} → any p l ≡ false → Memᴰ x l → p x ≡ false
  unfolding any
  any_false_at p x e (Memᴰ.head {x = y} {xs = ys} q) = rw q (or_none-left (p y) (any p ys) e)
  any_false_at p x e (Memᴰ.tail {x = y} {xs = ys} m) = any_false_at p x (or_none_right (p y) (any p ys) e) m

  pub any_false : (p : A → Bool) {l : List A} → any p l ≡ false → (x : A) → Memᴰ x l → p x ≡ false
  any_false p e x m = any_false_at p x e m

  all_true_at : (p : A → Bool) (x : A) {l : List A} → all p l ≡ true → Memᴰ x l → p x ≡ true
  unfolding all
  all_true_at p x e (Memᴰ.head {x = y} {xs = ys} q) = rw q (and_left (p y) (all p ys) e)
  all_true_at p x e (Memᴰ.tail {x = y} {xs = ys} m) = all_true_at p x (and_right (p y) (all p ys) e) m

  pub all_true : (p : A → Bool) {l : List A} → all p l ≡ true → (x : A) → Memᴰ x l → p x ≡ true
  all_true p e x m = all_true_at p x e m

  pub all_intro : (p : A → Bool) (l : List A) → ((x : A) → Memᴰ x l → p x ≡ true) → all p l ≡ true
  unfolding all
  all_intro p [] h = refl
  all_intro p (y ∷ ys) h =
      and_intro (p y) (all p ys) (h y (Memᴰ.head refl)) (all_intro p ys (λ x m. h x (Memᴰ.tail m)))

  pub any_append : (p : A → Bool) (k l : List A) → any p (k ++ l) ≡ any p k || any p l
  unfolding any
  any_append p [] l = refl
  any_append p (y ∷ ys) l = rw (any_append p ys l) (sym (or_assoc (p y) (any p ys) (any p l)))

  pub all_append : (p : A → Bool) (k l : List A) → all p (k ++ l) ≡ all p k && all p l
  unfolding all
  all_append p [] l = refl
  all_append p (y ∷ ys) l = rw (all_append p ys l) (sym (and_assoc (p y) (all p ys) (all p l)))

  pub mem_index : {x : A} {l : List A} → Memᴰ x l → (d : A) → (i : ℕ) × (i < length l) × (get_or l i d ≡ x)
  mem_index (Memᴰ.head q) d = (0, omega arith, sym q)
  mem_index (Memᴰ.tail m) d = let w = mem_index m d in (suc w.0, omega arith, w.2)

  pub index_mem : (l : List A) (i : ℕ) (d : A) {x : A} → i < length l → get_or l i d ≡ x → Memᴰ x l
  index_mem [] i d h e = absurd (omega arith)
  index_mem (y ∷ ys) zero d h e = Memᴰ.head (sym e)
  index_mem (y ∷ ys) (suc i) d h e = Memᴰ.tail (index_mem ys i d (omega arith) e)

-- a table from its front
pub tabulate_cons : {A : Type 0} (f : ℕ → A) (n : ℕ) → tabulate f (suc n) ≡ f 0 ∷ tabulate (λ i. f (suc i)) n
unfolding tabulate
tabulate_cons f zero = refl
tabulate_cons f (suc n) = ap (λ (l : List _). l ++ (f (suc n) ∷ [])) (tabulate_cons f n)

pub tabulate_ext : {A : Type 0} (f g : ℕ → A) (n : ℕ) → ((i : ℕ) → i < n → f i ≡ g i) → tabulate f n ≡ tabulate g n
unfolding tabulate
tabulate_ext f g zero h = refl
tabulate_ext f g (suc n) h = rw (tabulate_ext f g n (λ i l. h i (omega arith)), h n (omega arith))

pub map_snoc : {A B : Type 0} (f : A → B) (l : List A) (x : A) → map f (l ++ (x ∷ [])) ≡ map f l ++ (f x ∷ [])
map_snoc f [] x = refl
map_snoc f (y ∷ l) x = ap (λ (r : List _). f y ∷ r) (map_snoc f l x)

pub map-tabulate : {A B : Type 0} (g : A → B) (f : ℕ → A) (n : ℕ) → map g (tabulate f n) ≡ tabulate (λ i. g (f i)) n
unfolding tabulate
map-tabulate g f zero = refl
map-tabulate g f (suc n) = map_snoc g (tabulate f n) (f n) ∙ ap (λ (r : List _). r ++ (g (f n) ∷ [])) (map-tabulate g f n)

-- an entry that is there does not ask what stands for a missing one
pub get_or_other : {A : Type 0} (l : List A) (i : ℕ) (d e : A) → i < length l → get_or l i d ≡ get_or l i e
get_or_other [] i d e h = absurd (omega arith)
get_or_other (x ∷ l) zero d e h = refl
get_or_other (x ∷ l) (suc i) d e h = get_or_other l i d e (omega arith)
