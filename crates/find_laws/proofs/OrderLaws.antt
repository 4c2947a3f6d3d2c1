-- `before` is a strict order of rules, total, and `inserted` keeps lists in it. By the lexicographic order of three numbers.
use mathlib.Core.Path.{◌≡◌, refl, sym, ap, ◌∙◌}
use mathlib.Core.Logic.{◌⊎◌, inl, inr, ⊎_elim}
use mathlib.Core.Bool.{Bool, true, false, cond, ◌&&◌, ◌||◌}
use mathlib.Core.List.Memᴰ
use mathlib.Core.List.{List, [], ◌∷◌, Memᴰ}
use Prim.Native.Nat.{ℕ, ◌<◌}
use native.Mathlib.Nat.{lt_irrefl, lt_trans}
use native.Mathlib.Omega.{arith}
use lib.Dec.{eqb, ltb}
use borrow.Author.Tests.{eqb-true, eq-eqb, ltb-true, ltb-false, lt-ltb, le-ltb}
use Rattle.relation.proofs.ListLaws.{or_cases, or_left, or_right, or_none-left, and_left, and_right, and_intro}
use Rattle.model.specs.declared.Rule.{Rule}
use Rattle.model.specs.Find.{before, Ordered, inserted}

-- ---- one more number in a lexicographic order

abbrev lex : ℕ → ℕ → Bool → Bool
lex a b x = ltb a b || eqb a b && x

lex_true : (a b : ℕ) (x : Bool) → lex a b x ≡ true → (a < b) ⊎ ((a ≡ b) × (x ≡ true))
lex_true a b x e = ⊎_elim
    (λ p. inl (ltb-true a b p))
    (λ q. inr (eqb-true a b (and_left (eqb a b) x q), and_right (eqb a b) x q))
    (or_cases (ltb a b) _ e)

lex_less : (a b : ℕ) (x : Bool) → a < b → lex a b x ≡ true
lex_less a b x h = or_left (ltb a b) _ (lt-ltb a b h)

lex_same : (a b : ℕ) (x : Bool) → a ≡ b → x ≡ true → lex a b x ≡ true
lex_same a b x h e = or_right (ltb a b) _ (and_intro (eqb a b) x (eq-eqb a b h) e)

lex_trans : (a b c : ℕ) (x y z : Bool) → (x ≡ true → y ≡ true → z ≡ true) → lex a b x ≡ true → lex b c y ≡ true → lex a c z ≡ true
lex_trans a b c x y z f p q = go (lex_true a b x p) (lex_true b c y q)
  where
    go : (a < b) ⊎ ((a ≡ b) × (x ≡ true)) → (b < c) ⊎ ((b ≡ c) × (y ≡ true)) → lex a c z ≡ true
    go (inl h) (inl k) = lex_less a c z (omega arith)
    go (inl h) (inr k) = lex_less a c z (rw k.0 at h)
    go (inr h) (inl k) = lex_less a c z (rw h.0 k)
    go (inr h) (inr k) = lex_same a c z (h.0 ∙ k.0) (f h.1 k.1)

lex_self : (a : ℕ) (x : Bool) → lex a a x ≡ x
lex_self a x = rw (le-ltb a a (omega arith), eq-eqb a a refl)

-- what comes neither before nor after is the same
lex_neither : (a b : ℕ) (x y : Bool) → lex a b x ≡ false → lex b a y ≡ false → (a ≡ b) × (x ≡ false) × (y ≡ false)
lex_neither a b x y p q =
    let h = ltb-false a b (or_none-left (ltb a b) _ p) in
    let k = ltb-false b a (or_none-left (ltb b a) _ q) in
    let e : a ≡ b = omega arith in
    (e, sym (lex_self b x) ∙ rw e at p, sym (lex_self b y) ∙ rw e at q)

-- ---- the order of rules

pub rule-equal : (r q : Rule) → r.first ≡ q.first → r.predicate ≡ q.predicate → r.second ≡ q.second → r ≡ q
rule-equal r q a b c =
    ap (λ (x : ℕ). record { first = x; predicate = r.predicate; second = r.second }) a
    ∙ ap (λ (x : ℕ). record { first = q.first; predicate = x; second = r.second }) b
    ∙ ap (λ (x : ℕ). record { first = q.first; predicate = q.predicate; second = x }) c

pub before_trans : (r q t : Rule) → before r q ≡ true → before q t ≡ true → before r t ≡ true
unfolding before
before_trans r q t =
    lex_trans r.first q.first t.first _ _ _
    (lex_trans r.second q.second t.second _ _ _
    (λ h k. lt-ltb _ _ (lt_trans (ltb-true r.predicate q.predicate h) (ltb-true q.predicate t.predicate k))))

pub before_self : (r : Rule) → before r r ≡ true → ⊥
unfolding before
before_self r e =
    lt_irrefl r.predicate (ltb-true r.predicate r.predicate (sym (lex_self r.second _) ∙ sym (lex_self r.first _) ∙ e))

pub before_neither : (r q : Rule) → before r q ≡ false → before q r ≡ false → r ≡ q
unfolding before
before_neither r q e f =
    let (a, x, y) = lex_neither r.first q.first _ _ e f in
    let (b, u, v) = lex_neither r.second q.second _ _ x y in
    let h = ltb-false r.predicate q.predicate u in
    let k = ltb-false q.predicate r.predicate v in
    let c : r.predicate ≡ q.predicate = omega arith in
    rule-equal r q a c b

-- ---- ordered lists

module _ (r : Rule) where
  pub inserted_new : (l : List Rule) → Memᴰ r (inserted r l)
  unfolding inserted
  inserted_new [] = Memᴰ.head refl
  inserted_new (q ∷ qs) = go (before r q) (before q r) refl refl (inserted_new qs)
    where
      go : (a b : Bool) → before r q ≡ a → before q r ≡ b → Memᴰ r (inserted r qs) → Memᴰ r (cond a (r ∷ q ∷ qs) (cond b (q ∷ inserted r qs) (q ∷ qs)))
      go true b e f m = Memᴰ.head refl
      go false true e f m = Memᴰ.tail m
      go false false e f m = Memᴰ.head (before_neither r q e f)

  pub inserted-old : (l : List Rule) (x : Rule) → Memᴰ x l → Memᴰ x (inserted r l)
  unfolding inserted
  inserted-old [] x m = absurd (Memᴰ.not-nil m)
  inserted-old (q ∷ qs) x m = go (before r q) (before q r) (Memᴰ.cases_cons m) (inserted-old qs x)
    where
      go : (a b : Bool) → (x ≡ q) ⊎ Memᴰ x qs → (Memᴰ x qs → Memᴰ x (inserted r qs))
          → Memᴰ x (cond a (r ∷ q ∷ qs) (cond b (q ∷ inserted r qs) (q ∷ qs)))
      go true b c f = Memᴰ.tail m
      go false true (inl e) f = Memᴰ.head e
      go false true (inr n) f = Memᴰ.tail (f n)
      go false false c f = m

  pub inserted_mem : (l : List Rule) (x : Rule) → Memᴰ x (inserted r l) → (x ≡ r) ⊎ Memᴰ x l
  unfolding inserted
  inserted_mem [] x m = Memᴰ.cases_cons m
  inserted_mem (q ∷ qs) x m = go (before r q) (before q r) m (inserted_mem qs x)
    where
      go : (a b : Bool) → Memᴰ x (cond a (r ∷ q ∷ qs) (cond b (q ∷ inserted r qs) (q ∷ qs)))
          → (Memᴰ x (inserted r qs) → (x ≡ r) ⊎ Memᴰ x qs) → (x ≡ r) ⊎ Memᴰ x (q ∷ qs)
      go true b n f = Memᴰ.cases_cons n
      go false true n f = ⊎_elim
          (λ e. inr (Memᴰ.head e))
          (λ k. ⊎_elim (λ e. inl e) (λ j. inr (Memᴰ.tail j)) (f k))
          (Memᴰ.cases_cons n)
      go false false n f = inr n

  pub inserted_ordered : (l : List Rule) → Ordered l → Ordered (inserted r l)
  unfolding inserted Ordered
  inserted_ordered [] o = ((λ q m. absurd (Memᴰ.not-nil m)), tt)
  inserted_ordered (q ∷ qs) o = go (before r q) (before q r) refl refl (inserted_ordered qs o.1)
    where
      go : (a b : Bool) → before r q ≡ a → before q r ≡ b → Ordered (inserted r qs) → Ordered (cond a (r ∷ q ∷ qs) (cond b (q ∷ inserted r qs) (q ∷ qs)))
      go true b e f k = (
        (λ x m. ⊎_elim (λ p. rw p e) (λ n. before_trans r q x e (o.0 x n)) (Memᴰ.cases_cons m)),
        o,
      )
      go false true e f k = ((λ x m. ⊎_elim (λ p. rw p f) (λ n. o.0 x n) (inserted_mem qs x m)), k)
      go false false e f k = o
