-- `candidates_of` is ordered and has exactly the candidates: two labels are matched by one rule only, and each pair's rule is inserted.
use mathlib.Core.Path.{◌≡◌, refl, sym, ap, subst}
use mathlib.Core.Logic.{◌⊎◌, inl, inr, ⊎_elim}
use mathlib.Core.Bool.{Bool, true, false, cond, ◌&&◌, false≢true}
use mathlib.Core.List.Memᴰ
use mathlib.Core.List.{List, [], ◌∷◌, Memᴰ}
use Prim.Native.Nat.{ℕ, zero, suc, ◌≤◌, ◌<◌}
use native.Mathlib.Omega.{arith}
use lib.Dec.{eqb, ltb}
use lib.ListN.{length}
use borrow.Author.Tests.{eqb-true, eqb-false, eq-eqb, ne_eqb, ltb-true, ltb-false, lt-ltb, le-ltb}
use Rattle.relation.proofs.ListLaws.{and_left, and_right, below_suc}
use Rattle.model.specs.declared.Rule.{Rule}
use Rattle.model.specs.declared.Write.{Write}
use Rattle.model.specs.Rules.{Label, stands, matches}
use Rattle.model.specs.Schedule.{label_at}
use Rattle.model.specs.Test.{Test}
use Rattle.model.specs.Find.{Candidate, Ordered, Candidates, pairing, inserted, from_write, from_trace, candidates_of}
use Rattle.find_laws.specs.Theorem.{Collected}
use Rattle.find_laws.proofs.OrderLaws.{rule-equal, inserted_new, inserted-old, inserted_mem, inserted_ordered}

-- ---- the one rule that matches two labels

-- the one relation in which two epochs stand
abbrev standing : ℕ → ℕ → ℕ
standing t u = cond (eqb t u) 0 (cond (ltb u t) 1 2)

stands-standing : (p t u : ℕ) → stands p t u ≡ true → p ≡ standing t u
unfolding stands
stands-standing zero t u e = rw e
stands-standing (suc zero) t u e =
    let h = ltb-true u t e in
    rw (ne_eqb t u (λ (q : t ≡ u). absurd (omega arith)), e)
stands-standing (suc (suc zero)) t u e =
    let h = ltb-true t u e in
    rw (ne_eqb t u (λ (q : t ≡ u). absurd (omega arith)), le-ltb u t (omega arith))
stands-standing (suc (suc (suc p))) t u e = absurd (false≢true e)

standing-stands : (t u : ℕ) → stands (standing t u) t u ≡ true
unfolding stands
standing-stands t u = go (eqb t u) (ltb u t) refl refl
  where
    go : (a b : Bool) → eqb t u ≡ a → ltb u t ≡ b → stands (cond a 0 (cond b 1 2)) t u ≡ true
    go true b e f = e
    go false true e f = f
    go false false e f =
        let h = ltb-false u t f in
        let k : t ≡ u → ⊥ = eqb-false t u e in
        lt-ltb t u (omega arith)

pub matches-pairing : (r : Rule) (l m : Label) → matches r l m ≡ true → r ≡ pairing l m
unfolding matches pairing
matches-pairing r l m e =
    let a = eqb l.name r.first in
    let b = eqb m.name r.second in
    let front = and_left (a && b) (stands r.predicate l.epoch m.epoch) e in
    rule-equal r (pairing l m) (sym (eqb-true _ _ (and_left a b front)))
    (stands-standing r.predicate l.epoch m.epoch (and_right (a && b) _ e))
    (sym (eqb-true _ _ (and_right a b front)))

pub pairing-matches : (r : Rule) (l m : Label) → r ≡ pairing l m → matches r l m ≡ true
unfolding matches pairing
pairing-matches r l m q = rw (q, eq-eqb l.name l.name refl, eq-eqb m.name m.name refl) (standing-stands l.epoch m.epoch)

-- ---- the rules of a trace's pairs

module _ (ws : List Write) where
  -- r matches write i and another of the writes below n
  abbrev From : ℕ → ℕ → Rule → Type 0
  From i n r = (j : ℕ) × (j < n) × (i ≡ j → ⊥) × (r ≡ pairing (label_at ws i) (label_at ws j))

  write-in : (i n : ℕ) (found : List Rule) (r : Rule) → Memᴰ r found ⊎ From i n r → Memᴰ r (from_write ws i n found)
  unfolding from_write
  write-in i zero found r (inl m) = m
  write-in i zero found r (inr w) = let h = w.1 in absurd (omega arith)
  write-in i (suc n) found r w = go (eqb i n) refl (write-in i n found r) w
    where
      new : Rule
      new = pairing (label_at ws i) (label_at ws n)

      rest : List Rule
      rest = from_write ws i n found

      last : (b : Bool) → eqb i n ≡ b → (i ≡ n → ⊥) → r ≡ new → Memᴰ r (cond b rest (inserted new rest))
      last true e d q = absurd (d (eqb-true i n e))
      last false e d q = rw q (inserted_new new rest)

      old : (b : Bool) → Memᴰ r rest → Memᴰ r (cond b rest (inserted new rest))
      old true m = m
      old false m = inserted-old new rest r m

      go : (b : Bool) → eqb i n ≡ b → (Memᴰ r found ⊎ From i n r → Memᴰ r rest) → Memᴰ r found ⊎ From i (suc n) r → Memᴰ r (cond b rest (inserted new rest))
      go b e f (inl m) = old b (f (inl m))
      go b e f (inr (j, h, d, q)) = ⊎_elim
          (λ (z : j ≡ n). last b e (rw z at d) (rw z at q))
          (λ (z : j < n). old b (f (inr (j, z, d, q))))
          (below_suc j n h)

  write_out : (i n : ℕ) (found : List Rule) (r : Rule) → Memᴰ r (from_write ws i n found) → Memᴰ r found ⊎ From i n r
  unfolding from_write
  write_out i zero found r m = inl m
  write_out i (suc n) found r m = go (eqb i n) refl m (write_out i n found r)
    where
      new : Rule
      new = pairing (label_at ws i) (label_at ws n)

      rest : List Rule
      rest = from_write ws i n found

      old : Memᴰ r found ⊎ From i n r → Memᴰ r found ⊎ From i (suc n) r
      old (inl k) = inl k
      old (inr (j, h, d, q)) = inr (j, omega arith, d, q)

      go : (b : Bool) → eqb i n ≡ b → Memᴰ r (cond b rest (inserted new rest)) → (Memᴰ r rest → Memᴰ r found ⊎ From i n r) → Memᴰ r found ⊎ From i (suc n) r
      go true e k f = old (f k)
      go false e k f = ⊎_elim (λ q. inr (n, omega arith, eqb-false i n e, q)) (λ k. old (f k)) (inserted_mem new rest r k)

  write_ordered : (i n : ℕ) (found : List Rule) → Ordered found → Ordered (from_write ws i n found)
  unfolding from_write
  write_ordered i zero found o = o
  write_ordered i (suc n) found o = go (eqb i n) (write_ordered i n found o)
    where
      go : (b : Bool) → Ordered (from_write ws i n found) → Ordered (cond b (from_write ws i n found) (inserted (pairing (label_at ws i) (label_at ws n)) (from_write ws i n found)))
      go true k = k
      go false k = inserted_ordered (pairing (label_at ws i) (label_at ws n)) (from_write ws i n found) k

  -- r matches a write below n and another write
  abbrev Among : ℕ → Rule → Type 0
  Among n r = (i : ℕ) × (i < n) × From i (length ws) r

  trace_in : (n : ℕ) (found : List Rule) (r : Rule) → Memᴰ r found ⊎ Among n r → Memᴰ r (from_trace ws n found)
  unfolding from_trace
  trace_in zero found r (inl m) = m
  trace_in zero found r (inr w) = let h = w.1 in absurd (omega arith)
  trace_in (suc n) found r (inl m) = write-in n (length ws) (from_trace ws n found) r (inl (trace_in n found r (inl m)))
  trace_in (suc n) found r (inr w) =
      let i = w.0 in
      let h = w.1 in
      let k = w.2 in
      write-in n (length ws) (from_trace ws n found) r (⊎_elim
      (λ (z : i ≡ n). inr (subst (λ (x : ℕ). From x (length ws) r) z k))
      (λ (z : i < n). inl (trace_in n found r (inr (i, z, k))))
      (below_suc i n h))

  trace-out : (n : ℕ) (found : List Rule) (r : Rule) → Memᴰ r (from_trace ws n found) → Memᴰ r found ⊎ Among n r
  unfolding from_trace
  trace-out zero found r m = inl m
  trace-out (suc n) found r m = ⊎_elim
      (λ k. old (trace-out n found r k))
      (λ k. inr (n, omega arith, k))
      (write_out n (length ws) (from_trace ws n found) r m)
    where
      old : Memᴰ r found ⊎ Among n r → Memᴰ r found ⊎ Among (suc n) r
      old (inl k) = inl k
      old (inr w) = let h = w.1 in inr (w.0, omega arith, w.2)

  trace_ordered : (n : ℕ) (found : List Rule) → Ordered found → Ordered (from_trace ws n found)
  unfolding from_trace
  trace_ordered zero found o = o
  trace_ordered (suc n) found o = write_ordered n (length ws) (from_trace ws n found) (trace_ordered n found o)

-- ---- the candidates of all tests

of_ordered : (tests : List Test) → Ordered (candidates_of tests)
unfolding candidates_of Ordered
of_ordered [] = tt
of_ordered (t ∷ ts) = trace_ordered t.main (length t.main) (candidates_of ts) (of_ordered ts)

of_in : (tests : List Test) (t : Test) (r : Rule) → Memᴰ t tests → Among t.main (length t.main) r → Memᴰ r (candidates_of tests)
unfolding candidates_of
of_in [] t r m a = absurd (Memᴰ.not-nil m)
of_in (u ∷ us) t r m a =
    trace_in u.main (length u.main) (candidates_of us) r (⊎_elim
    (λ (e : t ≡ u). inr (subst (λ (x : Test). Among x.main (length x.main) r) e a))
    (λ n. inl (of_in us t r n a))
    (Memᴰ.cases_cons m))

of_out : (tests : List Test) (r : Rule) → Memᴰ r (candidates_of tests) → (t : Test) × Memᴰ t tests × Among t.main (length t.main) r
unfolding candidates_of
of_out [] r m = absurd (Memᴰ.not-nil m)
of_out (u ∷ us) r m = ⊎_elim
    (λ k. let (t, n, a) = of_out us r k in (t, Memᴰ.tail n, a))
    (λ a. (u, Memᴰ.head refl, a))
    (trace-out u.main (length u.main) (candidates_of us) r m)

pub collected : Collected
unfolding Candidates Candidate
collected tests = (of_ordered tests, λ r. (there r, back r))
  where
    there : (r : Rule) → Memᴰ r (candidates_of tests) → Candidate tests r
    there r m =
        let (t, n, a) = of_out tests r m in
        let (i, hi, f) = a in
        let (j, hj, d, q) = f in
        (t, n, i, j, hi, hj, d, pairing-matches r _ _ q)

    back : (r : Rule) → Candidate tests r → Memᴰ r (candidates_of tests)
    back r (t, n, i, j, hi, hj, d, e) = of_in tests t r n (i, hi, (j, hj, d, matches-pairing r _ _ e))

-- a rule that matches anything has a known predicate
pub matches-known : (r : Rule) (l m : Label) → matches r l m ≡ true → r.predicate ≤ 2
unfolding pairing
matches-known r l m e = rw (ap (λ (x : Rule). x.predicate) (matches-pairing r l m e)) (go (eqb l.epoch m.epoch) (ltb m.epoch l.epoch))
  where
    go : (a b : Bool) → cond a 0 (cond b 1 2) ≤ 2
    go true b = omega arith
    go false true = omega arith
    go false false = omega arith
