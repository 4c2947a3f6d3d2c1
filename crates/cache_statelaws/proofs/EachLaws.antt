-- Things of n bytes each, one after the other: where the bytes of each stand, one of them changed, one more behind them, and how they are read
-- from a list of bytes. By induction on the things, or on how many are read.
use mathlib.Core.Path.{◌≡◌, sym, ap, ◌∙◌}
use mathlib.Core.List.{List, [], ◌∷◌, ◌++◌, append_assoc, append-nil}
use Prim.Native.Nat.{ℕ, zero, suc, ◌+◌, ◌*◌, ◌<◌}
use native.Mathlib.Nat.{mul-zero, mul-suc, add_comm, add_assoc}
use native.Mathlib.Omega.{arith}
use lib.ListN.{length, get_or, take, drop, set, length-append, get_or-append}
use lib.Seq.{take_at, drop-append-add, take-add, drop-drop, get_or-drop, set-append_left}
use Rattle.relation.specs.Lists.{tabulate}
use Rattle.cache_model.specs.State.{bytes_each}
use Rattle.cache_statelaws.proofs.GeneralLaws.{set-behind}

module _ {A : Type 0} (f : A → List ℕ) (n : ℕ) (size : (x : A) → length (f x) ≡ n) where
  pub length-each : (xs : List A) → length (bytes_each f xs) ≡ n * length xs
  unfolding bytes_each
  length-each [] = sym (mul-zero n)
  length-each (x ∷ xs) = length-append (f x) (bytes_each f xs) ∙ rw (size x, length-each xs, mul-suc n (length xs)) (add_comm n (n * length xs))

  pub each_append : (xs : List A) (x : A) → bytes_each f (xs ++ (x ∷ [])) ≡ bytes_each f xs ++ f x
  unfolding bytes_each
  each_append [] x = append-nil (f x)
  each_append (y ∷ xs) x = rw (each_append xs x) (sym (append_assoc (f y) (bytes_each f xs) (f x)))

  -- read from s
  pub each_read : (g : ℕ → A) (s : List ℕ) (b m : ℕ) → ((i : ℕ) → i < m → f (g i) ≡ take n (drop (b + n * i) s)) → bytes_each f (tabulate g m) ≡ take (n * m) (drop b s)
  unfolding tabulate bytes_each
  each_read g s b zero h = rw (mul-zero n)
  each_read g s b (suc m) h =
      each_append (tabulate g m) (g m)
      ∙ rw (each_read g s b m (λ i l. h i (omega arith)), h m (omega arith), mul-suc n m, take-add (n * m) n (drop b s), drop-drop (n * m) b s)

  module _ (d : A) where
    -- a step behind the first
    past : (x : A) (l : List ℕ) (i k : ℕ) → n * suc i + k ≡ length (f x) + (n * i + k)
    past x l i k = rw (mul-suc n i, size x) (ap (λ (m : ℕ). m + k) (add_comm (n * i) n) ∙ add_assoc n (n * i) k)

    pub drop-there : (xs : List A) (rest : List ℕ) (i : ℕ) → i < length xs
        → drop (n * i) (bytes_each f xs ++ rest) ≡ f (get_or xs i d) ++ (bytes_each f (drop (suc i) xs) ++ rest)
    unfolding bytes_each
    drop-there [] rest i h = absurd (omega arith)
    drop-there (x ∷ xs) rest zero h = rw (mul-zero n) (append_assoc (f x) (bytes_each f xs) rest)
    drop-there (x ∷ xs) rest (suc i) h =
        let z : n * suc i ≡ length (f x) + n * i = rw (mul-suc n i, size x) (add_comm (n * i) n) in
        rw (z, append_assoc (f x) (bytes_each f xs) rest, drop-append-add (f x) (bytes_each f xs ++ rest) (n * i)) (drop-there xs rest i (omega arith))

    pub part-there : (xs : List A) (rest : List ℕ) (i : ℕ) → i < length xs → take n (drop (n * i) (bytes_each f xs ++ rest)) ≡ f (get_or xs i d)
    part-there xs rest i h = ap (take n) (drop-there xs rest i h) ∙ take_at (f (get_or xs i d)) _ n (size (get_or xs i d))

    pub byte-there : (xs : List A) (rest : List ℕ) (i j : ℕ) → i < length xs → j < n → get_or (bytes_each f xs ++ rest) (n * i + j) 0 ≡ get_or (f (get_or xs i d)) j 0
    byte-there xs rest i j h l =
        sym (get_or-drop (n * i) (bytes_each f xs ++ rest) j 0) ∙ ap (λ (s : List ℕ). get_or s j 0) (drop-there xs rest i h)
        ∙ get_or-append (f (get_or xs i d)) (bytes_each f (drop (suc i) xs) ++ rest) 0 j (rw (size (get_or xs i d)) l)

    -- byte j of thing i set, which makes it y
    pub set_there : (xs : List A) (rest : List ℕ) (i j v : ℕ) (y : A) → i < length xs → j < n → f y ≡ set (f (get_or xs i d)) j v
        → set (bytes_each f xs ++ rest) (n * i + j) v ≡ bytes_each f (set xs i y) ++ rest
    unfolding bytes_each
    set_there [] rest i j v y h l e = absurd (omega arith)
    set_there (x ∷ xs) rest zero j v y h l e =
        let z : n * 0 + j ≡ j = rw (mul-zero n) (omega arith) in
        rw (z, append_assoc (f x) (bytes_each f xs) rest, set-append_left (f x) (bytes_each f xs ++ rest) j v (rw (size x) l), ← e)
        (sym (append_assoc (f y) (bytes_each f xs) rest))
    set_there (x ∷ xs) rest (suc i) j v y h l e =
        rw (past x rest i j, append_assoc (f x) (bytes_each f xs) rest, set-behind (f x) (bytes_each f xs ++ rest) (n * i + j) v, set_there xs rest i j v y (omega arith) l e)
        (sym (append_assoc (f x) (bytes_each f (set xs i y)) rest))
