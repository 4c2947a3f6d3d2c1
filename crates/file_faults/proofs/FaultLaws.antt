-- The refusals of one field, outcome by outcome, in the shape of the code.
use mathlib.Core.Path.{◌≡◌, refl, ◌∙◌}
use mathlib.Core.Bool.{true, false}
use mathlib.Core.List.{List}
use Prim.Native.Nat.{ℕ, ◌+◌, ◌-◌, ◌≤◌, ◌<◌}
use native.Mathlib.Omega.{arith}
use lib.ListN.{length}
use borrow.Author.Rules.{rules}
use borrow.Author.Tests.{eq-eqb, ne_eqb, lt-ltb, le-ltb}
use Rattle.file_format.specs.declared.Counts.{Counts}
use Rattle.file_format.specs.Bytes.{byte, half}
use Rattle.file_format.specs.File.{is_tag, kind_of, body_length, body_at, out_of_order, over_limit, body_fault, fault_of, head_length}

module _ (s : List ℕ) (at : ℕ) (c : Counts) where
  pub short : length s - at < head_length → 1 ≡ fault_of s at c
  unfolding fault_of
  short h = rw (lt-ltb _ _ h)

  module _ (h : head_length ≤ length s - at) where
    pub no_tag : is_tag (byte s at) ≡ false → 2 ≡ fault_of s at c
    unfolding fault_of
    no_tag t = rw (le-ltb _ _ h, t)

    module _ (k : ℕ) (t : (is_tag (byte s at) ≡ true) × (k ≡ kind_of (byte s at))) where
      pub misplaced : true ≡ out_of_order k c → 4 ≡ fault_of s at c
      unfolding fault_of
      misplaced o = rw (le-ltb _ _ h, t.0, ← t.1, ← o)

      module _ (o : false ≡ out_of_order k c) where
        pub too_many : true ≡ over_limit k c → 6 ≡ fault_of s at c
        unfolding fault_of
        too_many l = rw (le-ltb _ _ h, t.0, ← t.1, ← o, ← l)

        module _ (l : false ≡ over_limit k c) (m n : ℕ) (e : m ≡ half s (at + 1)) (f : n ≡ body_length (byte s at)) where
          pub wrong_length : (m ≡ n → ⊥) → 3 ≡ fault_of s at c
          unfolding fault_of
          wrong_length g = rw (le-ltb _ _ h, t.0, ← t.1, ← o, ← l, ← e, ← f, ne_eqb m n g)

          module _ (g : m ≡ n) where
            left : length s - at - head_length ≡ length s - (at + head_length)
            left = omega arith

            pub body_cut : length s - at - head_length < n → 1 ≡ fault_of s at c
            unfolding fault_of
            body_cut u = let v : length s - (at + head_length) < n = omega (arith, left) in rw (le-ltb _ _ h, t.0, ← t.1, ← o, ← l, ← e, ← f, eq-eqb m n g, lt-ltb _ _ v)

            pub body_read : (r : ℕ) (b : List ℕ) → n ≤ length s - at - head_length → b ≡ body_at s at → r ≡ body_fault (byte s at) b → r ≡ fault_of s at c
            unfolding fault_of
            body_read r b u z q =
                let v : n ≤ length s - (at + head_length) = omega (arith, left) in
                rw (le-ltb _ _ h, t.0, ← t.1, ← o, ← l, ← e, ← f, eq-eqb m n g, le-ltb _ _ v) (q ∙ rw (z, ← f) refl)

pub ruleset faults = (rules, short, no_tag, misplaced, too_many, wrong_length, body_cut, body_read)
