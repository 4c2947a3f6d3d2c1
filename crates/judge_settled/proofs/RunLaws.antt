-- Runs of blocks that are there whatever is stored: the table of these, filled from the last block down, and how far a range may pass along one.
use mathlib.Core.Path.{◌≡◌, refl}
use mathlib.Core.Bool.{Bool, true, false, cond}
use mathlib.Core.List.{List}
use Prim.Native.Nat.{ℕ, ◌+◌, ◌-◌, ◌≤◌, ◌<◌}
use native.Mathlib.Decide.{ℕ_discrete, dec_lt}
use native.Mathlib.Omega.{arith}
use Prim.Native.Nat.{min}
use lib.Dec.{eqb, leb, ltb}
use lib.ListN.{length, get_or, set}
use lib.Seq.{get_or-set_same, get_or-set_other}
use borrow.Author.Rules.{rules}
use borrow.Author.Tests.{eq-eqb, ne_eqb, eqb-true, eqb-false, le-leb, lt-leb, leb-false, le-ltb, lt-ltb, ltb-true, ltb-false}
use Rattle.relation.specs.Tables.{Blank}
use Rattle.model.specs.Limits.{disk_blocks}
use Rattle.judge_settled.specs.Settled.{Fixed, Run, Runs, run_end, later_of}

-- ---- the table

module _ (base writers : List ℕ) where
  module _ (k to : ℕ) where
    pub end_written : (get_or writers k 0 ≡ 0 → ⊥) → k ≡ run_end base writers k to
    unfolding run_end
    end_written d = rw (ne_eqb (get_or writers k 0) 0 d)

    pub end_empty : get_or writers k 0 ≡ 0 → get_or base k 0 ≡ 0 → k ≡ run_end base writers k to
    unfolding run_end
    end_empty e z = rw (eq-eqb (get_or writers k 0) 0 e, eq-eqb (get_or base k 0) 0 z)

    pub end_run : get_or writers k 0 ≡ 0 → (get_or base k 0 ≡ 0 → ⊥) → to ≡ run_end base writers k to
    unfolding run_end
    end_run e d = rw (eq-eqb (get_or writers k 0) 0 e, ne_eqb (get_or base k 0) 0 d)

  pub run_none : (k : ℕ) → Run base writers k k
  run_none k = record { at = λ j x y. absurd (omega arith) }

  -- a table of zeros has none
  pub runs_blank : (runs : List ℕ) (from : ℕ) → Blank disk_blocks runs → Runs base writers from runs
  runs_blank runs from b = record { at = λ k x y. record { at = λ j l m. absurd (omega (arith, b.at k y, m)) } }

  -- one block more in front
  pub run_more : (k to end : ℕ) → 0 < k → Run base writers k to → end ≡ run_end base writers (k - 1) to → Run base writers (k - 1) end
  unfolding run_end
  run_more k to end p g e = rw e (go (eqb (get_or writers (k - 1) 0) 0) (eqb (get_or base (k - 1) 0) 0) refl refl)
    where
      go : (a b : Bool) → eqb (get_or writers (k - 1) 0) 0 ≡ a → eqb (get_or base (k - 1) 0) 0 ≡ b → Run base writers (k - 1) (cond a (cond b (k - 1) to) (k - 1))
      go false b x y = run_none (k - 1)
      go true true x y = run_none (k - 1)
      go true false x y =
          record {
            at = λ j l m. elim (dec_lt j k) [
              | yes q ↦ (let z : j ≡ k - 1 = omega (arith, p, q, l) in rw z (record { none = eqb-true (get_or writers (k - 1) 0) 0 x; there = eqb-false (get_or base (k - 1) 0) 0 y }))
              | no q ↦ g.at j (omega arith) m
            ];
          }

  pub runs_more : (k end : ℕ) (runs : List ℕ) → 0 < k → k ≤ disk_blocks → length runs ≡ disk_blocks → Runs base writers k runs → Run base writers (k - 1) end
      → Runs base writers (k - 1) (set runs (k - 1) end)
  runs_more k end runs p h size g r =
      record {
        at = λ j l m. elim (ℕ_discrete j (k - 1)) [
          | yes q ↦ (let z : j ≡ k - 1 = q in rw (z, get_or-set_same runs (k - 1) end 0 (omega (arith, size, p, h))) r)
          | no q ↦ rw (get_or-set_other runs (k - 1) j end 0 q) (g.at j (omega (arith, l, q, p)) m)
        ];
      }

  pub runs_all : (k : ℕ) (runs : List ℕ) → k ≤ 0 → Runs base writers k runs → Runs base writers 0 runs
  runs_all k runs h g = record { at = λ j l m. g.at j (omega arith) m }

-- ---- the next block to look at

module _ (runs : List ℕ) (a k tail : ℕ) where
  pub later-tail : k + 1 ≡ tail → tail ≡ later_of runs a k tail
  unfolding later_of
  later-tail e = rw (eq-eqb (k + 1) tail e)

  module _ (d : k + 1 ≡ tail → ⊥) (to : ℕ) (e : to ≡ min (get_or runs (k + 1) 0) tail) where
    pub later-next : to ≤ k + 1 → k + 1 ≡ later_of runs a k tail
    unfolding later_of
    later-next h = rw (ne_eqb (k + 1) tail d, ← e, le-leb to (k + 1) h)

    module _ (some : k + 1 < to) where
      pub later_past : a < k + 1 → to ≡ later_of runs a k tail
      unfolding later_of
      later_past h = rw (ne_eqb (k + 1) tail d, ← e, lt-leb to (k + 1) some, lt-ltb a (k + 1) h)

      pub later-known : (r : ℕ) → k + 1 ≤ a → r ≡ min to a → r ≡ later_of runs a k tail
      unfolding later_of
      later-known r h q = rw (ne_eqb (k + 1) tail d, ← e, lt-leb to (k + 1) some, le-ltb a (k + 1) h) q

-- behind k, before it, and no further than tail: blocks that are there, none of them at a
pub record Passes (base writers : List ℕ) (a k tail r : ℕ) : Type 0 where
  pub over : k < r
  pub most : r ≤ tail
  pub at : (j : ℕ) → k < j → j < r → Fixed base writers j × (j ≡ a → ⊥)

pub later_passes : (base writers runs : List ℕ) (a k tail r : ℕ) → Runs base writers 0 runs → k < tail → tail ≤ disk_blocks → r ≡ later_of runs a k tail → Passes base writers a k tail r
unfolding later_of
later_passes base writers runs a k tail r g l m e = rw e (go (eqb (k + 1) tail) (leb to (k + 1)) (ltb a (k + 1)) refl refl refl)
  where
    to : ℕ
    to = min (get_or runs (k + 1) 0) tail

    run : (k + 1 ≡ tail → ⊥) → Run base writers (k + 1) (get_or runs (k + 1) 0)
    run d = g.at (k + 1) (omega arith) (omega (arith, d, l, m))

    go : (b n c : Bool) → eqb (k + 1) tail ≡ b → leb to (k + 1) ≡ n → ltb a (k + 1) ≡ c
        → Passes base writers a k tail (cond b tail (cond n (k + 1) (cond c to (min to a))))
    go true n c x w y = let z = eqb-true (k + 1) tail x in record { over = omega arith; most = omega arith; at = λ j p q. absurd (omega (arith, z, p, q)) }
    go false true c x w y = let d = eqb-false (k + 1) tail x in record { over = omega arith; most = omega (arith, d, l); at = λ j p q. absurd (omega (arith, p, q)) }
    go false false true x w y =
        let d = eqb-false (k + 1) tail x in
        let some = leb-false to (k + 1) w in
        let first : to ≤ get_or runs (k + 1) 0 = omega arith in
        let second : to ≤ tail = omega arith in
        let low = ltb-true a (k + 1) y in
        record {
          over = omega (arith, some);
          most = second;
          at = λ j p q. ((run d).at j (omega arith) (omega (arith, first, q)), λ (z : j ≡ a). absurd (omega (arith, low, p, z)));
        }
    go false false false x w y =
        let d = eqb-false (k + 1) tail x in
        let some = leb-false to (k + 1) w in
        let first : to ≤ get_or runs (k + 1) 0 = omega arith in
        let second : to ≤ tail = omega arith in
        let third : min to a ≤ to = omega arith in
        let fourth : min to a ≤ a = omega arith in
        let high = ltb-false a (k + 1) y in
        record {
          over = omega (arith, some, high);
          most = omega (arith, second, third);
          at = λ j p q. ((run d).at j (omega arith) (omega (arith, first, third, q)), λ (z : j ≡ a). absurd (omega (arith, fourth, q, z)));
        }

pub ruleset running = (rules, end_written, end_empty, end_run, run_none, runs_blank, run_more, runs_more, runs_all, later-tail, later-next, later_past, later-known)
