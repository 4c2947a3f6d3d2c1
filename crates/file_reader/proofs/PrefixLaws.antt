-- What is read is within the limits, and a file longer than any accepted one is refused as its first bytes are:
-- the fields read so far bound the place, so that neither reading reaches its end.
use mathlib.Core.Path.{◌≡◌, refl}
use mathlib.Core.Logic.{◌≢◌, ⊎_elim}
use mathlib.Core.Bool.{Bool, true, false, cond, not}
use mathlib.Core.List.Memᴰ
use mathlib.Core.List.{List, [], ◌∷◌, ◌++◌, Memᴰ}
use Prim.Native.Nat.{ℕ, zero, suc, ◌+◌, ◌-◌, ◌≤◌, ◌<◌}
use native.Mathlib.Omega.{arith}
use lib.ListN.{length, take, drop}
use lib.Seq.{get_or-take, take-take, length-take-le}
use lib.Dec.{eqb, ltb}
use borrow.Author.Rules.{rules}
use borrow.Author.Tests.{lt-ltb, le-ltb, ltb-true, ltb-false, eqb-true, eqb-false}
use Rattle.model.specs.Rules.{Known}
use Rattle.model.specs.Test.{Test, file}
use Rattle.model.specs.declared.Rule.{Rule}
use Rattle.file_format.specs.declared.Counts.{Counts}
use Rattle.model.specs.Answer.{answer, refused}
use Rattle.file_format.specs.Bytes.{byte, half}
use Rattle.file_format.specs.File.{head_length, wide_write_length, is_tag, body_length, out_of_order, over_limit, rule_fault, body_fault, fault_of, body_at, field_end, rule_of, Progress, counts_of, grown, finished, read_from, read_of, nothing, is_wide, kind_of, is_rule}
use Rattle.file_reader.specs.Limits.{Within, longest, longest_field, TestLimits, Limited}
use Rattle.file_reader.specs.Theorem.{WithinLimits, PrefixEnough}
use Rattle.file_reader.proofs.LimitLaws.{Clean, clean, by_tag, within-counted, spread, spread-counted, spread-longest}
use Rattle.file_reader.proofs.TellsLaws.{counts-grown}

-- ---- one field

body_most : (tag : ℕ) → is_tag tag ≡ true → body_length tag ≤ wide_write_length
unfolding body_length is_wide
body_most = by_tag (λ tag. body_length tag ≤ wide_write_length) (omega arith) (omega arith) (omega arith) (omega arith) (omega arith) (omega arith) (omega arith) (omega arith) (omega arith) (omega arith)

-- a part of a prefix is that part of the whole
part_of_prefix : {A : Type 0} (b k n : ℕ) (s : List A) → b + k ≤ n → take k (drop b (take n s)) ≡ take k (drop b s)
part_of_prefix zero k n s h = take-take k n s (omega arith)
part_of_prefix (suc b) k zero s h = absurd (omega arith)
part_of_prefix (suc b) k (suc n) [] h = refl
part_of_prefix (suc b) k (suc n) (x ∷ s) h = part_of_prefix b k n s (omega arith)

cond-most : (b : Bool) (k rest m : ℕ) → k ≤ m → rest ≤ m → cond b k rest ≤ m
cond-most true k rest m h l = h
cond-most false k rest m h l = l

fault-most : (s : List ℕ) (at : ℕ) (c : Counts) → fault_of s at c ≤ 7
unfolding fault_of body_fault rule_fault
fault-most s at c = search (cond-most, rules) depth 16

-- ---- the invariant of reading

record Reads (at : ℕ) (p : Progress) : Type 0 where
  within : Within (counts_of p)
  bound : at ≤ spread (counts_of p)
  known : Known p.rules
  each : (t : Test) → Memᴰ t p.tests → TestLimits t

reads_start : Reads 0 nothing
unfolding nothing counts_of Known
reads_start =
    record {
      within = record {
        rules = omega arith;
        tests = omega arith;
        begun = λ q. omega arith;
        initial = omega arith;
        main = omega arith;
        checks = omega arith;
        none = λ q. (refl, refl, refl);
      };
      bound = omega arith;
      known = λ r m. absurd (Memᴰ.not-nil m);
      each = λ t m. absurd (Memᴰ.not-nil m);
    }

rule-known : (r : Rule) → rule_fault r ≡ 0 → r.predicate ≤ 2
unfolding rule_fault
rule-known r e = go (ltb 2 r.predicate) refl e
  where
    go : (t : Bool) → ltb 2 r.predicate ≡ t → ◌≡◌ {A = ℕ} (cond t 5 0) 0 → r.predicate ≤ 2
    go true q z = absurd (omega arith)
    go false q z = ltb-false _ _ q

module _ (s : List ℕ) (at : ℕ) (p : Progress) (r : Reads at p) (k : Clean s at (counts_of p)) where
  known_on : (tag : ℕ) → is_tag tag ≡ true → (b : List ℕ) → body_fault tag b ≡ 0 → Known (grown tag b p).rules
  unfolding grown Known body_fault is_rule kind_of is_wide
  known_on =
      by_tag (λ tag. (b : List ℕ) → body_fault tag b ≡ 0 → Known (grown tag b p).rules)
      (λ b z. r.known) (λ b z. r.known) (λ b z. one (rule_of 3 b) z)
      (λ b z. r.known) (λ b z. r.known) (λ b z. r.known) (λ b z. r.known)
      (λ b z. r.known) (λ b z. r.known) (λ b z. one (rule_of 10 b) z)
    where
      one : (q : Rule) → rule_fault q ≡ 0 → (x : Rule) → Memᴰ x (p.rules ++ (q ∷ [])) → x.predicate ≤ 2
      one q z x m = ⊎_elim (λ i. r.known x i) (λ i. let e : x ≡ q = Memᴰ.eq_of_singleton i in rw e (rule-known q z)) (Memᴰ.append_cases p.rules m)

  each_on : (tag : ℕ) → is_tag tag ≡ true → (b : List ℕ) → (t : Test) → Memᴰ t (grown tag b p).tests → TestLimits t
  unfolding grown counts_of kind_of is_wide
  each_on =
      by_tag (λ tag. (b : List ℕ) → (t : Test) → Memᴰ t (grown tag b p).tests → TestLimits t)
      (λ b. r.each) (λ b. r.each) (λ b. r.each) (λ b. r.each) (λ b. r.each) (λ b. r.each)
      (λ b t m. ⊎_elim (λ i. r.each t i)
      (λ i. let q : t ≡ p.current = Memᴰ.eq_of_singleton i in rw q (record { initial = r.within.initial; main = r.within.main; checks = r.within.checks }))
      (Memᴰ.append_cases p.tests m))
      (λ b. r.each) (λ b. r.each) (λ b. r.each)

  reads_on : Reads (field_end s at) (grown (byte s at) (body_at s at) p)
  reads_on =
      let e = counts-grown (body_at s at) p (byte s at) k.tag in
      record {
        within = rw (← e) (within-counted (counts_of p) r.within (byte s at) k.tag k.limit);
        bound = rw (← e) (spread-counted (counts_of p) r.within at (byte s at) k.tag r.bound);
        known = known_on (byte s at) k.tag (body_at s at) k.body;
        each = each_on (byte s at) k.tag (body_at s at);
      }

at_most : (at : ℕ) (p : Progress) → Reads at p → at ≤ longest
at_most at p r = let b = r.bound in let l = spread-longest (counts_of p) r.within in omega arith

-- ---- what is read is within the limits

limited_end : (s : List ℕ) (at : ℕ) (p : Progress) → Reads at p → length s ≤ at → Limited s (finished s p)
unfolding finished Limited
limited_end s at p r h = go p.begun
  where
    go : (b : Bool) → Limited s (cond b (refused 7 (length s)) (answer (file p.rules p.tests)))
    go true = let l = at_most at p r in (omega arith, omega arith, omega arith)
    go false =
        let l = at_most at p r in
        (record { rules = unfold counts_of in r.within.rules; tests = unfold counts_of in r.within.tests; known = r.known; each = r.each }, omega arith)

limited_step : (f : ℕ) (s : List ℕ) (at : ℕ) (p : Progress) → Reads at p
    → (at < length s → Clean s at (counts_of p) → Limited s (read_from f s (field_end s at) (grown (byte s at) (body_at s at) p)))
    → Limited s (read_from (suc f) s at p)
unfolding read_from Limited
limited_step f s at p r rest = go (ltb at (length s)) (eqb (fault_of s at (counts_of p)) 0) refl refl
  where
    go : (b d : Bool) → ltb at (length s) ≡ b → eqb (fault_of s at (counts_of p)) 0 ≡ d
        → Limited s (cond b (cond d (read_from f s (field_end s at) (grown (byte s at) (body_at s at) p)) (refused (fault_of s at (counts_of p)) at)) (finished s p))
    go false d q e = limited_end s at p r (ltb-false _ _ q)
    go true true q e = rest (ltb-true _ _ q) (clean s at (counts_of p) (eqb-true _ _ e))
    go true false q e =
        let n : fault_of s at (counts_of p) ≢ 0 = eqb-false _ _ e in let m = fault-most s at (counts_of p) in let l = at_most at p r in
        (omega arith, omega arith, omega arith)

limited_from : (f : ℕ) (s : List ℕ) (at : ℕ) (p : Progress) → Reads at p → length s ≤ at + f → Limited s (read_from (suc f) s at p)
limited_from zero s at p r h = limited_step zero s at p r (λ lt k. absurd (omega arith))
limited_from (suc f) s at p r h = limited_step (suc f) s at p r (λ lt k. limited_from f s (field_end s at) (grown (byte s at) (body_at s at) p) (reads_on s at p r k) (omega arith))

pub limited : WithinLimits
unfolding read_of
limited s = limited_from (length s) s 0 nothing reads_start (omega arith)

-- ---- a file longer than any accepted one

module _ (s : List ℕ) (n at : ℕ) (c : Counts) (h : at + longest_field ≤ n) (le : n ≤ length s) where
  byte_prefix : (i : ℕ) → i < n → byte (take n s) i ≡ byte s i
  byte_prefix i l = get_or-take n s i 0 l

  half_prefix : half (take n s) (at + 1) ≡ half s (at + 1)
  unfolding half
  half_prefix = rw (byte_prefix (at + 1) (omega arith), byte_prefix (at + 1 + 1) (omega arith))

  size_prefix : length (take n s) ≡ n
  size_prefix = length-take-le n s le

  fault_prefix : fault_of (take n s) at c ≡ fault_of s at c
  unfolding fault_of
  fault_prefix =
      rw (size_prefix, byte_prefix at (omega arith), half_prefix, le-ltb (n - at) head_length (omega arith), le-ltb (length s - at) head_length (omega arith))
      (go (is_tag (byte s at)) refl)
    where
      tail : ℕ → ℕ → ℕ
      tail room body = cond (out_of_order (kind_of (byte s at)) c) 4 (cond (over_limit (kind_of (byte s at)) c) 6 (cond (not (eqb (half s (at + 1)) (body_length (byte s at)))) 3 (cond (ltb room (body_length (byte s at))) 1 body)))

      go : (b : Bool) → is_tag (byte s at) ≡ b
          → ◌≡◌ {A = ℕ} (cond (not b) 2 (tail (n - (at + head_length)) (body_fault (byte s at) (take (body_length (byte s at)) (drop (at + head_length) (take n s))))))
          (cond (not b) 2 (tail (length s - (at + head_length)) (body_fault (byte s at) (body_at s at))))
      go false e = refl
      go true e =
          let m = body_most (byte s at) e in
          rw (part_of_prefix (at + head_length) (body_length (byte s at)) n s (omega arith), le-ltb (n - (at + head_length)) (body_length (byte s at)) (omega arith), le-ltb (length s - (at + head_length)) (body_length (byte s at)) (omega arith))

prefix_from : (f g : ℕ) (s : List ℕ) (n at : ℕ) (p : Progress) → longest + longest_field ≤ n → n ≤ length s → Reads at p
    → longest < at + f → longest < at + g → read_from f (take n s) at p ≡ read_from g s at p
unfolding read_from
prefix_from zero g s n at p h le r a b = let l = at_most at p r in absurd (omega arith)
prefix_from (suc f) zero s n at p h le r a b = let l = at_most at p r in absurd (omega arith)
prefix_from (suc f) (suc g) s n at p h le r a b =
    let l = at_most at p r in
    rw (size_prefix s n at (counts_of p) (omega arith) le, fault_prefix s n at (counts_of p) (omega arith) le, lt-ltb at n (omega arith), lt-ltb at (length s) (omega arith), byte_prefix s n at (counts_of p) (omega arith) le at (omega arith))
    (go (eqb (fault_of s at (counts_of p)) 0) refl (λ k. prefix_from f g s n (field_end s at) (grown (byte s at) (body_at s at) p) h le (reads_on s at p r k) (omega arith) (omega arith)))
  where
    go : (d : Bool) → eqb (fault_of s at (counts_of p)) 0 ≡ d
        → (Clean s at (counts_of p) → read_from f (take n s) (field_end s at) (grown (byte s at) (body_at s at) p) ≡ read_from g s (field_end s at) (grown (byte s at) (body_at s at) p))
        → cond d (read_from f (take n s) (field_end s at) (grown (byte s at) (take (body_length (byte s at)) (drop (at + head_length) (take n s))) p)) (refused (fault_of s at (counts_of p)) at)
        ≡ cond d (read_from g s (field_end s at) (grown (byte s at) (body_at s at) p)) (refused (fault_of s at (counts_of p)) at)
    go true e ih =
        let k = clean s at (counts_of p) (eqb-true _ _ e) in
        let m = body_most (byte s at) k.tag in
        let l = at_most at p r in
        rw (part_of_prefix (at + head_length) (body_length (byte s at)) n s (omega arith)) (ih k)
    go false e ih = refl

pub prefix : PrefixEnough
unfolding read_of
prefix s n h le =
    rw (length-take-le n s le)
    (prefix_from (suc n) (suc (length s)) s n 0 nothing h le reads_start (omega arith) (omega arith))
