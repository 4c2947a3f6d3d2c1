-- The loop over the fields: from each place on the scan gives what it gives from the start.
use mathlib.Core.Path.{◌≡◌, refl, sym, subst, ◌∙◌}
use mathlib.Core.Bool.{true, false}
use mathlib.Core.List.{List}
use Prim.Native.Nat.{ℕ, zero, suc, ◌+◌, ◌≤◌, ◌<◌}
use native.Mathlib.Numerals.{add-one}
use native.Mathlib.Omega.{arith}
use lib.ListN.{length, take, set, length-set}
use lib.Seq.{take-suc-set, take-set-le}
use borrow.Author.Rules.{rules}
use borrow.Author.Tests.{lt-ltb, le-ltb, eq-eqb, ne_eqb}
use Rattle.model.specs.Limits.{most_tests}
use Rattle.std.specs.Prelude.{Result, Ok, Err}
use Rattle.model.specs.declared.Cause.{Cause}
use Rattle.model.specs.declared.Cause.TheVariants.{TestNotEnded}
use Rattle.model.specs.declared.Refusal.{Refusal}
use Rattle.model.specs.Answer.{refused, number_of, fault_number}
use Rattle.model.proofs.CauseLaws.{number_positive}
use Rattle.file_format.specs.declared.Kind.{Kind}
use Rattle.file_format.specs.declared.Extent.{Extent}
use Rattle.file_format.specs.declared.ScanState.{ScanState}
use Rattle.file_format.specs.declared.Contents.{Contents}
use Rattle.file_format.specs.Bytes.{byte, half}
use Rattle.file_format.specs.File.{head_length, is_tag, kind_of, kind_number, fault_of, field_end}
use Rattle.file_format.specs.Scan.{in_hand, counted, found, advanced, ended, scan_from, started, scan_of}
use Rattle.file_format.specs.Held.{Scans}
use Rattle.file_reader.specs.Limits.{Within}
use Rattle.file_reader.proofs.LimitLaws.{clean, clean_fits, by_kind, within-counted, counted-room}

-- fuel enough is left, and the answer from here is the whole answer
abbrev pub Ahead : List ℕ → ℕ → ScanState → List Extent → Type 0
Ahead s at st tests = (f : ℕ) × (length s ≤ at + f) × (scan_from (suc f) s at st tests ≡ scan_of s)

-- the finished tests are the first ones of the array
abbrev pub Going : List ℕ → ℕ → ScanState → List Extent → Type 0
Going s at st tests = (at ≤ length s) × (length tests ≡ most_tests) × Within st.counts × Ahead s at st (take st.counts.tests tests)

pub start : (s : List ℕ) (tests : List Extent) → length tests ≡ most_tests → Going s 0 started tests
unfolding scan_of started
start s tests l = (
  omega arith,
  l,
  record {
    rules = omega arith;
    tests = omega arith;
    begun = λ q. omega arith;
    initial = omega arith;
    main = omega arith;
    checks = omega arith;
    none = λ q. (refl, refl, refl);
  },
  (length s, omega arith, refl),
)

-- the counts that the code begins with
pub start_fresh : (s : List ℕ) (tests : List Extent) (st : ScanState)
    → ((st.counts.rules ≡ 0) × ((st.counts.tests ≡ 0) × ((st.counts.begun ≡ false) × ((st.counts.initial ≡ 0) × ((st.counts.main ≡ 0) × (st.counts.checks ≡ 0)))))) × (st.from ≡ 0)
    → length tests ≡ most_tests → Going s 0 st tests
unfolding started
start_fresh s tests st e l =
    let p : st ≡ started = rw (e.0.0, e.0.1.0, e.0.1.1.0, e.0.1.1.1.0, e.0.1.1.1.1.0, e.0.1.1.1.1.1, e.1) refl in
    subst (λ (x : ScanState). Going s 0 x tests) (sym p) (start s tests l)

-- the test in hand, put behind the finished ones, is one of these after its end, and no part of them otherwise
found-put : (st : ScanState) (tests : List Extent) → st.counts.tests < length tests → (tag : ℕ) → is_tag tag ≡ true
    → take (counted (kind_of tag) st.counts).tests (set tests st.counts.tests (in_hand st)) ≡ found (kind_of tag) st (take st.counts.tests tests)
unfolding counted found
found-put st tests l =
    by_kind (λ kind. take (counted kind st.counts).tests (set tests st.counts.tests (in_hand st)) ≡ found kind st (take st.counts.tests tests))
    kept kept kept kept kept kept
    (rw (add-one st.counts.tests) (take-suc-set tests st.counts.tests (in_hand st) l))
  where
    kept : take st.counts.tests (set tests st.counts.tests (in_hand st)) ≡ take st.counts.tests tests
    kept = take-set-le st.counts.tests tests st.counts.tests (in_hand st) (omega arith)

module _ (s : List ℕ) (at : ℕ) (st : ScanState) (tests : List Extent) (going : Going s at st tests) (lt : at < length s) where
  module _ (x : Result Kind Cause) (e : fault_number x ≡ fault_of s at st.counts) where
    -- a field that is not refused ends inside the file, and its test has a place in the array
    module _ (u : Kind) (q : x ≡ Ok u) where
      fault-free : fault_of s at st.counts ≡ 0
      fault-free = sym e ∙ rw q

      pub whole : at + 1 + 1 < length s
      whole = let h = (clean s at st.counts fault-free).whole in omega arith

      pub ahead : (r : ℕ) → r ≡ half s (at + 1) → at + head_length + r ≤ length s
      ahead r z =
          let k = clean s at st.counts fault-free in
          let h = clean_fits s at st.counts k in
          let l = k.size in
          omega arith

      pub room : st.counts.tests < most_tests
      room =
          let k = clean s at st.counts fault-free in
          counted-room st.counts going.2 (byte s at) k.tag k.order k.limit

      pub next : (r : ℕ) (st' : ScanState) (y : Extent) → r ≡ half s (at + 1) → y ≡ in_hand st → kind_number u ≡ kind_of (byte s at)
          → st' ≡ advanced (kind_number u) (at + head_length + r) st → Going s (at + head_length + r) st' (set tests st.counts.tests y)
      unfolding scan_from advanced
      next r st' y z i v f =
          rw (f, v, z ∙ (clean s at st.counts fault-free).size, i)
          (let k = clean s at st.counts fault-free in
          let l : st.counts.tests < length tests = let m = room in let n = going.1 in omega arith in (
            clean_fits s at st.counts k,
            length-set tests st.counts.tests (in_hand st) ∙ going.1,
            within-counted st.counts going.2 (byte s at) k.tag k.limit,
            rw (found-put st tests l (byte s at) k.tag) (go going.3.0 going.3.1 going.3.2),
          ))
        where
          go : (f : ℕ) → length s ≤ at + f → scan_from (suc f) s at st (take st.counts.tests tests) ≡ scan_of s
              → Ahead s (field_end s at) (advanced (kind_of (byte s at)) (field_end s at) st) (found (kind_of (byte s at)) st (take st.counts.tests tests))
          go zero le h = absurd (omega arith)
          go (suc f) le h = (f, omega arith, rw (lt-ltb _ _ lt, eq-eqb _ _ fault-free) at h)

    pub stop : (cause : Cause) → x ≡ Err cause → Scans (scan_of s) (Err (record { cause = cause; place = at }))
    unfolding scan_from Scans
    stop cause q =
        let z : number_of cause ≡ fault_of s at st.counts = rw q at e in
        let n = number_positive cause in
        let h : refused (fault_of s at st.counts) at ≡ scan_of s = rw (lt-ltb _ _ lt, ne_eqb (fault_of s at st.counts) 0 (λ (q : fault_of s at st.counts ≡ 0). absurd (omega arith))) at going.3.2 in
        rw z (sym h)

-- the file's end: a test that has begun is refused
module _ (size : ℕ) (st : ScanState) (tests : List Extent) (w : Within st.counts) where
  pub end_begun : st.counts.begun ≡ true
      → Scans (ended size st (take st.counts.tests tests)) (Err (record { cause = TestNotEnded; place = size }))
  unfolding ended Scans
  end_begun h = rw h

  pub end_done : st.counts.begun ≡ false → length tests ≡ most_tests
      → Scans (ended size st (take st.counts.tests tests)) (Ok (record { rules = st.counts.rules; count = st.counts.tests; tests = tests }))
  unfolding ended Scans
  end_done h l = (rw h, w.rules, w.tests, l)

pub ruleset ends = (rules, end_begun, end_done)

pub end : (s : List ℕ) (at : ℕ) (st : ScanState) (tests : List Extent) (r : Result Contents Refusal) → Going s at st tests → length s ≤ at
    → Scans (ended (length s) st (take st.counts.tests tests)) r → Scans (scan_of s) r
unfolding scan_from
end s at st tests r going le g =
    let h : ended (length s) st (take st.counts.tests tests) ≡ scan_of s = rw (le-ltb _ _ le) at going.3.2 in
    rw (← h) g

pub ruleset reads_on = (rules, start_fresh, whole, ahead, room, next, stop, end)
