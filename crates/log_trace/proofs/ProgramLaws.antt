-- The fields of a program are those of its puts' writes.
use mathlib.Core.Path.{◌≡◌, refl, sym, ap, ◌∙◌}
use mathlib.Core.Bool.{Bool, true, false, cond, not, ◌&&◌, ◌||◌}
use mathlib.Core.List.{List, [], ◌∷◌, ◌++◌, append_assoc, append-nil}
use Prim.Native.Nat.{ℕ, zero, suc, ◌+◌, ◌*◌, ◌/◌, ◌%◌, ◌≤◌, ◌<◌}
use native.Mathlib.Nat.{zero-add}
use native.Mathlib.Omega.{arith}
use lib.ListN.{length, drop}
use lib.Dec.{eqb, ltb}
use lib.Seq.{sets-eq}
use Rattle.relation.specs.Lists.{any, any_below, tabulate}
use borrow.Author.Rules.{rules}
use borrow.Author.Tests.{eqb-true, eq-eqb, ne_eqb, lt-ltb, le-ltb, ltb-false}
use Rattle.relation.proofs.ListLaws.{any_append, length-tabulate, and_left, and_right, and_intro, bool_equal}
use Rattle.std.specs.Prelude.{Result, Ok, Err}
use Rattle.model.specs.declared.Cause.{Cause}
use Rattle.model.specs.declared.Refusal.{Refusal}
use Rattle.model.proofs.CauseLaws.{number_positive}
use Rattle.model.specs.Limits.{most_initial_puts, most_main_puts}
use Rattle.model.specs.declared.Write.{Write}
use Rattle.model.specs.Disk.{block}
use Rattle.file_format.specs.Bytes.{half, word, block_length}
use Rattle.file_format.specs.Encode.{field_bytes, write_field_bytes, write_fields, check_field_bytes, check_fields, test_bytes}
use Rattle.log_get.specs.Puts.{Put, Log, log, start, put_writes, after, after_all, writes_of, puts_of, empty_put, log_test, traced, trace_of}
use Rattle.model.specs.Answer.{answer, refused, refusal, coded, number_of, fault_number, at_zero}
use Rattle.file_writing.specs.Writing.{Wrote}
use Rattle.file_writing.proofs.WroteLaws.{wrote_then}
use Rattle.log_puts.specs.Fields.{put_fields, program_fields, end_fields}
use Rattle.log_trace.specs.Traced.{empty_below, size_of, test_fields, trace_fault, trace_out, trace_answer}

-- put i of a program
abbrev pub put_at : List ℕ → ℕ → Put
put_at s i = record { key = half s (block_length * i); value = half s (block_length * i + 2) }

pub fields_append : (tag : ℕ) (a b : List Write) → write_fields tag (a ++ b) ≡ write_fields tag a ++ write_fields tag b
unfolding write_fields
fields_append tag [] b = refl
fields_append tag (w ∷ ws) b = rw (fields_append tag ws b) (sym (append_assoc (write_field_bytes tag w) (write_fields tag ws) (write_fields tag b)))

pub writes-append : (l : Log) (ps qs : List Put) → writes_of l (ps ++ qs) ≡ writes_of l ps ++ writes_of (after_all l ps) qs
unfolding writes_of after_all
writes-append l [] qs = refl
writes-append l (p ∷ ps) qs = rw (writes-append (after l) ps qs) (sym (append_assoc (put_writes l p) (writes_of (after l) ps) (writes_of (after_all (after l) ps) qs)))

ap2_log : {a b c d : ℕ} → a ≡ b → c ≡ d → log 1 a c ≡ log 1 b d
ap2_log p q = rw (p, q)

-- n puts move tail and epoch by n
pub after_puts : (t e : ℕ) (ps : List Put) → after_all (log 1 t e) ps ≡ log 1 (t + length ps) (e + length ps)
unfolding after_all after
after_puts t e [] = ap2_log (omega arith) (omega arith)
after_puts t e (p ∷ ps) =
    after_puts (t + 1) (e + 1) ps
    ∙ ap2_log (omega arith) (omega arith)

next-tail : (t : ℕ) → 1 * 65536 + (t + 1) ≡ 65537 + t
next-tail t = omega arith

one-put : (tag t e : ℕ) (s : List ℕ) (i : ℕ) → write_fields tag (writes_of (log 1 t e) (put_at s i ∷ [])) ≡ put_fields tag t e (word s (block_length * i))
unfolding write_fields write_field_bytes writes_of put_writes put_fields word block
one-put tag t e s i = rw (next-tail t, append-nil)

fields_none : (tag : ℕ) (l : Log) → [] ≡ write_fields tag (writes_of l [])
unfolding writes_of write_fields
fields_none tag l = refl

pub program-fields : (tag t e : ℕ) (s : List ℕ) (n : ℕ) → program_fields tag t e s n ≡ write_fields tag (writes_of (log 1 t e) (tabulate (put_at s) n))
unfolding program_fields tabulate
program-fields tag t e s zero = fields_none tag (log 1 t e)
program-fields tag t e s (suc n) =
    rw (writes-append (log 1 t e) (tabulate (put_at s) n) (put_at s n ∷ []), fields_append tag (writes_of (log 1 t e) (tabulate (put_at s) n)) (writes_of (after_all (log 1 t e) (tabulate (put_at s) n)) (put_at s n ∷ [])), after_puts t e (tabulate (put_at s) n), length-tabulate (put_at s) n, one-put tag (t + n) (e + n) s n)
    (ap (λ (x : List ℕ). x ++ put_fields tag (t + n) (e + n) (word s (block_length * n))) (program-fields tag t e s n))

or_none : (a : Bool) → a || false ≡ a
or_none true = refl
or_none false = refl

both_zero : (a b : ℕ) → eqb a 0 && eqb b 0 ≡ eqb (a * 65536 + b) 0
both_zero a b = bool_equal (eqb a 0 && eqb b 0) (eqb (a * 65536 + b) 0)
    (λ e. let p : a ≡ 0 = eqb-true a 0 (and_left (eqb a 0) (eqb b 0) e) in let q : b ≡ 0 = eqb-true b 0 (and_right (eqb a 0) (eqb b 0) e) in eq-eqb (a * 65536 + b) 0 (omega arith))
    (λ e. let z : a * 65536 + b ≡ 0 = eqb-true (a * 65536 + b) 0 e in let p : a ≡ 0 = omega arith in let q : b ≡ 0 = omega arith in and_intro (eqb a 0) (eqb b 0) (eq-eqb a 0 p) (eq-eqb b 0 q))

-- an empty put is one whose block is 0
empty-word : (s : List ℕ) (i : ℕ) → empty_put (put_at s i) ≡ eqb (word s (block_length * i)) 0
unfolding empty_put word
empty-word s i = both_zero (half s (block_length * i)) (half s (block_length * i + 2))

any-one : (s : List ℕ) (n : ℕ) → any empty_put (put_at s n ∷ []) ≡ eqb (word s (block_length * n)) 0
unfolding any
any-one s n = or_none (empty_put (put_at s n)) ∙ empty-word s n

pub any-empty : (s : List ℕ) (n : ℕ) → any empty_put (tabulate (put_at s) n) ≡ empty_below s n
unfolding tabulate empty_below any_below
any-empty s zero = unfold any in refl
any-empty s (suc n) = rw (any_append empty_put (tabulate (put_at s) n) (put_at s n ∷ [])) (rw (any-one s n, any-empty s n) refl)

-- the test of two programs, in the order in which its fields are written
pub test-bytes : (initial main : List ℕ) (n m : ℕ)
    → test_fields initial main n m ≡ test_bytes (log_test (tabulate (put_at initial) n) (tabulate (put_at main) m))
unfolding test_fields test_bytes log_test start check_fields check_field_bytes field_bytes
test-bytes initial main n m =
    rw (after_puts 1 0 (tabulate (put_at initial) n), length-tabulate (put_at initial) n, zero-add n, program-fields 1 1 0 initial n, program-fields 2 (1 + n) n main m) refl

-- the first of four refusals, by its number
choices : {A : Type 0} (a b c d e f g : Bool) (x : A) (k : ℕ → A)
    → cond (a || b) (k 19) (cond (c || d) (k 6) (cond (e || f) (k 20) (cond g (k 12) x)))
    ≡ (let n = cond a 19 (cond b 19 (cond c 6 (cond d 6 (cond e 20 (cond f 20 (cond g 12 0)))))) in cond (eqb n 0) x (k n))
choices true b c d e f g x k = refl
choices false true c d e f g x k = refl
choices false false true d e f g x k = refl
choices false false false true e f g x k = refl
choices false false false false true f g x k = refl
choices false false false false false true g x k = refl
choices false false false false false false true x k = refl
choices false false false false false false false x k = refl

-- what trace leaves, by its fault
pub by-fault : (initial main buffer : List ℕ)
    → trace_of initial main buffer
    ≡ cond (eqb (trace_fault initial main (length buffer)) 0)
    (traced (answer (size_of (length initial / block_length) (length main / block_length))) (test_bytes (log_test (puts_of initial) (puts_of main)) ++ drop (size_of (length initial / block_length) (length main / block_length)) buffer))
    (traced (refused (trace_fault initial main (length buffer)) 0) buffer)
unfolding trace_of trace_fault puts_of
by-fault initial main buffer =
    let n = length initial / block_length in
    let m = length main / block_length in
    rw (length-tabulate (put_at initial) n, length-tabulate (put_at main) m, any-empty initial n, any-empty main m)
    (choices (not (eqb (length initial % block_length) 0)) (not (eqb (length main % block_length) 0)) (ltb most_initial_puts n) (ltb most_main_puts m) (empty_below initial n) (empty_below main m) (ltb (length buffer) (size_of n m))
    (traced (answer (size_of n m)) (test_bytes (log_test (tabulate (put_at initial) n) (tabulate (put_at main) m)) ++ drop (size_of n m) buffer)) (λ k. traced (refused k 0) buffer))

-- which refusal, or none, in the code's order
module _ (i m : List ℕ) (room : ℕ) (a : length i % block_length ≡ 0) (b : length m % block_length ≡ 0) (c : length i / block_length ≤ most_initial_puts) (d : length m / block_length ≤ most_main_puts) where
  past : trace_fault i m room ≡ cond (empty_below i (length i / block_length)) 20 (cond (empty_below m (length m / block_length)) 20 (cond (ltb room (size_of (length i / block_length) (length m / block_length))) 12 0))
  unfolding trace_fault
  past = rw (eq-eqb (length i % block_length) 0 a, eq-eqb (length m % block_length) 0 b, le-ltb most_initial_puts (length i / block_length) c, le-ltb most_main_puts (length m / block_length) d) refl

  pub fault-initial : (e : Bool) → e ≡ empty_below i (length i / block_length) → e ≡ true → 20 ≡ trace_fault i m room
  fault-initial e p q = sym (past ∙ rw (← p, q) refl)

  pub fault-main : (e f : Bool) → e ≡ empty_below i (length i / block_length) → e ≡ false → f ≡ empty_below m (length m / block_length) → f ≡ true → 20 ≡ trace_fault i m room
  fault-main e f p q r s = sym (past ∙ rw (← p, q, ← r, s) refl)

  pub fault-room : (e f : Bool) → e ≡ empty_below i (length i / block_length) → e ≡ false → f ≡ empty_below m (length m / block_length) → f ≡ false → room < size_of (length i / block_length) (length m / block_length) → 12 ≡ trace_fault i m room
  fault-room e f p q r s l = sym (past ∙ rw (← p, q, ← r, s, lt-ltb room (size_of (length i / block_length) (length m / block_length)) l) refl)

  pub fault-none : (e f : Bool) → e ≡ empty_below i (length i / block_length) → e ≡ false → f ≡ empty_below m (length m / block_length) → f ≡ false → size_of (length i / block_length) (length m / block_length) ≤ room → 0 ≡ trace_fault i m room
  fault-none e f p q r s l = sym (past ∙ rw (← p, q, ← r, s, le-ltb room (size_of (length i / block_length) (length m / block_length)) l) refl)

on : (b : Bool) (x y : ℕ) → (x ≡ 0 → ⊥) → cond b x y ≡ 0 → b ≡ false
on true x y n e = absurd (n e)
on false x y n e = refl

rest : (b : Bool) (x y : ℕ) → (x ≡ 0 → ⊥) → cond b x y ≡ 0 → y ≡ 0
rest true x y n e = absurd (n e)
rest false x y n e = e

-- without a fault all fits
module _ (i m : List ℕ) (room : ℕ) (none : trace_fault i m room ≡ 0) where
  pub fits-initial : length i / block_length ≤ most_initial_puts
  unfolding trace_fault
  fits-initial =
      ltb-false most_initial_puts (length i / block_length)
      (on (ltb most_initial_puts (length i / block_length)) 6 _ (λ (q : 6 ≡ 0). absurd (omega arith))
      (rest (not (eqb (length m % block_length) 0)) 19 _ (λ (q : 19 ≡ 0). absurd (omega arith))
      (rest (not (eqb (length i % block_length) 0)) 19 _ (λ (q : 19 ≡ 0). absurd (omega arith)) none)))

  pub fits-main : length m / block_length ≤ most_main_puts
  unfolding trace_fault
  fits-main =
      ltb-false most_main_puts (length m / block_length)
      (on (ltb most_main_puts (length m / block_length)) 6 _ (λ (q : 6 ≡ 0). absurd (omega arith))
      (rest (ltb most_initial_puts (length i / block_length)) 6 _ (λ (q : 6 ≡ 0). absurd (omega arith))
      (rest (not (eqb (length m % block_length) 0)) 19 _ (λ (q : 19 ≡ 0). absurd (omega arith))
      (rest (not (eqb (length i % block_length) 0)) 19 _ (λ (q : 19 ≡ 0). absurd (omega arith)) none))))

  pub fits-room : size_of (length i / block_length) (length m / block_length) ≤ room
  unfolding trace_fault
  fits-room =
      ltb-false room (size_of (length i / block_length) (length m / block_length))
      (on (ltb room (size_of (length i / block_length) (length m / block_length))) 12 0 (λ (q : 12 ≡ 0). absurd (omega arith))
      (rest (empty_below m (length m / block_length)) 20 _ (λ (q : 20 ≡ 0). absurd (omega arith))
      (rest (empty_below i (length i / block_length)) 20 _ (λ (q : 20 ≡ 0). absurd (omega arith))
      (rest (ltb most_main_puts (length m / block_length)) 6 _ (λ (q : 6 ≡ 0). absurd (omega arith))
      (rest (ltb most_initial_puts (length i / block_length)) 6 _ (λ (q : 6 ≡ 0). absurd (omega arith))
      (rest (not (eqb (length m % block_length) 0)) 19 _ (λ (q : 19 ≡ 0). absurd (omega arith))
      (rest (not (eqb (length i % block_length) 0)) 19 _ (λ (q : 19 ≡ 0). absurd (omega arith)) none)))))))

module _ (i m : List ℕ) (room : ℕ) (x : Result (Unit {0}) Cause) (u : Unit {0}) (e : fault_number x ≡ trace_fault i m room) (q : x ≡ Ok u) where
  none : trace_fault i m room ≡ 0
  none = sym e ∙ rw q

  pub few-initial : length i / block_length ≤ most_initial_puts
  few-initial = fits-initial i m room none

  pub few-main : length m / block_length ≤ most_main_puts
  few-main = fits-main i m room none

  pub small-enough : size_of (length i / block_length) (length m / block_length) ≤ room
  small-enough = fits-room i m room none

module _ (i m l : List ℕ) (x : Result (Unit {0}) Cause) (e : fault_number x ≡ trace_fault i m (length l)) where
  pub trace-refused : (cause : Cause) (why : Refusal) (r : ℕ) → x ≡ Err cause → why ≡ at_zero cause → r ≡ refusal (number_of why.cause) why.place → trace_out r l ≡ trace_answer i m l
  unfolding trace_answer coded
  trace-refused cause why r h k q =
      let n = number_positive cause in
      let f : number_of cause ≡ trace_fault i m (length l) = rw h at e in
      rw (by-fault i m l, ← f, ne_eqb (number_of cause) 0 (λ (z : number_of cause ≡ 0). absurd (omega arith)), q, k) refl

  pub trace-written : (out : List ℕ) (r : ℕ) (u : Unit {0}) → x ≡ Ok u → Wrote l 0 (test_fields i m (length i / block_length) (length m / block_length)) out r → r ≡ size_of (length i / block_length) (length m / block_length) → trace_out r out ≡ trace_answer i m l
  unfolding trace_answer coded puts_of
  trace-written out r u h w s =
      let f : 0 ≡ trace_fault i m (length l) = rw h at e in
      let t = test_fields i m (length i / block_length) (length m / block_length) in
      let k : length t ≡ size_of (length i / block_length) (length m / block_length) = omega (arith, w.place, s) in
      let b : out ≡ t ++ drop (size_of (length i / block_length) (length m / block_length)) l = w.buffer ∙ sets-eq t l 0 (omega (arith, k, fits-room i m (length l) (sym f))) ∙ rw (k, zero-add (size_of (length i / block_length) (length m / block_length))) refl in
      rw (by-fault i m l, ← f, b, s, test-bytes i m (length i / block_length) (length m / block_length)) refl

-- the three parts of a test
pub test-wrote : (i m : List ℕ) (n k p q : ℕ) (l l₁ l₂ l₃ : List ℕ) (r₁ r₂ r₃ : ℕ) → p ≡ n → q ≡ k
    → Wrote l 0 (program_fields 1 1 0 i p) l₁ r₁ → Wrote l₁ r₁ (program_fields 2 (1 + p) p m q) l₂ r₂ → Wrote l₂ r₂ end_fields l₃ r₃ → Wrote l 0 (test_fields i m n k) l₃ r₃
unfolding test_fields
test-wrote i m n k p q l l₁ l₂ l₃ r₁ r₂ r₃ d e a b c = wrote_then _ _ _ _ _ _ _ _ (rw d at a) (wrote_then _ _ _ _ _ _ _ _ (rw (d, e) at b) c)

pub ruleset faults = (rules, fault-initial, fault-main, fault-room, fault-none, few-initial, few-main, small-enough, trace-refused, trace-written, test-wrote)
