-- What trace writes is read back: its parts fit their widths, and reading inverts the bytes of a test.
use mathlib.Core.Path.{◌≡◌, refl, sym, ap, ◌∙◌}
use mathlib.Core.Bool.{Bool, true, false, cond, false≢true}
use mathlib.Core.List.Memᴰ
use mathlib.Core.List.{List, [], ◌∷◌, ◌++◌, Memᴰ}
use mathlib.Core.Logic.{⊎_elim}
use Prim.Native.Nat.{ℕ, zero, suc, ◌+◌, ◌*◌, ◌/◌, ◌≤◌, ◌<◌}
use native.Mathlib.Omega.{arith}
use lib.ListN.{length, length-append, take, drop}
use lib.Dec.{eqb}
use borrow.Author.Tests.{eqb-true}
use Rattle.relation.specs.Lists.{tabulate}
use Rattle.relation.proofs.ListLaws.{length-tabulate}
use Rattle.model.specs.Limits.{last_block, most_initial_puts, most_main_puts}
use Rattle.model.specs.declared.Write.{Write}
use Rattle.model.specs.declared.Check.TheVariants.{Range}
use Rattle.model.specs.Answer.{Outcome, answer, refused}
use Rattle.model.specs.Disk.{block}
use Rattle.model.specs.Test.{file}
use Rattle.file_format.specs.Bytes.{Small, half, word, block_length, narrow_write_bytes}
use Rattle.file_format.specs.Encode.{field_bytes, test_bytes, WriteFits, CheckFits, TestFits}
use Rattle.file_format.specs.File.{read_of, put_length}
use Rattle.file_reader.specs.Limits.{TestLimits}
use Rattle.file_encoding.proofs.PartLaws.{Bounded}
use Rattle.file_encoding.proofs.FitLaws.{bounded}
use Rattle.file_encoding.proofs.ReadLaws.{one-test}
use Rattle.log_get.specs.Puts.{Put, Log, log, start, put_writes, after, after_all, writes_of, puts_of, log_test, Traced, traced, trace_of}
use Rattle.log_puts.specs.Fields.{put_fields, program_fields, end_fields}
use Rattle.log_trace.specs.Traced.{test_fields, size_of, trace_fault}
use Rattle.log_trace.specs.Theorem.{ReadBack}
use Rattle.log_trace.proofs.ProgramLaws.{put_at, after_puts, test-bytes, by-fault, fits-initial, fits-main}

-- ---- widths

pub record PutFits (p : Put) : Type 0 where
  pub key : p.key < 65536
  pub value : p.value < 65536

Fit : List Put → Type 0
Fit ps = (p : Put) → Memᴰ p ps → PutFits p

writes-length : (l : Log) (ps : List Put) → length (writes_of l ps) ≡ 2 * length ps
unfolding writes_of put_writes
writes-length l [] = refl
writes-length l (p ∷ ps) = omega (arith, writes-length (after l) ps)

writes_fit : (t e : ℕ) (ps : List Put) → Fit ps → t + length ps < last_block → e + length ps < last_block → (w : Write) → Memᴰ w (writes_of (log 1 t e) ps) → WriteFits w
unfolding writes_of put_writes after block Fit
writes_fit t e [] f h k w m = absurd (Memᴰ.not-nil m)
writes_fit t e (p ∷ ps) f h k w (Memᴰ.head q) =
    let a = f p (Memᴰ.head refl) in
    rw q (record { address = omega arith; name = omega arith; epoch = omega arith; block = omega (arith, a.key, a.value) })
writes_fit t e (p ∷ ps) f h k w (Memᴰ.tail (Memᴰ.head q)) = rw q (record { address = omega arith; name = omega arith; epoch = omega arith; block = omega arith })
writes_fit t e (p ∷ ps) f h k w (Memᴰ.tail (Memᴰ.tail m)) = writes_fit (t + 1) (e + 1) ps (λ x n. f x (Memᴰ.tail n)) (omega arith) (omega arith) w m

-- a program's puts fit, as its bytes do
puts_fit : (s : List ℕ) → Bounded s → (n : ℕ) → Fit (tabulate (put_at s) n)
unfolding tabulate half Fit
puts_fit s b zero p m = absurd (Memᴰ.not-nil m)
puts_fit s b (suc n) p m =
    ⊎_elim (puts_fit s b n p)
    (λ o. let q : p ≡ put_at s n = Memᴰ.eq_of_singleton o in
    rw q (record { key = omega (arith, b (block_length * n), b (block_length * n + 1)); value = omega (arith, b (block_length * n + 2), b (block_length * n + 2 + 1)) }))
    (Memᴰ.append_cases (tabulate (put_at s) n) m)

-- ---- a whole test

module _ (i m : List Put) (f : Fit i) (g : Fit m) (h : length i ≤ most_initial_puts) (k : length m ≤ most_main_puts) where
  log-limits : TestLimits (log_test i m)
  unfolding log_test
  log-limits = record {
    initial = omega (arith, writes-length start i);
    main = omega (arith, writes-length (after_all start i) m);
    checks = omega arith;
  }

  log-fits : TestFits (log_test i m)
  unfolding log_test start CheckFits
  log-fits = record {
    initial = writes_fit 1 0 i f (omega arith) (omega arith);
    main = rw (after_puts 1 0 i) (writes_fit (1 + length i) (0 + length i) m g (omega arith) (omega arith));
    checks = λ c n. let q : c ≡ Range 0 = Memᴰ.eq_of_singleton n in rw q (omega arith);
  }

  log-read : read_of (test_bytes (log_test i m)) ≡ answer (file [] (log_test i m ∷ []))
  log-read = one-test (log_test i m) log-limits log-fits

-- ---- its length

put-length : (tag t e b : ℕ) → length (put_fields tag t e b) ≡ put_length
unfolding put_fields field_bytes narrow_write_bytes
put-length tag t e b = refl

program_length : (tag t e : ℕ) (s : List ℕ) (n : ℕ) → length (program_fields tag t e s n) ≡ put_length * n
unfolding program_fields
program_length tag t e s zero = refl
program_length tag t e s (suc n) =
    length-append (program_fields tag t e s n) (put_fields tag (t + n) (e + n) (word s (block_length * n))) ∙ omega (arith, program_length tag t e s n, put-length tag (t + n) (e + n) (word s (block_length * n)))

test-length : (i m : List ℕ) (n k : ℕ) → length (test_fields i m n k) ≡ size_of n k
unfolding test_fields
test-length i m n k =
    length-append (program_fields 1 1 0 i n) (program_fields 2 (1 + n) n m k ++ end_fields)
    ∙ omega (arith, length-append (program_fields 2 (1 + n) n m k) end_fields, program_length 1 1 0 i n, program_length 2 (1 + n) n m k)

take-append : (a b : List ℕ) → take (length a) (a ++ b) ≡ a
take-append [] b = refl
take-append (x ∷ a) b = ap (λ (r : List ℕ). x ∷ r) (take-append a b)

-- the first bytes are the test's
front : (i m l : List ℕ) (n k : ℕ) → take (size_of n k) (test_bytes (log_test (tabulate (put_at i) n) (tabulate (put_at m) k)) ++ drop (size_of n k) l) ≡ test_bytes (log_test (tabulate (put_at i) n) (tabulate (put_at m) k))
front i m l n k = rw (← test-bytes i m n k, ← test-length i m n k) (take-append (test_fields i m n k) (drop (length (test_fields i m n k)) l))

size-of : Outcome ℕ → ℕ
size-of (answer n) = n
size-of (refused n p) = 0

is-answer : Outcome ℕ → Bool
is-answer (answer n) = true
is-answer (refused n p) = false

module _ (i m l : List ℕ) (p : Small i) (q : Small m) where
  written : (b : Bool) → eqb (trace_fault i m (length l)) 0 ≡ b → (o : Traced)
      → o ≡ cond b (traced (answer (size_of (length i / block_length) (length m / block_length))) (test_bytes (log_test (puts_of i) (puts_of m)) ++ drop (size_of (length i / block_length) (length m / block_length)) l)) (traced (refused (trace_fault i m (length l)) 0) l)
      → (size : ℕ) → o.outcome ≡ answer size → read_of (take size o.buffer) ≡ answer (file [] (log_test (puts_of i) (puts_of m) ∷ []))
  unfolding puts_of size-of is-answer
  written true z o d size e =
      let f : trace_fault i m (length l) ≡ 0 = eqb-true _ 0 z in
      let n = length i / block_length in
      let k = length m / block_length in
      let s : size_of n k ≡ size = ap size-of (sym (ap (λ (x : Traced). x.outcome) d) ∙ e) in
      rw (d, ← s, front i m l n k)
      (log-read (tabulate (put_at i) n) (tabulate (put_at m) k) (puts_fit i (bounded i p) n) (puts_fit m (bounded m q) k)
      (rw (length-tabulate (put_at i) n) (fits-initial i m (length l) f))
      (rw (length-tabulate (put_at m) k) (fits-main i m (length l) f)))
  written false z o d size e = absurd (false≢true (ap is-answer (sym (ap (λ (x : Traced). x.outcome) d) ∙ e)))

pub read_back : ReadBack
unfolding ReadBack
read_back i m l size p q e = written i m l p q (eqb (trace_fault i m (length l)) 0) refl (trace_of i m l) (by-fault i m l) size e
