-- What trace leaves, in one record.
use Rattle.std.specs.Prelude.{ℕ, ◌+◌, ◌*◌, ◌/◌, ◌%◌, Bool, cond, not, eqb, ltb, length, List, ◌++◌}
use Rattle.relation.specs.Lists.{any_below}
use Rattle.model.specs.Limits.{most_initial_puts, most_main_puts}
use Rattle.model.specs.Answer.{coded}
use Rattle.file_format.specs.File.{put_length, end_length}
use Rattle.file_format.specs.Bytes.{word, block_length}
use Rattle.log_get.specs.Puts.{trace_of}
use Rattle.log_puts.specs.Fields.{program_fields, end_fields}

-- one of the first n puts is (0,0)
unfoldable pub empty_below : List ℕ → ℕ → Bool
empty_below s n = any_below (λ i. eqb (word s (block_length * i)) 0) n

-- the size of a trace of n and m puts
abbrev pub size_of : ℕ → ℕ → ℕ
size_of n m = put_length * (n + m) + end_length

-- the fields of a test of n and m puts: main goes on where initial ended
unfoldable pub test_fields : List ℕ → List ℕ → ℕ → ℕ → List ℕ
test_fields initial main n m = program_fields 1 1 0 initial n ++ (program_fields 2 (1 + n) n main m ++ end_fields)

-- what is wrong with a call: its refusal's number, or 0
unfoldable pub trace_fault : List ℕ → List ℕ → ℕ → ℕ
trace_fault initial main room =
    cond (not (eqb (length initial % block_length) 0)) 19
    (cond (not (eqb (length main % block_length) 0)) 19
    (cond (ltb most_initial_puts (length initial / block_length)) 6
    (cond (ltb most_main_puts (length main / block_length)) 6
    (cond (empty_below initial (length initial / block_length)) 20
    (cond (empty_below main (length main / block_length)) 20
    (cond (ltb room (size_of (length initial / block_length) (length main / block_length))) 12 0))))))

-- an answer and a buffer
pub record TraceOut : Type 0 where
  pub answer : ℕ
  pub buffer : List ℕ

abbrev pub trace_out : ℕ → List ℕ → TraceOut
trace_out r b = record { answer = r; buffer = b }

unfoldable pub trace_answer : List ℕ → List ℕ → List ℕ → TraceOut
trace_answer initial main buffer = trace_out (coded (trace_of initial main buffer).outcome) (trace_of initial main buffer).buffer
