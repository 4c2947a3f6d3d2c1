-- What is shown of trace: the reader reads its bytes back.
use Rattle.std.specs.Prelude.{ℕ, ◌≡◌, List, [], ◌∷◌, take}
use Rattle.model.specs.Answer.{answer}
use Rattle.model.specs.Test.{file}
use Rattle.file_format.specs.Bytes.{Small}
use Rattle.file_format.specs.File.{read_of}
use Rattle.log_get.specs.Puts.{puts_of, log_test, trace_of}

-- what trace writes is a file of exactly one test, the test of the puts: those writes and that check
unfoldable pub ReadBack : Type 0
ReadBack = (initial main buffer : List ℕ) (size : ℕ) → Small initial → Small main → (trace_of initial main buffer).outcome ≡ answer size
    → read_of (take size (trace_of initial main buffer).buffer) ≡ answer (file [] (log_test (puts_of initial) (puts_of main) ∷ []))
