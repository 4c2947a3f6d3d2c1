-- Programs of puts and the traces they make.
use Rattle.std.specs.Prelude.{ℕ, ◌+◌, ◌*◌, ◌/◌, ◌%◌, Bool, cond, not, ◌&&◌, ◌||◌, List, [], ◌∷◌, ◌++◌, eqb, ltb, length, drop}
use Rattle.relation.specs.Lists.{any, tabulate}
use Rattle.model.specs.declared.Write.{Write}
use Rattle.model.specs.declared.Check.TheVariants.{Range}
use Rattle.model.specs.Limits.{most_initial_puts, most_main_puts}
use Rattle.model.specs.Answer.{Outcome, answer, refused}
use Rattle.model.specs.Disk.{block}
use Rattle.model.specs.Test.{Test, test}
use Rattle.file_format.specs.Bytes.{half, block_length}
use Rattle.file_format.specs.File.{put_length, end_length}
use Rattle.file_format.specs.Encode.{test_bytes}

-- *put*: a key and a value
pub record Put : Type 0 where
  pub key : ℕ
  pub value : ℕ

-- the log in hand: head, tail, epoch
pub record Log : Type 0 where
  pub head : ℕ
  pub tail : ℕ
  pub epoch : ℕ

abbrev pub log : ℕ → ℕ → ℕ → Log
log head tail epoch = record { head = head; tail = tail; epoch = epoch }

-- head and tail start at 1, epoch at 0
unfoldable pub start : Log
start = log 1 1 0

-- a put: the block at tail with name 1, then the superblock (head, tail + 1) at 0 with name 2, both with the current epoch
unfoldable pub put_writes : Log → Put → List Write
put_writes l p =
    record { address = l.tail; name = 1; epoch = l.epoch; block = block p.key p.value }
    ∷ record { address = 0; name = 2; epoch = l.epoch; block = block l.head (l.tail + 1) }
    ∷ []

-- then tail and epoch rise by 1
unfoldable pub after : Log → Log
after l = log l.head (l.tail + 1) (l.epoch + 1)

unfoldable pub writes_of : Log → List Put → List Write
writes_of l [] = []
writes_of l (p ∷ ps) = put_writes l p ++ writes_of (after l) ps

unfoldable pub after_all : Log → List Put → Log
after_all l [] = l
after_all l (p ∷ ps) = after_all (after l) ps

-- a test with a range check at 0; main continues where initial ended
unfoldable pub log_test : List Put → List Put → Test
log_test initial main = test (writes_of start initial) (writes_of (after_all start initial) main) (Range 0 ∷ [])

-- ---- the same as bytes

-- a program of puts: key 2, value 2 each, big-endian
unfoldable pub puts_of : List ℕ → List Put
puts_of s = tabulate (λ i. record { key = half s (block_length * i); value = half s (block_length * i + 2) }) (length s / block_length)

-- what a call leaves: its outcome and its buffer
pub record Traced : Type 0 where
  pub outcome : Outcome ℕ
  pub buffer : List ℕ

abbrev pub traced : Outcome ℕ → List ℕ → Traced
traced o b = record { outcome = o; buffer = b }

unfoldable pub empty_put : Put → Bool
empty_put p = eqb p.key 0 && eqb p.value 0

-- *trace*: one whole test, 26 bytes per put and 7, and its length. 19 a program's length isn't a multiple of 4; 6 too many initial or main puts; 20 a put of (0,0); 12 buffer too short
unfoldable pub trace_of : List ℕ → List ℕ → List ℕ → Traced
trace_of initial main buffer =
    let i = puts_of initial in
    let m = puts_of main in
    let size = put_length * (length i + length m) + end_length in
    cond (not (eqb (length initial % block_length) 0) || not (eqb (length main % block_length) 0)) (traced (refused 19 0) buffer)
    (cond (ltb most_initial_puts (length i) || ltb most_main_puts (length m)) (traced (refused 6 0) buffer)
    (cond (any empty_put i || any empty_put m) (traced (refused 20 0) buffer)
    (cond (ltb (length buffer) size) (traced (refused 12 0) buffer)
    (traced (answer size) (test_bytes (log_test i m) ++ drop size buffer)))))
