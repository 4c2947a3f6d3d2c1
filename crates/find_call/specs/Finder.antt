-- Finding rules for a file's tests.
use Rattle.std.specs.Prelude.{ℕ, ◌*◌, Bool, cond, List, ◌++◌, ltb, length, drop}
use Rattle.std.proofs.Math.Option.{Option, none, some}
use Rattle.relation.specs.Lists.{any_below}
use Rattle.model.specs.Limits.{most_found, most_candidates}
use Rattle.model.specs.declared.Rule.{Rule}
use Rattle.model.specs.Answer.{Outcome, answer, refused, coded}
use Rattle.model.specs.Test.{Test, File}
use Rattle.model.specs.Find.{candidates_of, picked, chosen}
use Rattle.file_format.specs.declared.Extent.{Extent}
use Rattle.file_format.specs.Encode.{rule_fields}
use Rattle.file_format.specs.File.{read_of}
use Rattle.file_format.specs.Held.{extent_of}
use Rattle.file_reader.specs.Limits.{longest_rule}
use Rattle.find_candidates.specs.Tests.{too_long}

-- the bytes that a buffer has to have: room for all candidates, with names of two bytes
abbrev pub found_length : ℕ
found_length = most_candidates * longest_rule

-- what a call leaves: its outcome and its buffer
pub record Found : Type 0 where
  pub outcome : Outcome ℕ
  pub buffer : List ℕ

abbrev pub found : Outcome ℕ → List ℕ → Found
found o b = record { outcome = o; buffer = b }

-- bytes at the front of a buffer, its rest as it was
unfoldable pub over : List ℕ → List ℕ → List ℕ
over bytes buffer = bytes ++ drop (length bytes) buffer

-- the chosen set's fields in candidate order, tag 03, or 0A only where a name exceeds 255 (02, [2]), and how many; 13: no acyclic set makes all tests hold
unfoldable pub wrote : List Rule → Option ℕ → List ℕ → Found
wrote candidates none buffer = found (refused 13 0) buffer
wrote candidates (some m) buffer = found (answer (length (picked candidates m))) (over (rule_fields (picked candidates m)) buffer)

-- 11 more candidates than there may be
unfoldable pub find_among : List Test → List ℕ → Found
find_among tests buffer =
    let candidates = candidates_of tests in
    let choice = chosen tests candidates in
    let done = wrote candidates choice buffer in
    cond (ltb most_candidates (length candidates)) (found (refused 11 0) buffer) done

-- 10 file has rules; 24 (02, [8]) a test with more main writes than finding takes; 12 buffer without room for all candidates
unfoldable pub find_in : Outcome File → List ℕ → Found
find_in (refused number place) buffer = found (refused number place) buffer
find_in (answer f) buffer =
    let done = find_among f.tests buffer in
    cond (ltb 0 (length f.rules)) (found (refused 10 0) buffer)
    (cond (too_long f.tests) (found (refused 24 0) buffer)
    (cond (ltb (length buffer) found_length) (found (refused 12 0) buffer)
    done))

unfoldable pub find_of : List ℕ → List ℕ → Found
find_of s buffer = find_in (read_of s) buffer

-- one of the tests at the first n extents of an array has more main writes than finding takes
unfoldable pub long_below : List Extent → ℕ → Bool
long_below extents n = any_below (λ i. ltb most_found (extent_of extents i).main) n

-- what a call leaves, its outcome as one number
pub record Coded : Type 0 where
  pub number : ℕ
  pub buffer : List ℕ

abbrev pub find_leaves : ℕ → List ℕ → Coded
find_leaves n b = record { number = n; buffer = b }

unfoldable pub found_coded : Found → Coded
found_coded f = find_leaves (coded f.outcome) f.buffer
