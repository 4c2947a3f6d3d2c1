-- A small file with names of one byte, of two, and of both.
use Rattle.std.specs.Prelude.{◌≡◌, true, List, [], ◌∷◌, ℕ, eqb}
use Rattle.model.specs.Answer.{answer, refused}
use Rattle.model.specs.Test.{File, file, test}
use Rattle.file_format.specs.File.{read_of}
use Rattle.file_encoding.specs.Before.{old_read_of}
use Rattle.file_encoding.specs.Rewrite.{widened}

-- the rule (2,=,1), and a test of an initial write named 1 and a main write named 2
unfoldable pub small : File
small =
    file (record { first = 2; predicate = 0; second = 1 } ∷ [])
    (test (record { address = 8; name = 1; epoch = 3; block = 458794 } ∷ []) (record { address = 9; name = 2; epoch = 3; block = 1 } ∷ []) [] ∷ [])

-- its bytes: the rule, the two writes, the end
unfoldable pub old_bytes : List ℕ
old_bytes =
    3 ∷ 0 ∷ 3 ∷ 2 ∷ 0 ∷ 1
    ∷ 1 ∷ 0 ∷ 10 ∷ 8 ∷ 1 ∷ 0 ∷ 0 ∷ 0 ∷ 3 ∷ 0 ∷ 7 ∷ 0 ∷ 42
    ∷ 2 ∷ 0 ∷ 10 ∷ 9 ∷ 2 ∷ 0 ∷ 0 ∷ 0 ∷ 3 ∷ 0 ∷ 0 ∷ 0 ∷ 1
    ∷ 7 ∷ 0 ∷ 0 ∷ []

unfoldable pub new_bytes : List ℕ
new_bytes =
    10 ∷ 0 ∷ 5 ∷ 0 ∷ 2 ∷ 0 ∷ 0 ∷ 1
    ∷ 8 ∷ 0 ∷ 11 ∷ 8 ∷ 0 ∷ 1 ∷ 0 ∷ 0 ∷ 0 ∷ 3 ∷ 0 ∷ 7 ∷ 0 ∷ 42
    ∷ 9 ∷ 0 ∷ 11 ∷ 9 ∷ 0 ∷ 2 ∷ 0 ∷ 0 ∷ 0 ∷ 3 ∷ 0 ∷ 0 ∷ 0 ∷ 1
    ∷ 7 ∷ 0 ∷ 0 ∷ []

unfoldable pub mixed_bytes : List ℕ
mixed_bytes =
    3 ∷ 0 ∷ 3 ∷ 2 ∷ 0 ∷ 1
    ∷ 8 ∷ 0 ∷ 11 ∷ 8 ∷ 0 ∷ 1 ∷ 0 ∷ 0 ∷ 0 ∷ 3 ∷ 0 ∷ 7 ∷ 0 ∷ 42
    ∷ 2 ∷ 0 ∷ 10 ∷ 9 ∷ 2 ∷ 0 ∷ 0 ∷ 0 ∷ 3 ∷ 0 ∷ 0 ∷ 0 ∷ 1
    ∷ 7 ∷ 0 ∷ 0 ∷ []

pub record OldAndNew : Type 0 where
  -- both readings accept the old file, as this file
  pub old : old_read_of old_bytes ≡ answer small
  pub old-read : read_of old_bytes ≡ answer small
  -- with all three fields rewritten it is the new one, which only the new reading knows
  pub all : widened (λ at. true) old_bytes ≡ new_bytes
  pub all_read : read_of new_bytes ≡ answer small
  pub unknown : old_read_of new_bytes ≡ refused 2 0
  -- with only the second rewritten, which stands at 6, it has both kinds of names
  pub some : widened (λ at. eqb at 6) old_bytes ≡ mixed_bytes
  pub some_read : read_of mixed_bytes ≡ answer small
  pub some-unknown : old_read_of mixed_bytes ≡ refused 2 6
