-- The fields of puts, and the end of a trace.
use Rattle.std.specs.Prelude.{ℕ, zero, suc, ◌+◌, ◌*◌, List, [], ◌∷◌, ◌++◌}
use Rattle.file_format.specs.Bytes.{word, block_length, narrow_write_bytes}
use Rattle.file_format.specs.Encode.{field_bytes}

-- a write's field with a name of one byte
abbrev pub put_field : ℕ → ℕ → ℕ → ℕ → ℕ → List ℕ
put_field tag address name epoch block = field_bytes tag (narrow_write_bytes (record { address = address; name = name; epoch = epoch; block = block }))

-- the fields of one put of a block: log block at tail, superblock (1, tail + 1)
unfoldable pub put_fields : ℕ → ℕ → ℕ → ℕ → List ℕ
put_fields tag tail epoch block = put_field tag tail 1 epoch block ++ put_field tag 0 2 epoch (65537 + tail)

-- the fields of a program's first n puts
unfoldable pub program_fields : ℕ → ℕ → ℕ → List ℕ → ℕ → List ℕ
program_fields tag tail epoch s zero = []
program_fields tag tail epoch s (suc n) = program_fields tag tail epoch s n ++ put_fields tag (tail + n) (epoch + n) (word s (block_length * n))

-- a range check at 0, and the end
abbrev pub end_fields : List ℕ
end_fields = 4 ∷ 0 ∷ 1 ∷ 0 ∷ 7 ∷ 0 ∷ 0 ∷ []
