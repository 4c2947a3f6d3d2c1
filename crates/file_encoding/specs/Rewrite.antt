-- The fields of a file rewritten with names of two bytes: an 01 as an 08, an 02 as an 09, an 03 as an 0A.
use Rattle.std.specs.Prelude.{ℕ, zero, suc, ◌+◌, Bool, cond, List, [], ◌∷◌, ◌++◌, length, drop, eqb, leb, ltb}
use Rattle.file_format.specs.Bytes.{byte}
use Rattle.file_format.specs.Encode.{field_bytes}
use Rattle.file_format.specs.File.{end_tag, body_at, field_end}

unfoldable pub widened_tag : ℕ → ℕ
widened_tag tag = cond (leb tag 3) (tag + end_tag) tag

-- a zero byte stands before each name
unfoldable pub widened_body : ℕ → List ℕ → List ℕ
widened_body tag b = cond (leb tag 2) (byte b 0 ∷ 0 ∷ drop 1 b) (cond (eqb tag 3) (0 ∷ byte b 0 ∷ byte b 1 ∷ 0 ∷ byte b 2 ∷ []) b)

-- the fields from a place on; `which` says of each place whether the field there is rewritten
unfoldable pub widened_from : (ℕ → Bool) → ℕ → List ℕ → ℕ → List ℕ
widened_from which zero s at = []
widened_from which (suc fuel) s at =
    let tag = byte s at in
    let one = cond (which at) (field_bytes (widened_tag tag) (widened_body tag (body_at s at))) (field_bytes tag (body_at s at)) in
    let rest = widened_from which fuel s (field_end s at) in
    cond (ltb at (length s)) (one ++ rest) []

unfoldable pub widened : (ℕ → Bool) → List ℕ → List ℕ
widened which s = widened_from which (suc (length s)) s 0
