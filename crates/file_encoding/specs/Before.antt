-- Reading as it was before 02, [2]: seven tags, names of one byte, and the limits of `model/specs/Limits.antt`, of which [8] moved one. With it is
-- said that old files keep their verdicts; nothing else uses it.
use Rattle.std.specs.Prelude.{ℕ, zero, suc, ◌+◌, ◌-◌, Bool, true, false, cond, not, ◌&&◌, List, [], ◌∷◌, ◌++◌, length, take, drop, eqb, leb, ltb}
use Rattle.model.specs.Answer.{Outcome, refused}
use Rattle.model.specs.Test.{test, File}
use Rattle.file_format.specs.declared.Counts.{Counts}
use Rattle.file_format.specs.Bytes.{byte, half}
use Rattle.file_format.specs.File.{head_length, narrow_rule, narrow_write, check_of, out_of_order, over_limit, Progress, progress, counts_of, finished, nothing}

-- tags: 1 initial write, 2 main write, 3 rule, 4 range, 5 pair, 6 pointer, 7 end of test
unfoldable pub is_old_tag : ℕ → Bool
is_old_tag tag = leb 1 tag && leb tag 7

-- the lengths of their bodies
unfoldable pub old_length : ℕ → ℕ
old_length tag = cond (eqb tag 3) 3 (cond (eqb tag 4) 1 (cond (eqb tag 5) 10 (cond (eqb tag 6) 1 (cond (eqb tag 7) 0 10))))

abbrev pub old_body : List ℕ → ℕ → List ℕ
old_body s at = take (old_length (byte s at)) (drop (at + head_length) s)

-- 5: a predicate above 2
unfoldable pub old_body_fault : ℕ → List ℕ → ℕ
old_body_fault tag b = cond (eqb tag 3) (cond (ltb 2 (byte b 1)) 5 0) 0

-- the number of the refusal that the field at a place meets; 0: none
unfoldable pub old_fault : List ℕ → ℕ → Counts → ℕ
old_fault s at c =
    cond (ltb (length s - at) head_length) 1
    (cond (not (is_old_tag (byte s at))) 2
    (cond (out_of_order (byte s at) c) 4
    (cond (over_limit (byte s at) c) 6
    (cond (not (eqb (half s (at + 1)) (old_length (byte s at)))) 3
    (cond (ltb (length s - (at + head_length)) (old_length (byte s at))) 1
    (old_body_fault (byte s at) (old_body s at)))))))

-- what one more field adds
unfoldable pub old_grown : ℕ → List ℕ → Progress → Progress
old_grown tag b p =
    let t = p.current in
    cond (eqb tag 3) (progress (p.rules ++ (narrow_rule b ∷ [])) p.tests p.begun t)
    (cond (eqb tag 1) (progress p.rules p.tests true (test (t.initial ++ (narrow_write b ∷ [])) t.main t.checks))
    (cond (eqb tag 2) (progress p.rules p.tests true (test t.initial (t.main ++ (narrow_write b ∷ [])) t.checks))
    (cond (eqb tag 7) (progress p.rules (p.tests ++ (t ∷ [])) false (test [] [] []))
    (progress p.rules p.tests true (test t.initial t.main (t.checks ++ (check_of tag b ∷ [])))))))

-- the fields from a place on
unfoldable pub old_read_from : ℕ → List ℕ → ℕ → Progress → Outcome File
old_read_from zero s at p = refused 0 0
old_read_from (suc fuel) s at p =
    let fault = old_fault s at (counts_of p) in
    let rest = old_read_from fuel s (at + head_length + old_length (byte s at)) (old_grown (byte s at) (old_body s at) p) in
    cond (ltb at (length s)) (cond (eqb fault 0) rest (refused fault at)) (finished s p)

unfoldable pub old_read_of : List ℕ → Outcome File
old_read_of s = old_read_from (suc (length s)) s 0 nothing
