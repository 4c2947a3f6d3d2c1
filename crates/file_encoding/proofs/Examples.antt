-- The small file of `specs/Examples.antt`: readings and rewritings compute.
use mathlib.Core.Path.{refl}
use mathlib.Core.List.{List}
use Prim.Native.Nat.{ℕ}
use Rattle.model.specs.Answer.{Outcome}
use Rattle.model.specs.Test.{File}
use Rattle.file_format.specs.Bytes.{half, word}
use Rattle.file_format.specs.Encode.{field_bytes}
use Rattle.file_format.specs.File.{is_tag, is_wide, kind_of, is_rule, is_check, body_length, narrow_rule, wide_rule, rule_of, narrow_write, wide_write, write_of, check_of, counts_of, out_of_order, over_test, over_limit, rule_fault, body_fault, fault_of, grown, finished, read_from, nothing, read_of}
use Rattle.file_encoding.specs.Before.{is_old_tag, old_length, old_body_fault, old_fault, old_grown, old_read_from, old_read_of}
use Rattle.file_encoding.specs.Rewrite.{widened_tag, widened_body, widened_from, widened}
use Rattle.file_encoding.specs.Examples.{small, old_bytes, new_bytes, mixed_bytes, OldAndNew}

-- what is computed: to unfold one of these is to unfold all that it unfolds
reads : List ℕ → Outcome File
unfolding small old_bytes new_bytes mixed_bytes read_of read_from nothing finished grown fault_of body_fault rule_fault over_limit over_test out_of_order counts_of check_of write_of wide_write narrow_write rule_of wide_rule narrow_rule body_length is_check is_rule kind_of is_wide is_tag word half
reads s = read_of s

reads_old : List ℕ → Outcome File
unfolding reads old_read_of old_read_from old_grown old_fault old_body_fault old_length is_old_tag
reads_old s = old_read_of s

rewrites : List ℕ → List ℕ
unfolding reads widened widened_from widened_tag widened_body field_bytes
rewrites s = s

pub old-and_new : OldAndNew
old-and_new =
    record {
      old = unfold reads_old in refl;
      old-read = unfold reads in refl;
      all = unfold rewrites in refl;
      all_read = unfold reads in refl;
      unknown = unfold reads_old in refl;
      some = unfold rewrites in refl;
      some_read = unfold reads in refl;
      some-unknown = unfold reads_old in refl;
    }
