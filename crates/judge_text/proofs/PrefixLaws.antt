-- The text of what was read of an input is that of the whole input: reading looks no further than the prefix theorem says.
use Prim.Native.Nat.{ℕ, ◌≤◌}
use mathlib.Core.Path.{◌≡◌, ap, ◌∙◌}
use mathlib.Core.Logic.{◌⊎◌, inl, inr}
use mathlib.Core.List.{List}
use lib.ListN.{length, take}
use lib.Seq.{take-length}
use Rattle.file_reader.proofs.PrefixLaws.{prefix}
use Rattle.file_writing.specs.Writing.{Wrote}
use Rattle.judge_text.specs.Lines.{program_text, text_of}
use Rattle.judge_text.specs.Theorem.{enough, Read, PrefixText}

pub prefix_text : PrefixText
prefix_text input buffer n h r = ap program_text r.same ∙ go r.all
  where
    go : (n ≡ length input) ⊎ (n ≡ length buffer) → program_text (take n input) ≡ program_text input
    go (inl e) = rw (e, take-length input)
    go (inr e) = unfold program_text in ap text_of (prefix input n (rw e h) r.some)

-- what was written for the first bytes is what the whole input asks for
pub whole_text : (buffer before after : List ℕ) (n r : ℕ) → enough ≤ length buffer → Wrote before 0 (program_text (take n buffer)) after r
    → (input : List ℕ) → Read input buffer n → Wrote before 0 (program_text input) after r
whole_text buffer before after n r h w input q = rw (← prefix_text input buffer n h q) w
