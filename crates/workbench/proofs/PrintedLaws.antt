-- The rendered text, outcome by outcome.
use mathlib.Core.Path.{◌≡◌, ◌∙◌}
use mathlib.Core.List.{List}
use Prim.Native.Nat.{ℕ, ◌≤◌, ◌<◌}
use native.Mathlib.Nat.{zero-add}
use lib.ListN.{length}
use borrow.Author.Rules.{rules}
use borrow.Author.Tests.{lt-ltb, le-ltb}
use Rattle.model.specs.Answer.{refusal}
use Rattle.file_writing.specs.Writing.{Wrote}
use Rattle.judge_text.specs.Lines.{program_text, text_length}
use Rattle.workbench.specs.Printed.{printed, printed_of}

pub print_short : (s out : List ℕ) (r : ℕ) → length out < text_length → r ≡ refusal 12 0 → printed r out ≡ printed_of s out
unfolding printed_of
print_short s out r h e = rw (lt-ltb (length out) text_length h, e)

pub print_all : (s out after : List ℕ) (r : ℕ) → text_length ≤ length out → Wrote out 0 (program_text s) after r → printed r after ≡ printed_of s out
unfolding printed_of
print_all s out after r h w = let p : r ≡ length (program_text s) = w.place ∙ zero-add (length (program_text s)) in rw (le-ltb (length out) text_length h, w.buffer, p)

pub ruleset prints = (rules, print_short, print_all)
