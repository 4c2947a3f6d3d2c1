-- `judge_text::put_cases` meets its contract. The invariant: the lines of the first i tests are written, each in so many bytes at most.
use Prim.Native.Nat.{◌*◌, ◌≤◌}
use mathlib.Core.Path.{◌≡◌}
use lib.ListN.{length}
use Rattle.rule_match.specs.Held.{rules_of}
use Rattle.file_writing.specs.Writing.{Wrote}
use Rattle.judge_text.specs.Lines.{case_lines, test_length}
use Rattle.judge_text.proofs.put_cases.Given as goal

abbrev pub invariant-loop-i : goal.invariant-loop-i
invariant-loop-i l =
    (l.i ≤ l.opened.count)
    × (l.at ≤ test_length * l.i)
    × (length l.out ≡ length l.initial.out)
    × Wrote l.initial.out 0 (case_lines (rules_of l.opened.rules) l.file l.opened.tests l.i) l.out l.at
