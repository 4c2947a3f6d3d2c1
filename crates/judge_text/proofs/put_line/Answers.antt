-- `judge_text::put_line` meets its contract: its parts, written one behind the other, are the line.
use native.Mathlib.Omega.{arith}
use Rattle.judge_text.proofs.LineLaws.{line_wrote}
use Rattle.judge_text.proofs.put_line.Goals as goal

-- so deep `omega` no longer reaches what the beginning tells: it is handed over

pub returns : goal.returns
returns c =
    let w =
    line_wrote _ _ _ _ _ _ _ _ _ _ _ _ _ _ _ _ _ _ _ _ _
    c.put_number-at.ensures.0
    c.put-at.ensures
    c.put_number-at-2.ensures.0
    c.put-at-2.ensures
    c.put_number-at-3.ensures.0
    c.put-at-3.ensures
    c.put_verdict-at.ensures.0
    c.put.ensures in
    let f0 = c.put_number-at.ensures.1 in
    let f1 = c.put-at.ensures.place in
    let f2 = c.put_number-at-2.ensures.1 in
    let f3 = c.put-at-2.ensures.place in
    let f4 = c.put_number-at-3.ensures.1 in
    let f5 = c.put-at-3.ensures.place in
    let f6 = c.put_verdict-at.ensures.1 in
    let f7 = c.put.ensures.place in
    (w, omega arith)
