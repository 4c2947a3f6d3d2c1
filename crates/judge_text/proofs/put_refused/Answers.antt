-- `judge_text::put_refused` meets its contract: its parts, written one behind the other, are the line.
use mathlib.Core.Path.{◌≡◌}
use native.Mathlib.Omega.{arith}
use borrow.Author.Rules.{rules}
use Rattle.model.specs.Answer.{number_of}
use Rattle.judge_text.proofs.LineLaws.{refused-wrote}
use Rattle.judge_text.proofs.put_refused.Goals as goal

pub returns : goal.returns
returns c =
    let w =
    refused-wrote _ _ _ _ _ _ _ _ _ _ _ _ _ _
    c.put_bytes-at.ensures
    c.put_number-at.ensures.0
    c.put-at.ensures
    c.put_number-at-2.ensures.0
    c.put.ensures in
    let f0 = c.put_bytes-at.ensures.place in
    let f1 = c.put_number-at.ensures.1 in
    let f2 = c.put-at.ensures.place in
    let f3 = c.put_number-at-2.ensures.1 in
    let f4 = c.put.ensures.place in
    let n : c.from.result ≡ number_of c.args.why.cause = search rules in
    (rw n at w, omega arith)
