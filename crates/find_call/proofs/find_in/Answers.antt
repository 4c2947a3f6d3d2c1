-- `find_call::find_in` meets its contract. A return for each refusal in its order, and the rest is find_among.
use Rattle.std.proofs.Common.{◌≡◌, Err, rules}
use Rattle.find_call.proofs.FoundLaws.{handed_on, find-refused, place-fits, find_placed, none-long, find-done}
use Rattle.find_call.proofs.FindSteps.{finding}
use Rattle.find_call.proofs.find_in.Goals as goal

pub too_long-requires : goal.too_long-requires
too_long-requires c = search finding

pub returns-then-contents-gt0-clause-leaves : goal.returns-then-contents-gt0-clause-leaves
returns-then-contents-gt0-clause-leaves c = search finding

pub returns-then-too_long-clause-leaves : goal.returns-then-too_long-clause-leaves
returns-then-too_long-clause-leaves c = search finding

pub returns-then-buffer-lt-FOUND_LENGTH-clause-leaves : goal.returns-then-buffer-lt-FOUND_LENGTH-clause-leaves
returns-then-buffer-lt-FOUND_LENGTH-clause-leaves c = search finding

pub find_among-requires : goal.find_among-requires
find_among-requires c =
    let file = c.in_ok-contents.contents in
    ((find_placed _ c.args.buffer.now c.read.result c.read.ensures file (search rules), none-long _ c.args.buffer.now c.read.result c.read.ensures file (search rules) c.too_long.result c.too_long.ensures c.if-too_long.false), search rules)

pub returns-clause-leaves : goal.returns-clause-leaves
returns-clause-leaves c =
    find-done _ c.args.buffer.now c.read.result c.read.ensures c.in_ok-contents.contents (search rules) c.too_long.result c.find_among.result _ (search rules) c.too_long.ensures c.if-too_long.false (search rules) c.find_among.ensures.leaves

pub returns-in_err-contents-clause-leaves : goal.returns-in_err-contents-clause-leaves
returns-in_err-contents-clause-leaves c =
    let e = c.in_err-contents.field-0.0 in
    let z : c.from_residual.result ≡ Err e = handed_on _ _ c.from_residual.ensures.1 in
    rw z (find-refused _ _ c.read.result c.read.ensures e (search rules))

pub returns-in_err-contents-clause-place : goal.returns-in_err-contents-clause-place
returns-in_err-contents-clause-place c =
    let e = c.in_err-contents.field-0.0 in
    let z : c.from_residual.result ≡ Err e = handed_on _ _ c.from_residual.ensures.1 in
    rw z (place-fits _ c.args.buffer.now c.read.result c.read.ensures e (search rules))
