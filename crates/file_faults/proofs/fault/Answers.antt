-- `file_faults::fault` meets its contract, one law for each of its returns.
use Rattle.std.proofs.Common.{◌≡◌, ◌∙◌, sym}
use Rattle.file_faults.proofs.FaultLaws.{faults, short, no_tag, misplaced, too_many, wrong_length, body_cut, body_read}
use Rattle.file_faults.proofs.fault.Goals as goal

pub returns-then-left-lt-HEAD_LENGTH-clause-refused : goal.returns-then-left-lt-HEAD_LENGTH-clause-refused
returns-then-left-lt-HEAD_LENGTH-clause-refused c = short _ _ _ c.if-left-lt-HEAD_LENGTH.true

pub returns-in_default-clause-refused : goal.returns-in_default-clause-refused
returns-in_default-clause-refused c = no_tag _ _ _ c.if-left-lt-HEAD_LENGTH.false c.in_default.ensures.none

pub returns-then-out_of_order-clause-refused : goal.returns-then-out_of_order-clause-refused
returns-then-out_of_order-clause-refused c = misplaced _ _ _ c.if-left-lt-HEAD_LENGTH.false _ c.in-Some.ensures.some c.if-out_of_order.ensures

pub returns-then-over_limit-clause-refused : goal.returns-then-over_limit-clause-refused
returns-then-over_limit-clause-refused c =
    too_many _ _ _ c.if-left-lt-HEAD_LENGTH.false _ c.in-Some.ensures.some c.if-out_of_order.ensures c.if-over_limit.ensures

pub returns-then-from-n-clause-refused : goal.returns-then-from-n-clause-refused
returns-then-from-n-clause-refused c =
    wrong_length _ _ _ c.if-left-lt-HEAD_LENGTH.false _ c.in-Some.ensures.some c.if-out_of_order.ensures c.if-over_limit.ensures _ _
    (c.from.ensures ∙ c.half_at.ensures) c.body_length-n.ensures.0 c.if-from-n.true

pub returns-then-left-n-clause-refused : goal.returns-then-left-n-clause-refused
returns-then-left-n-clause-refused c =
    body_cut _ _ _ c.if-left-lt-HEAD_LENGTH.false _ c.in-Some.ensures.some c.if-out_of_order.ensures c.if-over_limit.ensures _ _
    (c.from.ensures ∙ c.half_at.ensures) c.body_length-n.ensures.0 c.if-from-n.false c.if-left-n.true

pub returns-in_err-body_fault-clause-refused : goal.returns-in_err-body_fault-clause-refused
returns-in_err-body_fault-clause-refused c = search faults

pub returns-clause-refused : goal.returns-clause-refused
returns-clause-refused c =
    body_read _ _ _ c.if-left-lt-HEAD_LENGTH.false _ c.in-Some.ensures.some c.if-out_of_order.ensures c.if-over_limit.ensures _ _
    (c.from.ensures ∙ c.half_at.ensures) c.body_length-n.ensures.0 c.if-from-n.false _ _ c.if-left-n.false c.body_at.ensures c.in_ok-body_fault.ensures
