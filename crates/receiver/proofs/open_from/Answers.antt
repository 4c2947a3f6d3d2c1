-- `receiver::open_from` meets its contract: one law for each of its returns.
use Rattle.std.proofs.lemmas.Result.{err_from_is_err_and}
use Rattle.cache_opening.proofs.OpenSteps.{opening, open_refused, open_tests, open_failed, open_done, refusal-fits, rules-few, rules_fields, held-known}
use Rattle.receiver.proofs.open_from.Goals as goal

pub returns-then-state-ne-STATE_SIZE-clause-opens :
    goal.returns-then-state-ne-STATE_SIZE-clause-opens
returns-then-state-ne-STATE_SIZE-clause-opens c = search opening

pub returns-in_err-found-clause-opens : goal.returns-in_err-found-clause-opens
returns-in_err-found-clause-opens c =
    let k = err_from_is_err_and _ c.from_residual.ensures.1 in
    open_refused _ _ _ c.read.ensures c.if-state-ne-STATE_SIZE.false _ c.in_err-found.was _ _ k.1 k.2

pub returns-in_err-found-clause-fits : goal.returns-in_err-found-clause-fits
returns-in_err-found-clause-fits c =
    let k = err_from_is_err_and _ c.from_residual.ensures.1 in
    refusal-fits _ _ c.read.ensures _ c.in_err-found.was _ _ k.1 k.2

pub returns-then-found-gt0-clause-opens : goal.returns-then-found-gt0-clause-opens
returns-then-found-gt0-clause-opens c =
    open_tests _ _ _ c.read.ensures c.if-state-ne-STATE_SIZE.false _ c.in_ok-found.was _ c.if-found-gt0.true c.from-then-found-gt0.ensures

pub file_rules-requires : goal.file_rules-requires
file_rules-requires c = (rules-few _ _ c.read.ensures _ c.in_ok-found.was, rules_fields _ _ c.read.ensures _ c.in_ok-found.was)

pub open_with-requires : goal.open_with-requires
open_with-requires c =
    (c.if-state-ne-STATE_SIZE.false, held-known _ _ c.read.ensures _ c.in_ok-found.was c.file_rules.result c.file_rules.ensures.0)

pub returns-in_err-open_with-clause-opens : goal.returns-in_err-open_with-clause-opens
returns-in_err-open_with-clause-opens c =
    let k = err_from_is_err_and _ c.from_residual-in_err-open_with.ensures.1 in
    open_failed _ _ _ c.read.ensures c.if-state-ne-STATE_SIZE.false _ c.in_ok-found.was c.file_rules.result _ _ c.if-found-gt0.false c.file_rules.ensures.0 c.open_with.ensures _ c.in_err-open_with.was _ _ k.1 k.2

pub returns-clause-opens : goal.returns-clause-opens
returns-clause-opens c =
    open_done _ _ _ c.read.ensures c.if-state-ne-STATE_SIZE.false _ c.in_ok-found.was c.file_rules.result _ _ c.if-found-gt0.false c.file_rules.ensures.0 c.open_with.ensures _ c.in_ok-open_with.was
