-- `cache_steps::step_sound` meets its contract: nothing is ready, or the write that is stored.
use Rattle.cache_steps.proofs.StepLaws.{stepping, step_idle, step-stores, place-fits, state-size, few-marked}
use Rattle.cache_steps.proofs.step_sound.Goals as goal

pub bounds-state-1 : goal.bounds-state-1
bounds-state-1 c = search stepping

pub ready-requires : goal.ready-requires
ready-requires c = search stepping

pub returns-in_err-i : goal.returns-in_err-i
returns-in_err-i c =
    step_idle _ _ _ _ _ c.from.ensures c.requires.1.1.0 c.requires.1.1.1 c.ready.ensures _ _ c.in_err-i.was c.from_residual.ensures

pub store_write-requires : goal.store_write-requires
store_write-requires c =
    let inside = place-fits _ _ _ _ _ c.from.ensures c.requires.1.1.0 c.requires.1.1.1 c.ready.ensures _ c.in_ok-i.was c.requires.1.0 in
    (state-size _ c.requires.1.0, (c.requires.0, (inside, few-marked _ c.requires.1.0)))

pub returns : goal.returns
returns c =
    let inside = place-fits _ _ _ _ _ c.from.ensures c.requires.1.1.0 c.requires.1.1.1 c.ready.ensures _ c.in_ok-i.was c.requires.1.0 in
    (step-stores _ _ _ _ _ c.from.ensures c.requires.1.1.0 c.requires.1.1.1 c.ready.ensures _ c.in_ok-i.was _ _ _ c.store_write.ensures.0 c.store_write.ensures.1, inside)
