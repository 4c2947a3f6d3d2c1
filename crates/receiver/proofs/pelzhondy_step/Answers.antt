-- `receiver::pelzhondy_step` meets its contract: a refusal, or the step of a sound state.
use Rattle.cache_model.specs.Calls.{stepped, step_of}
use Rattle.cache_steps.proofs.StepLaws.{cleared, call-refused, call_made}
use Rattle.receiver.proofs.pelzhondy_step.Goals as goal

pub step_sound-requires : goal.step_sound-requires
step_sound-requires c = cleared _ _ _ _ c.in-Ok.ensures.0 c.in-Ok.ensures.1.0 c.in-Ok.ensures.1.1

pub returns-in-Ok : goal.returns-in-Ok
unfolding step_of
returns-in-Ok c = rw c.place.ensures (call_made _ _ stepped _ _ _ c.in-Ok.ensures.0 c.step_sound.ensures.0)

pub returns-in-Err : goal.returns-in-Err
unfolding step_of
returns-in-Err c = rw (c.code.ensures, c.from.ensures) (call-refused _ _ stepped _ c.in-Err.ensures)
