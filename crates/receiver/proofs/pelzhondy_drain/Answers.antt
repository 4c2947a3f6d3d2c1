-- `receiver::pelzhondy_drain` meets its contract: a refusal, or the drain of a sound state.
use Rattle.cache_model.specs.Calls.{drained, drain_of}
use Rattle.cache_steps.proofs.StepLaws.{cleared, call-refused, call_made}
use Rattle.receiver.proofs.pelzhondy_drain.Goals as goal

pub drain_sound-requires : goal.drain_sound-requires
drain_sound-requires c = cleared _ _ _ _ c.in-Ok.ensures.0 c.in-Ok.ensures.1.0 c.in-Ok.ensures.1.1

pub returns-in-Ok : goal.returns-in-Ok
unfolding drain_of
returns-in-Ok c = call_made _ _ drained _ _ _ c.in-Ok.ensures.0 c.drain_sound.ensures

pub returns-in-Err : goal.returns-in-Err
unfolding drain_of
returns-in-Err c = rw (c.code.ensures, c.from.ensures) (call-refused _ _ drained _ c.in-Err.ensures)
