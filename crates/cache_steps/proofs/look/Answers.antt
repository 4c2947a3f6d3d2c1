-- `cache_steps::look` meets its contract: one law for each of its returns.
use Rattle.cache_steps.proofs.StepLaws.{looking, fault_unruled, fault-needs, fault-none}
use Rattle.cache_steps.proofs.look.Goals as goal

pub returns-then-state-ne-STATE_SIZE : goal.returns-then-state-ne-STATE_SIZE
returns-then-state-ne-STATE_SIZE c = search looking

pub returns-then-disk-ne-DISK_LENGTH : goal.returns-then-disk-ne-DISK_LENGTH
returns-then-disk-ne-DISK_LENGTH c = search looking

pub returns-in_default : goal.returns-in_default
returns-in_default c = fault_unruled _ _ c.if-state-ne-STATE_SIZE.false c.if-disk-ne-DISK_LENGTH.false c.in_default.ensures

pub returns-then-not-needs_hold : goal.returns-then-not-needs_hold
returns-then-not-needs_hold c =
    fault-needs _ _ c.if-state-ne-STATE_SIZE.false c.if-disk-ne-DISK_LENGTH.false c.in-Some.ensures.0 _ c.needs_hold.ensures.0 c.if-not-needs_hold.true

pub returns : goal.returns
returns c = (
  fault-none _ _ c.if-state-ne-STATE_SIZE.false c.if-disk-ne-DISK_LENGTH.false c.in-Some.ensures.0 _ c.needs_hold.ensures.0 c.if-not-needs_hold.false,
  (c.needs_hold.ensures.1.tabled, c.in-Some.ensures.1.stored),
)
