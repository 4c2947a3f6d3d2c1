-- `cache_handin::hand_fault` meets its contract: one law for each of its returns.
use Rattle.model.specs.Schedule.{no_write}
use Rattle.cache_handin.proofs.HandInSteps.{faulting, hand_unruled, hand_needs, hand_full, behind-asks, hand_behind}
use Rattle.cache_handin.proofs.hand_fault.Goals as goal

pub returns-then-state-ne-STATE_SIZE : goal.returns-then-state-ne-STATE_SIZE
returns-then-state-ne-STATE_SIZE c = search faulting

pub returns-in_default : goal.returns-in_default
returns-in_default c = hand_unruled _ _ c.if-state-ne-STATE_SIZE.false c.in_default.ensures

pub returns-then-not-needs_hold : goal.returns-then-not-needs_hold
returns-then-not-needs_hold c = hand_needs _ _ c.if-state-ne-STATE_SIZE.false c.in-Some.ensures.0 _ c.needs_hold.ensures.0 c.if-not-needs_hold.true

pub returns-then-n-ge-MOST_HELD : goal.returns-then-n-ge-MOST_HELD
returns-then-n-ge-MOST_HELD c =
    hand_full _ _ c.if-state-ne-STATE_SIZE.false c.in-Some.ensures.0 _ c.needs_hold.ensures.0 c.if-not-needs_hold.false _ c.from-n.ensures c.if-n-ge-MOST_HELD.true

pub fault_behind-requires : goal.fault_behind-requires
fault_behind-requires c =
    behind-asks no_write _ c.if-state-ne-STATE_SIZE.false c.in-Some.ensures.0 _ c.needs_hold.ensures.0 c.if-not-needs_hold.false _ c.from-n.ensures _ _ _ c.if-n-ge-MOST_HELD.false c.needs_hold.ensures.1

pub returns : goal.returns
returns c =
    hand_behind _ _ c.if-state-ne-STATE_SIZE.false c.in-Some.ensures.0 _ c.needs_hold.ensures.0 c.if-not-needs_hold.false _ c.from-n.ensures _ _ _ c.if-n-ge-MOST_HELD.false c.needs_hold.ensures.1 _ c.fault_behind.ensures
