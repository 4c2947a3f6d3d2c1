-- The agreement theorems, each put together from its two directions.
use lib.ListN.{length}
use Rattle.model.specs.Theorem.{NeededWrites, RingOfNeeds, LateWrite, EarliestReady, Depends, KnownRules, ValidSchedule, DamagedRange, CheckHolds, ConsistentDisk, BadScheduleFor, HoldingTestFor, DecidedFor, SmallestScheduleFor, BadSchedule, HoldingTest, Decided, FlagsCounted, SmallestSchedule}
use Rattle.model.proofs.NeedsLaws.{needs-true, true-needs, needs_ring-true, true-needs_ring, late-true, true-late}
use Rattle.model.proofs.ReadyLaws.{ready_earliest, earliest_ready}
use Rattle.model.specs.Schedule.{Valid, valid}
use Rattle.model.specs.Test.{TestHolds, test_holds, Bad, bad, bad_count, smallest_bad}
use Rattle.model.proofs.RuleLaws.{depends_on-true, true-depends_on, known-true, true-known}
use Rattle.model.proofs.ScheduleLaws.{valid-true, true-valid}
use Rattle.model.proofs.CheckLaws.{damaged-true, true-damaged, damaged-fails-all, holds-true, true-holds, consistent-true, true-consistent}
use Rattle.model.proofs.CountLaws.{count_members}
use Rattle.model.proofs.TestLaws.{is-bad_for, bad_for-is, is-holds_for, holds_for-is, count-holds_for, holds_for-count, holds_for_or_bad, bad_for-fails, some_smallest_for, smallest_for_only, smallest_for_computed, computed_smallest_for, holds_for-none, none-holds_for, valid_agrees}

pub depends : Depends
depends rules l m = (true-depends_on rules l m, depends_on-true rules l m)

pub known-rules : KnownRules
known-rules rules = (true-known rules, known-true rules)

pub needed-writes : NeededWrites
needed-writes rules ws i j hi hj = (true-needs rules ws i j, needs-true rules ws i j hi hj)

pub ring_of_needs : RingOfNeeds
ring_of_needs rules ws = (true-needs_ring rules ws, needs_ring-true rules ws)

pub late-write : LateWrite
late-write rules ws stored w = (true-late rules ws stored w, late-true rules ws stored w)

pub earliest_is-ready : EarliestReady
earliest_is-ready rules ws stored i = (earliest_ready rules ws stored i, ready_earliest rules ws stored i)

pub valid-schedule : ValidSchedule
valid-schedule rules ws s = (true-valid rules ws s, valid-true rules ws s)

pub damaged-range : DamagedRange
damaged-range head tail = ((true-damaged head tail, damaged-true head tail), damaged-fails-all head tail)

pub check-holds : CheckHolds
check-holds disk c = (true-holds disk c, holds-true disk c)

pub consistent-disk : ConsistentDisk
consistent-disk checks disk = (true-consistent disk checks, consistent-true disk checks)

pub flags-counted : FlagsCounted
flags-counted t s h = count_members (length t.main) s h

-- ---- judging, for any meaning of which schedules count

pub bad-schedule_for : BadScheduleFor
bad-schedule_for Counts counts t agrees s l = (bad_for-is Counts counts t agrees s, is-bad_for Counts counts t agrees s l)

pub holding-test_for : HoldingTestFor
holding-test_for Counts counts t agrees = ((holds_for-is Counts counts t agrees, is-holds_for Counts counts t agrees), (holds_for-count Counts counts t agrees, count-holds_for Counts counts t agrees))

pub decided_for : DecidedFor
decided_for Counts counts t agrees = (holds_for_or_bad Counts counts t agrees, bad_for-fails Counts counts t agrees)

pub smallest_schedule_for : SmallestScheduleFor
smallest_schedule_for Counts counts t agrees = record {
  one = some_smallest_for Counts counts t agrees;
  only = smallest_for_only Counts counts t agrees;
  computed = λ s. (smallest_for_computed Counts counts t agrees s, computed_smallest_for Counts counts t agrees s);
  holds = (holds_for-none Counts counts t agrees, none-holds_for Counts counts t agrees);
}

-- ---- and where the valid schedules count

pub bad-schedule : BadSchedule
unfolding Bad bad
bad-schedule rules t = bad-schedule_for (Valid rules t.main) (valid rules t.main) t (valid_agrees rules t)

pub holding-test : HoldingTest
unfolding TestHolds test_holds bad_count
holding-test rules t = holding-test_for (Valid rules t.main) (valid rules t.main) t (valid_agrees rules t)

pub decided : Decided
unfolding TestHolds Bad
decided rules t = decided_for (Valid rules t.main) (valid rules t.main) t (valid_agrees rules t)

pub smallest_schedule : SmallestSchedule
unfolding TestHolds smallest_bad
smallest_schedule rules t =
    let f = smallest_schedule_for (Valid rules t.main) (valid rules t.main) t (valid_agrees rules t) in
    record { one = f.one; only = f.only; computed = f.computed; holds = f.holds }
