-- `judge_counting::Test::walk` meets its contract, by induction on the number of what is free.
use Rattle.std.proofs.Common.{ℕ, refl}
use Rattle.judge_counting.proofs.WalkLaws.{Fork, open_free, open_below, out_falls, out_free, out_says, in_falls, in_free, in_says, room-left, room_right, walk_both, walk_good, walk-bad}
use Rattle.judge_counting.proofs.Test.+walk.Goals as goal
use Rattle.judge_counting.proofs.Test.+walk.Goals.{In-Open}

-- the write that an open answer names may be left out or flagged
taken : (t : ℕ) (c : In-Open t) → Fork c.args.self.now.ties.dependencies.now c.args.self.now.ties.dependents.now c.args.self.now.ties.n c.args.schedules.chosen c.args.schedules.free c.in-Open.h
taken t c =
    let ties = c.args.self.now.ties in
    record { few = ties.few; order = ties.order; choice = c.requires.choice; here = open_free _ _ _ _ _ c.ask_checks-asked.ensures.answer c.in-Open.is }

pub without-left-requires : goal.without-left-requires
without-left-requires t c = open_below _ _ _ _ _ _ (taken t c)

pub walk-first-requires : goal.walk-first-requires
walk-first-requires t c =
    let k = taken t (goal.at.walk-first-requires t c).In-Open in
    let left = c.without-left.ensures in
    let asked = c.ask_checks-asked.ensures in (
      out_falls _ _ _ _ _ _ k _ _ left.chosen left.free _ c.decreases,
      (out_free _ _ _ _ _ _ k _ _ left.chosen left.free, (asked.known, (out_says _ _ _ _ _ _ k _ _ left.chosen left.free _ asked.held, room-left _ _ _ _ _ _ k _ _ _ _ left.chosen left.free refl refl _ c.requires.room))),
    )

pub with-right-requires : goal.with-right-requires
with-right-requires t c = open_below _ _ _ _ _ _ (taken t (goal.at.with-right-requires t c).In-Open)

pub walk-requires : goal.walk-requires
walk-requires t c =
    let k = taken t (goal.at.walk-requires t c).In-Open in
    let left = c.without-left.ensures in
    let right = c.with-right.ensures in
    let asked = c.ask_checks-asked.ensures in (
      in_falls _ _ _ _ _ _ k _ _ right.chosen right.free _ c.decreases,
      (
        in_free _ _ _ _ _ _ k _ _ right.chosen right.free,
        (asked.known, (in_says _ _ _ _ _ _ k _ _ right.chosen right.free _ asked.held, room_right _ _ _ _ _ _ k _ _ _ _ left.chosen left.free right.chosen right.free _ c.requires.room _ _ _ _ c.walk-first.ensures)),
      ),
    )

pub returns-in-Yes : goal.returns-in-Yes
returns-in-Yes t c =
    let says = rw (c.in-Yes.is, c.args.self.now.same) at c.ask_checks-asked.ensures.answer in
    walk_good _ _ _ _ _ _ _ c.requires.choice _ _ _ c.count_between.ensures says c.add_good.ensures

pub returns-in-No : goal.returns-in-No
returns-in-No t c =
    let says = rw (c.in-No.is, c.args.self.now.same) at c.ask_checks-asked.ensures.answer in
    walk-bad _ _ _ _ _ _ _ c.requires.choice _ _ _ c.count_between-in-No.ensures says c.add_bad.ensures

pub returns-in-Open : goal.returns-in-Open
returns-in-Open t c =
    let k = taken t (goal.at.returns-in-Open t c).In-Open in
    let left = c.without-left.ensures in
    let right = c.with-right.ensures in
    walk_both _ _ _ _ _ _ k _ _ _ _ left.chosen left.free right.chosen right.free _ c.requires.room _ _ _ _ c.walk-first.ensures _ c.walk.ensures
