-- `cache_soundness::needs_hold` meets its contract.
use mathlib.Core.Path.{ap}
use mathlib.Core.Bool.{not}
use Rattle.cache_soundness.proofs.SoundSteps.{rules_added, needs_seen, not_covered, ring_tested}
use Rattle.cache_soundness.proofs.needs_hold.Goals as goal

pub returns-then-not-all_covered : goal.returns-then-not-all_covered
returns-then-not-all_covered c =
    let inv = c.loop-k.invariant in
    let tabled = rules_added _ _ inv.3 c.fill_columns.new.columns _ c.prepare.new.tables _ _ _ inv.1 inv.2 inv.6.0 inv.6.1 inv.6.2 inv.0 c.loop-k-test.false inv.7 in
    (not_covered _ _ inv.3 _ _ _ inv.1 inv.4 tabled _ c.all_covered.ensures (ap not c.if-not-all_covered.true), needs_seen _ _ inv.3 _ _ _ inv.1 inv.4 tabled)

pub returns : goal.returns
returns c =
    let inv = c.loop-k.invariant in
    let tabled = rules_added _ _ inv.3 c.fill_columns.new.columns _ c.prepare.new.tables _ _ _ inv.1 inv.2 inv.6.0 inv.6.1 inv.6.2 inv.0 c.loop-k-test.false inv.7 in
    (ring_tested _ _ inv.3 _ _ _ inv.1 inv.4 tabled _ c.all_covered.ensures _ (ap not c.if-not-all_covered.false) c.has_ring.ensures, needs_seen _ _ inv.3 _ _ _ inv.1 inv.4 tabled)
