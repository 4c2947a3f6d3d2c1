-- `find_table::mark_test` meets its contract. The disk, the writes, the checks and the sets are the test's.
use mathlib.Core.Path.{refl}
use native.Mathlib.Omega.{arith}
use Rattle.rule_match.proofs.MatchSteps.{length_mapped, held-length}
use Rattle.find_table.proofs.MarkLaws.{test_bounded, joins_test, halves_few, halves_are, all-is}
use Rattle.find_table.proofs.mark_test.Goals as goal

pub invariant_of-trial : goal.invariant_of-trial
invariant_of-trial c =
    let t = c.load_test-test in
    let k = c.load_checks-checks in
    let p = c.requires in
    let many = held-length c.args.cands (search (length_mapped, c.well_formed)) (omega arith) in
    record {
      few = halves_few _ t.result _ t.ensures p.1.1 refl;
      bounded = test_bounded c.args.cands _ _ t.result k.result _ _ t.ensures k.ensures _ many c.forbid.ensures (all-is _ p.0) p.0 _ _ (halves_are _);
    }

pub returns : goal.returns
returns c =
    let t = c.load_test-test in
    let k = c.load_checks-checks in
    let p = c.requires in
    let many = held-length c.args.cands (search (length_mapped, c.well_formed)) (omega arith) in
    joins_test c.args.cands _ _ t.result k.result _ _ t.ensures k.ensures _ many c.forbid.ensures (all-is _ p.0) p.0 _ _ (halves_are _) _ _ (search (length_mapped, c.well_formed)) c.mark_by.ensures
