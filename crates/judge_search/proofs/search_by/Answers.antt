-- `judge_search::search_by` meets its contract: each schedule is applied to the base, asked, and taken back.
use mathlib.Core.Path.{refl, ap, ◌∙◌}
use mathlib.Core.Bool.{not}
use native.Mathlib.Omega.{arith}
use Rattle.model.specs.declared.Check.TheVariants.{Range}
use Rattle.judge_checks.proofs.CheckSteps.{checks-start}
use Rattle.judge_disks.proofs.RestoreLaws.{restored-run, ran}
use Rattle.judge_search.proofs.SearchLaws.{searching, clear_pass, stops_here, checks_more, checks_passed, checks_failed}
use Rattle.judge_search.proofs.search_by.Goals as goal

pub search-preserved-then-is_repeated : goal.search-preserved-then-is_repeated
search-preserved-then-is_repeated c = search searching

pub checks-init : goal.checks-init
checks-init c = search (searching, ran, checks-start)

pub checks-preserved : goal.checks-preserved
checks-preserved c =
    let l = c.checks in (
      l.invariant.0,
      l.invariant.1,
      checks_more c.apply.new.disk c.args.checks.now (Range 0) l.c-index c.check_holds.result (omega arith) l.invariant.2 c.check_holds.ensures (ap not c.if-not-check_holds.false),
    )

pub search-preserved : goal.search-preserved
search-preserved c =
    let l = c.checks in
    let o = c.search in
    let a = c.args in
    let disk = c.apply.new.disk in (
      c.restore.ensures ∙ restored-run a.stores.now a.base.now 0 a.n _ disk (search searching) l.invariant.0,
      l.invariant.1,
      clear_pass _ _ _ _ o.k _ disk _ refl l.invariant.0 (checks_passed disk a.checks.now (Range 0) l.c-index (omega arith) l.invariant.2) o.invariant.2 refl,
    )

pub returns-then-not-check_holds : goal.returns-then-not-check_holds
returns-then-not-check_holds c =
    let l = c.checks in
    let disk = c.apply.new.disk in
    stops_here _ _ _ _ c.search.k _ disk _ refl l.invariant.0 (checks_failed disk c.args.checks.now (Range 0) l.c-index c.check_holds.result (omega arith) c.check_holds.ensures (ap not c.if-not-check_holds.true)) _ c.search.invariant.2 (omega arith) refl

pub returns-after-search : goal.returns-after-search
returns-after-search c = search searching
