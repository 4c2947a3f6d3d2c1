-- `judge_suspects::Brought::list_ones` meets its contract. The invariant: the writes below i are listed.
use mathlib.Core.Path.{ap}
use mathlib.Core.Bool.{not}
use native.Mathlib.Omega.{arith}
use Rattle.judge_suspects.proofs.RankLists.{ones-more, singles}
use Rattle.judge_suspects.proofs.Brought.list_ones.Goals as goal

pub ones-init : goal.ones-init
ones-init c = search singles

pub ones-preserved : goal.ones-preserved
ones-preserved c =
    let l = c.ones in
    let has = c.has_bit in
    let r = c.rank in (
      search singles,
      ones-more _ _ _ l.i l.many _ has.result l.invariant.1 has.ensures r.result _ (ap not c.if-not-has_bit.false) (omega arith) c.args.self.now.complete r.ensures c.insert.ensures,
    )
