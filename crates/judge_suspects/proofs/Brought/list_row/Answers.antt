-- `judge_suspects::Brought::list_row` meets its contract. The invariant: the writes below l are listed.
use mathlib.Core.Path.{ap}
use mathlib.Core.Bool.{not}
use native.Mathlib.Omega.{arith}
use Rattle.judge_suspects.proofs.RankLists.{row_more, rowing}
use Rattle.judge_suspects.proofs.Brought.list_row.Goals as goal

pub returns-then-mask-eq0 : goal.returns-then-mask-eq0
returns-then-mask-eq0 c = search rowing

pub row-init : goal.row-init
row-init c = search rowing

pub rank-requires : goal.rank-requires
rank-requires c = search rowing

pub row-preserved : goal.row-preserved
row-preserved c =
    let l = c.row in
    let has = c.has_bit in
    let r = c.rank in
    let p = c.requires in (
      search rowing,
      row_more _ _ _ _ _ _ l.l l.now _ has.result l.invariant.1 has.ensures r.result _ (ap not c.if-not-has_bit.false) (omega arith) p.before c.args.self.now.complete r.ensures c.insert.ensures,
    )
