-- `judge_settled::Setting::range_is` meets its contract. The invariant: the blocks below k are there.
use Rattle.std.proofs.Common.{rules, ◌≡◌}
use Rattle.judge_settled.specs.declared.Answer.TheVariants.{Yes}
use Rattle.judge_settled.proofs.AskLaws.{asking}
use Rattle.judge_settled.proofs.Setting.range_is.Goals as goal

pub returns-then-is_damaged : goal.returns-then-is_damaged
returns-then-is_damaged c = search asking

pub loop-k-init : goal.loop-k-init
loop-k-init c = search asking

pub is_there-there-requires : goal.is_there-there-requires
is_there-there-requires c = search asking

pub returns-then-ne : goal.returns-then-ne
returns-then-ne c = search asking

pub later-k-requires : goal.later-k-requires
later-k-requires c = search asking

pub loop-k-smaller : goal.loop-k-smaller
loop-k-smaller c = search asking

pub loop-k-preserved : goal.loop-k-preserved
loop-k-preserved c =
    let same : c.is_there-there.result ≡ Yes = search rules in
    (search asking, search asking, search (asking, same))

pub returns : goal.returns
returns c = search asking
