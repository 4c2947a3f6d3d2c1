-- `judge_suspects::Brought::list_twos` meets its contract. The invariant: the writes below h are listed, with their mates.
use Rattle.judge_suspects.proofs.RankLists.{pairing}
use Rattle.judge_suspects.proofs.Brought.list_twos.Goals as goal

pub loop-h-init : goal.loop-h-init
loop-h-init c = search pairing

pub list_row-now-requires : goal.list_row-now-requires
list_row-now-requires c = search pairing

pub loop-h-preserved : goal.loop-h-preserved
loop-h-preserved c = search pairing
