-- `judge_suspects::mark` meets its contract. The invariant: the masks of the checks so far.
use lib.ListN.{take}
use Rattle.judge_suspects.specs.Suspects.{Marked}
use Rattle.judge_suspects.proofs.mark.Given as goal

abbrev pub invariant-loop-c : goal.invariant-loop-c
invariant-loop-c l = Marked l.stores l.n (take l.c-index l.checks) l.own l.other
