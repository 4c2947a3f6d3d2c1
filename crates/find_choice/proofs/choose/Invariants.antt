-- `find_choice::choose` meets its contract. The invariant: the best so far is the choice among the sets of the words before.
use mathlib.Core.Path.{◌≡◌}
use Prim.Native.Nat.{◌*◌, ◌^◌, ◌≤◌}
use Rattle.std.proofs.Common.{min}
use Rattle.model.specs.Limits.{candidate_sets}
use Rattle.model.specs.Find.{chosen_below}
use Rattle.rule_match.specs.Held.{rules_of}
use Rattle.find_choice.specs.Choice.{passing, choice_code}
use Rattle.find_choice.proofs.choose.Given as goal

abbrev pub invariant-loop-word : goal.invariant-loop-word
invariant-loop-word l = (l.total ≡ 2 ^ l.cands.count) × (l.total ≤ candidate_sets) × (l.best ≡ choice_code (chosen_below (passing l.table (rules_of l.cands)) (min l.total (l.word * 64))))
