-- `find_choice::best_below` meets its contract. The invariant: the best so far is the choice among the sets below m.
use mathlib.Core.Path.{◌≡◌}
use Rattle.model.specs.Find.{chosen_below}
use Rattle.rule_match.specs.Held.{rules_of}
use Rattle.find_choice.specs.Choice.{passing, choice_code}
use Rattle.find_choice.proofs.best_below.Given as goal

abbrev pub invariant-loop-m : goal.invariant-loop-m
invariant-loop-m l = l.best ≡ choice_code (chosen_below (passing l.table (rules_of l.cands)) l.m)
