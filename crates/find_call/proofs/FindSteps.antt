-- The code's steps: one law for each return and each turn of a loop, whose premises are what is known at that place.
use borrow.Author.Rules.{rules}
use Rattle.rule_match.proofs.MatchSteps.{length_mapped}
use Rattle.find_call.proofs.FoundLaws.{predicate-fits, fields_none, fields_more, fields_done, among_many, among_none, among-known, among-some, long-none, long-more, long-all, find-refused, place-fits, find_placed, find-few, find-rules, find-long, none-long, find_short, find-done, found-coded}

pub ruleset putting = (rules, length_mapped, predicate-fits, fields_none, fields_more, fields_done)

pub ruleset passing = (rules, length_mapped, long-none, long-more, long-all)

pub ruleset finding = (rules, length_mapped, among_many, among_none, among-known, among-some, find-refused, place-fits, find_placed, find-few, find-rules, find-long, none-long, find_short, find-done, found-coded)
