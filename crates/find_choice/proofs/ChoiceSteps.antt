-- The code's steps: one law for each return and each turn of a loop, whose premises are what is known at that place.
use borrow.Author.Rules.{rules}
use Rattle.rule_match.proofs.MatchSteps.{length_mapped}
use Rattle.find_table.proofs.ForbidLaws.{power, power_most}
use Rattle.find_choice.proofs.ChoiceLaws.{marked-is, hopeless_more, hopeless_full, word-from, word-most, word-fits, word-small, word-small_yet, word-start, word-done, word_hopeless, rivals-some, rivals-none, better-more, better-marked, better-cyclic, better_yes, spare-not, spare-within, spare-is, spares_begun, spares_more, spares_found, spares_done, better-spare, chosen-begun, chosen_more, chosen_end, chosen-done, choice-is}

pub ruleset choosing = (rules, length_mapped, power, power_most, better-more, better-marked, better-spare, better-cyclic, better_yes, hopeless_more, hopeless_full, word-from, word-most, word-fits, word-small, word-small_yet, word-start, word-done, word_hopeless, rivals-some, rivals-none, chosen-begun, chosen_more, chosen_end, chosen-done, choice-is)

pub ruleset sparing = (rules, power, power_most, marked-is, spare-not, spare-within, spare-is, spares_begun, spares_more, spares_found, spares_done)
