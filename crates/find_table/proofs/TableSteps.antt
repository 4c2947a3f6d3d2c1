-- The code's steps: one law for each return and each turn of a loop, whose premises are what is known at that place.
use borrow.Author.Rules.{rules}
use Rattle.rule_match.proofs.MatchSteps.{length_mapped}
use Rattle.judge_disks.proofs.RestoreLaws.{mid_length}
use Rattle.find_table.proofs.ForbidLaws.{power, power_most, power_some, power_near, power_far, near-most, far_most, power_half, half-most, widen_inside, matching-none, matching-more, matching-all, facing_none, facing_more, facing_all, widened_none, widened_more, widened-all, unite-fits, forbids-none, forbids-more, forbids-all}
use Rattle.find_table.proofs.MarkLaws.{mark_no, mark_yes, adds_none, adds_marked, adds_more, adds_all, place_inside, place-within, place-product, place-few, held_none, held_all, held_more, held_not, set_word, set-few, begins_none, begins_more, begins_all, test_bounded, joins_test, test-few, halves_few, halves_are, all-is, marking_none, test-within, marking_more, marking_all, lowered_none, lowered_across, walked_none, walked_more, walked_all, lowered_all, spreads_none, spreads_more, spreads_all, other-within, other_scaled, step_is, step-most, double-fits, without_is, words_are, words-most}

-- the candidates that make a schedule invalid
pub ruleset forbidding = (rules, length_mapped, power_half, half-most, widen_inside, matching-none, matching-more, matching-all, facing_none, facing_more, facing_all, widened_none, widened_more, widened-all, unite-fits, forbids-none, forbids-more, forbids-all)

-- the table
pub ruleset marking = (rules, length_mapped, power, power_most, power_some, power_near, power_far, near-most, far_most, mark_no, mark_yes, adds_none, adds_marked, adds_more, adds_all, place_inside, place-within, place-product, place-few, held_none, held_all, held_more, held_not, set_word, set-few, mid_length, begins_none, begins_more, begins_all, test_bounded, joins_test, test-few, halves_few, halves_are, all-is, marking_none, test-within, marking_more, marking_all)

pub ruleset lowering = (rules, power, power_most, step_is, step-most, double-fits, without_is, words_are, words-most, other-within, other_scaled, lowered_none, lowered_across, walked_none, walked_more, walked_all, lowered_all, spreads_none, spreads_more, spreads_all)
