-- The answers of judge and verdict in one number each.
use Rattle.std.specs.Prelude.{ℕ, ◌+◌, ◌*◌, ◌/◌, ◌%◌, ◌^◌, Option, None, Some}
use Rattle.model.specs.Answer.{Outcome, answer, refused, refusal}
use Rattle.judge_counting.specs.declared.Judgement.{Judgement}
use Rattle.judge_cases.specs.Judge.{Case, judgement_of, verdict_of}

-- the bits of a count: 20 main writes have 2^20 schedules, and all of these may be counted
abbrev pub count_bits : ℕ
count_bits = 21

-- the count of valid schedules, from bit 21 on that of bad ones, from bit 42 on the one that is shown
unfoldable pub judgement_code : Judgement → ℕ
judgement_code j = j.valid + 2 ^ count_bits * j.bad + 2 ^ (count_bits + count_bits) * j.shown

-- a number taken apart, as the header's functions do it
unfoldable pub parts_of : ℕ → Judgement
parts_of r = record { valid = r % 2 ^ count_bits; bad = r / 2 ^ count_bits % 2 ^ count_bits; shown = r / 2 ^ (count_bits + count_bits) % 2 ^ count_bits }

-- 0: holds; else one more than the schedule's number
unfoldable pub verdict_code : Option ℕ → ℕ
verdict_code None = 0
verdict_code (Some s) = s + 1

-- the judge's answer: the refusal, or the code of the case's numbers
unfoldable pub judge_answer : Outcome Case → ℕ
judge_answer (refused number place) = refusal number place
judge_answer (answer c) = judgement_code (judgement_of c)

-- the verdict's: the refusal, or the code of the verdict on the case
unfoldable pub verdict_answer : Outcome Case → ℕ
verdict_answer (refused number place) = refusal number place
verdict_answer (answer c) = verdict_code (verdict_of c)
