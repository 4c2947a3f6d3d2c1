-- What a call gives, and how it stands in one 64-bit number.
use Rattle.std.specs.Prelude.{ℕ, ◌+◌, ◌*◌, Result, Ok, Err}
use Rattle.model.specs.Limits.{words}
use Rattle.model.specs.declared.Cause.{Cause}
use Rattle.model.specs.declared.Cause.TheVariants.{Cut, UnknownTag, WrongLength, OutOfOrder, UnknownPredicate, OverLimit, TestNotEnded, CyclicRules, NoSuchTest, FileHasRules, TooManyCandidates, BufferTooShort, NoSetDoes, Not1024Bytes, NotSound, StateFull, Late, RingOfNeeds, NotWholePuts, EmptyPut, LogDamaged, FileHasTests, TestTooLong}
use Rattle.model.specs.declared.Refusal.{Refusal}

-- an answer, or a *refusal* by its number and place
pub data Outcome (A : Type 0) : Type 0 where
  answer : A → Outcome A
  refused : ℕ → ℕ → Outcome A

-- a refusal in one number: bit 63, the refusal's number from bit 32 on, its place below. Answers are below bit 63
abbrev pub refusal : ℕ → ℕ → ℕ
refusal number place = 9223372036854775808 + number * words + place

unfoldable pub coded : Outcome ℕ → ℕ
coded (answer n) = n
coded (refused number place) = refusal number place

-- ---- what the code gives

-- the number of a refusal's cause
abbrev pub number_of : Cause → ℕ
number_of Cut = 1
number_of UnknownTag = 2
number_of WrongLength = 3
number_of OutOfOrder = 4
number_of UnknownPredicate = 5
number_of OverLimit = 6
number_of TestNotEnded = 7
number_of CyclicRules = 8
number_of NoSuchTest = 9
number_of FileHasRules = 10
number_of TooManyCandidates = 11
number_of BufferTooShort = 12
number_of NoSetDoes = 13
number_of Not1024Bytes = 14
number_of NotSound = 15
number_of StateFull = 16
number_of Late = 17
number_of RingOfNeeds = 18
number_of NotWholePuts = 19
number_of EmptyPut = 20
number_of LogDamaged = 21
number_of FileHasTests = 22
number_of TestTooLong = 24

-- the refusal with place 0
abbrev pub at_zero : Cause → Refusal
at_zero cause = record { cause = cause; place = 0 }

-- what a result says: its value, or its error's number and place
abbrev pub outcome : {A : Type 0} → Result A Refusal → Outcome A
outcome (Ok value) = answer value
outcome (Err why) = refused (number_of why.cause) why.place

-- the number of what a test found wrong, or 0
abbrev pub fault_number : {A : Type 0} → Result A Cause → ℕ
fault_number (Ok value) = 0
fault_number (Err cause) = number_of cause
