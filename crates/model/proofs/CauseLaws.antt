-- The numbers of refusals, which are none of them 0.
use Prim.Native.Nat.{◌≤◌}
use native.Mathlib.Omega.{arith}
use Rattle.model.specs.declared.Cause.{Cause}
use Rattle.model.specs.declared.Cause.TheVariants.{Cut, UnknownTag, WrongLength, OutOfOrder, UnknownPredicate, OverLimit, TestNotEnded, CyclicRules, NoSuchTest, FileHasRules, TooManyCandidates, BufferTooShort, NoSetDoes, Not1024Bytes, NotSound, StateFull, Late, RingOfNeeds, NotWholePuts, EmptyPut, LogDamaged, FileHasTests, TestTooLong}
use Rattle.model.specs.Answer.{number_of}

pub number_positive : (cause : Cause) → 1 ≤ number_of cause
number_positive Cut = omega arith
number_positive UnknownTag = omega arith
number_positive WrongLength = omega arith
number_positive OutOfOrder = omega arith
number_positive UnknownPredicate = omega arith
number_positive OverLimit = omega arith
number_positive TestNotEnded = omega arith
number_positive CyclicRules = omega arith
number_positive NoSuchTest = omega arith
number_positive FileHasRules = omega arith
number_positive TooManyCandidates = omega arith
number_positive BufferTooShort = omega arith
number_positive NoSetDoes = omega arith
number_positive Not1024Bytes = omega arith
number_positive NotSound = omega arith
number_positive StateFull = omega arith
number_positive Late = omega arith
number_positive RingOfNeeds = omega arith
number_positive NotWholePuts = omega arith
number_positive EmptyPut = omega arith
number_positive LogDamaged = omega arith
number_positive FileHasTests = omega arith
number_positive TestTooLong = omega arith

pub number_most : (cause : Cause) → number_of cause ≤ 24
number_most Cut = omega arith
number_most UnknownTag = omega arith
number_most WrongLength = omega arith
number_most OutOfOrder = omega arith
number_most UnknownPredicate = omega arith
number_most OverLimit = omega arith
number_most TestNotEnded = omega arith
number_most CyclicRules = omega arith
number_most NoSuchTest = omega arith
number_most FileHasRules = omega arith
number_most TooManyCandidates = omega arith
number_most BufferTooShort = omega arith
number_most NoSetDoes = omega arith
number_most Not1024Bytes = omega arith
number_most NotSound = omega arith
number_most StateFull = omega arith
number_most Late = omega arith
number_most RingOfNeeds = omega arith
number_most NotWholePuts = omega arith
number_most EmptyPut = omega arith
number_most LogDamaged = omega arith
number_most FileHasTests = omega arith
number_most TestTooLong = omega arith
