-- The theorems of the finder, about all files and buffers.
use Rattle.std.specs.Prelude.{ℕ, ◌<◌, ◌≡◌, ◌↔◌, true, length}
use mathlib.Core.List.{List, [], Memᴰ}
use Rattle.model.specs.Limits.{most_found}
use Rattle.model.specs.declared.Rule.{Rule}
use Rattle.model.specs.Answer.{answer, refused}
use Rattle.model.specs.Test.{Test, File}
use Rattle.model.specs.Find.{Candidates, NoneSuffices, Fewest, picked, Chosen}
use Rattle.file_format.specs.Encode.{rule_fields}
use Rattle.file_format.specs.File.{read_of}
use Rattle.find_candidates.specs.Tests.{too_long}
use Rattle.find_call.specs.Finder.{over, find_of}

-- what is answered: with the candidates sorted, their set that is sufficient and has the fewest ones in its number, among equals the one with
-- the largest number (`Chosen`); no acyclic set of any rules under which all tests hold has fewer rules; and its fields stand in candidate order at
-- the front of the buffer, the rest of which is as it was
abbrev pub FindsSmallest : Type 0
FindsSmallest =
    (s buffer : List ℕ) (n : ℕ) → (find_of s buffer).outcome ≡ answer n
    → (f : File)
    × (candidates : List Rule)
    × (m : ℕ)
    × (read_of s ≡ answer f)
    × Candidates f.tests candidates
    × Chosen f.tests candidates m
    × Fewest f.tests (picked candidates m)
    × (n ≡ length (picked candidates m))
    × ((find_of s buffer).buffer ≡ over (rule_fields (picked candidates m)) buffer)

-- 13 is reported only if no acyclic set of any rules makes all tests of the file hold
abbrev pub Wanting : Type 0
Wanting = (s buffer : List ℕ) (place : ℕ) → (find_of s buffer).outcome ≡ refused 13 place → (f : File) × (read_of s ≡ answer f) × NoneSuffices f.tests

-- one of the tests has more main writes than finding takes (02, [8]); so decided
abbrev pub HasLongTest : List Test → Type 0
HasLongTest tests = (t : Test) × Memᴰ t tests × (most_found < length t.main)

abbrev pub LongDecided : Type 0
LongDecided = (tests : List Test) → (too_long tests ≡ true) ↔ HasLongTest tests

-- 24 is reported exactly if a file is read that has no rules and such a test, and at place 0: neither the buffer nor the candidates are asked
abbrev pub LongRefused : Type 0
LongRefused = (s buffer : List ℕ) (place : ℕ) → (find_of s buffer).outcome ≡ refused 24 place ↔ ((place ≡ 0) × (f : File) × (read_of s ≡ answer f) × (f.rules ≡ []) × HasLongTest f.tests)

-- so if it is reported with one buffer, then with every other
abbrev pub LongAnyBuffer : Type 0
LongAnyBuffer = (s buffer other : List ℕ) (place : ℕ) → (find_of s buffer).outcome ≡ refused 24 place → (find_of s other).outcome ≡ refused 24 place

-- a refusal leaves the buffer
abbrev pub RefusalLeaves : Type 0
RefusalLeaves = (s buffer : List ℕ) (number place : ℕ) → (find_of s buffer).outcome ≡ refused number place → (find_of s buffer).buffer ≡ buffer
