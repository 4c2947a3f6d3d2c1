-- The bench sheet of document 01: its starred lines as one table about the definitions that the contracts cite.
-- `Sheet` is the table, one field a line; `proofs/Proved.antt: sheet` is the theorem over it. `Unstarred` has the lines that need no proof, and
-- what the judging program prints; `proofs/Proved.antt: unstarred` proves them all the same. `Requested` has worked lines of document 02, and
-- `proofs/Proved.antt: requested` proves these.
use Rattle.std.specs.Prelude.{ℕ, ◌+◌, ◌*◌, ◌^◌, ◌≤◌, ◌≡◌, Bool, true, false, List, [], ◌∷◌, ◌++◌, length, drop, replicate}
use Rattle.std.proofs.Math.Option.{Option, none, some}
use Rattle.model.specs.declared.Rule.{Rule}
use Rattle.model.specs.declared.Write.{Write}
use Rattle.model.specs.Limits.{most_tests}
use Rattle.model.specs.declared.Check.TheVariants.{Range, Pair}
use Rattle.model.specs.Answer.{Outcome, answer, refused}
use Rattle.model.specs.Disk.{block, block_at}
use Rattle.model.specs.Cyclic.{Cyclic, cyclic}
use Rattle.model.specs.Check.{holds}
use Rattle.model.specs.Test.{Test, test, file, schedules, TestHolds, Bad, SmallestBad, valid_count, bad_count}
use Rattle.rule_cyclelaws.specs.Examples.{rule}
use Rattle.file_format.specs.Encode.{rule_fields, test_bytes, file_bytes}
use Rattle.file_format.specs.File.{read_of}
use Rattle.file_reader.specs.Limits.{longest, longest_field}
use Rattle.judge_cases.specs.Judge.{Case, case_in}
use Rattle.judge_cases.specs.Examples.{four_not_three, nothing_stored}
use Rattle.judge_answers.specs.Judged.{judge_answer, verdict_answer}
use Rattle.log_get.specs.Puts.{Put, start, writes_of, log_test, traced, trace_of}
use Rattle.log_get.specs.Get.{get_of}
use Rattle.log_get.specs.Theorem.{filled, Meets}
use Rattle.judge_text.specs.Lines.{refused_text, fails_text, test_line, program_text, test_length, text_length}
use Rattle.find_call.specs.Finder.{Found, found, find_of, found_length}
use Rattle.cache_model.specs.State.{stored_on}
use Rattle.cache_model.specs.Calls.{Left, open_of, hand_in_of, step_of, given}

-- ---- the inputs

abbrev pub put : ℕ → ℕ → Put
put key value = record { key = key; value = value }

-- test K: initial put (0,42), main puts (1,81), (2,37)
unfoldable pub K : Test
K = log_test (put 0 42 ∷ []) (put 1 81 ∷ put 2 37 ∷ [])

-- rules, their predicates by number: 0 is =, 1 is >, 2 is <

-- (2,=,1), (2,>,2)
abbrev pub K1-rules : List Rule
K1-rules = rule 2 0 1 ∷ rule 2 1 2 ∷ []

-- (2,=,1)
abbrev pub K3-rules : List Rule
K3-rules = rule 2 0 1 ∷ []

-- {(1,=,2),(2,>,1)}
abbrev pub K5-rules : List Rule
K5-rules = rule 1 0 2 ∷ rule 2 1 1 ∷ []

-- {(1,>,2),(2,<,1)}
abbrev pub K6-rules : List Rule
K6-rules = rule 1 1 2 ∷ rule 2 2 1 ∷ []

-- (1,<,1)
abbrev pub K10-rules : List Rule
K10-rules = rule 1 2 1 ∷ []

-- names 1 and 2, both epoch 0, addresses 1 and 2, blocks (0,1), pair checks both ways
unfoldable pub together : Test
together = test [] (given 1 1 0 0 1 ∷ given 2 2 0 0 1 ∷ []) (Pair 1 (block 0 1) 2 (block 0 1) ∷ Pair 2 (block 0 1) 1 (block 0 1) ∷ [])

-- epoch 1 of test K: the superblock and the log block
abbrev pub superblock : Write
superblock = given 0 2 1 1 3

abbrev pub log_block : Write
log_block = given 2 1 1 1 81

-- a write with name 1, by its address and epoch
abbrev pub named1 : ℕ → ℕ → Write
named1 address epoch = given address 1 epoch 0 1

-- ---- what is asked

-- judging test 1 of the file of these rules and K: what is judged, the count of valid schedules, and that of bad ones
abbrev pub Judged : List Rule → ℕ → ℕ → Type 0
Judged rules valid bad =
    (case_in (file_bytes (file rules (K ∷ []))) 1 ≡ answer (record { rules = rules; test = K }))
    × (valid_count rules K ≡ valid)
    × (bad_count rules K ≡ bad)

-- finding on the file of these tests, with any buffer that is long enough
abbrev pub FindingAll : List Test → (List ℕ → Found) → Type 0
FindingAll ts left = (buffer : List ℕ) → found_length ≤ length buffer → find_of (file_bytes (file [] ts)) buffer ≡ left buffer

-- .., of one test
abbrev pub Finding : Test → (List ℕ → Found) → Type 0
Finding t left = FindingAll (t ∷ []) left

-- the range check at any block (head, tail) of any disk
abbrev pub RangeAt : ℕ → ℕ → Bool → Type 0
RangeAt head tail result = (disk : List ℕ) (a : ℕ) → block_at disk a ≡ block head tail → holds disk (Range a) ≡ result

-- calls of the cache; an opening is given the file of these rules
pub data Call : Type 0 where
  opening : List Rule → Call
  hand_in : Write → Call
  step : Call

unfoldable pub call : Call → List ℕ → List ℕ → Left
call (opening rules) state disk = open_of (rule_fields rules) state disk
call (hand_in w) state disk = hand_in_of w state disk
call step state disk = step_of state disk

-- the outcome of each of several calls, and the disk in the end
pub record Gave : Type 0 where
  pub outcomes : List (Outcome ℕ)
  pub disk : List ℕ

abbrev pub gave : List (Outcome ℕ) → List ℕ → Gave
gave outcomes disk = record { outcomes = outcomes; disk = disk }

-- calls one after another, each lent the state and the disk that the last left
unfoldable pub calls : List Call → List ℕ → List ℕ → Gave
calls [] state disk = gave [] disk
calls (c ∷ cs) state disk =
    let left = call c state disk in
    let rest = calls cs left.state left.disk in
    gave (left.outcome ∷ rest.outcomes) rest.disk

-- 1,024 zero bytes: a disk of empty blocks, and the state before an opening
abbrev pub blank : List ℕ
blank = replicate 1024 0

-- calls on these give these outcomes and leave this disk
abbrev pub Calling : List Call → List (Outcome ℕ) → List ℕ → Type 0
Calling cs outcomes disk = calls cs blank blank ≡ gave outcomes disk

-- ---- the sheet

pub record Sheet : Type 0 where
  -- rules (2,=,1), (2,>,2): 7 valid, 0 bad
  pub K1 : Judged K1-rules 7 0 × TestHolds K1-rules K
  -- no rules: 16, 8; the smallest bad schedule is the first superblock without its block
  pub K2 : Judged [] 16 8 × (TestHolds [] K → ⊥) × SmallestBad [] K 2
  -- (2,=,1) only: 9, 1, schedule 12
  pub K3 : Judged K3-rules 9 1 × SmallestBad K3-rules K 12 × ((s : ℕ) → Bad K3-rules K s → s ≡ 12)
  -- finding on K: 03 00 03 02 00 01, 03 00 03 02 01 02
  pub K4 : Finding K (λ buffer. found (answer 2) (3 ∷ 0 ∷ 3 ∷ 2 ∷ 0 ∷ 1 ∷ 3 ∷ 0 ∷ 3 ∷ 2 ∷ 1 ∷ 2 ∷ drop 12 buffer))
  -- {(1,=,2),(2,>,1)} isn't cyclic
  pub K5 : (cyclic K5-rules ≡ false) × (Cyclic K5-rules → ⊥)
  -- {(1,>,2),(2,<,1)} is
  pub K6 : (cyclic K6-rules ≡ true) × Cyclic K6-rules
  -- names 1 and 2, both epoch 0, addresses 1 and 2, blocks (0,1), pair checks both ways: 13
  pub K7 : Finding together (λ buffer. found (refused 13 0) buffer)
  -- K1's rules: superblock epoch 1 handed in and stored, then log epoch 1: 17
  pub K8 : Calling
      (opening K1-rules ∷ hand_in superblock ∷ step ∷ hand_in log_block ∷ [])
      (answer 0 ∷ answer 1 ∷ answer 1 ∷ refused 17 0 ∷ [])
      (stored_on blank superblock)
  -- both in that order before a step: place 2 is stored first
  pub K9 : Calling
      (opening K1-rules ∷ hand_in superblock ∷ hand_in log_block ∷ step ∷ [])
      (answer 0 ∷ answer 1 ∷ answer 2 ∷ answer 2 ∷ [])
      (stored_on blank log_block)
  -- rule (1,<,1), epochs 1 then 2 at address 5: 18
  pub K10 : Calling
      (opening K10-rules ∷ hand_in (named1 5 1) ∷ hand_in (named1 5 2) ∷ [])
      (answer 0 ∷ answer 1 ∷ refused 18 0 ∷ [])
      blank
  -- at 5 and 6: accepted, place 2 first
  pub K11 : Calling
      (opening K10-rules ∷ hand_in (named1 5 1) ∷ hand_in (named1 6 2) ∷ step ∷ [])
      (answer 0 ∷ answer 1 ∷ answer 2 ∷ answer 2 ∷ [])
      (stored_on blank (named1 6 2))
  -- range block (5,5) holds, (1,257) fails; (300,200), which holds in document 01, fails since [6] of document 02
  pub K12 : RangeAt 5 5 true × RangeAt 1 257 false × RangeAt 300 200 false

-- ---- the lines without a star, and the program's

-- K's puts as bytes: key 2, value 2
abbrev pub K-initial : List ℕ
K-initial = 0 ∷ 0 ∷ 0 ∷ 42 ∷ []

abbrev pub K-main : List ℕ
K-main = 0 ∷ 1 ∷ 0 ∷ 81 ∷ 0 ∷ 2 ∷ 0 ∷ 37 ∷ []

pub record Unstarred : Type 0 where
  -- put (0,0) is 20
  pub put-empty : (buffer : List ℕ) → trace_of [] (0 ∷ 0 ∷ 0 ∷ 0 ∷ []) buffer ≡ traced (refused 20 0) buffer
  -- (0,42) accepted: a test of 33 bytes
  pub put-accepted : (buffer : List ℕ) → 33 ≤ length buffer → (trace_of [] K-initial buffer).outcome ≡ answer 33
  -- 85 bytes hold K
  pub room : (buffer : List ℕ) → length buffer ≡ 85 → trace_of K-initial K-main buffer ≡ traced (answer 85) (test_bytes K)
  -- 84 give 12
  pub no_room : (buffer : List ℕ) → length buffer ≡ 84 → trace_of K-initial K-main buffer ≡ traced (refused 12 0) buffer
  -- K3 prints exactly `1 9 1 fails`
  pub K3_prints : program_text (file_bytes (file K3-rules (K ∷ []))) ≡ 49 ∷ 32 ∷ 57 ∷ 32 ∷ 49 ∷ 32 ∷ (fails_text ++ (10 ∷ []))
  -- a file of the one byte 01 prints `refused 1 0`
  pub one-byte_prints : program_text (1 ∷ []) ≡ refused_text ++ (32 ∷ 49 ∷ 32 ∷ 48 ∷ 10 ∷ [])
  -- the empty file prints nothing
  pub empty_prints : program_text [] ≡ []

-- ---- document 02

-- get, of any key, on the disk with this superblock on which no other block is empty
abbrev pub Getting : ℕ → ℕ → Outcome (Option ℕ) → Type 0
Getting head tail o = (key : ℕ) → get_of (filled (block head tail)) key ≡ o

-- a log of three readings, whose head a main write moves
unfoldable pub trimmed : ℕ → Test
trimmed head = test (writes_of start (put 0 830 ∷ put 1 825 ∷ put 2 640 ∷ [])) (given 0 2 3 head 4 ∷ []) (Range 0 ∷ [])

-- a test of n main writes, all the same
unfoldable pub long : ℕ → Test
long n = test [] (replicate n (given 0 1 0 0 1)) []

-- finding on the file of these rules and tests refuses by this number, whatever the buffer
abbrev pub FindRefused : List Rule → List Test → ℕ → Type 0
FindRefused rules tests number = (buffer : List ℕ) → find_of (file_bytes (file rules tests)) buffer ≡ found (refused number 0) buffer

-- a program of n puts, all of them (257,257)
unfoldable pub puts : ℕ → List ℕ
puts n = replicate (4 * n) 1

-- judging test 1 of the file of one case: what is judged, the judge's answer in one number and the verdict's
abbrev pub Shows : Case → ℕ → ℕ → Type 0
Shows c judged decided =
    (case_in (file_bytes (file c.rules (c.test ∷ []))) 1 ≡ answer c) × (judge_answer (answer c) ≡ judged) × (verdict_answer (answer c) ≡ decided)

-- test K, whose log blocks have this name
unfoldable pub logged : ℕ → Test
logged name =
    test (given 1 name 0 0 42 ∷ given 0 2 0 1 2 ∷ [])
    (given 2 name 1 1 81 ∷ given 0 2 1 1 3 ∷ given 3 name 2 2 37 ∷ given 0 2 2 1 4 ∷ [])
    (Range 0 ∷ [])

-- the bytes of the file of K1's rules and test K, with names of two bytes in four of the eight fields that have names
unfoldable pub mixed-K : List ℕ
mixed-K =
    3 ∷ 0 ∷ 3 ∷ 2 ∷ 0 ∷ 1 ∷ 10 ∷ 0 ∷ 5 ∷ 0 ∷ 2 ∷ 1 ∷ 0 ∷ 2
    ∷ 1 ∷ 0 ∷ 10 ∷ 1 ∷ 1 ∷ 0 ∷ 0 ∷ 0 ∷ 0 ∷ 0 ∷ 0 ∷ 0 ∷ 42
    ∷ 8 ∷ 0 ∷ 11 ∷ 0 ∷ 0 ∷ 2 ∷ 0 ∷ 0 ∷ 0 ∷ 0 ∷ 0 ∷ 1 ∷ 0 ∷ 2
    ∷ 9 ∷ 0 ∷ 11 ∷ 2 ∷ 0 ∷ 1 ∷ 0 ∷ 0 ∷ 0 ∷ 1 ∷ 0 ∷ 1 ∷ 0 ∷ 81
    ∷ 2 ∷ 0 ∷ 10 ∷ 0 ∷ 2 ∷ 0 ∷ 0 ∷ 0 ∷ 1 ∷ 0 ∷ 1 ∷ 0 ∷ 3
    ∷ 9 ∷ 0 ∷ 11 ∷ 3 ∷ 0 ∷ 1 ∷ 0 ∷ 0 ∷ 0 ∷ 2 ∷ 0 ∷ 2 ∷ 0 ∷ 37
    ∷ 2 ∷ 0 ∷ 10 ∷ 0 ∷ 2 ∷ 0 ∷ 0 ∷ 0 ∷ 2 ∷ 0 ∷ 1 ∷ 0 ∷ 4
    ∷ 4 ∷ 0 ∷ 1 ∷ 0 ∷ 7 ∷ 0 ∷ 0 ∷ []

-- sixteen times these bytes
unfoldable pub sixteen : List ℕ → List ℕ
sixteen s =
    let two = s ++ s in
    let four = two ++ two in
    let eight = four ++ four in
    eight ++ eight

-- two writes of one name, at 1 and 2; the later one is not to be there without the earlier
unfoldable pub waits : ℕ → Test
waits name = test [] (given 1 name 0 0 1 ∷ given 2 name 1 0 1 ∷ []) (Pair 2 (block 0 1) 1 (block 0 1) ∷ [])

pub record Requested : Type 0 where
  -- [4] of three writes {1,2} is bad and {3} is: 8 valid, 5 bad, schedule 4 and not 3, which has more flags
  pub four_shown : Shows four_not_three (8 + 2 ^ 21 * 5 + 2 ^ 42 * 4) 5
  -- where no write is flagged, and that is bad, schedule 0 is shown: 2 valid, 1 bad, and the verdict is 1
  pub none-shown : Shows nothing_stored (2 + 2 ^ 21 * 1) 1
  -- [6] the range check fails whenever head exceeds tail: three such blocks, at any address
  pub fails : RangeAt 6 5 false × RangeAt 256 255 false × RangeAt 65535 65534 false
  -- (0,0) and (300,300) hold, as (5,5) of K12 does
  pub still_holds : RangeAt 0 0 true × RangeAt 300 300 true
  -- get gives 21 for it, and as before for head < tail with tail > 256
  pub get_refused : Getting 300 200 (refused 21 0) × Getting 6 3 (refused 21 0) × Getting 256 255 (refused 21 0) × Getting 1 257 (refused 21 0)
  -- an empty log is one with head = tail
  pub get_none : Getting 5 5 (answer none) × Getting 0 0 (answer none) × Getting 300 300 (answer none)
  -- (1,4) has readings
  pub get-some : get_of (filled (block 1 4)) 257 ≡ answer (some 257)
  -- no disk with the superblock (300,200) meets the range check at 0; with (1,4) and with (5,5) the disk that is filled besides does
  pub none-meets : (other : List ℕ) → Meets (block 300 200) other → ⊥
  pub some_meet : Meets (block 1 4) (filled (block 1 4)) × Meets (block 5 5) (filled (block 5 5))
  -- the judge and the finder follow: the head moved up to the tail, 4, holds; one block past it, it is bad, and no rules do
  pub trimmed-holds : TestHolds [] (trimmed 4) × Finding (trimmed 4) (λ buffer. found (answer 0) buffer)
  pub trimmed-fails : Bad [] (trimmed 5) 1 × Finding (trimmed 5) (λ buffer. found (refused 13 0) buffer)
  -- [8] 20 main writes of a test are read; the 21st is 6, at its field
  pub twenty_read : read_of (file_bytes (file [] (long 20 ∷ []))) ≡ answer (file [] (long 20 ∷ []))
  pub one-more-refused : read_of (file_bytes (file [] (long 21 ∷ []))) ≡ refused 6 260
  -- without rules every schedule is valid, so 1,048,576 of 20 main writes are
  pub all_valid : (t : Test) → valid_count [] t ≡ schedules t
  pub twenty_valid : (t : Test) → length t.main ≡ 20 → valid_count [] t ≡ 1048576
  -- a line of 25 bytes tells so of test 16, and none is longer: a buffer of 400 has room for one of that length for each of 16 tests
  pub longest_line : (length (test_line 16 1048576 1048576) ≡ 25) × (test_length ≡ 25) × (most_tests * test_length ≡ text_length) × (text_length ≡ 400)
  -- finding takes 12 of a test: 13 are 24, with a buffer of 0 bytes too, and so they are behind a shorter test; with a rule it is 10
  pub thirteen_refused : FindRefused [] (long 13 ∷ []) 24 × FindRefused [] (K ∷ long 13 ∷ []) 24 × FindRefused K3-rules (long 13 ∷ []) 10
  -- 12 are taken, and no rules are needed for a test without checks; with a buffer of 0 bytes it is 12
  pub twelve_taken : Finding (long 12) (λ buffer. found (answer 0) buffer) × (find_of (file_bytes (file [] (long 12 ∷ []))) [] ≡ found (refused 12 0) [])
  -- 10 main puts are traced, a test of 267 bytes; 11 are 6
  pub ten_traced : (buffer : List ℕ) → 267 ≤ length buffer → (trace_of [] (puts 10) buffer).outcome ≡ answer 267
  pub eleven_refused : (buffer : List ℕ) → trace_of [] (puts 11) buffer ≡ traced (refused 6 0) buffer
  -- [2] an 0A's body is name 2, predicate 1, name 2: this is (256,=,1)
  pub wide-rule-read : read_of (10 ∷ 0 ∷ 5 ∷ 1 ∷ 0 ∷ 0 ∷ 0 ∷ 1 ∷ []) ≡ answer (file (rule 256 0 1 ∷ []) [])
  -- its predicate is the third byte; cut behind it, it is 1; the first unknown tag is 0B
  pub wide-fault : (read_of (10 ∷ 0 ∷ 5 ∷ 1 ∷ 0 ∷ 3 ∷ 0 ∷ 1 ∷ []) ≡ refused 5 0) × (read_of (10 ∷ 0 ∷ 5 ∷ 1 ∷ 0 ∷ 3 ∷ []) ≡ refused 1 0) × (read_of (11 ∷ 0 ∷ 0 ∷ []) ≡ refused 2 0)
  -- 16 rules of either tag are 32; one more is 6, whatever its length is
  pub thirty_three : read_of (sixteen (3 ∷ 0 ∷ 3 ∷ 2 ∷ 0 ∷ 1 ∷ 10 ∷ 0 ∷ 5 ∷ 1 ∷ 0 ∷ 0 ∷ 0 ∷ 1 ∷ []) ++ (10 ∷ 0 ∷ 0 ∷ [])) ≡ refused 6 224
  -- an 01 behind its test's 09, and an 0A behind an 07, are out of order
  pub wide-order : (read_of (9 ∷ 0 ∷ 11 ∷ 0 ∷ 0 ∷ 0 ∷ 0 ∷ 0 ∷ 0 ∷ 0 ∷ 0 ∷ 0 ∷ 0 ∷ 0 ∷ 1 ∷ 0 ∷ 0 ∷ []) ≡ refused 4 14)
      × (read_of (7 ∷ 0 ∷ 0 ∷ 10 ∷ 0 ∷ 0 ∷ []) ≡ refused 4 3)
  -- names of one byte and of two may stand in one file: K1's file, with half of those fields spelled in the new way, is K1's file
  pub K-mixed : read_of mixed-K ≡ answer (file K1-rules (K ∷ []))
  -- names 1 and 257 are two names: with log blocks named 257 the rule (2,=,1) ties nothing to them, and (2,=,257) does what it did; (1,=,257) is not cyclic
  pub apart : (bad_count K1-rules (logged 1) ≡ 0) × (bad_count K1-rules (logged 257) ≡ 5) × (bad_count (rule 2 0 257 ∷ rule 2 1 2 ∷ []) (logged 257) ≡ 0)
      × (cyclic (rule 1 0 257 ∷ []) ≡ false)
  -- the finder writes 0A only where a name exceeds 255: 03 00 03 01 01 01, 0A 00 05 01 2C 01 01 2C
  pub both_written : FindingAll (waits 1 ∷ waits 300 ∷ [])
      (λ buffer. found (answer 2) (3 ∷ 0 ∷ 3 ∷ 1 ∷ 1 ∷ 1 ∷ 10 ∷ 0 ∷ 5 ∷ 1 ∷ 44 ∷ 1 ∷ 1 ∷ 44 ∷ drop 14 buffer))
  -- the order of candidates goes by the numbers: K with log name 300 gives (2,=,300), (300,>,300), and not (2,>,2)
  pub K_300 : Finding (logged 300)
      (λ buffer. found (answer 2) (10 ∷ 0 ∷ 5 ∷ 0 ∷ 2 ∷ 0 ∷ 1 ∷ 44 ∷ 10 ∷ 0 ∷ 5 ∷ 1 ∷ 44 ∷ 1 ∷ 1 ∷ 44 ∷ drop 16 buffer))
  -- the longest file that is accepted, and how much of any file is enough to read
  pub longest-file : (longest ≡ 22448) × (longest + longest_field ≡ 22462)
  -- the buffer of find must have 128 bytes, also where all names are small
  pub buffer_127 : ((buffer : List ℕ) → length buffer ≡ 127 → find_of (file_bytes (file [] (K ∷ []))) buffer ≡ found (refused 12 0) buffer) × (found_length ≡ 128)
