-- The limits of documents 01 and 02, each by its name.
use Rattle.std.specs.Prelude.{ℕ, ◌-◌, ◌/◌, ◌^◌}

-- the names of structures, which are numbers of two bytes (02, [2])
abbrev pub names : ℕ
names = 65536

-- those of one byte
abbrev pub narrow_names : ℕ
narrow_names = 256

-- the numbers of four bytes: a write's epoch, its block
abbrev pub words : ℕ
words = 4294967296

-- the blocks of a disk, and the address of the last
abbrev pub disk_blocks : ℕ
disk_blocks = 256

abbrev pub last_block : ℕ
last_block = disk_blocks - 1

-- the rules and the tests of a file
abbrev pub most_rules : ℕ
most_rules = 32

abbrev pub most_tests : ℕ
most_tests = 16

-- a test's initial writes, main writes and checks
abbrev pub most_initial : ℕ
most_initial = 64

abbrev pub most_main : ℕ
most_main = 20

abbrev pub most_checks : ℕ
most_checks = 16

-- a test's initial puts and main puts: a put is two writes
abbrev pub most_initial_puts : ℕ
most_initial_puts = most_initial / 2

abbrev pub most_main_puts : ℕ
most_main_puts = most_main / 2

-- a test's schedules
abbrev pub most_schedules : ℕ
most_schedules = 2 ^ most_main

-- the finder's: the main writes of a test and their schedules, the candidates of a file and the sets of these
abbrev pub most_found : ℕ
most_found = 12

abbrev pub found_schedules : ℕ
found_schedules = 2 ^ most_found

abbrev pub most_candidates : ℕ
most_candidates = 16

abbrev pub candidate_sets : ℕ
candidate_sets = 2 ^ most_candidates

-- the writes that a cache holds
abbrev pub most_held : ℕ
most_held = 64
