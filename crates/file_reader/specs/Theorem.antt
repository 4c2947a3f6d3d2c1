-- The theorems of reading, about all files.
use Rattle.std.specs.Prelude.{ℕ, ◌+◌, ◌≤◌, ◌≡◌, List, length, take}
use Rattle.file_format.specs.File.{read_of}
use Rattle.file_reader.specs.Limits.{longest, longest_field, Limited}
use Rattle.file_format.specs.Scan.{scan_of}
use Rattle.file_format.specs.Held.{Tells}

-- what is read is within the limits; a refusal's number is one of 1 to 7, so the fuel is never used up, and its place is at most 22,448
abbrev pub WithinLimits : Type 0
WithinLimits = (s : List ℕ) → Limited s (read_of s)

-- the first n bytes of a file are read as all of it is, for n from 22,462 on: no reader needs to look further
abbrev pub PrefixEnough : Type 0
PrefixEnough = (s : List ℕ) (n : ℕ) → longest + longest_field ≤ n → n ≤ length s → read_of (take n s) ≡ read_of s

-- the scan, which keeps counts and places only, tells where all that the file holds stands, or its refusal
abbrev pub Told : Type 0
Told = (s : List ℕ) → Tells s (read_of s) (scan_of s)
