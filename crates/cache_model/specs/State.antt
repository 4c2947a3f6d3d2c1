-- The cache's state: 1,024 bytes. Byte 0 rule count, 1 accepted count, 2 stored count, 3 zero; rules from 4, 5 bytes each, 32 places: tag 0A's
-- body; writes from 164, 12 bytes each, 64 places: tag 09's body, stored flag 0 or 1 (02, [2]). All unused bytes are zero.
use Rattle.std.specs.Prelude.{ℕ, ◌+◌, ◌-◌, ◌*◌, Bool, false, cond, List, [], ◌∷◌, ◌++◌, eqb, length, replicate, set, take, drop}
use Rattle.std.proofs.lemmas.List.Edits.{sets}
use Rattle.relation.specs.Lists.{tabulate}
use Rattle.model.specs.declared.Write.{Write}
use Rattle.model.specs.declared.Rule.{Rule}
use Rattle.file_format.specs.Bytes.{byte, bytes4, block_length, wide_write_bytes, wide_rule_bytes}
use Rattle.file_format.specs.File.{wide_rule_length, wide_write_length, wide_rule, wide_write}
use Rattle.cache_model.specs.Entries.{Entry, entry, flag_count}

abbrev pub state_size : ℕ
state_size = 1024

-- where the rules begin, and where the writes do; how many bytes a write's place has, and where in it the flag stands
abbrev pub rules_start : ℕ
rules_start = 4

abbrev pub writes_start : ℕ
writes_start = 164

abbrev pub entry_length : ℕ
entry_length = 12

abbrev pub flag_place : ℕ
flag_place = 11

abbrev pub rule_count : List ℕ → ℕ
rule_count s = byte s 0

abbrev pub accepted_count : List ℕ → ℕ
accepted_count s = byte s 1

abbrev pub stored_count : List ℕ → ℕ
stored_count s = byte s 2

-- where rule i and write i, counted from 0, stand
abbrev pub rule_base : ℕ → ℕ
rule_base i = rules_start + wide_rule_length * i

abbrev pub write_base : ℕ → ℕ
write_base i = writes_start + entry_length * i

unfoldable pub rule_in : List ℕ → ℕ → Rule
rule_in s i = wide_rule (take wide_rule_length (drop (rule_base i) s))

unfoldable pub write_in : List ℕ → ℕ → Write
write_in s i = wide_write (take wide_write_length (drop (write_base i) s))

abbrev pub flag_in : List ℕ → ℕ → ℕ
flag_in s i = byte s (write_base i + flag_place)

-- the state's rules and accepted writes, and which of these are stored
unfoldable pub rules_in : List ℕ → List Rule
rules_in s = tabulate (rule_in s) (rule_count s)

unfoldable pub writes_in : List ℕ → List Write
writes_in s = tabulate (write_in s) (accepted_count s)

unfoldable pub stored_in : List ℕ → ℕ → Bool
stored_in s i = eqb (flag_in s i) 1

-- the accepted writes with their flags
unfoldable pub entries_in : List ℕ → List Entry
entries_in s = tabulate (λ i. entry (write_in s i) (stored_in s i)) (accepted_count s)

-- ---- states written

-- the bytes of some things, one after the other
unfoldable pub bytes_each : {A : Type 0} → (A → List ℕ) → List A → List ℕ
bytes_each f [] = []
bytes_each f (x ∷ xs) = f x ++ bytes_each f xs

abbrev pub rules_bytes : List Rule → List ℕ
rules_bytes rules = bytes_each wide_rule_bytes rules

-- an entry's 12 bytes
unfoldable pub entry_bytes : Entry → List ℕ
entry_bytes e = wide_write_bytes e.write ++ (cond e.flag 1 0 ∷ [])

abbrev pub entries_bytes : List Entry → List ℕ
entries_bytes es = bytes_each entry_bytes es

-- unused bytes are zero
abbrev pub unused : ℕ → List ℕ
unused n = replicate n 0

-- up to the writes: with so many of these accepted and stored
unfoldable pub front : List Rule → ℕ → ℕ → List ℕ
front rules n c = length rules ∷ n ∷ c ∷ 0 ∷ (rules_bytes rules ++ unused (writes_start - rule_base (length rules)))

-- the writes
unfoldable pub back : List Entry → List ℕ
back es = entries_bytes es ++ unused (state_size - write_base (length es))

-- *the bytes of a state* that holds these rules and entries, within the limits
unfoldable pub state_of : List Rule → List Entry → List ℕ
state_of rules es = front rules (length es) (flag_count es) ++ back es

-- a state with these rules and no writes
unfoldable pub opened : List Rule → List ℕ
opened rules = sets (replicate state_size 0) 0 (length rules ∷ 0 ∷ 0 ∷ 0 ∷ rules_bytes rules)

-- one waiting write more
unfoldable pub handed : List ℕ → Write → List ℕ
handed s w = set (sets s (write_base (accepted_count s)) (entry_bytes (entry w false))) 1 (accepted_count s + 1)

-- write i stored
unfoldable pub marked : List ℕ → ℕ → List ℕ
marked s i = set (set s (write_base i + flag_place) 1) 2 (stored_count s + 1)

-- a write's block on a disk of bytes: block a at 4a, big-endian
unfoldable pub stored_on : List ℕ → Write → List ℕ
stored_on disk w = sets disk (block_length * w.address) (bytes4 w.block)
