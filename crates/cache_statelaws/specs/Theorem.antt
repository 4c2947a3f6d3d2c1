-- What is claimed of a state's bytes: a list of bytes within the limits has the layout, byte by byte, exactly if it is the bytes of what it holds;
-- what they hold is read back; and the states that opening, hand-in and step write are again such bytes.
use Rattle.std.specs.Prelude.{ℕ, suc, ◌≤◌, ◌<◌, ◌≡◌, false, length}
use mathlib.Core.List.{List, [], Memᴰ}
use Rattle.model.specs.Limits.{most_rules, most_held}
use Rattle.model.specs.declared.Write.{Write}
use Rattle.model.specs.declared.Rule.{Rule}
use Rattle.model.specs.Test.{count_below}
use Rattle.file_format.specs.Bytes.{byte, Small}
use Rattle.file_format.specs.Encode.{WriteFits}
use Rattle.cache_model.specs.Entries.{Entry, accepted, flag_at, appended, flagging}
use Rattle.cache_model.specs.State.{state_size, writes_start, rule_count, accepted_count, stored_count, rule_base, write_base, flag_in, rules_in, writes_in, stored_in, entries_in, state_of, opened, handed, marked}

-- the layout, byte by byte: 1,024 bytes, byte 3 zero, zeros behind the rules and behind the writes, flags of 0 or 1, and a stored count that equals
-- them
pub record Clauses (s : List ℕ) : Type 0 where
  pub size : length s ≡ state_size
  pub third : byte s 3 ≡ 0
  pub rules-rest : (k : ℕ) → rule_base (rule_count s) ≤ k → k < writes_start → byte s k ≡ 0
  pub writes-rest : (k : ℕ) → write_base (accepted_count s) ≤ k → k < state_size → byte s k ≡ 0
  pub flags : (i : ℕ) → i < accepted_count s → flag_in s i ≤ 1
  pub counted : stored_count s ≡ count_below (stored_in s) (accepted_count s)

-- within the limits, a list of bytes has that layout exactly if it is the bytes of the rules and the writes that it holds. (From the equation to
-- the clauses no number need be below 256)
pub record LaidOut (s : List ℕ) : Type 0 where
  pub clauses : s ≡ state_of (rules_in s) (entries_in s) → Clauses s
  pub bytes : Small s → Clauses s → s ≡ state_of (rules_in s) (entries_in s)

abbrev pub Layouts : Type 0
Layouts = (s : List ℕ) → rule_count s ≤ most_rules → accepted_count s ≤ most_held → LaidOut s

-- within the limits, a state holds what it is the bytes of, if the writes are of the right widths
pub record ReadBack (rules : List Rule) (es : List Entry) : Type 0 where
  pub size : length (state_of rules es) ≡ state_size
  pub rules-back : rules_in (state_of rules es) ≡ rules
  pub entries_back : entries_in (state_of rules es) ≡ es

abbrev pub ReadsBack : Type 0
ReadsBack =
    (rules : List Rule) (es : List Entry) → length rules ≤ most_rules → length es ≤ most_held → ((w : Write) → Memᴰ w (accepted es) → WriteFits w)
    → ReadBack rules es

-- the entries are the accepted writes with their flags
abbrev pub EntriesRead : Type 0
EntriesRead = (s : List ℕ) → (accepted (entries_in s) ≡ writes_in s) × ((i : ℕ) → i < accepted_count s → flag_at (entries_in s) i ≡ stored_in s i)

-- what an opening, a hand-in and a step write: the bytes of no entries, of one more, and of one flagged
pub record Writes (rules : List Rule) (es : List Entry) : Type 0 where
  pub none : opened rules ≡ state_of rules []
  pub more : (w : Write) → length es < most_held → handed (state_of rules es) w ≡ state_of rules (appended es w)
  pub one : (i : ℕ) → i < length es → flag_at es i ≡ false → marked (state_of rules es) i ≡ state_of rules (flagging (suc i) es)

abbrev pub StatesWritten : Type 0
StatesWritten = (rules : List Rule) (es : List Entry) → length rules ≤ most_rules → Writes rules es
