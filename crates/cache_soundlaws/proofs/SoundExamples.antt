-- A sound state that no run reaches: the first of two writes waits though it needs nothing, the second is stored. The theorems hold of it too.
use mathlib.Core.Path.{◌≡◌, refl}
use mathlib.Core.Bool.{true}
use mathlib.Core.List.{List, [], ◌∷◌}
use Prim.Native.Nat.{ℕ}
use native.Mathlib.Omega.{arith}
use lib.ListN.{replicate, length-replicate}
use Rattle.relation.specs.Bits.{bit, with_bit, mask_of}
use Rattle.relation.specs.Lists.{any, all, any_below, all_below, tabulate}
use Rattle.relation.specs.Finite.{related, rows_of, joined, round, closed, loops, has_ring}
use Rattle.model.specs.declared.Rule.{Rule}
use Rattle.model.specs.declared.Write.{Write}
use Rattle.model.specs.Answer.{answer}
use Rattle.model.specs.Rules.{stands, matches, depends_on, known}
use Rattle.model.specs.Cyclic.{no_rule, leads, has, equal_leads, meets, cyclic}
use Rattle.model.specs.Schedule.{no_write}
use Rattle.model.specs.Test.{count_below}
use Rattle.file_format.specs.Bytes.{half, word, disk_length, wide_write_bytes, wide_rule_bytes}
use Rattle.file_format.specs.Encode.{WriteFits}
use Rattle.file_format.specs.File.{wide_rule, wide_write}
use Rattle.model.specs.Needs.{needs, needs_ring, met}
use Rattle.cache_model.specs.Entries.{flag_at, flag_count}
use Rattle.cache_model.specs.State.{rule_in, write_in, rules_in, writes_in, stored_in, entries_in, bytes_each, entry_bytes, front, back, state_of, opened, handed, marked}
use Rattle.cache_model.specs.Sound.{Sound, same, layout, ruled, needs_hold, sound}
use Rattle.cache_model.specs.Calls.{drain_of}
use Rattle.cache_soundlaws.specs.Theorem.{SomeWaits, Step, Drain, HandIn}
use Rattle.cache_soundlaws.proofs.SoundTheorems.{sound_decided, steps, drains, hands_in}

-- the log's rules, and two of its log blocks
abbrev rules : List Rule
rules = record { first = 2; predicate = 0; second = 1 } ∷ record { first = 2; predicate = 1; second = 2 } ∷ []

abbrev block : ℕ → Write
block a = record { address = a; name = 1; epoch = a; block = a }

unfoldable pub state : List ℕ
unfolding opened bytes_each wide_rule_bytes handed entry_bytes wide_write_bytes marked
state = marked (handed (handed (opened rules) (block 1)) (block 2)) 1

computed : sound state ≡ true
unfolding state sound ruled needs_hold layout same state_of front back bytes_each entry_bytes wide_write_bytes wide_rule_bytes entries_in flag_count flag_at known cyclic meets equal_leads has leads no_rule has_ring loops closed round joined rows_of related count_below met needs needs_ring rules_in writes_in stored_in rule_in write_in wide_rule wide_write half word no_write depends_on matches stands bit with_bit mask_of all_below any_below any all tabulate
computed = refl

pub sound-state : Sound state
sound-state = (sound_decided state).0 computed

pub waits : SomeWaits state
unfolding state stored_in
waits = (0, omega arith, refl)

abbrev disk : List ℕ
disk = replicate disk_length 0

pub step_made : Step state disk
step_made = steps state disk sound-state (length-replicate {A = ℕ} disk_length 0)

pub drain_made : Drain state disk
drain_made = drains state disk sound-state (length-replicate {A = ℕ} disk_length 0)

-- it answers 1
pub drained-one : (drain_of state disk).outcome ≡ answer 1
unfolding state stored_in count_below
drained-one = drain_made.answers

fits : WriteFits (block 3)
fits = record { address = omega arith; name = omega arith; epoch = omega arith; block = omega arith }

pub hand_in_made : HandIn state disk (block 3)
hand_in_made = hands_in state disk (block 3) sound-state fits
