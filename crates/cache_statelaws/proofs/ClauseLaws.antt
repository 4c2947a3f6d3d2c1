-- The layout byte by byte, and as one equation: read from the front, the parts of such a list are the bytes of its rules, zeros, the bytes of its
-- entries, zeros.
use mathlib.Core.Path.{◌≡◌, refl, sym, ap, ◌∙◌}
use mathlib.Core.Bool.{Bool, true, false, cond}
use mathlib.Core.List.{List, [], ◌∷◌, ◌++◌, Memᴰ}
use Prim.Native.Nat.{ℕ, zero, suc, ◌+◌, ◌-◌, ◌*◌, ◌≤◌, ◌<◌}
use native.Mathlib.Decide.{dec_lt}
use native.Mathlib.Omega.{arith}
use lib.Dec.{eqb}
use lib.ListN.{length, get_or, take, drop, length-replicate, length-drop, take-append-drop}
use lib.Seq.{take-add, drop-drop, length-take-le, get_or-take, get_or-drop}
use Rattle.relation.proofs.ListLaws.{index_mem}
use Rattle.model.specs.Limits.{most_rules, most_held}
use Rattle.model.specs.declared.Write.{Write}
use Rattle.model.specs.declared.Rule.{Rule}
use Rattle.model.specs.Schedule.{no_write}
use Rattle.model.specs.Test.{count_below}
use Rattle.model.proofs.CountLaws.{count_ext}
use Rattle.file_format.specs.Bytes.{byte, Small, wide_write_bytes, wide_rule_bytes}
use Rattle.file_format.specs.File.{wide_rule_length, wide_write_length, wide_write}
use Rattle.file_format.specs.Encode.{WriteFits}
use Rattle.file_encoding.proofs.PartLaws.{wide-write_forth, wide-rule_forth}
use Rattle.cache_model.specs.Entries.{Entry, entry, accepted, flag_at, flag_count}
use Rattle.cache_model.specs.State.{state_size, rules_start, writes_start, entry_length, flag_place, rule_base, write_base, rule_in, write_in, rules_in, stored_in, entries_in, flag_in, rule_count, accepted_count, stored_count, rules_bytes, entry_bytes, entries_bytes, unused, front, back, state_of}
use Rattle.cache_statelaws.specs.Theorem.{Clauses, Layouts, ReadsBack, EntriesRead, StatesWritten}
use Rattle.cache_statelaws.proofs.GeneralLaws.{part-is, rest-zero, get_or_zeros, get_or_beyond}
use Rattle.cache_statelaws.proofs.EachLaws.{each_read}
use Rattle.cache_statelaws.proofs.EntryLaws.{length-accepted, accepted-at}
use Rattle.cache_statelaws.proofs.LayoutLaws.{Worded, rule-size, entry-size, length-state, length-rules_in, length-entries_in, flag-in, flag-byte, rules-rest, writes-rest, third, accepted_in, state-rules, state_entries, opened-state, handed-state, marked-state}

-- the flags that a state's bytes count
pub count_in : (s : List ℕ) → flag_count (entries_in s) ≡ count_below (stored_in s) (accepted_count s)
unfolding flag_count
count_in s = rw (length-entries_in s) (count_ext (flag_at (entries_in s)) (stored_in s) (accepted_count s) (flag-in s))

module _ (s : List ℕ) (few : rule_count s ≤ most_rules) (most : accepted_count s ≤ most_held) where
  abbrev R : List Rule
  R = rules_in s

  abbrev E : List Entry
  E = entries_in s

  few_in : length R ≤ most_rules
  few_in = rw (length-rules_in s) few

  -- ---- from the equation

  module _ (e : s ≡ state_of R E) where
    at : (k : ℕ) → byte s k ≡ byte (state_of R E) k
    at k = ap (λ (l : List ℕ). byte l k) e

    flag_small : (f : Bool) → cond f 1 0 ≤ 1
    flag_small true = omega arith
    flag_small false = omega arith

    pub equation_clauses : Clauses s
    equation_clauses =
        let nr = length-rules_in s in
        let ne = length-entries_in s in
        record {
          size = ap length e ∙ length-state R E few_in (rw ne most);
          third = at 3 ∙ third R E few_in;
          rules-rest = λ k h l. at k ∙ rules-rest R E few_in k (rw nr h) l;
          writes-rest = λ k h l. at k ∙ writes-rest R E few_in k (rw ne h);
          flags = λ i h. rw (at (write_base i + flag_place) ∙ flag-byte R E few_in i (rw ne h)) (flag_small (flag_at E i));
          counted = at 2 ∙ (unfold state_of front in count_in s);
        }

  -- ---- from the clauses

  module _ (small : Small s) (c : Clauses s) where
    size : length s ≡ state_size
    size = c.size

    bounded : (k : ℕ) → byte s k < 256
    bounded k = elim (dec_lt k (length s)) [ yes h ↦ small k h | no h ↦ rw (get_or_beyond s k (omega (arith, h))) (omega arith) ]

    part_length : (k n : ℕ) → k + n ≤ state_size → length (take n (drop k s)) ≡ n
    part_length k n h = length-take-le n (drop k s) (rw (length-drop k s, size) (omega arith))

    zero-part : (k n : ℕ) → k + n ≤ state_size → ((i : ℕ) → k ≤ i → i < k + n → byte s i ≡ 0) → take n (drop k s) ≡ unused n
    zero-part k n h z = part-is 0 s (unused n) k n (length-replicate {A = ℕ} n 0) (rw size h) (λ i l. z (k + i) (omega arith) (omega arith) ∙ sym (get_or_zeros n i))

    -- a part's bytes are small too
    part_bounded : (k n : ℕ) → k + n ≤ state_size → (j : ℕ) → byte (take n (drop k s)) j < 256
    part_bounded k n h j = elim (dec_lt j n) [
      | yes l ↦ rw (get_or-take n (drop k s) j 0 l, get_or-drop k s j 0) (bounded (k + j))
      | no l ↦ rw (get_or_beyond (take n (drop k s)) j (rw (part_length k n h) (omega (arith, l)))) (omega arith)
    ]

    rules-part : rules_bytes R ≡ take (wide_rule_length * rule_count s) (drop rules_start s)
    unfolding rules_in rule_in
    rules-part =
        each_read wide_rule_bytes wide_rule_length rule-size (rule_in s) s rules_start (rule_count s)
        (λ i h. wide-rule_forth (take wide_rule_length (drop (rule_base i) s)) (part_bounded (rule_base i) wide_rule_length (omega arith)) (part_length (rule_base i) wide_rule_length (omega arith)))

    flag_is : (n : ℕ) → n ≤ 1 → cond (eqb n 1) 1 0 ≡ n
    flag_is zero h = refl
    flag_is (suc zero) h = refl
    flag_is (suc (suc n)) h = absurd (omega arith)

    entry-part : (i : ℕ) → i < accepted_count s → entry_bytes (entry (write_in s i) (stored_in s i)) ≡ take entry_length (drop (write_base i) s)
    unfolding entry_bytes write_in stored_in
    entry-part i h =
        let b = take wide_write_length (drop (write_base i) s) in
        let body : wide_write_bytes (wide_write b) ≡ b =
        wide-write_forth b (part_bounded (write_base i) wide_write_length (omega arith)) (part_length (write_base i) wide_write_length (omega arith)) in
        let tail : take 1 (drop (write_base i + flag_place) s) ≡ flag_in s i ∷ [] =
        part-is 0 s (flag_in s i ∷ []) (write_base i + flag_place) 1 refl (rw size (omega arith)) (λ j l. one j l) in
        rw (body, flag_is (flag_in s i) (c.flags i h), ← tail, ← drop-drop flag_place (write_base i) s) (sym (take-add wide_write_length 1 (drop (write_base i) s)))
      where
        one : (j : ℕ) → j < 1 → byte s (write_base i + flag_place + j) ≡ get_or (flag_in s i ∷ []) j 0
        one zero l = let y : write_base i + flag_place + 0 ≡ write_base i + flag_place = omega arith in rw y
        one (suc j) l = absurd (omega arith)

    entries_part : entries_bytes E ≡ take (entry_length * accepted_count s) (drop writes_start s)
    unfolding entries_in
    entries_part = each_read entry_bytes entry_length entry-size (λ i. entry (write_in s i) (stored_in s i)) s writes_start (accepted_count s) entry-part

    front-part : front R (length E) (flag_count E) ≡ take writes_start s
    unfolding front
    front-part =
        let n = rule_count s in
        let gap = writes_start - rule_base n in
        let z : writes_start ≡ rules_start + (wide_rule_length * n + gap) = omega arith in
        let counts : take rules_start s ≡ rule_count s ∷ accepted_count s ∷ stored_count s ∷ 0 ∷ [] = part-is 0 s (rule_count s ∷ accepted_count s ∷ stored_count s ∷ 0 ∷ []) 0 4 refl (rw size (omega arith)) (λ i l. four i l) in
        let rest : take (wide_rule_length * n + gap) (drop rules_start s) ≡ rules_bytes R ++ unused gap =
        take-add (wide_rule_length * n) gap (drop rules_start s)
        ∙ rw (drop-drop (wide_rule_length * n) rules_start s, ← rules-part, zero-part (rule_base n) gap (omega arith) (λ i a b. c.rules-rest i a (omega arith))) in
        rw (length-rules_in s, length-entries_in s, count_in s, ← c.counted)
        (sym (ap (λ (k : ℕ). take k s) z ∙ take-add rules_start (wide_rule_length * n + gap) s ∙ rw (counts, rest)))
      where
        four : (i : ℕ) → i < 4 → byte s (0 + i) ≡ get_or (rule_count s ∷ accepted_count s ∷ stored_count s ∷ 0 ∷ []) i 0
        four zero l = refl
        four (suc zero) l = refl
        four (suc (suc zero)) l = refl
        four (suc (suc (suc zero))) l = c.third
        four (suc (suc (suc (suc i)))) l = absurd (omega arith)

    back-part : back E ≡ drop writes_start s
    unfolding back
    back-part =
        let n = accepted_count s in
        rw (length-entries_in s, entries_part, ← rest-zero s (write_base n) state_size size (omega arith) (λ i a b. c.writes-rest i a b), ← drop-drop (entry_length * n) writes_start s)
        (take-append-drop (entry_length * n) (drop writes_start s))

    pub clauses_equation : s ≡ state_of R E
    unfolding state_of
    clauses_equation = sym (rw (front-part, back-part) (take-append-drop writes_start s))

pub layouts : Layouts
layouts s few most = record { clauses = equation_clauses s few most; bytes = clauses_equation s few most }

pub fitting_words : (es : List Entry) → ((w : Write) → Memᴰ w (accepted es) → WriteFits w) → Worded es
fitting_words es h j l =
    let f = h (get_or es j (entry no_write false)).write (index_mem (accepted es) j no_write (rw (length-accepted es) l) (accepted-at es j)) in
    (f.epoch, f.block)

pub reads_back : ReadsBack
reads_back rules es few most h =
    record { size = length-state rules es few most; rules-back = state-rules rules es few; entries_back = state_entries rules es few (fitting_words es h) }

pub entries_read : EntriesRead
entries_read s = (accepted_in s, flag-in s)

pub states_written : StatesWritten
states_written rules es few =
    record { none = opened-state rules few; more = λ w h. handed-state rules es w few h; one = λ i h e. marked-state rules es i few h e }
