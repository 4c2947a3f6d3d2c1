-- A state's rules and writes: one law for each return and each turn of a loop.
use mathlib.Core.Path.{◌≡◌, refl, sym, ap, subst, ◌∙◌}
use mathlib.Core.Logic.{◌≢◌}
use mathlib.Core.List.{List}
use Prim.Native.Nat.{ℕ, ◌+◌, ◌-◌, ◌≤◌, ◌<◌}
use native.Mathlib.Decide.{ℕ_discrete}
use native.Mathlib.Numerals.{add-one}
use native.Mathlib.Omega.{arith}
use lib.ListN.{length, get_or, take, drop, set}
use lib.Seq.{take-suc-set, get_or-take, get_or-drop, get_or-set_same, get_or-set_other}
use borrow.Author.Rules.{rules}
use Rattle.relation.specs.Lists.{tabulate}
use Rattle.model.specs.declared.Rule.{Rule}
use Rattle.model.specs.declared.Write.{Write}
use Rattle.model.specs.Limits.{most_rules}
use Rattle.file_format.specs.Bytes.{byte, half, word}
use Rattle.file_format.specs.File.{wide_rule_length, wide_write_length, wide_rule, wide_write}
use Rattle.rule_match.specs.declared.Rules.{Rules}
use Rattle.rule_match.specs.Held.{rules_of}
use Rattle.rule_match.proofs.MatchSteps.{length_mapped}
use Rattle.cache_model.specs.State.{rule_count, accepted_count, rule_base, write_base, rule_in, write_in, rules_in}
use Rattle.cache_masks.specs.declared.Columns.{Columns}
use Rattle.cache_contents.specs.Columns.{InColumns}

-- ---- state_rules, write_in

module _ (s : List ℕ) where
  pub rules-begun : (l : List Rule) → take 0 l ≡ tabulate (rule_in s) 0
  unfolding tabulate
  rules-begun l = refl

  pub rules-more : (l : List Rule) (i n b : ℕ) (r : Rule) → length l ≡ most_rules → n ≡ rule_count s → rule_count s ≤ most_rules → i < n → take i l ≡ tabulate (rule_in s) i
      → b ≡ rule_base i → r ≡ wide_rule (take (b + wide_rule_length - b) (drop b s)) → take (i + 1) (set l i r) ≡ tabulate (rule_in s) (i + 1)
  unfolding tabulate rule_in
  rules-more l i n b r all c few h e p q =
      let z : b + wide_rule_length - b ≡ wide_rule_length = omega arith in
      rw (add-one i, take-suc-set l i r (omega arith), e, q, z, p)

  pub rules-done : (r : Rules) (i n : ℕ) → n ≡ rule_count s → r.count ≡ n → i ≤ n → n ≤ i → take i r.items ≡ tabulate (rule_in s) i → rules_of r ≡ rules_in s
  unfolding rules_in
  rules-done r i n c k a b e =
      let z : i ≡ n = omega arith in
      rw k ((rw z at e) ∙ ap (tabulate (rule_in s)) c)

  pub write_read : (i b : ℕ) (r : Write) → b ≡ write_base i → r ≡ wide_write (take (b + wide_write_length - b) (drop b s)) → r ≡ write_in s i
  unfolding write_in
  write_read i b r p e =
      let z : b + wide_write_length - b ≡ wide_write_length = omega arith in
      e ∙ rw (z, p)

-- ---- fill_columns

module _ (s : List ℕ) (i : ℕ) where
  body_byte : (j : ℕ) → j < wide_write_length → byte (take wide_write_length (drop (write_base i) s)) j ≡ byte s (write_base i + j)
  body_byte j h = get_or-take wide_write_length (drop (write_base i) s) j 0 h ∙ get_or-drop (write_base i) s j 0

  address_in : byte s (write_base i) ≡ (write_in s i).address
  unfolding write_in wide_write
  address_in = let z : write_base i + 0 ≡ write_base i = omega arith in sym (body_byte 0 (omega arith) ∙ ap (byte s) z)

  name_in : half s (write_base i + 1) ≡ (write_in s i).name
  unfolding write_in wide_write half
  name_in =
      let x : write_base i + 1 + 1 ≡ write_base i + 2 = omega arith in
      rw (body_byte 1 (omega arith), body_byte 2 (omega arith), x)

  epoch_in : word s (write_base i + 3) ≡ (write_in s i).epoch
  unfolding write_in wide_write word half
  epoch_in =
      let x : write_base i + 3 + 1 ≡ write_base i + 4 = omega arith in
      let y : write_base i + 3 + 2 ≡ write_base i + 5 = omega arith in
      let z : write_base i + 5 + 1 ≡ write_base i + 6 = omega arith in
      rw (body_byte 3 (omega arith), body_byte 4 (omega arith), body_byte 5 (omega arith), body_byte 6 (omega arith), x, y, z)

  -- a column with one entry more
  grown : (f : ℕ → ℕ) (l : List ℕ) (x : ℕ) → i < length l → ((j : ℕ) → j < i → get_or l j 0 ≡ f j) → x ≡ f i → (j : ℕ) → j < i + 1 → get_or (set l i x) j 0 ≡ f j
  grown f l x h old e j b = elim (ℕ_discrete j i) [
    | yes z ↦ rw z (get_or-set_same l i x 0 h ∙ e)
    | no n ↦ get_or-set_other l i j x 0 n ∙ old j (let d : j ≢ i = n in omega arith)
  ]

  pub columns-more : (at x z : ℕ) (c : Columns) → at ≡ write_base i → i < length c.addresses → i < length c.names → i < length c.epochs
      → x ≡ half s (at + 1) → z ≡ word s (at + 3) → InColumns s i c
      → InColumns s (i + 1) (record { addresses = set c.addresses i (byte s at); names = set c.names i x; epochs = set c.epochs i z })
  columns-more at x z c p la ln le ex ez h =
      record {
        address = grown (λ j. (write_in s j).address) c.addresses (byte s at) la h.address (ap (byte s) p ∙ address_in);
        name = grown (λ j. (write_in s j).name) c.names x ln h.name (ex ∙ ap (λ (k : ℕ). half s (k + 1)) p ∙ name_in);
        epoch = grown (λ j. (write_in s j).epoch) c.epochs z le h.epoch (ez ∙ ap (λ (k : ℕ). word s (k + 3)) p ∙ epoch_in);
      }

pub columns-begun : (s : List ℕ) (c : Columns) → InColumns s 0 c
columns-begun s c = record { address = λ i h. absurd (omega arith); name = λ i h. absurd (omega arith); epoch = λ i h. absurd (omega arith) }

pub columns-done : (s : List ℕ) (c : Columns) (i n : ℕ) → n ≡ accepted_count s → i ≤ n → n ≤ i → InColumns s i c → InColumns s (accepted_count s) c
columns-done s c i n e a b h = let z : i ≡ accepted_count s = omega arith in subst (λ (k : ℕ). InColumns s k c) z h

pub ruleset reading = (rules, length_mapped, rules-begun, rules-more, rules-done, write_read, columns-begun, columns-more, columns-done)
