-- The steps of opening: one law for each return and each turn of a loop, whose premises are what is known at that place.
use mathlib.Core.Path.{◌≡◌, refl, sym, ap, ◌∙◌}
use mathlib.Core.Bool.{Bool, true, false, cond}
use mathlib.Core.List.{List, [], ◌∷◌}
use Prim.Native.Nat.{ℕ, suc, ◌+◌, ◌*◌, ◌≤◌, ◌<◌}
use native.Mathlib.Numerals.{add-one}
use native.Mathlib.Omega.{arith}
use lib.ListN.{length, take, set, replicate, length-replicate}
use lib.Seq.{sets, take-suc, length-take-le}
use borrow.Author.Rules.{rules}
use borrow.Author.Tests.{eq-eqb, ne_eqb, lt-ltb, le-ltb}
use Rattle.model.specs.declared.Rule.{Rule}
use Rattle.std.specs.Prelude.{Result, Ok, Err, IfErr}
use Rattle.model.specs.declared.Refusal.{Refusal}
use Rattle.model.specs.declared.Cause.{Cause}
use Rattle.model.specs.declared.Cause.TheVariants.{Not1024Bytes, FileHasTests}
use Rattle.model.specs.Rules.{Known}
use Rattle.model.specs.Limits.{words, most_rules}
use Rattle.model.specs.Answer.{answer, refused, refusal, coded, at_zero, number_of}
use Rattle.model.specs.Cyclic.{cyclic}
use Rattle.file_format.specs.declared.Contents.{Contents}
use Rattle.file_format.specs.Bytes.{bytes2, wide_rule_bytes}
use Rattle.file_format.specs.File.{is_rule, wide_rule_length}
use Rattle.file_format.specs.Scan.{rules_at, scan_of}
use Rattle.file_format.specs.Held.{Fields, Finds, Scans}
use Rattle.file_reader.proofs.CallerLaws.{accepted, refused-read, refused-most, accepted-rules, accepted_fields, accepted-read, accepted-at, accepted_placed, accepted-file, holding-limits}
use Rattle.rule_match.specs.declared.Rules.{Rules}
use Rattle.rule_match.specs.Held.{rules_of}
use Rattle.rule_match.proofs.MatchSteps.{length_mapped, known_at}
use Rattle.rule_match.specs.Held.{item_at}
use Rattle.cache_model.specs.State.{state_size, rule_base, bytes_each, rules_bytes, opened}
use Rattle.cache_statelaws.proofs.EachLaws.{each_append}
use Rattle.cache_statelaws.proofs.LayoutLaws.{rule-size, length-rules}
use Rattle.cache_model.specs.Calls.{left, open_with, open_of}
use Rattle.cache_steps.specs.Given.{call_leaves_state, coded_kept, answer_by, opened_by, Opens}
use Rattle.file_writing.specs.Writing.{Wrote}
use Rattle.file_writing.proofs.WroteLaws.{sets-append, wrote_then}

-- ---- put_rule, put_rules

pub rule-put : (l l₁ l₂ l₃ : List ℕ) (at r₁ r₂ r₃ : ℕ) (r : Rule) → Wrote l at (bytes2 r.first) l₁ r₁ → Wrote l₁ r₁ (r.predicate ∷ []) l₂ r₂
    → Wrote l₂ r₂ (bytes2 r.second) l₃ r₃ → l₃ ≡ sets l at (wide_rule_bytes r)
unfolding wide_rule_bytes
rule-put l l₁ l₂ l₃ at r₁ r₂ r₃ r a b c = (wrote_then _ _ _ _ _ _ _ _ a (wrote_then _ _ _ _ _ _ _ _ b c)).buffer

-- a state with a count and the rules so far
abbrev pub written : ℕ → List Rule → List ℕ
written n rules = sets (replicate state_size 0) 0 (n ∷ 0 ∷ 0 ∷ 0 ∷ rules_bytes rules)

pub rules-begun : (s : List ℕ) (rules : Rules) → s ≡ replicate state_size 0 → set s 0 rules.count ≡ written rules.count (take 0 rules.items)
unfolding bytes_each
rules-begun s rules e = rw e

pub rules-more : (rules : Rules) (s s' : List ℕ) (i at : ℕ) → s' ≡ sets s at (wide_rule_bytes (item_at rules i)) → at ≡ rule_base i
    → s ≡ written rules.count (take i rules.items) → length rules.items ≡ most_rules → rules.count ≤ most_rules → i < rules.count
    → s' ≡ written rules.count (take (i + 1) rules.items)
rules-more rules s s' i at q p e size few h =
    let inside : i < length rules.items = omega arith in
    let n : length (rules_bytes (take i rules.items)) ≡ wide_rule_length * i = length-rules (take i rules.items) ∙ ap (λ (k : ℕ). wide_rule_length * k) (length-take-le i rules.items (omega arith)) in
    let place : 0 + suc (suc (suc (suc (length (rules_bytes (take i rules.items)))))) ≡ at = omega arith in
    q ∙ rw (add-one i, take-suc rules.items i (record { first = 0; predicate = 0; second = 0 }) inside, each_append wide_rule_bytes wide_rule_length rule-size (take i rules.items) (item_at rules i), e, ← place)
    (sym (sets-append (replicate state_size 0) 0 (rules.count ∷ 0 ∷ 0 ∷ 0 ∷ rules_bytes (take i rules.items)) (wide_rule_bytes (item_at rules i))))

pub rules-done : (rules : Rules) (s : List ℕ) (i : ℕ) → length rules.items ≡ most_rules → rules.count ≤ most_rules → i ≤ rules.count → rules.count ≤ i
    → s ≡ written rules.count (take i rules.items) → s ≡ opened (rules_of rules)
unfolding opened
rules-done rules s i size few a b e =
    let q : i ≡ rules.count = omega arith in
    (rw q at e) ∙ rw (length-take-le rules.count rules.items (omega arith))

pub cleared_size : (s : List ℕ) → s ≡ replicate state_size 0 → length s ≡ state_size
cleared_size s e = ap length e ∙ length-replicate {A = ℕ} state_size 0

pub ruleset putting = (rules, length_mapped, known_at, rule-put, rules-begun, rules-more, rules-done, cleared_size)

-- ---- open_with

module _ (rules : List Rule) (s : List ℕ) (b : Bool) (e : b ≡ cyclic rules) where
  pub open_cyclic : b ≡ true → call_leaves_state (refusal 8 0) s ≡ opened_by rules s
  unfolding opened_by
  open_cyclic t = rw (← e, t)

  pub open_started : (s' : List ℕ) → b ≡ false → s' ≡ opened rules → call_leaves_state 0 s' ≡ opened_by rules s
  unfolding opened_by
  open_started s' f q = rw (← e, f, q)

pub ruleset beginning = (rules, open_cyclic, open_started)

-- ---- pelzhondy_open

module _ (file s : List ℕ) where
  pub open_short : (length s ≡ state_size → ⊥) → Opens file s (Err (at_zero Not1024Bytes)) s
  unfolding open_of coded_kept coded
  open_short h = rw (ne_eqb _ _ h)

  module _ (x : Result Contents Refusal) (g : Scans (scan_of file) x) (hs : length s ≡ state_size) where
    pub open_refused : (why : Refusal) → x ≡ Err why → (r : Result ℕ Refusal) (y : Refusal) → r ≡ Err y → y ≡ why → Opens file s r s
    unfolding open_of open_with coded_kept coded
    open_refused why e r y p q = rw (p, q, eq-eqb _ _ hs, refused-read file x g why e)

    module _ (c : Contents) (e : x ≡ Ok c) where
      found : Finds (scan_of file) c
      found = accepted file x g c e

      pub open_tests : (y : Refusal) → 0 < c.count → y ≡ at_zero FileHasTests → Opens file s (Err y) s
      unfolding open_of open_with coded_kept coded
      open_tests y h q = rw (q, eq-eqb _ _ hs, accepted-read file c found, (accepted_placed file c found).count, lt-ltb 0 c.count h)

      pub open_made : (held : Rules) (r : ℕ) (s' : List ℕ) → c.count ≤ 0 → rules_of held ≡ rules_at file c.rules → call_leaves_state r s' ≡ opened_by (rules_of held) s
          → call_leaves_state r s' ≡ coded_kept (open_of file s [])
      unfolding open_of open_with coded_kept coded opened_by
      open_made held r s' h i q =
          q ∙ rw (eq-eqb _ _ hs, accepted-read file c found, (accepted_placed file c found).count, le-ltb 0 c.count h, accepted-at file c found, i)
          (go (cyclic (rules_at file c.rules)))
        where
          go : (b : Bool) → cond b (call_leaves_state (refusal 8 0) s) (call_leaves_state 0 (opened (rules_at file c.rules)))
              ≡ coded_kept (cond b (left (refused 8 0) s []) (left (answer 0) (opened (rules_at file c.rules)) []))
          go true = refl
          go false = refl

      -- by the opening's result
      module _ (held : Rules) (o : Result (Unit {0}) Cause) (s' : List ℕ) (h : c.count ≤ 0) (i : rules_of held ≡ rules_at file c.rules)
          (m : call_leaves_state (answer_by o) s' ≡ opened_by (rules_of held) s) where
        pub open_failed : (cause : Cause) → o ≡ Err cause → (r : Result ℕ Refusal) (y : Refusal) → r ≡ Err y → y ≡ at_zero cause → Opens file s r s'
        unfolding coded
        open_failed cause q r y p t = rw (p, t) (open_made held (refusal (number_of cause) 0) s' h i (rw q at m))

        pub open_done : (u : Unit {0}) → o ≡ Ok u → Opens file s (Ok 0) s'
        unfolding coded
        open_done u q = open_made held 0 s' h i (rw q at m)

-- what the callees ask
module _ (file : List ℕ) (x : Result Contents Refusal) (g : Scans (scan_of file) x) where
  pub refusal-fits : (why : Refusal) → x ≡ Err why → (r : Result ℕ Refusal) (y : Refusal) → r ≡ Err y → y ≡ why → IfErr r (λ d. d.place < words)
  refusal-fits why e r y p q = rw (p, q) (let b = (refused-most file x g why e).1 in omega arith)

  module _ (c : Contents) (e : x ≡ Ok c) where
    pub rules-few : c.rules ≤ most_rules
    rules-few = accepted-rules file c (accepted file x g c e)

    pub rules_fields : Fields is_rule file 0 c.rules
    rules_fields = accepted_fields file c (accepted file x g c e)

    pub held-known : (held : Rules) → rules_of held ≡ rules_at file c.rules → Known (rules_of held)
    held-known held i =
        let found = accepted file x g c e in
        rw (i, ← accepted-at file c found) (holding-limits file (accepted-file file c found) (accepted-read file c found)).0.known

pub ruleset opening = (rules, open_short, open_refused, open_tests, open_made, refusal-fits, rules-few, rules_fields, held-known)
