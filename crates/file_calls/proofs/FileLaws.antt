-- From the scan's answer to the routine's, outcome by outcome.
use mathlib.Core.Path.{◌≡◌, refl, sym, ap, ◌∙◌}
use mathlib.Core.List.{List}
use mathlib.Core.Bool.{Bool, true, false, cond, not, ◌&&◌}
use Prim.Native.Nat.{ℕ, ◌+◌, ◌*◌, ◌-◌, ◌≤◌, ◌<◌}
use native.Mathlib.Omega.{arith}
use lib.Dec.{leb}
use lib.ListN.{length, take}
use lib.Seq.{get_or-take, length-take-le}
use borrow.Author.Rules.{rules}
use borrow.Author.Tests.{not-true, not-false}
use Rattle.std.specs.Int.{from_bool}
use Rattle.std.specs.Prelude.{Result, Ok, Err}
use Rattle.model.specs.declared.Refusal.{Refusal}
use Rattle.model.specs.Limits.{words, most_rules, most_tests}
use Rattle.model.specs.Answer.{answer, refused, coded, refusal, number_of}
use Rattle.model.specs.Cyclic.{cyclic}
use Rattle.file_format.specs.declared.Contents.{Contents}
use Rattle.file_format.specs.File.{is_rule}
use Rattle.file_format.specs.Scan.{rules_at, rule_field, Places, scan_of}
use Rattle.file_format.specs.Held.{Fields, extent_of, no_extent, Finds, Scans}
use Rattle.file_reader.proofs.CallerLaws.{held-inside, held-most, refused_scan, refused-read, refused-most, accepted, accepted-places, accepted-room, accepted-rules, accepted-tests, accepted_fields, accepted-file, accepted-read, accepted-at, accepted_placed, listed_below}
use Rattle.rule_match.specs.declared.Rules.{Rules}
use Rattle.rule_match.specs.Held.{rules_of}
use Rattle.file_loading.proofs.LoadSteps.{fields_length}
use Rattle.file_calls.specs.File.{sizes, read_answer, packed_extent, located, locate_answer, cyclic_in, cyclic_answer, Packed}

-- an extent of a file has room in the answer
pub placed_packed : (s : List ℕ) (p : Places) → scan_of s ≡ answer p → (i : ℕ) → i < length p.tests → Packed (extent_of p.tests i)
placed_packed s p e i h =
    let j = held-inside s p e i h in
    let a = j.at in let m = (held-most s p e).2 in
    record { at = omega arith; initial = j.initial-most; main = j.main-most; checks = j.checks-most }

module _ (s : List ℕ) (x : Result Contents Refusal) (g : Scans (scan_of s) x) where
  module _ (why : Refusal) (r : ℕ) (e : x ≡ Err why) where
    pub refusal-fits : why.place < words
    refusal-fits = let b = (refused-most s x g why e).1 in omega arith

    module _ (q : r ≡ refusal (number_of why.cause) why.place) where
      pub read-refused : r ≡ coded (read_answer s)
      unfolding read_answer sizes coded
      read-refused = rw (refused-read s x g why e) q

      pub cyclic-refused : r ≡ coded (cyclic_answer s)
      unfolding cyclic_answer cyclic_in coded
      cyclic-refused = rw (refused-read s x g why e) q

      pub locate-refused : (k : ℕ) → r ≡ coded (locate_answer s k)
      unfolding locate_answer located coded
      locate-refused k = rw (refused_scan s x g why e) q

  module _ (c : Contents) (e : x ≡ Ok c) where
    f : Finds (scan_of s) c
    f = accepted s x g c e

    pub rules-few : c.rules ≤ most_rules
    rules-few = accepted-rules s c f

    pub tests-few : c.count ≤ most_tests
    tests-few = accepted-tests s c f

    pub tests_scaled : 256 * c.count < 18446744073709551616
    tests_scaled = let m = tests-few in omega arith

    pub sizes_fit : c.rules + 256 * c.count < 18446744073709551616
    sizes_fit = let m = tests-few in let l = rules-few in omega arith

    pub rules_fields : Fields is_rule s 0 c.rules
    rules_fields = accepted_fields s c f

    pub count-few : (r : Rules) → r.count ≡ c.rules → r.count ≤ most_rules
    count-few r k = let m = rules-few in omega arith

    pub read-accepted : c.rules + 256 * c.count ≡ coded (read_answer s)
    unfolding read_answer sizes coded
    read-accepted =
        let h = accepted-file s c f in
        let a : length h.rules ≡ c.rules = ap length (accepted-at s c f) ∙ fields_length rule_field s 0 c.rules in
        rw (accepted-read s c f, a, (accepted_placed s c f).count)

    pub cyclic-told : (r : Rules) (b : Bool) (n : ℕ) → rules_of r ≡ rules_at s c.rules → b ≡ cyclic (rules_of r) → n ≡ from_bool b → n ≡ coded (cyclic_answer s)
    unfolding cyclic_answer cyclic_in coded
    cyclic-told r b n q p h = h ∙ rw (accepted-read s c f, accepted-at s c f, ← q, ← p) (go b)
      where
        go : (b : Bool) → from_bool b ≡ coded (answer (cond b 1 0))
        go true = refl
        go false = refl

    module _ (k : ℕ) (b : Bool) (h : b ≡ leb 1 k && leb k c.count) where
      count : length (take c.count c.tests) ≡ c.count
      count = length-take-le c.count c.tests (let m = tests-few in let l = accepted-room s c f in omega arith)

      here : locate_answer s k ≡ cond b (answer (packed_extent (extent_of (take c.count c.tests) (k - 1)))) (refused 9 0)
      unfolding locate_answer located
      here = rw (accepted-places s c f, count) (ap (λ (t : Bool). cond t (answer (packed_extent (extent_of (take c.count c.tests) (k - 1)))) (refused 9 0)) (sym h))

      pub locate-none : (r : ℕ) → not b ≡ true → r ≡ refusal 9 0 → r ≡ coded (locate_answer s k)
      unfolding coded
      locate-none r i q = q ∙ sym (ap coded (here ∙ ap (λ (t : Bool). cond t (answer (packed_extent (extent_of (take c.count c.tests) (k - 1)))) (refused 9 0)) (not-true b i)))

    module _ (k w : ℕ) (b : Bool) (z : w ≡ k - 1) (h : b ≡ leb 1 k && leb k c.count) where
      pub locate-below : not b ≡ false → w < most_tests
      locate-below i = let a = listed_below k w c.count b z h i in let m = tests-few in omega arith

      pub locate_scaled : not b ≡ false → w * 32 < 18446744073709551616
      locate_scaled i = let a = locate-below i in omega arith

      pub packs : not b ≡ false → Packed (extent_of c.tests w)
      packs i =
          let a = listed_below k w c.count b z h i in
          rw (← get_or-take c.count c.tests w no_extent a) (placed_packed s _ (accepted-places s c f) w (omega (arith, count k b h)))

      pub locate-found : (r : ℕ) → not b ≡ false → r ≡ packed_extent (extent_of c.tests w) → r ≡ coded (locate_answer s k)
      unfolding coded
      locate-found r i q =
          let a = listed_below k w c.count b z h i in
          let same : extent_of (take c.count c.tests) (k - 1) ≡ extent_of c.tests w = rw (← z) (get_or-take c.count c.tests w no_extent a) in
          q ∙ sym (ap coded (here k b h ∙ ap (λ (t : Bool). cond t (answer (packed_extent (extent_of (take c.count c.tests) (k - 1)))) (refused 9 0)) (not-false b i)) ∙ ap packed_extent same)

pub ruleset answers = (rules, refusal-fits, read-refused, cyclic-refused, locate-refused, rules-few, tests-few, tests_scaled, sizes_fit, rules_fields, count-few, read-accepted, cyclic-told, locate-none, locate-below, locate_scaled, packs, locate-found)
