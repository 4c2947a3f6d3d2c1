-- `sound` computes to true exactly on the sound states: each part of the computed test agrees with its part of the meaning. And what a sound state
-- tells of its bytes.
use mathlib.Core.Path.{◌≡◌, refl, sym, ap, ap₂, subst, ◌∙◌}
use mathlib.Core.Bool.{Bool, true, false, not, false≢true, ◌&&◌, ◌||◌}
use mathlib.Core.List.{List, [], ◌∷◌}
use Prim.Native.Nat.{ℕ, ◌+◌, ◌*◌, ◌/◌, ◌%◌, ◌≤◌, ◌<◌}
use native.Mathlib.Omega.{arith}
use lib.Dec.{eqb}
use lib.ListN.{length, get_or, take, drop}
use borrow.Author.Tests.{eqb-true, eq-eqb, leb-true, le-leb, not-true}
use Rattle.relation.specs.Lists.{all_below}
use Rattle.relation.proofs.ListLaws.{not_so, and_left, and_right, and_intro, all_below-true, all_below_intro}
use Rattle.relation.proofs.MaskLaws.{implies, implied}
use Rattle.model.specs.Limits.{most_rules, most_held, words}
use Rattle.model.specs.declared.Rule.{Rule}
use Rattle.model.specs.declared.Write.{Write}
use Rattle.model.specs.Cyclic.{cyclic}
use Rattle.model.specs.Schedule.{no_write}
use Rattle.model.specs.Needs.{Needs, needs, needs_ring, met}
use Rattle.model.proofs.CountLaws.{count_most}
use Rattle.model.proofs.RuleLaws.{known-true, true-known}
use Rattle.model.proofs.NeedsLaws.{needs-true, true-needs, needs_ring-true, true-needs_ring}
use Rattle.model.proofs.ReadyLaws.{needs-left, needs_right}
use Rattle.rule_cyclelaws.proofs.CyclicLaws.{cyclic-true, true-cyclic}
use Rattle.file_format.specs.Bytes.{half, word, wide_write_bytes}
use Rattle.file_format.specs.File.{wide_write_length, wide_write}
use Rattle.cache_model.specs.Entries.{Entry, entry, accepted, flag_at, Holdable}
use Rattle.cache_model.specs.State.{state_size, rule_count, accepted_count, stored_count, write_base, rules_in, writes_in, write_in, stored_in, entries_in, state_of}
use Rattle.cache_model.specs.Sound.{Sound, same, layout, ruled, needs_hold, sound}
use Rattle.cache_statelaws.specs.Theorem.{Clauses}
use Rattle.cache_statelaws.proofs.LayoutLaws.{Worded, writes-length, length-rules_in, length-entries_in, entry_in, flag-in, accepted_in, body_at, state-rules, state_entries, state-flags}
use Rattle.cache_statelaws.proofs.ClauseLaws.{equation_clauses}

-- ---- two lists

pub same_true : (x y : List ℕ) → same x y ≡ true → x ≡ y
unfolding same
same_true [] [] e = refl
same_true [] (b ∷ y) e = absurd (false≢true e)
same_true (a ∷ x) [] e = absurd (false≢true e)
same_true (a ∷ x) (b ∷ y) e = ap₂ (λ (n : ℕ) (l : List ℕ). n ∷ l) (eqb-true a b (and_left (eqb a b) _ e)) (same_true x y (and_right (eqb a b) _ e))

pub same_refl : (x : List ℕ) → same x x ≡ true
unfolding same
same_refl [] = refl
same_refl (a ∷ x) = and_intro (eqb a a) (same x x) (eq-eqb a a refl) (same_refl x)

pub true_same : (x y : List ℕ) → x ≡ y → same x y ≡ true
true_same x y e = subst (λ (l : List ℕ). same x l ≡ true) e (same_refl x)

-- ---- what is read from the bytes of any write has epoch and block of four bytes

digits : (n : ℕ) → (n / 16777216 % 256 * 256 + n / 65536 % 256) * 65536 + (n / 256 % 256 * 256 + n % 256) < words
digits n = omega arith

narrow : (w : Write) → ((wide_write (wide_write_bytes w)).epoch < words) × ((wide_write (wide_write_bytes w)).block < words)
unfolding wide_write wide_write_bytes word half
narrow w = (digits w.epoch, digits w.block)

-- ---- what any state holds, by its bytes and by its entries

pub both : (a b : Bool) → a && b ≡ true → (a ≡ true) × (b ≡ true)
both a b e = (and_left a b e, and_right a b e)

so_not : (b : Bool) → not b ≡ true → b ≡ true → ⊥
so_not b h e = false≢true (sym (not-true b h) ∙ e)

module _ (s : List ℕ) where
  -- stored writes need only stored ones
  abbrev Closed : Type 0
  Closed = (i j : ℕ) → flag_at (entries_in s) i ≡ true → Needs (rules_in s) (accepted (entries_in s)) i j → flag_at (entries_in s) j ≡ true

  below : (i j : ℕ) → Needs (rules_in s) (writes_in s) i j → (i < accepted_count s) × (j < accepted_count s)
  below i j n =
      let e = writes-length s in
      let a = needs-left (rules_in s) (writes_in s) i j n in
      let b = needs_right (rules_in s) (writes_in s) i j n in
      (omega arith, omega arith)

  closed-true : all_below (λ i. not (stored_in s i) || met (rules_in s) (writes_in s) (stored_in s) i) (accepted_count s) ≡ true → Closed
  unfolding met
  closed-true e i j h n =
      let m : Needs (rules_in s) (writes_in s) i j = rw (accepted_in s) at n in
      let l = below i j m in
      flag-in s j l.1
      ∙ implies (needs (rules_in s) (writes_in s) i j) (stored_in s j)
      (all_below-true _ (length (writes_in s)) (implies (stored_in s i) _ (all_below-true _ (accepted_count s) e i l.0) (sym (flag-in s i l.0) ∙ h)) j (needs_right (rules_in s) (writes_in s) i j m))
      (true-needs (rules_in s) (writes_in s) i j m)

  true-closed : Closed → all_below (λ i. not (stored_in s i) || met (rules_in s) (writes_in s) (stored_in s) i) (accepted_count s) ≡ true
  unfolding met
  true-closed c =
      all_below_intro _ (accepted_count s) (λ i hi. implied (stored_in s i) _ (λ h.
      all_below_intro _ (length (writes_in s)) (λ j hj. implied (needs (rules_in s) (writes_in s) i j) (stored_in s j) (λ n.
      let lj : j < accepted_count s = subst (λ (m : ℕ). j < m) (writes-length s) hj in
      sym (flag-in s j lj) ∙ c i j (flag-in s i hi ∙ h) (rw (accepted_in s) (needs-true (rules_in s) (writes_in s) i j (subst (λ (m : ℕ). i < m) (sym (writes-length s)) hi) hj n))))))

  -- ---- the whole

  pub sound-true : sound s ≡ true → Sound s
  unfolding sound ruled needs_hold layout
  sound-true e =
      let halves = both _ _ e in
      let needs-part = both _ _ halves.1 in
      let cyclic-part = both _ _ halves.0 in
      let known-part = both _ _ cyclic-part.0 in
      let bytes-part = both _ _ known-part.0 in
      let most-part = both _ _ bytes-part.0 in
      record {
        layout = same_true s _ bytes-part.1;
        holds = record {
          rules-most = rw (length-rules_in s) (leb-true _ _ most-part.0);
          most = rw (length-entries_in s) (leb-true _ _ most-part.1);
          known = known-true (rules_in s) known-part.1;
          acyclic = λ c. so_not (cyclic (rules_in s)) cyclic-part.1 (true-cyclic (rules_in s) c);
          closed = closed-true needs-part.0;
          ringless = λ r. so_not (needs_ring (rules_in s) (writes_in s)) needs-part.1 (true-needs_ring (rules_in s) (writes_in s) (rw (accepted_in s) at r));
        };
      }

  pub true-sound : Sound s → sound s ≡ true
  unfolding sound ruled needs_hold layout
  true-sound h =
      and_intro _ _
      (and_intro _ _ (and_intro _ _
      (and_intro _ _ (and_intro _ _
      (le-leb _ _ (subst (λ (n : ℕ). n ≤ most_rules) (length-rules_in s) h.holds.rules-most))
      (le-leb _ _ (subst (λ (n : ℕ). n ≤ most_held) (length-entries_in s) h.holds.most)))
      (true_same s _ h.layout))
      (true-known (rules_in s) h.holds.known))
      (not_so (cyclic (rules_in s)) (λ c. h.holds.acyclic (cyclic-true (rules_in s) h.holds.known c))))
      (and_intro _ _ (true-closed h.holds.closed)
      (not_so (needs_ring (rules_in s) (writes_in s)) (λ r. h.holds.ringless (rw (accepted_in s) (needs_ring-true (rules_in s) (writes_in s) r)))))

  -- ---- what a sound state tells

  module _ (h : Sound s) where
    pub sound-few : rule_count s ≤ most_rules
    sound-few = subst (λ (n : ℕ). n ≤ most_rules) (length-rules_in s) h.holds.rules-most

    pub sound-most : accepted_count s ≤ most_held
    sound-most = subst (λ (n : ℕ). n ≤ most_held) (length-entries_in s) h.holds.most

    pub sound-clauses : Clauses s
    sound-clauses = equation_clauses s sound-few sound-most h.layout

    pub sound-size : length s ≡ state_size
    sound-size = sound-clauses.size

    -- no more are stored than accepted
    pub stored-most : stored_count s ≤ accepted_count s
    stored-most = rw sound-clauses.counted (count_most (stored_in s) (accepted_count s))

    -- at every place, accepted or not
    pub sound-flags : (i : ℕ) → stored_in s i ≡ flag_at (entries_in s) i
    sound-flags i = ap (λ (l : List ℕ). stored_in l i) h.layout ∙ state-flags (rules_in s) (entries_in s) h.holds.rules-most i

    -- a write is what the bytes of its entry are read as
    body_in : (j : ℕ) → j < length (entries_in s) → write_in s j ≡ wide_write (wide_write_bytes (get_or (entries_in s) j (entry no_write false)).write)
    unfolding write_in
    body_in j l = ap (λ (x : List ℕ). wide_write (take wide_write_length (drop (write_base j) x))) h.layout ∙ ap wide_write (body_at (rules_in s) (entries_in s) h.holds.rules-most j l)

    -- its epochs and blocks are of four bytes
    pub sound-words : Worded (entries_in s)
    sound-words j l =
        let k : j < accepted_count s = subst (λ (n : ℕ). j < n) (length-entries_in s) l in
        let q = ap (λ (x : Entry). x.write) (entry_in s j k) ∙ body_in j l in
        subst (λ (w : Write). (w.epoch < words) × (w.block < words)) (sym q) (narrow (get_or (entries_in s) j (entry no_write false)).write)

-- the bytes of what a cache can hold are a sound state
pub holdable_sound : (rules : List Rule) (b : List Entry) → Holdable rules b → Worded b → Sound (state_of rules b)
holdable_sound rules b f w =
    let er = state-rules rules b f.rules-most in
    let eb = state_entries rules b f.rules-most w in
    record { layout = rw (er, eb); holds = rw (er, eb) f }
