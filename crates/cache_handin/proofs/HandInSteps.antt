-- The steps of hand-in: one law for each return, whose premises are what is known at that place.
use mathlib.Core.Path.{◌≡◌, refl, sym, ap, subst, ◌∙◌}
use mathlib.Core.Bool.{Bool, true, false, cond, not, false≢true, or-false, ◌&&◌}
use mathlib.Core.List.{List, [], ◌∷◌, ◌++◌}
use Prim.Native.Nat.{ℕ, ◌+◌, ◌≤◌, ◌<◌}
use native.Mathlib.Omega.{arith}
use lib.Bits.{bit_and}
use lib.Dec.{eqb, leb}
use lib.ListN.{length, take, length-append}
use borrow.Author.Rules.{rules}
use borrow.Author.Tests.{eqb-true, eq-eqb, ne_eqb, leb-false, le-leb, lt-leb, lt-ltb, le-ltb}
use Rattle.relation.specs.Bits.{bit, mask_of}
use Rattle.relation.specs.Lists.{any_below}
use Rattle.relation.specs.Finite.{rows_of, has_ring}
use Rattle.relation.specs.Reach.{closes_ring}
use Rattle.relation.specs.Transitive.{Plus}
use Rattle.relation.proofs.BitLaws.{bit_mask, mask_ext, mask_below}
use Rattle.relation.proofs.ListLaws.{any_below-true, any_below_intro, any_below_ext, and_left, and_right, and_intro, untrue, true_unless, clash}
use Rattle.relation.proofs.FiniteLaws.{Agree}
use Rattle.relation.proofs.SetLaws.{apart-bit, bits_apart}
use Rattle.relation.proofs.MemberLaws.{member_below}
use Rattle.relation.proofs.AddedLaws.{added_ring, closes_none}
use Rattle.model.specs.Limits.{most_rules, most_held}
use Rattle.model.specs.declared.Rule.{Rule}
use Rattle.model.specs.declared.Write.{Write}
use Rattle.model.specs.declared.Cause.{Cause}
use Rattle.model.specs.Answer.{refused, answer, refusal, coded, number_of}
use Rattle.model.proofs.CauseLaws.{number_positive}
use Rattle.model.specs.Rules.{label_of, depends_on}
use Rattle.model.specs.Cyclic.{Cyclic, cyclic}
use Rattle.model.specs.Schedule.{label_at}
use Rattle.model.specs.Needs.{needs_ring, late}
use Rattle.model.specs.Needs as cache
use Rattle.model.proofs.RuleLaws.{depends_on-true}
use Rattle.model.proofs.NeedsLaws.{Alike, alike-rows, alike-ring, alike-late, alike-more, needs_ring-true}
use Rattle.rule_cyclelaws.proofs.CyclicLaws.{cyclic-true, true-cyclic}
use Rattle.rule_match.specs.Held.{rules_of}
use Rattle.cache_model.specs.State.{state_size, accepted_count, rules_in, writes_in, stored_in, handed}
use Rattle.cache_model.specs.Sound.{Sound, ruled, needs_hold, sound}
use Rattle.cache_model.specs.Calls.{left, hand_in_of}
use Rattle.cache_statelaws.proofs.LayoutLaws.{writes-length, accepted_in}
use Rattle.cache_statelaws.proofs.SoundLaws.{sound-true}
use Rattle.cache_masks.specs.Columns.{columned, writes_of}
use Rattle.cache_masks.proofs.ColumnLaws.{columned-length, columned-at, front_at, last-at}
use Rattle.cache_needs.specs.Needed.{needed_mask, dependent_mask}
use Rattle.cache_masks.specs.declared.Columns.{Columns}
use Rattle.cache_soundness.specs.declared.Examined.{Examined}
use Rattle.cache_soundness.specs.Parts.{Tabled, Seen}
use Rattle.cache_soundness.proofs.SoundSteps.{columns-alike, not-ruled, not-holding, all_sound}
use Rattle.cache_steps.specs.Given.{call_leaves_state, coded_kept, hand_fault_by, hand_fault}

-- ---- closes_ring, fault_behind

module _ (rules : List Rule) (addresses names epochs : List ℕ) (n : ℕ) (w : Write) where
  abbrev ws : List Write
  ws = columned addresses names epochs n

  -- the needs with w behind the others
  abbrev wider : ℕ → ℕ → Bool
  wider = cache.needs rules (ws ++ (w ∷ []))

  wider_length : length (ws ++ (w ∷ [])) ≡ n + 1
  wider_length = length-append ws (w ∷ []) ∙ ap (λ (k : ℕ). k + 1) (columned-length addresses names epochs n)

  same-below : Agree n wider (cache.needs rules ws)
  unfolding cache.needs
  same-below i j hi hj =
      rw (front_at addresses names epochs n w i hi, front_at addresses names epochs n w j hj, columned-at addresses names epochs n i hi, columned-at addresses names epochs n j hj)

  column : mask_of (λ i. wider i n) n ≡ dependent_mask rules ws w n
  unfolding cache.needs dependent_mask
  column =
      mask_ext _ _ n (λ i h. rw (front_at addresses names epochs n w i h, last-at addresses names epochs n w, columned-at addresses names epochs n i h, le-ltb n i (omega arith)) (or-false _))

  -- no label depends on itself under acyclic rules
  not_itself : cyclic rules ≡ false → wider n n ≡ false
  unfolding cache.needs
  not_itself a =
      rw (last-at addresses names epochs n w, le-ltb n n (omega arith), or-false (depends_on rules (label_of w) (label_of w)))
      (untrue (depends_on rules (label_of w) (label_of w)) (λ e. false≢true (sym a ∙ true-cyclic rules (unfold Cyclic in (label_of w, Plus.one (depends_on-true rules (label_of w) (label_of w) e))))))

  module _ (rows : List ℕ) (dependents : ℕ) (few : n < most_held) (t : take n rows ≡ rows_of (cache.needs rules ws) n) (a : cyclic rules ≡ false)
      (ringless : needs_ring rules ws ≡ false) (d : dependents ≡ dependent_mask rules ws w n) where
    ring-is : (needed : ℕ) → needed ≡ needed_mask rules ws w n → closes_ring rows needed dependents ≡ needs_ring rules (ws ++ (w ∷ []))
    unfolding needs_ring needed_mask
    ring-is needed e =
        added_ring (cache.needs rules ws) wider n rows needed dependents few t same-below
        (ap (has_ring (cache.needs rules ws)) (sym (columned-length addresses names epochs n)) ∙ ringless)
        (not_itself a) e (d ∙ sym column)
        ∙ ap (has_ring wider) (sym wider_length)

    pub ring-none : dependents ≡ 0 → false ≡ needs_ring rules (ws ++ (w ∷ []))
    ring-none z = closes_none rows (needed_mask rules ws w n) dependents z ∙ ring-is (needed_mask rules ws w n) refl

    pub ring_looked : (needed : ℕ) (r : Bool) → needed ≡ needed_mask rules ws w n → r ≡ closes_ring rows needed dependents → r ≡ needs_ring rules (ws ++ (w ∷ []))
    ring_looked needed r e q = q ∙ ring-is needed e

  module _ (stored dependents : ℕ) (d : dependents ≡ dependent_mask rules ws w n) where
    depends_bit : (i : ℕ) → i < n → bit dependents i ≡ depends_on rules (label_at ws i) (label_of w)
    unfolding dependent_mask
    depends_bit i h =
        ap (λ (m : ℕ). bit m i) d
        ∙ bit_mask (λ j. depends_on rules (label_at ws j) (label_of w)) n i ∙ rw (lt-ltb i n h)

    pub none-late : bit_and dependents stored ≡ 0 → late rules ws (bit stored) w ≡ false
    unfolding late
    none-late z =
        untrue _ (λ e.
        let k = any_below-true (λ i. bit stored i && depends_on rules (label_at ws i) (label_of w)) (length ws) e in
        let h : k.0 < n = subst (λ (m : ℕ). k.0 < m) (columned-length addresses names epochs n) k.1 in
        clash (bit stored k.0) (and_left (bit stored k.0) _ k.2) (apart-bit dependents stored k.0 z (depends_bit k.0 h ∙ and_right (bit stored k.0) _ k.2)))

    pub some-late : (bit_and dependents stored ≡ 0 → ⊥) → late rules ws (bit stored) w ≡ true
    unfolding late
    some-late z = true_unless _ (λ f. z (bits_apart dependents stored (λ i e. untrue (bit stored i) (λ s. clash _ (there i e s) f))))
      where
        there : (i : ℕ) → bit dependents i ≡ true → bit stored i ≡ true → any_below (λ i. bit stored i && depends_on rules (label_at ws i) (label_of w)) (length ws) ≡ true
        there i e s =
            let h : i < n = member_below dependents n i (rw d (unfold dependent_mask in mask_below _ n)) e in
            any_below_intro (λ i. bit stored i && depends_on rules (label_at ws i) (label_of w)) (length ws) i (subst (λ (m : ℕ). i < m) (sym (columned-length addresses names epochs n)) h)
            (and_intro (bit stored i) _ s (sym (depends_bit i h) ∙ e))

    -- the refusals
    abbrev behind_fault : ℕ
    behind_fault = cond (late rules ws (bit stored) w) 17 (cond (needs_ring rules (ws ++ (w ∷ []))) 18 0)

    pub behind-late : (bit_and dependents stored ≡ 0 → ⊥) → 17 ≡ behind_fault
    behind-late h = rw (some-late h)

    module _ (h : bit_and dependents stored ≡ 0) (b : Bool) (q : b ≡ needs_ring rules (ws ++ (w ∷ []))) where
      pub behind-ring : b ≡ true → 18 ≡ behind_fault
      behind-ring e = rw (none-late h, ← q, e)

      pub behind-none : b ≡ false → 0 ≡ behind_fault
      behind-none e = rw (none-late h, ← q, e)

pub ruleset behind = (rules, ring-none, ring_looked, behind-late, behind-ring, behind-none)

-- ---- hand_fault

module _ (w : Write) (s : List ℕ) where
  pub hand_short : (length s ≡ state_size → ⊥) → 14 ≡ hand_fault w s
  unfolding hand_fault hand_fault_by
  hand_short h = rw (ne_eqb _ _ h)

  module _ (hs : length s ≡ state_size) where
    pub hand_unruled : ruled s ≡ false → 15 ≡ hand_fault w s
    unfolding hand_fault hand_fault_by
    hand_unruled e = rw (eq-eqb _ _ hs, not-ruled s e)

    module _ (e : ruled s ≡ true) (b : Bool) (f : b ≡ needs_hold s) where
      pub hand_needs : b ≡ false → 15 ≡ hand_fault w s
      unfolding hand_fault hand_fault_by
      hand_needs h = rw (eq-eqb _ _ hs, not-holding s e b f h)

      module _ (h : b ≡ true) (n : ℕ) (c : n ≡ accepted_count s) where
        well : sound s ≡ true
        well = all_sound s e b f h

        pub hand_full : most_held ≤ n → 16 ≡ hand_fault w s
        unfolding hand_fault hand_fault_by
        hand_full g = rw (eq-eqb _ _ hs, well, ← c, le-leb _ _ g)

        module _ (r : Examined) (rows : List ℕ) (d : Columns) (m : n < most_held) (seen : Seen s rows d r) where
          good : Sound s
          good = sound-true s well

          here : Alike (writes_of d n) (writes_in s)
          here = subst (λ (k : ℕ). Alike (writes_of d k) (writes_in s)) (sym c) (columns-alike s d seen.columns)

          rules_are : rules_of r.rules ≡ rules_in s
          rules_are = seen.decoded.rules

          behind-rows : take n rows ≡ rows_of (cache.needs (rules_of r.rules) (writes_of d n)) n
          unfolding Tabled
          behind-rows =
              ap (λ (k : ℕ). take k rows) c ∙ seen.tabled
              ∙ sym (rw rules_are (ap (rows_of (cache.needs (rules_in s) (writes_of d n))) (sym (columned-length d.addresses d.names d.epochs n))
              ∙ alike-rows (rules_in s) (writes_of d n) (writes_in s) here ∙ ap (rows_of (cache.needs (rules_in s) (writes_in s))) (writes-length s)))

          behind-acyclic : cyclic (rules_of r.rules) ≡ false
          behind-acyclic = rw rules_are (untrue (cyclic (rules_in s)) (λ q. good.holds.acyclic (cyclic-true (rules_in s) good.holds.known q)))

          behind-ringless : needs_ring (rules_of r.rules) (writes_of d n) ≡ false
          behind-ringless =
              rw (rules_are, alike-ring (rules_in s) (writes_of d n) (writes_in s) here)
              (untrue (needs_ring (rules_in s) (writes_in s)) (λ q. good.holds.ringless (rw (accepted_in s) (needs_ring-true (rules_in s) (writes_in s) q))))

          -- what the columns' refusals ask
          pub behind-asks : ((n < most_held) × (take n rows ≡ rows_of (cache.needs (rules_of r.rules) (writes_of d n)) n))
              × ((cyclic (rules_of r.rules) ≡ false) × (needs_ring (rules_of r.rules) (writes_of d n) ≡ false))
          behind-asks = ((m, behind-rows), (behind-acyclic, behind-ringless))

          late_is : late (rules_in s) (writes_of d n) (bit r.stored) w ≡ late (rules_in s) (writes_in s) (stored_in s) w
          late_is =
              alike-late (rules_in s) (writes_of d n) (writes_in s) here (bit r.stored) w
              ∙ late-same (rules_in s) (writes_in s) (bit r.stored) (stored_in s)
              (λ i h. let l : i < accepted_count s = subst (λ (k : ℕ). i < k) (writes-length s) h in
              rw (seen.decoded.stored, bit_mask (stored_in s) (accepted_count s) i, lt-ltb i (accepted_count s) l)) w
            where
              late-same : (rules : List Rule) (vs : List Write) (p q : ℕ → Bool) → ((i : ℕ) → i < length vs → p i ≡ q i) → (w : Write) → late rules vs p w ≡ late rules vs q w
              late-same rules vs p q same w = unfold late in any_below_ext _ _ (length vs) (λ i h. rw (same i h))

          pub hand_behind : (k : ℕ)
              → k ≡ cond (late (rules_of r.rules) (writes_of d n) (bit r.stored) w) 17 (cond (needs_ring (rules_of r.rules) (writes_of d n ++ (w ∷ []))) 18 0)
              → k ≡ hand_fault w s
          unfolding hand_fault hand_fault_by
          hand_behind k q =
              q ∙ rw (rules_are, late_is, alike-ring (rules_in s) (writes_of d n ++ (w ∷ [])) (writes_in s ++ (w ∷ [])) (alike-more (writes_of d n) (writes_in s) here w), eq-eqb _ _ hs, well, ← c, lt-leb _ _ m)

pub ruleset faulting = (rules, hand_short, hand_unruled, hand_needs, hand_full)

-- ---- pelzhondy_hand_in

module _ (w : Write) (s : List ℕ) (n : ℕ) (e : n ≡ hand_fault w s) where
  hand_refused : (r : ℕ) → (n ≡ 0 → ⊥) → r ≡ refusal n 0 → call_leaves_state r s ≡ coded_kept (hand_in_of w s [])
  unfolding hand_fault hand_fault_by hand_in_of coded_kept coded
  hand_refused r z q =
      go (eqb (length s) state_size) (sound s) (leb most_held (accepted_count s)) (late (rules_in s) (writes_in s) (stored_in s) w) (needs_ring (rules_in s) (writes_in s ++ (w ∷ []))) e
    where
      go : (a b c d f : Bool) → n ≡ hand_fault_by a b c d f
          → call_leaves_state r s ≡ coded_kept (cond (not a) (left (refused 14 0) s []) (cond (not b) (left (refused 15 0) s []) (cond c (left (refused 16 0) s []) (cond d (left (refused 17 0) s []) (cond f (left (refused 18 0) s []) (left (answer (accepted_count s + 1)) (handed s w) []))))))
      go false b c d f e = rw (q, e)
      go true false c d f e = rw (q, e)
      go true true true d f e = rw (q, e)
      go true true false true f e = rw (q, e)
      go true true false false true e = rw (q, e)
      go true true false false false e = absurd (z e)

  -- what a hand-in that meets no refusal knows
  record Welcome : Type 0 where
    size : eqb (length s) state_size ≡ true
    good : sound s ≡ true
    room : leb most_held (accepted_count s) ≡ false
    timely : late (rules_in s) (writes_in s) (stored_in s) w ≡ false
    ringless : needs_ring (rules_in s) (writes_in s ++ (w ∷ [])) ≡ false

  welcome : n ≡ 0 → Welcome
  unfolding hand_fault hand_fault_by
  welcome z =
      go (eqb (length s) state_size) (sound s) (leb most_held (accepted_count s)) (late (rules_in s) (writes_in s) (stored_in s) w) (needs_ring (rules_in s) (writes_in s ++ (w ∷ [])))
      refl refl refl refl refl (sym e ∙ z)
    where
      go : (a b c d f : Bool) → eqb (length s) state_size ≡ a → sound s ≡ b → leb most_held (accepted_count s) ≡ c → late (rules_in s) (writes_in s) (stored_in s) w ≡ d
          → needs_ring (rules_in s) (writes_in s ++ (w ∷ [])) ≡ f → hand_fault_by a b c d f ≡ 0 → Welcome
      go true true false false false p q r t u z = record { size = p; good = q; room = r; timely = t; ringless = u }
      go false b c d f p q r t u z = absurd (omega arith)
      go true false c d f p q r t u z = absurd (omega arith)
      go true true true d f p q r t u z = absurd (omega arith)
      go true true false true f p q r t u z = absurd (omega arith)
      go true true false false true p q r t u z = absurd (omega arith)

  pub hand_room : n ≡ 0 → (length s ≡ state_size) × (accepted_count s < most_held)
  hand_room z = (eqb-true _ _ (welcome z).size, leb-false _ _ (welcome z).room)

  hand_taken : (r : ℕ) (s' : List ℕ) → n ≡ 0 → r ≡ accepted_count s + 1 → s' ≡ handed s w → call_leaves_state r s' ≡ coded_kept (hand_in_of w s [])
  unfolding hand_in_of coded_kept coded
  hand_taken r s' z p q =
      let h = welcome z in
      rw (h.size, h.good, h.room, h.timely, h.ringless, p, q)

-- the same of the write of the five values
module _ (v w : Write) (s : List ℕ) (r : ℕ) (g : w ≡ v) where
  pub given-refused : (cause : Cause) → number_of cause ≡ hand_fault w s → r ≡ refusal (number_of cause) 0 → call_leaves_state r s ≡ coded_kept (hand_in_of v s [])
  given-refused cause e q = rw (← g) (hand_refused w s (number_of cause) e r (λ z. let p = number_positive cause in absurd (omega (arith, p, z))) q)

  pub given-taken : (s' : List ℕ) → 0 ≡ hand_fault w s → r ≡ accepted_count s + 1 → s' ≡ handed s w → call_leaves_state r s' ≡ coded_kept (hand_in_of v s [])
  given-taken s' e p q = rw (← g) (hand_taken w s 0 e r s' refl p q)

pub ruleset handing = (rules, given-refused, given-taken)
