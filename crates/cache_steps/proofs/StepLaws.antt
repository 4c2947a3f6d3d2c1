-- The code's steps: one law for each return and each turn of a loop, whose premises are what is known at that place.
use mathlib.Core.Path.{◌≡◌, refl, sym, ap, subst, ◌∙◌}
use mathlib.Core.Logic.{◌≢◌}
use mathlib.Core.Bool.{Bool, true, false, cond, not, ◌&&◌}
use mathlib.Core.List.{List}
use Prim.Native.Nat.{ℕ, zero, suc, ◌+◌, ◌-◌, ◌*◌, ◌%◌, ◌^◌, ◌≤◌, ◌<◌}
use native.Mathlib.Decide.{ℕ_discrete}
use native.Mathlib.Omega.{arith}
use lib.Bits.{bit_and}
use lib.Dec.{eqb}
use lib.ListN.{length, get_or}
use lib.Pow.{pow_mono, pow_pos}
use borrow.Author.Rules.{rules}
use borrow.Author.Tests.{eqb-true, eq-eqb, ne_eqb}
use Rattle.std.specs.Prelude.{Option, None, Some, IfSome}
use Rattle.relation.specs.Bits.{bit, mask_of, without, Lowest}
use Rattle.relation.proofs.BitLaws.{mask_ext}
use Rattle.relation.proofs.MemberLaws.{member_below, Left as Remains, left-all, left-none, left_after, left-fewer}
use Rattle.relation.proofs.UnionLaws.{bit-ones}
use Rattle.relation.proofs.SetLaws.{without-below, bit-without, without_member}
use Rattle.relation.proofs.MaskLaws.{mask_with}
use Rattle.model.specs.Limits.{most_held}
use Rattle.model.specs.declared.Write.{Write}
use Rattle.model.specs.declared.Cause.{Cause}
use Rattle.model.specs.Answer.{refused, refusal, coded, number_of}
use Rattle.model.proofs.CauseLaws.{number_positive}
use Rattle.file_format.specs.Bytes.{disk_length}
use Rattle.model.specs.Needs.{ready_from, ready}
use Rattle.cache_model.specs.State.{state_size, accepted_count, stored_count, rules_in, writes_in, write_in, stored_in, marked, stored_on}
use Rattle.cache_model.specs.Sound.{ruled, needs_hold, sound}
use Rattle.cache_model.specs.Calls.{Left, Held, holding, left, storing, checked, stepped, step_of, steps_of, drained}
use Rattle.relation.specs.Union.{part_of}
use Rattle.cache_masks.specs.declared.Columns.{Columns}
use Rattle.cache_soundness.specs.declared.Examined.{Examined}
use Rattle.cache_soundness.specs.Parts.{Tabled, Seen}
use Rattle.cache_soundness.proofs.SoundSteps.{stored-bit, row-met, not-ruled, not-holding, all_sound}
use Rattle.cache_statelaws.proofs.LayoutLaws.{writes-length, write-at}
use Rattle.cache_statelaws.proofs.SoundLaws.{sound-true, sound-most, stored-most}
use Rattle.model.proofs.ReadyLaws.{ready_earliest}
use Rattle.cache_soundlaws.proofs.KeepLaws.{earliest_accepted, sound-size, rules-marked, writes-marked, accepted_count-marked, stored-marked, sound-stepped, length-stepped, step-sound as step-once}
use Rattle.cache_steps.specs.Given.{call_leaves, coded_left, fault_by, call_fault}
use Rattle.cache_steps.specs.Ready.{place_of, first_from, ready_by, first_ready, with_stored}

-- ---- ready

-- the first that passes
first-is : (p : ℕ → Bool) (k i m : ℕ) → i ≤ m → m < i + k → p m ≡ true → ((j : ℕ) → i ≤ j → j < m → p j ≡ false) → first_from p i k ≡ suc m
unfolding first_from
first-is p zero i m a b t f = absurd (omega arith)
first-is p (suc k) i m a b t f = elim (ℕ_discrete i m) [
  | yes z ↦ rw (ap p z ∙ t, z)
  | no n ↦
      (let d : i ≢ m = n in
      rw (f i (omega arith) (omega arith)) (first-is p k (suc i) m (omega arith) (omega arith) t (λ j c e. f j (omega arith) e)))
]

first-none : (p : ℕ → Bool) (k i : ℕ) → ((j : ℕ) → i ≤ j → j < i + k → p j ≡ false) → first_from p i k ≡ 0
unfolding first_from
first-none p zero i f = refl
first-none p (suc k) i f = rw (f i (omega arith) (omega arith)) (first-none p k (suc i) (λ j a b. f j (omega arith) (omega arith)))

-- going up through the waiting writes: those that are no longer left are not ready
module _ (rows : List ℕ) (mask n : ℕ) where
  abbrev Unready : ℕ → Type 0
  Unready i = part_of (get_or rows i 0) mask ≡ false

  -- the waiting writes
  abbrev waiting : ℕ
  waiting = without (2 ^ n - 1) mask

  pub record Seeks (left : ℕ) : Type 0 where
    pub going : Remains Unready waiting left
    pub small : left < 2 ^ 64

  wide_enough : n ≤ most_held → 2 ^ n - 1 < 2 ^ 64
  wide_enough few = let p = pow_mono {i = n} {j = 64} few in omega (arith, p)

  bit-waiting : n ≤ most_held → (i : ℕ) → i < n → bit waiting i ≡ not (bit mask i)
  bit-waiting few i h = bit-without (2 ^ n - 1) mask i (wide_enough few) ∙ rw (bit-ones n i h)

  waits-below : (i : ℕ) → bit waiting i ≡ true → i < n
  waits-below i e = member_below (2 ^ n - 1) n i (let p = pow_pos n in omega (arith, p)) (without_member (2 ^ n - 1) mask i e).0

  unready : n ≤ most_held → (i : ℕ) → i < n → (bit waiting i ≡ true → Unready i) → ready_by rows mask i ≡ false
  unready few i h f = go (bit mask i) refl
    where
      go : (b : Bool) → bit mask i ≡ b → not b && part_of (get_or rows i 0) mask ≡ false
      go true e = refl
      go false e = f (bit-waiting few i h ∙ rw e)

  pub seek_begun : (a left : ℕ) → a ≡ 2 ^ n - 1 → left ≡ without a mask → Seeks left
  seek_begun a left e q = record { small = rw q (without-below a mask); going = subst (Remains Unready waiting) (sym (q ∙ ap (λ (x : ℕ). without x mask) e)) (left-all Unready waiting) }

  pub seek_more : (left i next : ℕ) → Seeks left → i < 64 → next ≡ without left (1 * 2 ^ i % 18446744073709551616)
      → (bit_and (get_or rows i 0) mask ≡ get_or rows i 0 → ⊥) → Seeks next
  unfolding part_of
  seek_more left i next l b q f = record { small = rw q (without-below left _); going = left_after Unready waiting left i next l.going l.small b q (ne_eqb _ _ f) }

  pub seek_found : (left i : ℕ) → n ≤ most_held → Seeks left → Lowest left i → bit_and (get_or rows i 0) mask ≡ get_or rows i 0 → suc i ≡ first_ready rows mask n
  unfolding Lowest first_ready part_of
  seek_found left i few l low e =
      let w = l.going.part i low.0 in
      let h = waits-below i w in
      let m = without_member (2 ^ n - 1) mask i w in
      sym (first-is (ready_by rows mask) n 0 i (omega arith) (omega arith) (rw (m.1, eq-eqb _ _ e))
      (λ j a b. unready few j (omega arith) (λ g. l.going.done j g (low.1 j b))))

  pub seek_none : (left : ℕ) → n ≤ most_held → Seeks left → left ≡ 0 → 0 ≡ first_ready rows mask n
  unfolding first_ready
  seek_none left few l z = sym (first-none (ready_by rows mask) n 0 (λ j a b. unready few j (omega arith) (left-none Unready waiting left l.going z j)))

pub ruleset readying = (rules, left-fewer, seek_begun, seek_more, seek_found, seek_none)

module _ (s rows : List ℕ) (n mask : ℕ) (c : n ≡ accepted_count s) (t : Tabled s rows) (m : mask ≡ mask_of (stored_in s) (accepted_count s)) where
  ready-from : (i k : ℕ) → i + k ≤ accepted_count s → first_from (ready_by rows mask) i k ≡ ready_from (rules_in s) (writes_in s) (stored_in s) i k
  unfolding first_from ready_from
  ready-from i zero h = refl
  ready-from i (suc k) h =
      let l : i < accepted_count s = omega arith in
      rw (stored-bit s rows t mask m i l, row-met s rows t mask m i l, ready-from (suc i) k (omega arith))

  pub ready-state : first_ready rows mask n ≡ ready (rules_in s) (writes_in s) (stored_in s)
  unfolding first_ready ready
  ready-state = rw (c, writes-length s) (ready-from 0 (accepted_count s) (omega arith))

  pub ready-most : first_ready rows mask n ≤ accepted_count s
  ready-most = rw ready-state (go (ready (rules_in s) (writes_in s) (stored_in s)) refl)
    where
      go : (k : ℕ) → ready (rules_in s) (writes_in s) (stored_in s) ≡ k → k ≤ accepted_count s
      go zero e = omega arith
      go (suc i) e = let w = ready_earliest (rules_in s) (writes_in s) (stored_in s) i e in earliest_accepted s i w

-- ---- what a sound state tells

module _ (s : List ℕ) (t : sound s ≡ true) where
  pub few-writes : accepted_count s ≤ most_held
  few-writes = sound-most s (sound-true s t)

  pub few-stored : stored_count s ≤ accepted_count s
  few-stored = stored-most s (sound-true s t)

  pub few-marked : stored_count s ≤ most_held
  few-marked = let a = few-stored in let m = few-writes in omega arith

  pub few-held : (n : ℕ) → n ≡ accepted_count s → n ≤ most_held
  few-held n c = rw c few-writes

-- ---- store_write, step_sound

pub write-stored : (s d d' : List ℕ) (i : ℕ) (w : Write) → w ≡ write_in s i → d' ≡ stored_on d w → d' ≡ stored_on d (write_in s i)
write-stored s d d' i w e q = rw e at q

module _ (s rows : List ℕ) (n mask : ℕ) (p : Option ℕ) (c : n ≡ accepted_count s) (t : Tabled s rows) (m : mask ≡ mask_of (stored_in s) (accepted_count s))
    (f : place_of p ≡ first_ready rows mask n) where
  found : place_of p ≡ ready (rules_in s) (writes_in s) (stored_in s)
  found = f ∙ ready-state s rows n mask c t m

  most : place_of p ≤ accepted_count s
  most = rw f (ready-most s rows n mask c t m)

  pub step_idle : (d : List ℕ) (r : Option ℕ) → p ≡ None → r ≡ None → (call_leaves (place_of r) s d ≡ coded_left (stepped s d)) × IfSome r (λ i. i < most_held)
  unfolding coded_left coded stepped storing
  step_idle d r z e = rw e (rw (← found, z), tt)

  module _ (i : ℕ) (z : p ≡ Some i) where
    pub place-fits : sound s ≡ true → i < most_held
    place-fits g =
        let h = few-writes s g in
        let l = subst (λ (x : Option ℕ). place_of x ≤ accepted_count s) z most in
        omega (arith, h, l)

    pub step-stores : (d s' d' : List ℕ) → s' ≡ marked s i → d' ≡ stored_on d (write_in s i) → call_leaves (suc i) s' d' ≡ coded_left (stepped s d)
    unfolding coded_left coded stepped storing
    step-stores d s' d' g h =
        let l = subst (λ (x : Option ℕ). place_of x ≤ accepted_count s) z most in
        rw (← found, z, write-at s i (omega (arith, l)), g, h)

pub state-size : (s : List ℕ) → sound s ≡ true → length s ≡ state_size
state-size = sound-size

pub ruleset stepping = (rules, state-size, few-writes, few-marked, few-held, write-stored, place-fits, step_idle, step-stores)

-- ---- look, pelzhondy_step, pelzhondy_drain

module _ (s d : List ℕ) where
  pub fault_short : (length s ≡ state_size → ⊥) → 14 ≡ call_fault s d
  unfolding call_fault fault_by
  fault_short h = rw (ne_eqb _ _ h)

  module _ (g : length s ≡ state_size) where
    pub fault_narrow : (length d ≡ disk_length → ⊥) → 14 ≡ call_fault s d
    unfolding call_fault fault_by
    fault_narrow h = rw (eq-eqb _ _ g, ne_eqb _ _ h)

    module _ (h : length d ≡ disk_length) where
      pub fault_unruled : ruled s ≡ false → 15 ≡ call_fault s d
      unfolding call_fault fault_by
      fault_unruled f = rw (eq-eqb _ _ g, eq-eqb _ _ h, not-ruled s f)

      module _ (e : ruled s ≡ true) (b : Bool) (q : b ≡ needs_hold s) where
        pub fault-needs : b ≡ false → 15 ≡ call_fault s d
        unfolding call_fault fault_by
        fault-needs k = rw (eq-eqb _ _ g, eq-eqb _ _ h, not-holding s e b q k)

        pub fault-none : b ≡ true → call_fault s d ≡ 0
        unfolding call_fault fault_by
        fault-none k = rw (eq-eqb _ _ g, eq-eqb _ _ h, all_sound s e b q k)

pub told : (s rows : List ℕ) (c : Columns) (r : Examined) → Seen s rows c r → Tabled s rows × (r.stored ≡ mask_of (stored_in s) (accepted_count s))
told s rows c r v = (v.tabled, v.decoded.stored)

pub ruleset looking = (rules, fault_short, fault_narrow, fault_unruled, fault-needs, fault-none, told)

module _ (s d : List ℕ) where
  -- a call that meets no refusal
  clean : (n : ℕ) → n ≡ call_fault s d → n ≡ 0 → (length s ≡ state_size) × ((length d ≡ disk_length) × (sound s ≡ true))
  unfolding call_fault fault_by
  clean n e z = go (eqb (length s) state_size) (eqb (length d) disk_length) (sound s) refl refl refl (sym e ∙ z)
    where
      go : (a b c : Bool) → eqb (length s) state_size ≡ a → eqb (length d) disk_length ≡ b → sound s ≡ c → fault_by a b c ≡ 0
          → (length s ≡ state_size) × ((length d ≡ disk_length) × (sound s ≡ true))
      go true true true p q r z = (eqb-true _ _ p, (eqb-true _ _ q, r))
      go true true false p q r z = absurd (omega arith)
      go true false c p q r z = absurd (omega arith)
      go false b c p q r z = absurd (omega arith)

  -- what a call that meets none has seen
  pub cleared : (stored : ℕ) (rows : List ℕ) → call_fault s d ≡ 0 → Tabled s rows → stored ≡ mask_of (stored_in s) (accepted_count s)
      → (length d ≡ disk_length) × ((sound s ≡ true) × (Tabled s rows × (stored ≡ mask_of (stored_in s) (accepted_count s))))
  cleared stored rows z t m = let c = clean (call_fault s d) refl z in (c.1.0, (c.1.1, (t, m)))

  module _ (call : List ℕ → List ℕ → Left) where
    pub call-refused : (cause : Cause) → number_of cause ≡ call_fault s d → call_leaves (refusal (number_of cause) 0) s d ≡ coded_left (checked call s d)
    unfolding call_fault fault_by checked coded_left coded
    call-refused cause e = go (eqb (length s) state_size) (eqb (length d) disk_length) (sound s) e
      where
        go : (a b c : Bool) → number_of cause ≡ fault_by a b c
            → call_leaves (refusal (number_of cause) 0) s d ≡ coded_left (cond (not a) (left (refused 14 0) s d) (cond (not b) (left (refused 14 0) s d) (cond (not c) (left (refused 15 0) s d) (call s d))))
        go true true true e = let p = number_positive cause in absurd (omega (arith, p))
        go true true false e = rw e
        go true false c e = rw e
        go false b c e = rw e

    pub call_made : (r : ℕ) (s' d' : List ℕ) → call_fault s d ≡ 0 → call_leaves r s' d' ≡ coded_left (call s d) → call_leaves r s' d' ≡ coded_left (checked call s d)
    unfolding checked
    call_made r s' d' z q =
        let c = clean (call_fault s d) refl z in
        rw (eq-eqb _ _ c.0, eq-eqb _ _ c.1.0, c.1.1) q

pub ruleset calling = (rules, call-refused, call_made)

-- ---- with_stored, drain_sound

-- which writes are stored after a step, by the write that it stores
mask_stepped : (s d : List ℕ) (mask : ℕ) (p : Option ℕ) → sound s ≡ true → place_of p ≡ coded (stepped s d).outcome → mask ≡ mask_of (stored_in s) (accepted_count s)
    → with_stored mask p ≡ mask_of (stored_in (stepped s d).state) (accepted_count (stepped s d).state)
unfolding stepped storing coded with_stored
mask_stepped s d mask p t e m = go p (ready (rules_in s) (writes_in s) (stored_in s)) refl e
  where
    go : (p : Option ℕ) (k : ℕ) → ready (rules_in s) (writes_in s) (stored_in s) ≡ k → place_of p ≡ coded (storing k s d).outcome
        → with_stored mask p ≡ mask_of (stored_in (storing k s d).state) (accepted_count (storing k s d).state)
    go None zero q e = m
    go (Some i) zero q e = absurd (omega arith)
    go None (suc i) q e = absurd (omega arith)
    go (Some j) (suc i) q e =
        let a = (ready_earliest (rules_in s) (writes_in s) (stored_in s) i q).accepted in
        let l = writes-length s in
        let h : i < accepted_count s = omega arith in
        let y : j ≡ i = omega arith in
        let g = sound-true s t in
        let v = (ready_earliest (rules_in s) (writes_in s) (stored_in s) i q).waits in
        rw (y, m, accepted_count-marked s g i h v)
        (mask_with (stored_in s) (accepted_count s) i h ∙ mask_ext _ _ (accepted_count s) (λ j hj. sym (stored-marked s g i h v j)))

-- a step keeps the rules and the writes, and so the needs
tabled-marked : (s rows : List ℕ) (i : ℕ) → sound s ≡ true → i < accepted_count s → stored_in s i ≡ false → Tabled s rows → Tabled (marked s i) rows
unfolding Tabled
tabled-marked s rows i t h w e =
    let g = sound-true s t in
    rw (accepted_count-marked s g i h w, rules-marked s g i h w, writes-marked s g i h w) e

tabled-stepped : (s d rows : List ℕ) → sound s ≡ true → Tabled s rows → Tabled (stepped s d).state rows
unfolding stepped storing
tabled-stepped s d rows t h = go (ready (rules_in s) (writes_in s) (stored_in s)) refl
  where
    go : (k : ℕ) → ready (rules_in s) (writes_in s) (stored_in s) ≡ k → Tabled (storing k s d).state rows
    go zero q = h
    go (suc i) q =
        let w = ready_earliest (rules_in s) (writes_in s) (stored_in s) i q in
        tabled-marked s rows i t (earliest_accepted s i w) w.waits h

pub counts_ordered : (s : List ℕ) (m k : ℕ) → sound s ≡ true → m ≡ accepted_count s → k ≡ stored_count s → k ≤ m
counts_ordered s m k t c f = let h = few-stored s t in omega arith

-- one step more, made last
steps_last : (n : ℕ) (h : Held) → steps_of (suc n) h ≡ holding (step_of (steps_of n h).state (steps_of n h).disk).state (step_of (steps_of n h).state (steps_of n h).disk).disk
unfolding steps_of
steps_last zero h = refl
steps_last (suc n) h = steps_last n (holding (step_of h.state h.disk).state (step_of h.state h.disk).disk)

module _ (s d : List ℕ) (m k : ℕ) where
  -- after the rounds from k up to n, state and disk are those after as many steps, in the order in which the steps were made
  abbrev pub Drains : List ℕ → List ℕ → ℕ → Type 0
  Drains s' d' n = holding s' d' ≡ steps_of (n - k) (holding s d)

  pub drain-begun : Drains s d k
  unfolding steps_of
  drain-begun =
      let z : k - k ≡ 0 = omega arith in
      rw z

  -- what a step leaves, as the code says it
  module _ (s' d' s'' d'' : List ℕ) (p : Option ℕ) (e : call_leaves (place_of p) s'' d'' ≡ coded_left (stepped s' d')) where
    step-state : s'' ≡ (stepped s' d').state
    unfolding coded_left
    step-state = ap (λ g. g.state) e

    step-disk : d'' ≡ (stepped s' d').disk
    unfolding coded_left
    step-disk = ap (λ g. g.disk) e

    pub drain-more : (n : ℕ) → k ≤ n → sound s' ≡ true → length d' ≡ disk_length → Drains s' d' n → Drains s'' d'' (n + 1)
    drain-more n h t l q =
        let z : n + 1 - k ≡ suc (n - k) = omega arith in
        rw (z, steps_last (n - k) (holding s d), ← q, step-state, step-disk, step-once s' d' t l)

    step-answer : place_of p ≡ coded (stepped s' d').outcome
    unfolding coded_left
    step-answer = ap (λ g. g.answer) e

    pub drain_mask : (mask next : ℕ) → sound s' ≡ true → mask ≡ mask_of (stored_in s') (accepted_count s') → next ≡ with_stored mask p
        → next ≡ mask_of (stored_in s'') (accepted_count s'')
    drain_mask mask next t h q = q ∙ rw step-state (mask_stepped s' d' mask p t step-answer h)

    pub drain-sound : sound s' ≡ true → sound s'' ≡ true
    drain-sound t = rw step-state (sound-stepped s' d' t)

    pub drain-size : sound s' ≡ true → length s'' ≡ state_size
    drain-size t = sound-size s'' (drain-sound t)

    pub drain-disk : length d' ≡ disk_length → length d'' ≡ disk_length
    drain-disk l = rw step-disk (length-stepped s' d' ∙ l)

    pub drain-tabled : (rows : List ℕ) → sound s' ≡ true → Tabled s' rows → Tabled s'' rows
    drain-tabled rows t h = rw step-state (tabled-stepped s' d' rows t h)

  pub drain-done : (s' d' : List ℕ) (n : ℕ) → m ≡ accepted_count s → k ≡ stored_count s → n ≤ m → m ≤ n → Drains s' d' n → call_leaves (m - k) s' d' ≡ coded_left (drained s d)
  unfolding drained coded_left coded
  drain-done s' d' n c f b h q =
      let z : n ≡ m = omega arith in
      let r = rw z at q in
      rw (← c, ← f, ← r)

pub ruleset draining = (rules, state-size, counts_ordered, drain-begun, drain-more, drain-sound, drain-size, drain-disk, drain-tabled, drain_mask, drain-done)
