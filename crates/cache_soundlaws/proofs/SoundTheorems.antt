-- The theorems about every sound state: soundness as computed, hand-ins, steps and drains.
use mathlib.Core.Path.{◌≡◌, refl, sym, ◌∙◌}
use mathlib.Core.Logic.{inr}
use mathlib.Core.Bool.{Bool, true, false, cond, not, false≢true}
use mathlib.Core.List.{List, [], ◌∷◌, ◌++◌}
use Prim.Native.Nat.{ℕ, zero, suc, ◌+◌, ◌≤◌, ◌<◌}
use native.Mathlib.Decide.{ℕ_discrete}
use native.Mathlib.Omega.{arith}
use lib.Dec.{eqb, leb}
use lib.ListN.{length}
use borrow.Author.Tests.{eq-eqb, leb-false, le-leb, lt-leb, not-true, not-false}
use Rattle.relation.proofs.ListLaws.{untrue}
use Rattle.model.specs.Limits.{most_held}
use Rattle.model.specs.declared.Write.{Write}
use Rattle.model.specs.Answer.{answer, refused}
use Rattle.model.proofs.CountLaws.{count_none}
use Rattle.file_format.specs.Bytes.{disk_length}
use Rattle.file_format.specs.Encode.{WriteFits}
use Rattle.model.specs.Needs.{NeedsRing, Earliest, Late, needs_ring, ready, late}
use Rattle.cache_model.specs.State.{state_size, accepted_count, stored_count, rules_in, writes_in, write_in, stored_in, handed, marked, stored_on}
use Rattle.cache_model.specs.Sound.{Sound, sound}
use Rattle.cache_model.specs.Calls.{Left, left, Held, holding, hand_in_of, storing, checked, stepped, step_of, waiting, steps_of, drained, drain_of}
use Rattle.model.proofs.NeedsLaws.{late-true, true-late, needs_ring-true, true-needs_ring}
use Rattle.cache_soundlaws.specs.Theorem.{SoundDecided, Keeps, SomeWaits, AllStored, waiting_count, OneStored, Steps, Drains, HandsIn}
use Rattle.cache_statelaws.proofs.LayoutLaws.{writes-length, write-at, accepted_in}
use Rattle.cache_statelaws.proofs.SoundLaws.{sound-true, true-sound, sound-clauses, sound-size, stored-most}
use Rattle.cache_statelaws.proofs.GeneralLaws.{count-split, count-some}
use Rattle.model.proofs.ReadyLaws.{ready_earliest, none-ready}
use Rattle.cache_soundlaws.proofs.RefusalLaws.{checked-length}
use Rattle.cache_soundlaws.proofs.KeepLaws.{rules-handed, writes-handed, stored_new, stored-old, hand_keeps, rules-marked, writes-marked, accepted_count-marked, stored_count-marked, stored_here, stored_else, mark-keeps, earliest_accepted, length-stepped, checked-sound, step-sound, steps_sound, sound-stepped}

pub sound_decided : SoundDecided
sound_decided s = (sound-true s, true-sound s)

-- ---- steps

-- the state's count of waiting writes is how many wait
pub waiting-count : (s : List ℕ) → Sound s → waiting s ≡ waiting_count s
waiting-count s f =
    let e = count-split (stored_in s) (accepted_count s) in
    let c = (sound-clauses s f).counted in
    omega arith

module _ (s : List ℕ) (f : Sound s) where
  one-stored : (i : ℕ) → Earliest (rules_in s) (writes_in s) (stored_in s) i → OneStored s i (marked s i)
  one-stored i w =
      let l = earliest_accepted s i w in
      record {
        rules = rules-marked s f i l w.waits;
        writes = writes-marked s f i l w.waits;
        stored = stored_here s f i l w.waits;
        others = stored_else s f i l w.waits;
      }

  all-stored : ready (rules_in s) (writes_in s) (stored_in s) ≡ 0 → AllStored s
  all-stored e i h = none-ready (rules_in s) (writes_in s) (stored_in s) (λ r. f.holds.ringless (rw (accepted_in s) r)) e i (rw (writes-length s) h)

  module _ (d : List ℕ) (size : length d ≡ disk_length) where
    step-ready : (k : ℕ) → ready (rules_in s) (writes_in s) (stored_in s) ≡ k → step_of s d ≡ storing k s d
    step-ready k e = step-sound s d (true-sound s f) size ∙ (unfold stepped in rw e)

    step-stores : (i : ℕ) → ready (rules_in s) (writes_in s) (stored_in s) ≡ suc i → step_of s d ≡ left (answer (suc i)) (marked s i) (stored_on d (write_in s i))
    unfolding storing
    step-stores i e =
        step-ready (suc i) e
        ∙ rw (write-at s i (earliest_accepted s i (ready_earliest (rules_in s) (writes_in s) (stored_in s) i e)))

    pub step-one : SomeWaits s
        → (i : ℕ) × Earliest (rules_in s) (writes_in s) (stored_in s) i × OneStored s i (marked s i)
        × (step_of s d ≡ left (answer (suc i)) (marked s i) (stored_on d (write_in s i)))
    step-one (x, hx, wx) = go (ready (rules_in s) (writes_in s) (stored_in s)) refl
      where
        go : (k : ℕ) → ready (rules_in s) (writes_in s) (stored_in s) ≡ k
            → (i : ℕ) × Earliest (rules_in s) (writes_in s) (stored_in s) i × OneStored s i (marked s i)
            × (step_of s d ≡ left (answer (suc i)) (marked s i) (stored_on d (write_in s i)))
        go zero e = absurd (false≢true (sym wx ∙ all-stored e x hx))
        go (suc i) e = let w = ready_earliest (rules_in s) (writes_in s) (stored_in s) i e in (i, w, one-stored i w, step-stores i e)

    pub step-none : AllStored s → step_of s d ≡ left (answer 0) s d
    unfolding storing
    step-none a = go (ready (rules_in s) (writes_in s) (stored_in s)) refl
      where
        go : (k : ℕ) → ready (rules_in s) (writes_in s) (stored_in s) ≡ k → step_of s d ≡ left (answer 0) s d
        go zero e = step-ready 0 e
        go (suc i) e = let w = ready_earliest (rules_in s) (writes_in s) (stored_in s) i e in absurd (false≢true (sym w.waits ∙ a i (earliest_accepted s i w)))

pub steps : Steps
steps s d f size = record { one = step-one s f d size; none = step-none s f d size }

-- ---- drains

-- what n steps keep of a state and a disk, and what they change
record Kept (s : List ℕ) (n : ℕ) (h : Held) : Type 0 where
  sound : Sound h.state
  size : length h.disk ≡ disk_length
  rules : rules_in h.state ≡ rules_in s
  writes : writes_in h.state ≡ writes_in s
  accepted : accepted_count h.state ≡ accepted_count s
  stored : stored_count h.state ≡ stored_count s + n

some-waits : (s : List ℕ) → Sound s → 0 < waiting s → SomeWaits s
some-waits s f h =
    let e = waiting-count s f in
    let w = count-some (λ i. not (stored_in s i)) (accepted_count s) (omega arith) in
    (w.0, w.1, not-true (stored_in s w.0) w.2)

kept_once : (s d : List ℕ) → Sound s → length d ≡ disk_length → 0 < waiting s → Kept s 1 (holding (stepped s d).state (stepped s d).disk)
kept_once s d f size h =
    let w = step-one s f d size (some-waits s f h) in
    let i = w.0 in
    let o = w.2 in
    let q : stepped s d ≡ left (answer (suc i)) (marked s i) (stored_on d (write_in s i)) = sym (step-sound s d (true-sound s f) size) ∙ w.3 in
    let l = earliest_accepted s i w.1 in
    record {
      sound = rw q (mark-keeps s f i l w.1.waits w.1.met);
      size = length-stepped s d ∙ size;
      rules = rw q o.rules;
      writes = rw q o.writes;
      accepted = rw q (accepted_count-marked s f i l w.1.waits);
      stored = rw q (stored_count-marked s f i l w.1.waits);
    }

kept-all : (n : ℕ) (s d : List ℕ) → Sound s → length d ≡ disk_length → n ≤ waiting s → Kept s n (steps_of n (holding s d))
kept-all zero s d f size h =
    unfold steps_of in record { sound = f; size = size; rules = refl; writes = refl; accepted = refl; stored = omega arith }
kept-all (suc n) s d f size h =
    let a = kept_once s d f size (omega arith) in
    let x = a.accepted in
    let y = a.stored in
    let b = kept-all n (stepped s d).state (stepped s d).disk a.sound a.size (omega arith) in
    let z = b.stored in
    rw (steps_sound n s d (true-sound s f) size)
    (record {
      sound = b.sound;
      size = b.size;
      rules = b.rules ∙ a.rules;
      writes = b.writes ∙ a.writes;
      accepted = b.accepted ∙ a.accepted;
      stored = omega arith;
    })

pub drains : Drains
drains s d f size =
    let e = waiting-count s f in
    let all : Held = steps_of (waiting s) (holding s d) in
    let k : Kept s (waiting s) all = kept-all (waiting s) s d f size (omega arith) in
    let q : drain_of s d ≡ left (answer (waiting s)) all.state all.disk = unfold drain_of drained in checked-sound drained s d (true-sound s f) size in
    record {
      answers = rw (q, e);
      leaves = rw (q, e);
      before = λ n h. before n (omega arith);
      after = rw q after;
      rules = rw q k.rules;
      writes = rw q k.writes;
    }
  where
    before : (n : ℕ) → n < waiting s → SomeWaits (steps_of n (holding s d)).state
    before n h =
        let k = kept-all n s d f size (omega arith) in
        let x = k.accepted in
        let y = k.stored in
        some-waits (steps_of n (holding s d)).state k.sound (omega arith)

    after : AllStored (steps_of (waiting s) (holding s d)).state
    after i h =
        let t : List ℕ = (steps_of (waiting s) (holding s d)).state in
        let k = kept-all (waiting s) s d f size (omega arith) in
        let x = k.accepted in
        let y = k.stored in
        let m = stored-most s f in
        let z : waiting t ≡ 0 = omega arith in
        not-false (stored_in t i) (count_none (λ j. not (stored_in t j)) (accepted_count t) (sym (waiting-count t k.sound) ∙ z) i h)

-- ---- hand-ins

pub hands_in : HandsIn
unfolding hand_in_of
hands_in s d w f fits =
    let size : length s ≡ state_size = sound-size s f in
    let e : eqb (length s) state_size ≡ true = eq-eqb (length s) state_size size in
    let c : sound s ≡ true = true-sound s f in
    let on-time : (Late (rules_in s) (writes_in s) (stored_in s) w → ⊥) → late (rules_in s) (writes_in s) (stored_in s) w ≡ false =
    λ n. untrue _ (λ q. n (late-true (rules_in s) (writes_in s) (stored_in s) w q)) in
    let no_ring : (NeedsRing (rules_in s) (writes_in s ++ (w ∷ [])) → ⊥) → needs_ring (rules_in s) (writes_in s ++ (w ∷ [])) ≡ false =
    λ n. untrue _ (λ q. n (needs_ring-true (rules_in s) (writes_in s ++ (w ∷ [])) q)) in
    record {
      full = λ h. rw (e, c, le-leb most_held (accepted_count s) h);
      too-late = λ h l. rw (e, c, lt-leb most_held (accepted_count s) h, true-late (rules_in s) (writes_in s) (stored_in s) w l);
      ring = λ h l r. rw (e, c, lt-leb most_held (accepted_count s) h, on-time l, true-needs_ring (rules_in s) (writes_in s ++ (w ∷ [])) r);
      taken = λ h l r. (
        record {
          rules = rules-handed s f w fits h;
          writes = writes-handed s f w fits h;
          waits = stored_new s f w fits h;
          others = stored-old s f w fits h;
        },
        rw (e, c, lt-leb most_held (accepted_count s) h, on-time l, no_ring r),
      );
    }

-- ---- soundness stays

checked-keeps : (call : List ℕ → List ℕ → Left) (s d : List ℕ) → Sound s → (length d ≡ disk_length → Sound (call s d).state) → Sound (checked call s d).state
checked-keeps call s d f h = elim (ℕ_discrete (length d) disk_length) [
  | yes e ↦ rw (checked-sound call s d (true-sound s f) e) (h e)
  | no n ↦ rw (checked-length call s d (inr n)) f
]

hand_in_keeps : (s d : List ℕ) (w : Write) → Sound s → WriteFits w → Sound (hand_in_of w s d).state
unfolding hand_in_of
hand_in_keeps s d w f fits =
    rw (eq-eqb (length s) state_size (sound-size s f), true-sound s f)
    (go (leb most_held (accepted_count s)) (late (rules_in s) (writes_in s) (stored_in s) w) (needs_ring (rules_in s) (writes_in s ++ (w ∷ []))) refl refl refl)
  where
    go : (a b c : Bool) → leb most_held (accepted_count s) ≡ a → late (rules_in s) (writes_in s) (stored_in s) w ≡ b → needs_ring (rules_in s) (writes_in s ++ (w ∷ [])) ≡ c
        → Sound (cond a (left (refused 16 0) s d) (cond b (left (refused 17 0) s d) (cond c (left (refused 18 0) s d) (left (answer (accepted_count s + 1)) (handed s w) d)))).state
    go true b c x y z = f
    go false true c x y z = f
    go false false true x y z = f
    go false false false x y z =
        hand_keeps s f w fits (leb-false most_held (accepted_count s) x)
        (λ l. false≢true (sym y ∙ true-late (rules_in s) (writes_in s) (stored_in s) w l))
        (λ r. false≢true (sym z ∙ true-needs_ring (rules_in s) (writes_in s ++ (w ∷ [])) r))

pub keeps : Keeps
keeps s d f = (
  unfold step_of in checked-keeps stepped s d f (λ e. sound-true _ (sound-stepped s d (true-sound s f))),
  unfold drain_of in checked-keeps drained s d f (λ e. unfold drained in (kept-all (waiting s) s d f e (omega arith)).sound),
  λ w fits. hand_in_keeps s d w f fits,
)
