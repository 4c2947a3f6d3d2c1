-- A sound state is the bytes of what it holds, so what is known of those bytes is known of it: after a step it is the bytes with one entry flagged,
-- after a hand-in with one appended, and it stays sound.
use mathlib.Core.Path.{◌≡◌, refl, sym, ap, subst, fun_ext, ◌∙◌}
use mathlib.Core.Logic.{◌≢◌}
use mathlib.Core.Bool.{true, false, ◌||◌, or-true, or-false}
use mathlib.Core.List.{List, [], ◌∷◌, ◌++◌}
use Prim.Native.Nat.{ℕ, zero, suc, ◌+◌, ◌*◌, ◌<◌}
use native.Mathlib.Decide.{ℕ_discrete, dec_lt}
use native.Mathlib.Omega.{arith}
use lib.Dec.{eqb}
use lib.ListN.{length}
use lib.Seq.{length-sets}
use borrow.Author.Tests.{eq-eqb, ne_eqb}
use Rattle.model.specs.Limits.{most_held, words}
use Rattle.model.specs.declared.Write.{Write}
use Rattle.model.specs.declared.Rule.{Rule}
use Rattle.model.specs.Needs.{Needs, NeedsRing, Earliest, Late, ready}
use Rattle.model.proofs.ReadyLaws.{ready_earliest}
use Rattle.file_format.specs.Bytes.{bytes4, block_length, disk_length}
use Rattle.file_format.specs.Encode.{WriteFits}
use Rattle.cache_model.specs.Entries.{Entry, flag_at, appended, flagging}
use Rattle.cache_model.specs.State.{state_size, accepted_count, stored_count, rules_in, writes_in, stored_in, entries_in, state_of, handed, marked, stored_on}
use Rattle.cache_model.specs.Sound.{Sound, sound}
use Rattle.cache_model.specs.Calls.{Left, storing, checked, stepped, step_of, steps_of}
use Rattle.cache_statelaws.proofs.EntryLaws.{flag-appended, flag_new, flag_beyond, length-appended, accepted-appended, length-flagging, flag-here, flag_else, accepted-flagging, count-flagging}
use Rattle.cache_statelaws.proofs.LayoutLaws.{Worded, writes-length, length-entries_in, accepted_in, state-rules, state-writes, state-accepted, state-stored, state-flags, handed-state, marked-state}
use Rattle.cache_statelaws.proofs.ClauseLaws.{count_in}
use Rattle.cache_statelaws.proofs.SoundLaws.{sound-true, true-sound, sound-size as size-of, sound-clauses, sound-flags, sound-words, holdable_sound}
use Rattle.cache_soundlaws.proofs.HoldableLaws.{holdable_marked, worded_flagging, holdable_appended, each-appended}

module _ (s : List ℕ) (f : Sound s) where
  abbrev R : List Rule
  R = rules_in s

  abbrev E : List Entry
  E = entries_in s

  flags_are : stored_in s ≡ flag_at E
  flags_are = fun_ext (sound-flags s f)

  -- ---- a write marked as stored

  module _ (i : ℕ) (a : i < accepted_count s) (waits : stored_in s i ≡ false) where
    here : i < length E
    here = rw (length-entries_in s) a

    pub marked-is : marked s i ≡ state_of R (flagging (suc i) E)
    marked-is = ap (λ (l : List ℕ). marked l i) f.layout ∙ marked-state R E i f.holds.rules-most here (sym (sound-flags s f i) ∙ waits)

    pub rules-marked : rules_in (marked s i) ≡ rules_in s
    rules-marked = ap rules_in marked-is ∙ state-rules R (flagging (suc i) E) f.holds.rules-most

    pub writes-marked : writes_in (marked s i) ≡ writes_in s
    writes-marked =
        ap writes_in marked-is ∙ state-writes R (flagging (suc i) E) f.holds.rules-most (worded_flagging E (suc i) (sound-words s f))
        ∙ accepted-flagging E (suc i) ∙ accepted_in s

    pub accepted_count-marked : accepted_count (marked s i) ≡ accepted_count s
    accepted_count-marked =
        ap accepted_count marked-is ∙ state-accepted R (flagging (suc i) E) f.holds.rules-most ∙ length-flagging E (suc i) ∙ length-entries_in s

    pub stored_count-marked : stored_count (marked s i) ≡ stored_count s + 1
    stored_count-marked =
        ap stored_count marked-is ∙ state-stored R (flagging (suc i) E) f.holds.rules-most
        ∙ count-flagging E i here (sym (sound-flags s f i) ∙ waits)
        ∙ ap (λ (n : ℕ). n + 1) (count_in s ∙ sym (sound-clauses s f).counted)

    flag-marked : (j : ℕ) → stored_in (marked s i) j ≡ flag_at (flagging (suc i) E) j
    flag-marked j = ap (λ (l : List ℕ). stored_in l j) marked-is ∙ state-flags R (flagging (suc i) E) f.holds.rules-most j

    pub stored_here : stored_in (marked s i) i ≡ true
    stored_here = flag-marked i ∙ flag-here E i here

    pub stored_else : (j : ℕ) → j ≢ i → stored_in (marked s i) j ≡ stored_in s j
    stored_else j n = flag-marked j ∙ flag_else E i j n ∙ sym (sound-flags s f j)

    pub stored-marked : (j : ℕ) → stored_in (marked s i) j ≡ stored_in s j || eqb j i
    stored-marked j = elim (ℕ_discrete j i) [
      | yes z ↦ rw (eq-eqb j i z, or-true (stored_in s j)) (rw z stored_here)
      | no n ↦ rw (ne_eqb j i n, or-false (stored_in s j)) (stored_else j n)
    ]

    -- the write that a step stores keeps its state sound
    pub mark-keeps : ((j : ℕ) → Needs (rules_in s) (writes_in s) i j → stored_in s j ≡ true) → Sound (marked s i)
    mark-keeps m =
        subst Sound (sym marked-is)
        (holdable_sound R (flagging (suc i) E)
        (holdable_marked R E i f.holds here (λ j n. sym (sound-flags s f j) ∙ m j (subst (λ (ws : List Write). Needs R ws i j) (accepted_in s) n)))
        (worded_flagging E (suc i) (sound-words s f)))

  -- ---- a write handed in

  module _ (w : Write) (fits : WriteFits w) (room : accepted_count s < most_held) where
    space : length E < most_held
    space = rw (length-entries_in s) room

    pub handed-is : handed s w ≡ state_of R (appended E w)
    handed-is = ap (λ (l : List ℕ). handed l w) f.layout ∙ handed-state R E w f.holds.rules-most space

    words-handed : Worded (appended E w)
    words-handed = each-appended (λ (v : Write). (v.epoch < words) × (v.block < words)) E w (sound-words s f) (fits.epoch, fits.block)

    pub rules-handed : rules_in (handed s w) ≡ rules_in s
    rules-handed = ap rules_in handed-is ∙ state-rules R (appended E w) f.holds.rules-most

    pub writes-handed : writes_in (handed s w) ≡ writes_in s ++ (w ∷ [])
    writes-handed =
        ap writes_in handed-is ∙ state-writes R (appended E w) f.holds.rules-most words-handed
        ∙ accepted-appended E w ∙ ap (λ (l : List Write). l ++ (w ∷ [])) (accepted_in s)

    flag-handed : (j : ℕ) → stored_in (handed s w) j ≡ flag_at (appended E w) j
    flag-handed j = ap (λ (l : List ℕ). stored_in l j) handed-is ∙ state-flags R (appended E w) f.holds.rules-most j

    pub stored_new : stored_in (handed s w) (accepted_count s) ≡ false
    stored_new = flag-handed (accepted_count s) ∙ ap (flag_at (appended E w)) (sym (length-entries_in s)) ∙ flag_new E w

    pub stored-old : (i : ℕ) → i ≢ accepted_count s → stored_in (handed s w) i ≡ stored_in s i
    stored-old i n = flag-handed i ∙ elim (dec_lt i (length E)) [
      | yes l ↦ flag-appended E w i l ∙ sym (sound-flags s f i)
      | no g ↦
          (let d : i ≢ accepted_count s = n in
          let m = length-entries_in s in
          let q = length-appended E w in
          flag_beyond (appended E w) i (omega (arith, g)) ∙ sym (flag_beyond E i (omega (arith, g))) ∙ sym (sound-flags s f i))
    ]

    pub hand_keeps : (Late (rules_in s) (writes_in s) (stored_in s) w → ⊥) → (NeedsRing (rules_in s) (writes_in s ++ (w ∷ [])) → ⊥) → Sound (handed s w)
    hand_keeps late ring =
        subst Sound (sym handed-is)
        (holdable_sound R (appended E w)
        (holdable_appended R E w f.holds space (λ l. late (rw (accepted_in s, ← flags_are) at l)) (λ r. ring (rw (accepted_in s) at r)))
        words-handed)

-- ---- a step, and several

pub sound-size : (s : List ℕ) → sound s ≡ true → length s ≡ state_size
sound-size s e = size-of s (sound-true s e)

pub length-stored : (d : List ℕ) (w : Write) → length (stored_on d w) ≡ length d
unfolding stored_on
length-stored d w = length-sets d (block_length * w.address) (bytes4 w.block)

-- the earliest is accepted
pub earliest_accepted : (s : List ℕ) (i : ℕ) → Earliest (rules_in s) (writes_in s) (stored_in s) i → i < accepted_count s
earliest_accepted s i w = subst (λ (n : ℕ). i < n) (writes-length s) w.accepted

pub sound-stepped : (s d : List ℕ) → sound s ≡ true → sound (stepped s d).state ≡ true
unfolding stepped storing
sound-stepped s d e = go (ready (rules_in s) (writes_in s) (stored_in s)) refl
  where
    go : (k : ℕ) → ready (rules_in s) (writes_in s) (stored_in s) ≡ k → sound (storing k s d).state ≡ true
    go zero q = e
    go (suc i) q =
        let w = ready_earliest (rules_in s) (writes_in s) (stored_in s) i q in
        true-sound (marked s i) (mark-keeps s (sound-true s e) i (earliest_accepted s i w) w.waits w.met)

pub length-stepped : (s d : List ℕ) → length (stepped s d).disk ≡ length d
unfolding stepped storing
length-stepped s d = go (ready (rules_in s) (writes_in s) (stored_in s))
  where
    go : (k : ℕ) → length (storing k s d).disk ≡ length d
    go zero = refl
    go (suc i) = length-stored d _

-- a call on a sound state and a disk of 1,024 bytes is carried out
pub checked-sound : (f : List ℕ → List ℕ → Left) (s d : List ℕ) → sound s ≡ true → length d ≡ disk_length → checked f s d ≡ f s d
unfolding checked
checked-sound f s d e l = rw (eq-eqb (length s) state_size (sound-size s e), eq-eqb (length d) disk_length l, e)

pub step-sound : (s d : List ℕ) → sound s ≡ true → length d ≡ disk_length → step_of s d ≡ stepped s d
unfolding step_of
step-sound s d e l = checked-sound stepped s d e l

-- what n + 1 steps leave is what n steps leave of what the first leaves
pub steps_sound : (n : ℕ) (s d : List ℕ) → sound s ≡ true → length d ≡ disk_length
    → steps_of (suc n) (record { state = s; disk = d }) ≡ steps_of n (record { state = (stepped s d).state; disk = (stepped s d).disk })
unfolding steps_of
steps_sound n s d e l = rw (step-sound s d e l)
