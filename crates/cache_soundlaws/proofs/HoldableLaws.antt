-- What a cache can hold stays so: with the earliest waiting write flagged, and with one appended that is not late and closes no ring. And the
-- calls on the bytes of what it holds.
use mathlib.Core.Path.{◌≡◌, refl, sym, subst, fun_ext, ◌∙◌}
use mathlib.Core.Logic.{◌≢◌}
use mathlib.Core.Bool.{Bool, true, false, cond, false≢true}
use mathlib.Core.List.{List, [], ◌∷◌, ◌++◌}
use Prim.Native.Nat.{ℕ, zero, suc, ◌+◌, ◌≤◌, ◌<◌}
use native.Mathlib.Decide.{ℕ_discrete}
use native.Mathlib.Omega.{arith}
use lib.Dec.{leb}
use lib.ListN.{length, get_or, get_or-append}
use lib.Seq.{get_or_at}
use borrow.Author.Tests.{eq-eqb, leb-false}
use Rattle.relation.specs.Transitive.{Plus}
use Rattle.model.specs.Limits.{most_rules, most_held}
use Rattle.model.specs.declared.Write.{Write}
use Rattle.model.specs.declared.Rule.{Rule}
use Rattle.model.specs.Answer.{answer, refused}
use Rattle.model.specs.Rules.{Known}
use Rattle.model.specs.Cyclic.{Cyclic}
use Rattle.model.specs.Schedule.{no_write, write_at}
use Rattle.model.specs.Needs.{Needs, NeedsRing, Earliest, Late, needs_ring, ready, late}
use Rattle.model.proofs.ReadyLaws.{needs-left, ready_earliest}
use Rattle.model.proofs.BehindLaws.{closed_with}
use Rattle.file_format.specs.Bytes.{disk_length}
use Rattle.cache_model.specs.Entries.{Entry, entry, accepted, flag_at, appended, flagging, Holdable}
use Rattle.cache_model.specs.State.{state_size, rules_in, writes_in, stored_in, state_of, handed, stored_on}
use Rattle.cache_model.specs.Calls.{Left, left, hand_in_of, storing, checked, stepped, step_of}
use Rattle.cache_statelaws.proofs.EntryLaws.{length-accepted, flag-below, flag-appended, flag_new, length-appended, accepted-appended, length-flagging, flag-here, flag_else, accepted-flagging, write-flagging}
use Rattle.cache_statelaws.proofs.LayoutLaws.{Worded, length-state, state-rules, state-writes, state-accepted, state-flags, handed-state, marked-state}
use Rattle.cache_statelaws.proofs.SoundLaws.{true-sound, holdable_sound}

-- ---- nothing held yet

pub holdable_none : (rules : List Rule) → length rules ≤ most_rules → Known rules → (Cyclic rules → ⊥) → Holdable rules []
holdable_none rules few known acyclic =
    record {
      rules-most = few;
      most = omega arith;
      known = known;
      acyclic = acyclic;
      closed = λ i j p. absurd (false≢true (unfold flag_at in p));
      ringless = λ r. unfold NeedsRing in absurd (no_needs r.1);
    }
  where
    no_needs : {i j : ℕ} → Plus (Needs rules []) i j → ⊥
    no_needs (Plus.one n) = let h = needs-left rules [] _ _ n in omega arith
    no_needs (Plus.more n p) = let h = needs-left rules [] _ _ n in omega arith

pub worded_none : Worded []
worded_none j h = absurd (omega arith)

-- ---- a step

flag_stays : (b : List Entry) (i j : ℕ) → i < length b → flag_at b j ≡ true → flag_at (flagging (suc i) b) j ≡ true
flag_stays b i j h e = elim (ℕ_discrete j i) [
  | yes z ↦ rw z (flag-here b i h)
  | no n ↦ flag_else b i j n ∙ e
]

pub holdable_marked : (rules : List Rule) (b : List Entry) (i : ℕ) → Holdable rules b → i < length b → ((j : ℕ) → Needs rules (accepted b) i j → flag_at b j ≡ true)
    → Holdable rules (flagging (suc i) b)
holdable_marked rules b i f h met =
    record {
      rules-most = f.rules-most;
      most = rw (length-flagging b (suc i)) f.most;
      known = f.known;
      acyclic = f.acyclic;
      closed = λ x y p n.
          let n' : Needs rules (accepted b) x y = rw (accepted-flagging b (suc i)) at n in
          flag_stays b i y h (elim (ℕ_discrete x i) [
            | yes z ↦ met y (rw z at n')
            | no d ↦ f.closed x y (sym (flag_else b i x d) ∙ p) n'
          ]);
      ringless = λ r. f.ringless (rw (accepted-flagging b (suc i)) at r);
    }

earliest_below : (rules : List Rule) (b : List Entry) (i : ℕ) → Earliest rules (accepted b) (flag_at b) i → i < length b
earliest_below rules b i e = subst (λ (n : ℕ). i < n) (length-accepted b) e.accepted

pub holdable_flagging : (rules : List Rule) (b : List Entry) (k : ℕ) → Holdable rules b → ready rules (accepted b) (flag_at b) ≡ k → Holdable rules (flagging k b)
holdable_flagging rules b zero f e = unfold flagging in f
holdable_flagging rules b (suc i) f e = let w = ready_earliest rules (accepted b) (flag_at b) i e in holdable_marked rules b i f (earliest_below rules b i w) w.met

pub worded_flagging : (b : List Entry) (k : ℕ) → Worded b → Worded (flagging k b)
worded_flagging b k f j l = rw (write-flagging b k j) (f j (rw (length-flagging b k) at l))

-- ---- a hand-in

pub holdable_appended : (rules : List Rule) (b : List Entry) (w : Write) → Holdable rules b → length b < most_held → (Late rules (accepted b) (flag_at b) w → ⊥)
    → (NeedsRing rules (accepted b ++ (w ∷ [])) → ⊥) → Holdable rules (appended b w)
holdable_appended rules b w f h late ring =
    record {
      rules-most = f.rules-most;
      most = rw (length-appended b w) (omega arith);
      known = f.known;
      acyclic = f.acyclic;
      closed = closed;
      ringless = λ r. ring (rw (accepted-appended b w) at r);
    }
  where
    closed : (x y : ℕ) → flag_at (appended b w) x ≡ true → Needs rules (accepted (appended b w)) x y → flag_at (appended b w) y ≡ true
    closed x y p n =
        let n' : Needs rules (accepted b ++ (w ∷ [])) x y = rw (accepted-appended b w) at n in
        let q = length-accepted b in
        let lx : x < suc (length b) = subst (λ (k : ℕ). x < k) (length-appended b w) (flag-below (appended b w) x p) in
        elim (ℕ_discrete x (length b)) [
          | yes z ↦ absurd (false≢true (sym (flag_new b w) ∙ (rw z at p)))
          | no dx ↦
              (let d : x ≢ length b = dx in
              let old : flag_at b x ≡ true = sym (flag-appended b w x (omega arith)) ∙ p in
              let c = closed_with rules (accepted b) w (flag_at b) f.closed late x y (omega arith) old n' in
              flag-appended b w y (flag-below b y c.1) ∙ c.1)
        ]

-- what holds of each write holds of each with one more
pub each-appended : (P : Write → Type 0) (b : List Entry) (w : Write) → ((j : ℕ) → j < length b → P (get_or b j (entry no_write false)).write) → P w
    → (j : ℕ) → j < length (appended b w) → P (get_or (appended b w) j (entry no_write false)).write
unfolding appended
each-appended P b w f fw j l = elim (ℕ_discrete j (length b)) [
  | yes z ↦ rw z (rw (get_or_at b (entry w false) [] (entry no_write false) (length b) refl) fw)
  | no n ↦
      (let d : j ≢ length b = n in
      let m : j < suc (length b) = subst (λ (k : ℕ). j < k) (unfold appended in length-appended b w) l in
      let k : j < length b = omega arith in
      rw (get_or-append b (entry w false ∷ []) (entry no_write false) j k) (f j k))
]

-- ---- the calls

-- the disk after the store of the write at a place, counted from 1; at place 0 there is none
unfoldable pub stored_at : List Entry → ℕ → List ℕ → List ℕ
stored_at b zero d = d
stored_at b (suc i) d = stored_on d (write_at (accepted b) i)

-- what a hand-in leaves: full, late, a ring, or one more
unfoldable pub handed_by : Bool → Bool → Bool → List Rule → List Entry → Write → List ℕ → Left
handed_by full late ring rules b v d =
    cond full (left (refused 16 0) (state_of rules b) d)
    (cond late (left (refused 17 0) (state_of rules b) d)
    (cond ring (left (refused 18 0) (state_of rules b) d)
    (left (answer (length b + 1)) (state_of rules (appended b v)) d)))

module _ (rules : List Rule) (b : List Entry) (f : Holdable rules b) (w : Worded b) where
  flags_are : stored_in (state_of rules b) ≡ flag_at b
  flags_are = fun_ext (state-flags rules b f.rules-most)

  -- a call that is lent these bytes and a disk of 1,024 is carried out
  pub carried : (call : List ℕ → List ℕ → Left) (d : List ℕ) → length d ≡ disk_length → checked call (state_of rules b) d ≡ call (state_of rules b) d
  unfolding checked
  carried call d size =
      rw (eq-eqb (length (state_of rules b)) state_size (length-state rules b f.rules-most f.most), eq-eqb (length d) disk_length size, true-sound (state_of rules b) (holdable_sound rules b f w))

  ready-state : ready (rules_in (state_of rules b)) (writes_in (state_of rules b)) (stored_in (state_of rules b)) ≡ ready rules (accepted b) (flag_at b)
  ready-state = rw (state-rules rules b f.rules-most, state-writes rules b f.rules-most w, flags_are)

  storing-state : (d : List ℕ) (k : ℕ) → ready rules (accepted b) (flag_at b) ≡ k → storing k (state_of rules b) d ≡ left (answer k) (state_of rules (flagging k b)) (stored_at b k d)
  unfolding storing stored_at
  storing-state d zero e = unfold flagging in refl
  storing-state d (suc i) e =
      let v = ready_earliest rules (accepted b) (flag_at b) i e in
      rw (marked-state rules b i f.rules-most (earliest_below rules b i v) v.waits, state-writes rules b f.rules-most w)

  -- a step
  pub step_entries : (d : List ℕ) → length d ≡ disk_length → (k : ℕ) → ready rules (accepted b) (flag_at b) ≡ k
      → step_of (state_of rules b) d ≡ left (answer k) (state_of rules (flagging k b)) (stored_at b k d)
  unfolding step_of stepped
  step_entries d size k e = carried stepped d size ∙ rw (ready-state, e) (storing-state d k e)

  -- a hand-in
  pub hand_entries : (v : Write) (d : List ℕ)
      → hand_in_of v (state_of rules b) d ≡ handed_by (leb most_held (length b)) (late rules (accepted b) (flag_at b) v) (needs_ring rules (accepted b ++ (v ∷ []))) rules b v d
  unfolding hand_in_of handed_by
  hand_entries v d =
      rw (
        eq-eqb (length (state_of rules b)) state_size (length-state rules b f.rules-most f.most),
        true-sound (state_of rules b) (holdable_sound rules b f w),
        state-accepted rules b f.rules-most,
        state-rules rules b f.rules-most,
        state-writes rules b f.rules-most w,
        flags_are,
      )
      (room (leb most_held (length b)) refl)
    where
      room : (x : Bool) → leb most_held (length b) ≡ x
          → cond x (left (refused 16 0) (state_of rules b) d) (cond (late rules (accepted b) (flag_at b) v) (left (refused 17 0) (state_of rules b) d) (cond (needs_ring rules (accepted b ++ (v ∷ []))) (left (refused 18 0) (state_of rules b) d) (left (answer (length b + 1)) (handed (state_of rules b) v) d)))
          ≡ cond x (left (refused 16 0) (state_of rules b) d) (cond (late rules (accepted b) (flag_at b) v) (left (refused 17 0) (state_of rules b) d) (cond (needs_ring rules (accepted b ++ (v ∷ []))) (left (refused 18 0) (state_of rules b) d) (left (answer (length b + 1)) (state_of rules (appended b v)) d)))
      room true e = refl
      room false e = rw (handed-state rules b v f.rules-most (leb-false most_held (length b) e))
