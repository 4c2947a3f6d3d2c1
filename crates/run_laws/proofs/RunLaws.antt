-- Demand 3: each call of a run keeps the state and the disk those of the book, so every moment is safe and every call gives what the book says.
use mathlib.Core.Path.{◌≡◌, refl, sym, ap, subst, ◌∙◌}
use mathlib.Core.Logic.{inl, inr, ⊎_elim}
use mathlib.Core.Bool.{Bool, true, false, cond, false≢true}
use mathlib.Core.List.Memᴰ
use mathlib.Core.List.{List, [], ◌∷◌, ◌++◌, Memᴰ}
use Prim.{tt}
use Prim.Native.Nat.{ℕ, zero, suc, ◌+◌, ◌<◌}
use native.Mathlib.Decide.{ℕ_discrete, dec_lt}
use native.Mathlib.Numerals.{add-one}
use native.Mathlib.Omega.{arith}
use lib.Dec.{leb}
use lib.ListN.{length, replicate}
use borrow.Author.Tests.{leb-true, le-leb, lt-leb}
use Rattle.relation.proofs.ListLaws.{untrue}
use Rattle.model.specs.Limits.{most_held}
use Rattle.model.specs.declared.Write.{Write}
use Rattle.model.specs.declared.Rule.{Rule}
use Rattle.model.specs.Answer.{Outcome, answer, refused}
use Rattle.model.specs.Cyclic.{Cyclic}
use Rattle.model.specs.Test.{File}
use Rattle.file_format.specs.Bytes.{disk_length}
use Rattle.file_format.specs.File.{read_of}
use Rattle.file_format.specs.Encode.{WriteFits}
use Rattle.file_reader.proofs.CallerLaws.{holding-limits}
use Rattle.log_get.specs.Get.{get_of, value_code}
use Rattle.model.specs.Needs.{Earliest, needs_ring, ready, late}
use Rattle.cache_model.specs.Entries.{accepted, flag_at, waiting_in, appended, flagging}
use Rattle.cache_model.specs.State as State
use Rattle.cache_model.specs.State.{state_size, state_of, stored_on}
use Rattle.cache_model.specs.Calls.{Left, left, open_of, hand_in_of}
use Rattle.model.proofs.NeedsLaws.{late-true, true-late, needs_ring-true, true-needs_ring}
use Rattle.cache_statelaws.proofs.EntryLaws.{length-accepted, length-flagging}
use Rattle.cache_statelaws.proofs.LayoutLaws.{length-state, state-accepted, state-flags, opened-state}
use Rattle.cache_soundlaws.proofs.HoldableLaws.{holdable_none, handed_by, hand_entries}
use Rattle.cache_soundlaws.proofs.OpenLaws.{opens}
use Rattle.cache_soundlaws.proofs.SoundTheorems.{drains}
use Rattle.run_laws.specs.Book.{Book, Kind, opening, hand_in, step, drain, get, step_entered, steps_entered, applied, entered, noted}
use Rattle.run_laws.specs.Run.{Call, call, on_own, Lent, own_lent, OwnLent, WrongLength, UnsoundLent, OpensNone, ListedAs, Listed, lent_to, valued, state_lent, disk_lent, called_by, called, own_after, is_refused, Moment, next, after, counted_as, counted, passed, inner, moments}
use Rattle.run_laws.specs.Gives.{lent_disk, kind_conditions, conditions, StepAnswer, AnsweredAs, Answered, Gives, GivenBy}
use Rattle.run_laws.specs.Theorem.{Safe, Answers, Made, now, later, inside, begun, Demand3}
use Rattle.model.proofs.ReadyLaws.{ready_earliest, none-ready}
use Rattle.run_laws.proofs.BookLaws.{Lawful, lawful_words, lawful_stepped, lawful_steps, lawful_appended, lawful_sound}
use Rattle.run_laws.proofs.DiskLaws.{valid-book, consistent-left, length-applied}
use Rattle.run_laws.proofs.StepLaws.{step-book, drain-book}
use Rattle.run_laws.proofs.GivesLaws.{answer-refused, done, tested, tested_by, past, gives-answer, by_single, Singles, gives_one}
use Rattle.run_laws.proofs.CallLaws.{kept_same, right_length, decide-length, decide_soundness, both_own, own_usable, outcome_of, by_length, by_soundness, leaves, get-gives, gets_one, open_gives, opens-none}

-- ---- the invariant: the bytes and the disk are those of the book

-- the moment of a book
abbrev at : List Rule → List ℕ → Book → Moment
at rules disk b = record { held = record { state = state_of rules b; disk = applied b disk }; book = b }

record Mirrors (rules : List Rule) (disk : List ℕ) (m : Moment) : Type 0 where
  fine : Lawful rules m.book
  same : m ≡ at rules disk m.book

-- what is shown of every call: it gives what the book says, and the next moment is that of the next book
abbrev Goes : List Rule → List ℕ → Call → Moment → Type 0
Goes rules disk c m = Answers rules disk c m × Mirrors rules disk (next rules c m)

module _ (rules : List Rule) (disk : List ℕ) (size : length disk ≡ disk_length) where
  -- what a call gives at a book's moment
  abbrev outcome : Call → Book → Outcome ℕ
  outcome c b = (called c (at rules disk b).held).outcome

  mirrored : (b : Book) → Lawful rules b → Mirrors rules disk (at rules disk b)
  mirrored b f = record { fine = f; same = refl }

  safe : (b : Book) → Lawful rules b → Safe rules disk (at rules disk b)
  safe b f = record { sound = lawful_sound rules b f; size = length-applied b disk ∙ size; equals = refl; valid = valid-book rules b f; consistent = consistent-left rules b disk f size }

  -- ---- the buffers of a call

  -- those that are lent have the right lengths, if none has another
  right_state : (c : Call) (b : Book) → Lawful rules b → (WrongLength c → ⊥) → length (lent_to (state_lent c) (state_of rules b)) ≡ state_size
  right_state c b f n = right_length state_size (state_lent c) (state_of rules b) (length-state rules b f.fine.rules-most f.fine.most) (λ w. n (inl w))

  right_disk : (c : Call) (b : Book) → (WrongLength c → ⊥) → length (lent_to (disk_lent c) (applied b disk)) ≡ disk_length
  right_disk c b n = right_length disk_length (disk_lent c) (applied b disk) (length-applied b disk ∙ size) (λ w. n (inr w))

  -- a call on the run's own is its kind's on the bytes and the disk of the book
  own-called : (c : Call) (b : Book) → OwnLent c → called c (at rules disk b).held ≡ called_by c.kind (state_of rules b) (applied b disk)
  unfolding called
  own-called c b o = let e = both_own (state_lent c) (disk_lent c) o in rw (e.0, e.1)

  -- ..: one that leaves those of the next book leads to its moment
  own-next : (c : Call) (b next-book : Book) (n : ℕ) → OwnLent c → called_by c.kind (state_of rules b) (applied b disk) ≡ left (answer n) (state_of rules next-book) (applied next-book disk)
      → entered rules c.kind b ≡ next-book → next rules c (at rules disk b) ≡ at rules disk next-book
  unfolding next own_after noted is_refused
  own-next c b next-book n o e g = let p = both_own (state_lent c) (disk_lent c) o in rw (own-called c b o, e, p.0, p.1, g)

  -- a refused call leaves the run's own as it was
  stays : (c : Call) (b : Book) (number place : ℕ) → outcome c b ≡ refused number place → next rules c (at rules disk b) ≡ at rules disk b
  unfolding next own_after noted is_refused called
  stays c b number place e =
      let k = leaves c.kind (lent_to (state_lent c) (state_of rules b)) (lent_to (disk_lent c) (applied b disk)) number place e in
      rw (e, k.0, k.1, kept_same (state_lent c) (state_of rules b), kept_same (disk_lent c) (applied b disk))

  -- ---- a get

  get_stays : (key : ℕ) (s d : Lent) (b : Book) → next rules (call (get key) s d) (at rules disk b) ≡ at rules disk b
  unfolding next own_after called called_by noted entered
  get_stays key s d b = rw (kept_same d (applied b disk), same (is_refused (valued (get_of (lent_to d (applied b disk)) key))))
    where
      same : (r : Bool) → cond r b b ≡ b
      same true = refl
      same false = refl

  -- ---- a hand-in

  -- what hand-in gives, by the book
  abbrev handed-by : Book → Write → Left
  handed-by b w = handed_by (leb most_held (length b)) (late rules (accepted b) (flag_at b) w) (needs_ring rules (accepted b ++ (w ∷ []))) rules b w (applied b disk)

  hand_book : (b : Book) (w : Write) → Lawful rules b → hand_in_of w (state_of rules b) (applied b disk) ≡ handed-by b w
  hand_book b w f = hand_entries rules b f.fine (lawful_words rules b f) w (applied b disk)

  hand_gives : (w : Write) (lent : List ℕ) (b : Book) → Lawful rules b
      → Gives (kind_conditions rules lent b (hand_in w)) (AnsweredAs rules lent b (hand_in w)) (hand_in_of w (state_of rules b) (applied b disk)).outcome
  unfolding kind_conditions AnsweredAs handed_by
  hand_gives w lent b f =
      let ws = accepted b in
      rw (hand_book b w f)
      (tested_by 16 _ _ _ (handed-by b w).outcome (leb most_held (length b)) (leb-true most_held (length b)) (le-leb most_held (length b)) (λ x. rw x)
      (λ x. tested_by 17 _ _ _ (handed-by b w).outcome (late rules ws (flag_at b) w) (late-true rules ws (flag_at b) w) (true-late rules ws (flag_at b) w) (λ y. rw (x, y))
      (λ y. tested_by 18 _ _ _ (handed-by b w).outcome (needs_ring rules (ws ++ (w ∷ []))) (needs_ring-true rules (ws ++ (w ∷ []))) (true-needs_ring rules (ws ++ (w ∷ []))) (λ z. rw (x, y, z))
      (λ z. done _ (suc (length b)) (handed-by b w).outcome (rw (x, y, z) (ap answer (add-one (length b)))) refl))))

  applied-appended : (b : Book) (w : Write) (d : List ℕ) → applied (appended b w) d ≡ applied b d
  unfolding applied appended
  applied-appended [] w d = refl
  applied-appended (e ∷ b) w d = applied-appended b w (cond e.flag (stored_on d e.write) d)

  hand_taken : (w : Write) (lent : List ℕ) (b : Book) (n : ℕ) → Lawful rules b → WriteFits w → Gives (kind_conditions rules lent b (hand_in w)) (AnsweredAs rules lent b (hand_in w)) (answer n)
      → (hand_in_of w (state_of rules b) (applied b disk) ≡ left (answer (length b + 1)) (state_of rules (appended b w)) (applied (appended b w) disk)) × Lawful rules (appended b w)
  unfolding kind_conditions handed_by
  hand_taken w lent b n f fits g =
      let p = past 16 _ _ _ n g in
      let q = past 17 _ _ _ n p.1 in
      let r = past 18 _ _ _ n q.1 in
      let ws = accepted b in
      let x : length b < most_held = let m = p.0 in omega arith in
      let y = untrue (late rules ws (flag_at b) w) (λ e. q.0 (late-true rules ws (flag_at b) w e)) in
      let z = untrue (needs_ring rules (ws ++ (w ∷ []))) (λ e. r.0 (needs_ring-true rules (ws ++ (w ∷ [])) e)) in
      (hand_book b w f ∙ rw (lt-leb most_held (length b) x, y, z, applied-appended b w disk), lawful_appended rules b w f x fits q.0 r.0)

  -- ---- a step

  -- what a step answers is the place of the write that is found
  ready-stores : (b : Book) → Lawful rules b → (k : ℕ) → ready rules (accepted b) (flag_at b) ≡ k → StepAnswer rules b k
  unfolding StepAnswer
  ready-stores b f zero e = λ i h. none-ready rules (accepted b) (flag_at b) f.fine.ringless e i (subst (λ (n : ℕ). i < n) (sym (length-accepted b)) h)
  ready-stores b f (suc i) e = ready_earliest rules (accepted b) (flag_at b) i e

  stores_one : (b : Book) (m n : ℕ) → StepAnswer rules b m → StepAnswer rules b n → m ≡ n
  unfolding StepAnswer
  stores_one b m n u v = go m n u v
    where
      waits : (i : ℕ) → Earliest rules (accepted b) (flag_at b) i → ((j : ℕ) → j < length b → flag_at b j ≡ true) → ⊥
      waits i u h = false≢true (sym u.waits ∙ h i (subst (λ (x : ℕ). i < x) (length-accepted b) u.accepted))

      go : (m n : ℕ) → StepAnswer rules b m → StepAnswer rules b n → m ≡ n
      go zero zero u v = refl
      go zero (suc k) u v = absurd (waits k v u)
      go (suc i) zero u v = absurd (waits i u v)
      go (suc i) (suc k) u v = elim (dec_lt i k) [
        | yes l ↦ absurd (v.first i l u.waits u.met)
        | no g ↦ elim (dec_lt k i) [ yes l ↦ absurd (u.first k l v.waits v.met) | no h ↦ omega arith ]
      ]

  stored_is : (b : Book) → Lawful rules b → (n : ℕ) → StepAnswer rules b n → step_entered rules b ≡ flagging n b
  unfolding step_entered
  stored_is b f n s = ap (λ (k : ℕ). flagging k b) (stores_one b _ n (ready-stores b f _ refl) s)

  step-at : (b : Book) → Lawful rules b → next rules (on_own step) (at rules disk b) ≡ at rules disk (step_entered rules b)
  step-at b f = own-next (on_own step) b _ (ready rules (accepted b) (flag_at b)) refl (unfold called_by in step-book rules disk size b f) (unfold entered in refl)

  -- some steps
  steps_at : (n : ℕ) (b : Book) → Lawful rules b → after rules (replicate n (on_own step)) (at rules disk b) ≡ at rules disk (steps_entered rules n b)
  unfolding after steps_entered
  steps_at zero b f = refl
  steps_at (suc n) b f = ap (after rules (replicate n (on_own step))) (step-at b f) ∙ steps_at n (step_entered rules b) (lawful_stepped rules b f)

  -- ---- a drain

  drain-at : (c : Call) (b : Book) → Lawful rules b → c.kind ≡ drain → OwnLent c → next rules c (at rules disk b) ≡ at rules disk (steps_entered rules (waiting_in b) b)
  drain-at c b f e o = own-next c b _ (waiting_in b) o (rw e (unfold called_by in drain-book rules disk size b f)) (rw e (unfold entered in refl))

  length_steps : (n : ℕ) (b : Book) → length (steps_entered rules n b) ≡ length b
  unfolding steps_entered step_entered
  length_steps zero b = refl
  length_steps (suc n) b = length_steps n _ ∙ length-flagging b (ready rules (accepted b) (flag_at b))

  -- none waits in the state that it leaves, and that is the book's
  all-stored : (b : Book) → Lawful rules b → (i : ℕ) → i < length b → flag_at (steps_entered rules (waiting_in b) b) i ≡ true
  all-stored b f i h =
      let drained = steps_entered rules (waiting_in b) b in
      let l : i < length drained = rw (length_steps (waiting_in b) b) h in
      let none = (drains (state_of rules b) (applied b disk) (lawful_sound rules b f) (length-applied b disk ∙ size)).after in
      sym (state-flags rules drained f.fine.rules-most i) ∙ (rw (drain-book rules disk size b f) at none) i (rw (state-accepted rules drained f.fine.rules-most) l)

  -- ---- every kind: what is given

  further_gives : (k : Kind) (s d : Lent) (b : Book) → Lawful rules b → Listed (call k s d) → (WrongLength (call k s d) → ⊥) → (UnsoundLent (call k s d) → ⊥)
      → Gives (kind_conditions rules (lent_disk disk b (call k s d)) b k) (Answered rules disk b (call k s d)) (outcome (call k s d) b)
  unfolding ListedAs
  further_gives (opening file) s d b f l n v = unfold called called_by in open_gives rules b file _ _ _ (right_state (call (opening file) s d) b f n)
  further_gives (hand_in w) s d b f l n v =
      let c = call (hand_in w) s d in
      subst (Gives _ _) (sym (outcome_of (own-called c b (own_usable c l.1 n v)))) (unfold called_by in hand_gives w (lent_disk disk b c) b f)
  further_gives step s d b f l n v =
      let c = call step s d in
      unfold kind_conditions AnsweredAs called_by in (done _ _ _ (outcome_of (own-called c b (own_usable c l n v) ∙ step-book rules disk size b f)) (ready-stores b f _ refl))
  further_gives drain s d b f l n v =
      let c = call drain s d in
      unfold kind_conditions AnsweredAs called_by in (done _ _ _ (outcome_of (own-called c b (own_usable c l n v) ∙ drain-book rules disk size b f)) refl)
  further_gives (get key) s d b f l n v = unfold called called_by in get-gives rules b key _ (right_disk (call (get key) s d) b n)

  -- the buffers come first, whatever the kind
  given : (k : Kind) (s d : Lent) (b : Book) → Lawful rules b → Listed (call k s d) → GivenBy rules disk b (call k s d) (outcome (call k s d) b)
  unfolding conditions
  given k s d b f l =
      let c = call k s d in
      tested 14 (WrongLength c) _ _ _ (decide-length c) (by_length k s d (at rules disk b).held)
      (λ n. tested 15 (UnsoundLent c) _ _ _ (decide_soundness c) (by_soundness k s d (at rules disk b).held (right_state c b f n) (right_disk c b n))
      (λ v. further_gives k s d b f l n v))

  -- and nothing else
  further_single : (lent : List ℕ) (b : Book) (k : Kind) → Singles (kind_conditions rules lent b k)
  unfolding kind_conditions Singles
  further_single lent b (opening file) = ((λ x y i j p q. cc), (by_single _ _, (by_single _ _, tt)))
  further_single lent b (hand_in w) = (by_single _ _, (by_single _ _, (by_single _ _, tt)))
  further_single lent b step = tt
  further_single lent b drain = tt
  further_single lent b (get key) = (by_single _ _, tt)

  answered_one : (lent : List ℕ) (b : Book) (k : Kind) (m n : ℕ) → AnsweredAs rules lent b k m → AnsweredAs rules lent b k n → m ≡ n
  unfolding AnsweredAs
  answered_one lent b (opening file) m n g h = g ∙ sym h
  answered_one lent b (hand_in w) m n g h = g ∙ sym h
  answered_one lent b step m n g h = stores_one b m n g h
  answered_one lent b drain m n g h = g ∙ sym h
  answered_one lent b (get key) m n g h = g.2 ∙ ap value_code (gets_one lent key g.0 h.0 g.1 h.1) ∙ sym h.2

  given-one : (c : Call) (b : Book) (o p : Outcome ℕ) → GivenBy rules disk b c o → GivenBy rules disk b c p → o ≡ p
  given-one c b =
      gives_one (conditions rules disk b c) (Answered rules disk b c) (unfold conditions Singles in (by_single _ _, (by_single _ _, further_single _ b c.kind))) (answered_one _ b c.kind)

  -- ---- every kind: what is left

  -- a call that answers leads to the moment of the book that it is entered in
  moves_on : (k : Kind) (s d : Lent) (b : Book) → Lawful rules b → Listed (call k s d) → (WrongLength (call k s d) → ⊥) → (UnsoundLent (call k s d) → ⊥)
      → (n : ℕ) → Gives (kind_conditions rules (lent_disk disk b (call k s d)) b k) (Answered rules disk b (call k s d)) (answer n)
      → (next rules (call k s d) (at rules disk b) ≡ at rules disk (entered rules k b)) × Lawful rules (entered rules k b)
  unfolding ListedAs entered is_refused
  moves_on (opening file) s d b f l u v n g = absurd (⊎_elim u (λ x. false≢true ((opens-none rules b file _ (answer n) g).0 x)) l)
  moves_on (hand_in w) s d b f l u v n g =
      let c = call (hand_in w) s d in
      let t = hand_taken w _ b n f l.0 g in
      (own-next c b (appended b w) (length b + 1) (own_usable c l.1 u v) (unfold called_by in t.0) refl, t.1)
  moves_on step s d b f l u v n g =
      let c = call step s d in
      (own-next c b (step_entered rules b) (ready rules (accepted b) (flag_at b)) (own_usable c l u v) (unfold called_by in step-book rules disk size b f) refl, lawful_stepped rules b f)
  moves_on drain s d b f l u v n g = let c = call drain s d in (drain-at c b f refl (own_usable c l u v), lawful_steps rules (waiting_in b) b f)
  moves_on (get key) s d b f l u v n g = (get_stays key s d b, f)

  moves : (c : Call) (b : Book) → Lawful rules b → Listed c → (n : ℕ) → GivenBy rules disk b c (answer n)
      → (next rules c (at rules disk b) ≡ at rules disk (entered rules c.kind b)) × Lawful rules (entered rules c.kind b)
  unfolding conditions
  moves c b f l n g =
      let p = past 14 (WrongLength c) _ _ n g in
      let q = past 15 (UnsoundLent c) _ _ n p.1 in
      moves_on c.kind c.state c.disk b f l p.0 q.0 n q.1

  -- ---- every kind: what it counts as

  -- it leaves what those leave
  counts : (k : Kind) (s d : Lent) (b : Book) → Lawful rules b → next rules (call k s d) (at rules disk b) ≡ after rules (counted rules (call k s d) (at rules disk b)) (at rules disk b)
  unfolding after counted_as
  counts (opening file) s d b f = refl
  counts (hand_in w) s d b f = refl
  counts step s d b f = refl
  counts drain s d b f = go (own_lent (call drain s d)) refl
    where
      go : (x : Bool) → own_lent (call drain s d) ≡ x
          → next rules (call drain s d) (at rules disk b) ≡ after rules (cond x (replicate (waiting_in b) (on_own step)) (call drain s d ∷ [])) (at rules disk b)
      go true e = drain-at (call drain s d) b f refl e ∙ sym (steps_at (waiting_in b) b f)
      go false e = refl
  counts (get key) s d b f = refl

  abbrev AllListed : List Call → Type 0
  AllListed cs = (c : Call) → Memᴰ c cs → Listed c

  itself_listed : (c : Call) → Listed c → AllListed (c ∷ [])
  itself_listed c l x h = subst Listed (sym (Memᴰ.eq_of_singleton h)) l

  steps_listed : (n : ℕ) → AllListed (replicate n (on_own step))
  unfolding ListedAs
  steps_listed zero x h = absurd (Memᴰ.not-nil h)
  steps_listed (suc n) x h = ⊎_elim (λ (e : x ≡ on_own step). subst Listed (sym e) (inl refl)) (steps_listed n x) (Memᴰ.cases_cons h)

  -- and those are calls of a list too
  counted-listed : (k : Kind) (s d : Lent) (m : Moment) → Listed (call k s d) → AllListed (counted rules (call k s d) m)
  unfolding counted_as
  counted-listed (opening file) s d m l = itself_listed _ l
  counted-listed (hand_in w) s d m l = itself_listed _ l
  counted-listed step s d m l = itself_listed _ l
  counted-listed drain s d m l = go (own_lent (call drain s d))
    where
      go : (x : Bool) → AllListed (cond x (replicate (waiting_in m.book) (on_own step)) (call drain s d ∷ []))
      go true = steps_listed (waiting_in m.book)
      go false = itself_listed (call drain s d) l
  counted-listed (get key) s d m l = itself_listed _ l

  -- ---- every call, every list

  call_goes : (c : Call) (b : Book) → Lawful rules b → Listed c → Goes rules disk c (at rules disk b)
  call_goes c b f l = (
    record {
      gives = g;
      only = λ o h. given-one c b o _ h g;
      nothing = stays c b;
      unchanged = λ key e. subst (λ (k : Kind). next rules (call k c.state c.disk) (at rules disk b) ≡ at rules disk b) (sym e) (get_stays key c.state c.disk b);
      one = λ i e q. ap (λ (m : Moment). m.book) (moves c b f l i (so (answer i) q)).0 ∙ rw e (unfold entered in stored_is b f i (stores i e (so (answer i) q)));
      each = counts c.kind c.state c.disk b f;
      all = λ e o i h. rw (drain-at c b f e o) (all-stored b f i h);
    },
    turn (outcome c b) refl,
  )
    where
      g : GivenBy rules disk b c (outcome c b)
      g = given c.kind c.state c.disk b f l

      so : (o : Outcome ℕ) → outcome c b ≡ o → GivenBy rules disk b c o
      so o e = subst (GivenBy rules disk b c) e g

      stores : (n : ℕ) → c.kind ≡ step → GivenBy rules disk b c (answer n) → StepAnswer rules b n
      stores n k h = unfold AnsweredAs in (rw k at (gives-answer (conditions rules disk b c) (Answered rules disk b c) n h))

      turn : (o : Outcome ℕ) → outcome c b ≡ o → Mirrors rules disk (next rules c (at rules disk b))
      turn (answer n) e = let m = moves c b f l n (so (answer n) e) in subst (Mirrors rules disk) (sym m.0) (mirrored (entered rules c.kind b) m.1)
      turn (refused number place) e = subst (Mirrors rules disk) (sym (stays c b number place e)) (mirrored b f)

  call_goes_on : (c : Call) (m : Moment) → Mirrors rules disk m → Listed c → Goes rules disk c m
  call_goes_on c m k l = subst (Goes rules disk c) (sym k.same) (call_goes c m.book k.fine l)

  safe_on : (m : Moment) → Mirrors rules disk m → Safe rules disk m
  safe_on m k = subst (Safe rules disk) (sym k.same) (safe m.book k.fine)

  turned : (c : Call) (cs : List Call) (n : Moment) → Mirrors rules disk n → AllListed (c ∷ cs) → Mirrors rules disk (next rules c n)
  turned c cs n k l = (call_goes_on c n k (l c (Memᴰ.head refl))).1

  passed_safe : (cs : List Call) (n : Moment) → Mirrors rules disk n → AllListed cs → (m : Moment) → Memᴰ m (passed rules cs n) → Safe rules disk m
  unfolding passed
  passed_safe [] n k l m h = ⊎_elim (λ (e : m ≡ n). subst (Safe rules disk) (sym e) (safe_on n k)) (λ i. absurd (Memᴰ.not-nil i)) (Memᴰ.cases_cons h)
  passed_safe (c ∷ cs) n k l m h = ⊎_elim
      (λ (e : m ≡ n). subst (Safe rules disk) (sym e) (safe_on n k))
      (λ i. passed_safe cs (next rules c n) (turned c cs n k l) (λ d x. l d (Memᴰ.tail x)) m i)
      (Memᴰ.cases_cons h)

  moments_safe : (cs : List Call) (n : Moment) → Mirrors rules disk n → AllListed cs → (m : Moment) → Memᴰ m (moments rules cs n) → Safe rules disk m
  unfolding moments inner
  moments_safe [] n k l m h = passed_safe [] n k l m (unfold passed in h)
  moments_safe (c ∷ cs) n k l m h = ⊎_elim
      (λ i. passed_safe (counted rules c n) n k (counted-listed c.kind c.state c.disk n (l c (Memᴰ.head refl))) m i)
      (λ i. moments_safe cs (next rules c n) (turned c cs n k l) (λ d x. l d (Memᴰ.tail x)) m i)
      (Memᴰ.append_cases (inner rules c n) h)

  made_answers : (cs : List Call) (n : Moment) → Mirrors rules disk n → AllListed cs → (c : Call) (m : Moment) → Made rules cs n c m → Answers rules disk c m
  made_answers cs n k l c m now = (call_goes_on c n k (l c (Memᴰ.head refl))).0
  made_answers (d ∷ cs) n k l c m (later x) = made_answers cs (next rules d n) (turned d cs n k l) (λ e y. l e (Memᴰ.tail y)) c m x
  made_answers (d ∷ cs) n k l c m (inside x) = made_answers (counted rules d n) n k (counted-listed d.kind d.state d.disk n (l d (Memᴰ.head refl))) c m x

  after_mirror : (cs : List Call) (n : Moment) → Mirrors rules disk n → AllListed cs → Mirrors rules disk (after rules cs n)
  unfolding after
  after_mirror [] n k l = k
  after_mirror (c ∷ cs) n k l = after_mirror cs (next rules c n) (turned c cs n k l) (λ d x. l d (Memᴰ.tail x))

-- ---- the start

-- an accepted opening's rules are not cyclic, and its state is theirs
open_accepted : (file s d : List ℕ) (g : File) → read_of file ≡ answer g → (open_of file s d).outcome ≡ answer 0
    → (Cyclic g.rules → ⊥) × ((open_of file s d).state ≡ State.opened g.rules)
unfolding is_refused
open_accepted file s d g q e = elim (ℕ_discrete (length s) state_size) [ no n ↦ absurd (answer-refused (sym e ∙ outcome_of ((opens file s d).wrong_length n))) | yes size ↦ right size ]
  where
    opened : length s ≡ state_size → OpensNone file → ⊥
    opened size x = false≢true (sym (ap is_refused e) ∙ (opens-none [] [] file [] _ (open_gives [] [] file s d [] size)).0 x)

    right : length s ≡ state_size → (Cyclic g.rules → ⊥) × ((open_of file s d).state ≡ State.opened g.rules)
    right size =
        let tests : length g.tests ≡ 0 = let n : 0 < length g.tests → ⊥ = λ h. opened size (inr (inl (g, q, h))) in omega arith in
        let acyclic : Cyclic g.rules → ⊥ = λ c. opened size (inr (inr (g, q, c))) in
        (acyclic, ap (λ (l : Left). l.state) ((opens file s d).taken size g q tests acyclic).3)

lawful_start : (file : List ℕ) (g : File) → read_of file ≡ answer g → (Cyclic g.rules → ⊥) → Lawful g.rules []
lawful_start file g e c =
    let l = (holding-limits file g e).0 in
    record { fine = holdable_none g.rules l.rules l.known c; fits = λ j h. absurd (omega arith) }

begun-at : (rules : List Rule) (disk s : List ℕ) → s ≡ state_of rules [] → begun s disk ≡ at rules disk []
unfolding applied
begun-at rules disk s e = rw e

begun_mirrors : (file state disk : List ℕ) (g : File) → read_of file ≡ answer g → (open_of file state disk).outcome ≡ answer 0
    → Mirrors g.rules disk (begun (open_of file state disk).state disk)
begun_mirrors file state disk g e o =
    let a = open_accepted file state disk g e o in
    let f = lawful_start file g e a.0 in
    let s : (open_of file state disk).state ≡ state_of g.rules [] = a.1 ∙ opened-state g.rules f.fine.rules-most in
    record { fine = f; same = begun-at g.rules disk (open_of file state disk).state s }

-- demand 3
pub demand3 : Demand3
unfolding Demand3
demand3 file state disk g calls e o size listed =
    let k = begun_mirrors file state disk g e o in (
      moments_safe g.rules disk size calls (begun (open_of file state disk).state disk) k listed,
      made_answers g.rules disk size calls (begun (open_of file state disk).state disk) k listed,
    )

-- after the calls of a list, n calls of step are n steps of the book. (For examples: the book is quick to compute)
pub steps_after : (file state disk : List ℕ) (g : File) (calls : List Call) → read_of file ≡ answer g → (open_of file state disk).outcome ≡ answer 0 → length disk ≡ disk_length
    → ((c : Call) → Memᴰ c calls → Listed c) → (n : ℕ)
    → (after g.rules (replicate n (on_own step)) (after g.rules calls (begun (open_of file state disk).state disk))).book
    ≡ steps_entered g.rules n (after g.rules calls (begun (open_of file state disk).state disk)).book
steps_after file state disk g calls e o size listed n =
    let k = after_mirror g.rules disk size calls (begun (open_of file state disk).state disk) (begun_mirrors file state disk g e o) listed in
    ap (λ (m : Moment). m.book) (ap (after g.rules (replicate n (on_own step))) k.same ∙ steps_at g.rules disk size n _ k.fine)
