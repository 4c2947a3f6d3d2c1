-- Calls on any buffers: what a lent buffer is to them, what they give if it has another length or is unsound, that a refused one leaves what it
-- was lent, which openings are refused, and that openings and hand-ins take no disk.
use mathlib.Core.Path.{◌≡◌, refl, sym, ap, subst, ◌∙◌}
use mathlib.Core.Logic.{◌↔◌, ◌⊎◌, inl, inr, ⊎_elim, ⊎_map}
use mathlib.Core.Bool.{Bool, true, false, cond, ◌&&◌, false≢true}
use mathlib.Core.List.{List, []}
use mathlib.Core.Option.{Option}
use Prim.Native.Nat.{ℕ, ◌-◌}
use native.Mathlib.Decide.{ℕ_discrete}
use native.Mathlib.Omega.{arith}
use lib.Dec.{ltb}
use lib.ListN.{length}
use borrow.Author.Tests.{eq-eqb, ne_eqb, lt-ltb, ltb-true, ltb-false}
use Rattle.model.specs.declared.Rule.{Rule}
use Rattle.model.specs.Answer.{Outcome, answer, refused, coded}
use Rattle.model.specs.Disk.{block}
use Rattle.model.specs.Cyclic.{cyclic}
use Rattle.model.specs.Test.{File}
use Rattle.file_format.specs.Bytes.{disk_length}
use Rattle.file_format.specs.File.{read_of}
use Rattle.file_reader.proofs.CallerLaws.{holding-limits}
use Rattle.rule_cyclelaws.proofs.CyclicLaws.{true-cyclic, cyclic-true}
use Rattle.model.specs.Check.{damaged}
use Rattle.model.proofs.CheckLaws.{damaged-true, true-damaged}
use Rattle.log_get.specs.Get.{head_of, tail_of, LogGets, get_from, get_of, value_code, get_code, get_answer}
use Rattle.log_get.proofs.Theorems.{highest}
use Rattle.cache_model.specs.State.{state_size}
use Rattle.cache_model.specs.Sound.{Sound, sound}
use Rattle.cache_model.specs.Calls.{Held, Left, left, open_with, open_of, hand_in_of}
use Rattle.cache_statelaws.proofs.SoundLaws.{sound-true, true-sound}
use Rattle.cache_soundlaws.specs.Theorem.{Opening, Unchanged}
use Rattle.cache_soundlaws.proofs.OpenLaws.{opens}
use Rattle.cache_soundlaws.proofs.RefusalLaws.{refuses, turns_down}
use Rattle.run_laws.specs.Book.{Book, Kind, opening, hand_in, step, drain, get}
use Rattle.run_laws.specs.Run.{Call, call, Lent, own, other, asks_sound, lent_if, state_lent, disk_lent, Wrong, Unsound, is_own, OwnLent, WrongLength, UnsoundLent, Unusable, Reads, OpensNone, ListedAs, lent_to, kept_by, valued, called_by, called, is_refused}
use Rattle.run_laws.specs.Gives.{kind_conditions, AnsweredAs, Gives}
use Rattle.run_laws.specs.Theorem.{RefusedOpenings, Widths, Diskless, GetCoded}
use Rattle.run_laws.proofs.GivesLaws.{answer-refused, met, unmet, done, tested_by}

-- ---- lent buffers

-- what is kept of the run's own is what it was
pub kept_same : (l : Lent) (mine : List ℕ) → kept_by l mine (lent_to l mine) ≡ mine
kept_same own mine = refl
kept_same (other x) mine = refl

pub right_length : (n : ℕ) (l : Lent) (mine : List ℕ) → length mine ≡ n → (Wrong n l → ⊥) → length (lent_to l mine) ≡ n
right_length n own mine e w = e
right_length n (other x) mine e w = elim (ℕ_discrete (length x) n) [ yes z ↦ z | no d ↦ absurd (w d) ]

pub wrong_lent : (n : ℕ) (l : Lent) (mine : List ℕ) → Wrong n l → length (lent_to l mine) ≡ n → ⊥
wrong_lent n own mine w e = w
wrong_lent n (other x) mine w e = w e

pub decide_wrong : (n : ℕ) (l : Lent) → Wrong n l ⊎ (Wrong n l → ⊥)
decide_wrong n own = inr (λ w. w)
decide_wrong n (other x) = elim (ℕ_discrete (length x) n) [ yes z ↦ inr (λ w. w z) | no d ↦ inl d ]

pub decide-length : (c : Call) → WrongLength c ⊎ (WrongLength c → ⊥)
decide-length c = ⊎_elim
    (λ w. inl (inl w))
    (λ ns. ⊎_elim (λ w. inl (inr w)) (λ nd. inr (λ w. ⊎_elim ns nd w)) (decide_wrong disk_length (disk_lent c)))
    (decide_wrong state_size (state_lent c))

decide-unsound : (l : Lent) → Unsound l ⊎ (Unsound l → ⊥)
decide-unsound own = inr (λ u. u)
decide-unsound (other x) = go (sound x) refl
  where
    go : (b : Bool) → sound x ≡ b → (Sound x → ⊥) ⊎ ((Sound x → ⊥) → ⊥)
    go true e = inr (λ n. n (sound-true x e))
    go false e = inl (λ s. false≢true (sym e ∙ true-sound x s))

pub decide_soundness : (c : Call) → UnsoundLent c ⊎ (UnsoundLent c → ⊥)
decide_soundness c = decide-unsound (lent_if (asks_sound c.kind) c.state)

pub both_own : (s d : Lent) → (is_own s && is_own d) ≡ true → (s ≡ own) × (d ≡ own)
both_own own own e = (refl, refl)
both_own own (other x) e = absurd (false≢true e)
both_own (other x) d e = absurd (false≢true e)

-- of a call that is listed by its buffers: if none is unusable, they are the run's own
pub own_usable : (c : Call) → OwnLent c ⊎ Unusable c → (WrongLength c → ⊥) → (UnsoundLent c → ⊥) → OwnLent c
own_usable c l n v = ⊎_elim (λ o. o) (λ u. absurd (⊎_elim n v u)) l

pub unsound_lent : (l : Lent) (mine : List ℕ) → Unsound l → Sound (lent_to l mine) → ⊥
unsound_lent own mine u s = u
unsound_lent (other x) mine u s = u s

-- ---- refusals by the buffers

pub outcome_of : {l r : Left} → l ≡ r → l.outcome ≡ r.outcome
outcome_of e = ap (λ (l : Left). l.outcome) e

get-length : (d : List ℕ) (key : ℕ) → (length d ≡ disk_length → ⊥) → get_of d key ≡ refused 14 0
unfolding get_of
get-length d key n = rw (ne_eqb (length d) disk_length n)

-- lent a buffer of another length, whatever the kind
pub by_length : (k : Kind) (s d : Lent) (h : Held) → WrongLength (call k s d) → (called (call k s d) h).outcome ≡ refused 14 0
unfolding called called_by valued
by_length (opening file) s d h w = ⊎_elim (λ v. outcome_of ((opens file _ _).wrong_length (wrong_lent state_size s h.state v))) (λ v. absurd v) w
by_length (hand_in x) s d h w = ⊎_elim (λ v. outcome_of ((turns_down _ _).hand_in_length x (wrong_lent state_size s h.state v))) (λ v. absurd v) w
by_length step s d h w = outcome_of ((turns_down _ _).step-length (⊎_map (wrong_lent state_size s h.state) (wrong_lent disk_length d h.disk) w))
by_length drain s d h w = outcome_of ((turns_down _ _).drain-length (⊎_map (wrong_lent state_size s h.state) (wrong_lent disk_length d h.disk) w))
by_length (get key) s d h w = ⊎_elim (λ v. absurd v) (λ v. ap valued (get-length _ key (wrong_lent disk_length d h.disk v))) w

-- lent an unsound state, whatever the kind
pub by_soundness : (k : Kind) (s d : Lent) (h : Held) → length (lent_to (state_lent (call k s d)) h.state) ≡ state_size
    → length (lent_to (disk_lent (call k s d)) h.disk) ≡ disk_length → UnsoundLent (call k s d) → (called (call k s d) h).outcome ≡ refused 15 0
unfolding called called_by
by_soundness (opening file) s d h a b u = absurd u
by_soundness (hand_in x) s d h a b u = outcome_of ((turns_down _ _).hand_in_unsound x a (unsound_lent s h.state u))
by_soundness step s d h a b u = outcome_of ((turns_down _ _).step-unsound a b (unsound_lent s h.state u))
by_soundness drain s d h a b u = outcome_of ((turns_down _ _).drain-unsound a b (unsound_lent s h.state u))
by_soundness (get key) s d h a b u = absurd u

-- a refused call leaves what it was lent
pub leaves : (k : Kind) (s d : List ℕ) → Unchanged s d (called_by k s d)
unfolding called_by
leaves (opening file) s d = (refuses s d).0 file
leaves (hand_in w) s d = (refuses s d).1 w
leaves step s d = (refuses s d).2
leaves drain s d = (refuses s d).3
leaves (get key) s d = λ n p e. (refl, refl)

-- ---- gets

-- the log gives a key one value
pub gets_one : (d : List ℕ) (key : ℕ) (u v : Option ℕ) → LogGets d key u → LogGets d key v → u ≡ v
gets_one d key u v g h = sym ((highest d key (head_of d) (tail_of d) u).0 g) ∙ (highest d key (head_of d) (tail_of d) v).0 h

-- what a get gives that is lent 1,024 bytes
pub get-gives : (rules : List Rule) (b : Book) (key : ℕ) (d : List ℕ) → length d ≡ disk_length
    → Gives (kind_conditions rules d b (get key)) (AnsweredAs rules d b (get key)) (valued (get_of d key))
unfolding kind_conditions AnsweredAs valued get_of
get-gives rules b key d size =
    let head = head_of d in
    let tail = tail_of d in
    let v = get_from d key head (tail - head) in
    let given = valued (get_of d key) in
    let long = eq-eqb (length d) disk_length size in
    tested_by 21 _ _ _ given (damaged head tail) (damaged-true head tail) (true-damaged head tail) (λ x. rw (long, x))
    (λ x. done _ (value_code v) given (rw (long, x)) (v, (highest d key head tail v).1 refl, refl))

-- ---- openings

-- what an opening gives that is lent 1,024 bytes
pub open_gives : (rules : List Rule) (b : Book) (file s d lent : List ℕ) → length s ≡ state_size
    → Gives (kind_conditions rules lent b (opening file)) (AnsweredAs rules lent b (opening file)) (open_of file s d).outcome
unfolding kind_conditions AnsweredAs
open_gives rules b file s d lent size = read (read_of file) refl
  where
    o : Opening file s d
    o = opens file s d

    that : (g : File) → read_of file ≡ answer g → (P : File → Type 0) → Reads file P → P g
    that g q P x = subst P (let e = x.1 in cc) x.2

    read : (r : Outcome File) → read_of file ≡ r → Gives (kind_conditions rules lent b (opening file)) (AnsweredAs rules lent b (opening file)) (open_of file s d).outcome
    read (refused number place) q = rw (o.unread size number place q) (met _ _ _ number place q)
    read (answer g) q =
        let ring = cyclic-true g.rules (holding-limits file g q).0.known in
        unmet _ _ _ _ (λ i j e. answer-refused (sym q ∙ e))
        (tested_by 22 _ _ _ _ (ltb 0 (length g.tests)) (λ t. (g, q, ltb-true 0 (length g.tests) t)) (λ x. lt-ltb 0 (length g.tests) (that g q _ x))
        (λ t. outcome_of (o.has-tests size g q (ltb-true 0 (length g.tests) t)))
        (λ t. let n : length g.tests ≡ 0 = let l = ltb-false 0 (length g.tests) t in omega arith in
        tested_by 8 _ _ _ _ (cyclic g.rules) (λ u. (g, q, ring u)) (λ x. true-cyclic g.rules (that g q _ x))
        (λ u. outcome_of (o.cyclic size g q n (ring u)))
        (λ u. done _ 0 _ (outcome_of (o.taken size g q n (λ c. false≢true (sym u ∙ true-cyclic g.rules c))).3) refl)))

-- it is refused exactly if the file opens no cache
pub opens-none : (rules : List Rule) (b : Book) (file lent : List ℕ) (o : Outcome ℕ) → Gives (kind_conditions rules lent b (opening file)) (AnsweredAs rules lent b (opening file)) o
    → OpensNone file ↔ (is_refused o ≡ true)
unfolding kind_conditions Gives is_refused
opens-none rules b file lent (answer n) g = (
  (λ x. absurd (⊎_elim (λ r. g.0 r.0 r.1 r.2) (λ y. ⊎_elim (λ t. g.1.0 22 0 (t, refl, refl)) (λ c. g.1.1.0 8 0 (c, refl, refl)) y) x)),
  λ e. absurd (false≢true e),
)
opens-none rules b file lent (refused number place) g = (
  (λ x. refl),
  λ e. ⊎_elim (λ q. inl (number, place, q)) (λ h. inr (⊎_elim (λ t. inl t.0) (λ i. ⊎_elim (λ c. inr c.0) (λ n. absurd n.1) i.1) h.1)) g,
)

-- the openings that are listed are those that are refused
pub refused_openings : RefusedOpenings
unfolding ListedAs is_refused called called_by
refused_openings file mine disk s d size = ⊎_elim
    (λ w. ((λ l. ap is_refused (by_length (opening file) s d (record { state = mine; disk = disk }) w)), λ e. inl w))
    (λ n. ((λ l. (none n).0 (⊎_elim (λ w. absurd (n w)) (λ x. x) l)), λ e. inr ((none n).1 e)))
    (decide-length (call (opening file) s d))
  where
    none : (WrongLength (call (opening file) s d) → ⊥) → OpensNone file ↔ (is_refused (open_of file (lent_to s mine) disk).outcome ≡ true)
    none n = opens-none [] [] file [] _ (open_gives [] [] file (lent_to s mine) disk [] (right_length state_size s mine size (λ w. n (inl w))))

-- ---- hand-in's five values

pub widths : Widths
unfolding block
widths address name epoch first second a n e f s = record { address = a; name = n; epoch = e; block = omega arith }

-- ---- what a get gives

pub get-coded : GetCoded
unfolding get_answer
get-coded disk key = go (get_of disk key)
  where
    go : (o : Outcome (Option ℕ)) → coded (valued o) ≡ get_code o
    go (answer v) = unfold valued coded get_code in refl
    go (refused number place) = unfold valued coded get_code in refl

-- ---- openings and hand-ins take no disk

abbrev beside : List ℕ → Left → Left
beside d l = left l.outcome l.state d

either : (d : List ℕ) (b : Bool) (x y u v : Left) → x ≡ beside d u → y ≡ beside d v → cond b x y ≡ beside d (cond b u v)
either d true x y u v p q = p
either d false x y u v p q = q

open_beside : (s d : List ℕ) (r : Outcome File) → open_with r s d ≡ beside d (open_with r s [])
unfolding open_with
open_beside s d (refused number place) = refl
open_beside s d (answer g) = search either depth 9

pub diskless : Diskless
unfolding open_of hand_in_of
diskless file s d w = (search (either, open_beside) depth 9, search either depth 9)
