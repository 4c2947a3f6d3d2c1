-- Runs that meet every hypothesis of the claim, with calls of every kind. One is cut inside a drain, with two puts of a longer test K stored and
-- a write waiting, and its disk is consistent. K8, K9 and K11 of the bench sheet are runs too; K8's shows that the claim's last hypothesis is needed.
-- The last has names of one byte and of two.
use mathlib.Core.Path.{◌≡◌, refl, sym, ap, subst, ◌∙◌}
use mathlib.Core.Bool.{Bool, true, false, not, ◌&&◌, false≢true}
use mathlib.Core.List.Memᴰ
use mathlib.Core.List.{List, [], ◌∷◌, ◌++◌, Memᴰ}
use mathlib.Core.Logic.{inl, inr, ⊎_elim}
use Prim.{tt}
use Prim.Native.Nat.{ℕ, ◌+◌, ◌*◌, ◌<◌}
use native.Mathlib.Omega.{arith}
use lib.ListN.{length, take, drop, replicate, get_or-replicate}
use lib.Dec.{leb}
use borrow.Author.Tests.{le-leb}
use Rattle.relation.specs.Bits.{bit, with_bit, mask_of}
use Rattle.relation.specs.Lists.{any, all, any_below, all_below, tabulate}
use Rattle.relation.proofs.ListLaws.{all_below-true, tabulate_ext}
use Rattle.relation.specs.Finite.{related, rows_of, joined, round, closed, loops, has_ring}
use Rattle.model.specs.declared.Rule.{Rule}
use Rattle.model.specs.declared.Write.{Write}
use Rattle.model.specs.declared.Check.TheVariants.{Range}
use Rattle.model.specs.Limits.{disk_blocks}
use Rattle.model.specs.Answer.{Outcome, answer, refused}
use Rattle.model.specs.Disk.{block, first_of, second_of, empty, empty_disk}
use Rattle.model.specs.Rules.{stands, matches, DependsOn, depends_on, known}
use Rattle.model.specs.Cyclic.{no_rule, leads, has, equal_leads, meets, cyclic}
use Rattle.model.specs.Schedule.{store, run, written, no_write, valid, label_at}
use Rattle.model.specs.Check.{damaged, range_holds, holds, consistent, Consistent}
use Rattle.model.specs.Test.{Test, test, file, initial_disk, bad, count_below, bad_count, TestHolds}
use Rattle.model.proofs.RuleLaws.{depends_on-true, true-depends_on}
use Rattle.model.proofs.CheckLaws.{true-consistent}
use Rattle.model.proofs.TestLaws.{count-holds}
use Rattle.file_format.specs.Bytes.{half, word, block_length, disk_length, block_in, blocks_of, wide_write_bytes, wide_rule_bytes}
use Rattle.file_format.specs.File.{is_tag, is_wide, kind_of, is_rule, is_check, body_length, narrow_rule, wide_rule, rule_of, narrow_write, wide_write, write_of, counts_of, out_of_order, over_test, over_limit, rule_fault, body_fault, fault_of, grown, finished, read_from, nothing, read_of}
use Rattle.file_reader.proofs.CallerLaws.{holding-limits}
use Rattle.rule_cyclelaws.proofs.CyclicLaws.{cyclic-true}
use Rattle.log_get.specs.Puts.{Put, writes_of, put_writes, after_all, log_test, start as start_log, after as after_put}
use Rattle.log_get.specs.Get.{keyed, get_from, get_of, value_code}
use Rattle.model.specs.Needs.{needs, needs_ring, met, ready_from, ready, late}
use Rattle.cache_model.specs.Entries.{entry, accepted, flag_at, flag_count, waiting_in, appended, flagging}
use Rattle.cache_model.specs.State.{rule_in, write_in, rules_in, writes_in, stored_in, entries_in, bytes_each, entry_bytes, front, back, state_of, opened, handed, marked, stored_on}
use Rattle.cache_model.specs.Sound.{Sound, same, layout, ruled, needs_hold, sound}
use Rattle.cache_model.specs.Calls.{open_with, open_of, given, hand_in_of, storing, checked, stepped, step_of, steps_of, drained, drain_of}
use Rattle.run_laws.specs.Book.{Book, opening, hand_in, step, drain, get, step_entered, steps_entered, entered, noted, Begins}
use Rattle.run_laws.specs.Run.{Call, call, on_own, Lent, own, other, ListedAs, Listed, valued, called_by, called, own_after, is_refused, Moment, next, after, counted_as, counted, passed, inner, moments}
use Rattle.run_laws.specs.Theorem.{Safe, NoneBeyond, begun, Demand3}
use Rattle.cache_statelaws.proofs.SoundLaws.{sound-clauses}
use Rattle.cache_soundlaws.proofs.KeepLaws.{length-stored}
use Rattle.run_laws.proofs.DiskLaws.{blocks_stored}
use Rattle.run_laws.proofs.CallLaws.{widths}
use Rattle.run_laws.proofs.MomentLaws.{passed-after, cut_inside, cut_after}
use Rattle.run_laws.proofs.RunLaws.{demand3, steps_after}

-- ---- a run: what the claim asks of it, and what it computes

-- the buffer that is lent to the opening
pub blank : List ℕ
blank = replicate 1024 0

-- where the run of a file on a disk begins
abbrev pub start : List ℕ → List ℕ → Moment
start bytes disk = begun (open_of bytes blank disk).state disk

infixr 20 ◌also◌
abbrev Each : List Call → Type 0
Each cs = (c : Call) → Memᴰ c cs → Listed c

none : Each []
none c m = absurd (Memᴰ.not-nil m)

◌also◌ : {c : Call} {cs : List Call} → Listed c → Each cs → Each (c ∷ cs)
◌also◌ {c} l ls d m = ⊎_elim (λ (e : d ≡ c). subst Listed (sym e) l) (λ i. ls d i) (Memᴰ.cases_cons m)

together : {cs ds : List Call} → Each cs → Each ds → Each (cs ++ ds)
together {cs} ls rs c m = ⊎_elim (λ i. ls c i) (λ i. rs c i) (Memᴰ.append_cases cs m)

-- the hypotheses of `Demand3`
pub record Run (bytes : List ℕ) (rules : List Rule) (disk : List ℕ) (calls : List Call) : Type 0 where
  reads : read_of bytes ≡ answer (file rules [])
  opens : (open_of bytes blank disk).outcome ≡ answer 0
  size : length disk ≡ disk_length
  listed : Each calls

-- what the claim says of every cut
safe : {bytes : List ℕ} {rules : List Rule} {disk : List ℕ} {calls : List Call} → Run bytes rules disk calls
    → (m : Moment) → Memᴰ m (moments rules calls (start bytes disk)) → Safe rules disk m
unfolding Demand3
safe {bytes} {rules} {disk} {calls} r = (demand3 bytes blank disk (file rules []) calls r.reads r.opens r.size r.listed).0

-- what the calls give
unfoldable pub gave : List Rule → List Call → Moment → List (Outcome ℕ)
unfolding next called called_by own_after is_refused noted entered appended step_entered steps_entered waiting_in flagging flag_at opened bytes_each wide_rule_bytes open_of open_with hand_in_of step_of stepped drain_of drained steps_of checked storing late sound ruled needs_hold layout same state_of front back entries_in flag_count known cyclic meets equal_leads has leads no_rule has_ring loops closed round joined rows_of related count_below met needs needs_ring ready_from ready rules_in writes_in stored_in rule_in write_in handed marked stored_on entry_bytes wide_write_bytes block valued get_of damaged get_from keyed value_code block_in empty first_of second_of is_tag is_wide kind_of is_rule is_check body_length narrow_rule wide_rule rule_of narrow_write wide_write write_of counts_of out_of_order over_test over_limit rule_fault body_fault fault_of grown finished read_from nothing read_of half word no_write depends_on matches stands bit with_bit mask_of all_below any_below any all tabulate blank
gave rules [] m = []
gave rules (c ∷ cs) m = (called c m.held).outcome ∷ gave rules cs (next rules c m)

-- ---- calls of every kind are listed

-- K's main puts, (1,81) and (2,37), and two more, (3,5) and (4,60): each a log block and the superblock
abbrev pub log1 : Write
log1 = given 2 1 1 1 81

abbrev pub superblock1 : Write
superblock1 = given 0 2 1 1 3

abbrev pub log2 : Write
log2 = given 3 1 2 2 37

abbrev pub superblock2 : Write
superblock2 = given 0 2 2 1 4

abbrev pub log3 : Write
log3 = given 4 1 3 3 5

abbrev pub superblock3 : Write
superblock3 = given 0 2 3 1 5

abbrev pub log4 : Write
log4 = given 5 1 4 4 60

abbrev pub superblock4 : Write
superblock4 = given 0 2 4 1 6

hand_in_listed : (address name epoch first second : ℕ) → address < 256 → name < 65536 → epoch < 4294967296 → first < 65536 → second < 65536
    → Listed (on_own (hand_in (given address name epoch first second)))
unfolding ListedAs
hand_in_listed address name epoch first second a n e f s = (widths address name epoch first second a n e f s, inl refl)

log1_listed : Listed (on_own (hand_in log1))
log1_listed = hand_in_listed 2 1 1 1 81 (omega arith) (omega arith) (omega arith) (omega arith) (omega arith)

superblock1_listed : Listed (on_own (hand_in superblock1))
superblock1_listed = hand_in_listed 0 2 1 1 3 (omega arith) (omega arith) (omega arith) (omega arith) (omega arith)

log2_listed : Listed (on_own (hand_in log2))
log2_listed = hand_in_listed 3 1 2 2 37 (omega arith) (omega arith) (omega arith) (omega arith) (omega arith)

superblock2_listed : Listed (on_own (hand_in superblock2))
superblock2_listed = hand_in_listed 0 2 2 1 4 (omega arith) (omega arith) (omega arith) (omega arith) (omega arith)

log3_listed : Listed (on_own (hand_in log3))
log3_listed = hand_in_listed 4 1 3 3 5 (omega arith) (omega arith) (omega arith) (omega arith) (omega arith)

pub step-listed : Listed (on_own step)
unfolding ListedAs
step-listed = inl refl

pub drain-listed : Listed (on_own drain)
unfolding ListedAs
drain-listed = inl refl

-- a step that is lent no disk
pub other_length : Listed (call step own (other []))
unfolding ListedAs
other_length = inr (inl (inr (λ e. omega arith)))

-- a drain that is lent an unsound state
pub ones : List ℕ
ones = replicate 1024 1

pub unsound-state : Listed (call drain (other ones) own)
unfolding ListedAs ones
unsound-state = inr (inr (λ (s : Sound ones). let e : ◌≡◌ {A = ℕ} 1 0 = (sound-clauses ones s).third in omega arith))

-- openings: of a file of one byte, of a file with a test, of the rule (1,=,1), and of a file that opens a cache, lent no state
pub one_byte : List ℕ
one_byte = 3 ∷ []

pub with_test : List ℕ
with_test = 7 ∷ 0 ∷ 0 ∷ []

pub cyclic_rule : List ℕ
cyclic_rule = 3 ∷ 0 ∷ 3 ∷ 1 ∷ 0 ∷ 1 ∷ []

pub log_bytes : List ℕ
log_bytes = 3 ∷ 0 ∷ 3 ∷ 2 ∷ 0 ∷ 1 ∷ 3 ∷ 0 ∷ 3 ∷ 2 ∷ 1 ∷ 2 ∷ []

pub unread-opening : Listed (on_own (opening one_byte))
unfolding ListedAs one_byte gave
unread-opening = inr (inl (1, 0, refl))

pub opening_with_test : Listed (on_own (opening with_test))
unfolding ListedAs with_test gave
opening_with_test = inr (inr (inl (_, refl, omega arith)))

pub cyclic-opening : Listed (on_own (opening cyclic_rule))
unfolding ListedAs cyclic_rule gave
cyclic-opening = inr (inr (inr (_, refl, cyclic-true _ (holding-limits cyclic_rule _ refl).0.known refl)))

pub other-length-opening : Listed (call (opening log_bytes) (other []) own)
unfolding ListedAs
other-length-opening = inl (inl (λ e. omega arith))

-- gets: of any disk
pub get-listed : (key : ℕ) (d : Lent) → Listed (call (get key) own d)
unfolding ListedAs
get-listed key d = tt

-- (1,257): the log goes past the disk
pub past_disk : List ℕ
past_disk = 0 ∷ 1 ∷ 1 ∷ 1 ∷ replicate 1020 0

-- (6,3): a head past its tail
pub reversed_disk : List ℕ
reversed_disk = 0 ∷ 6 ∷ 0 ∷ 3 ∷ replicate 1020 0

-- ---- test K under the log's rules

pub rules : List Rule
rules = record { first = 2; predicate = 0; second = 1 } ∷ record { first = 2; predicate = 1; second = 2 } ∷ []

log-read : read_of log_bytes ≡ answer (file rules [])
unfolding log_bytes rules gave
log-read = refl

log-state : (d : List ℕ) → (open_of log_bytes blank d).state ≡ opened rules
unfolding log_bytes rules gave
log-state d = refl

log-opens : (d : List ℕ) → (open_of log_bytes blank d).outcome ≡ answer 0
unfolding log_bytes gave
log-opens d = refl

abbrev put : ℕ → ℕ → Put
put key value = record { key = key; value = value }

-- test K with two main puts more
pub longer : Test
longer = log_test (put 0 42 ∷ []) (put 1 81 ∷ put 2 37 ∷ put 3 5 ∷ put 4 60 ∷ [])

-- its initial disk, which is K's
pub disk : List ℕ
disk = 0 ∷ 1 ∷ 0 ∷ 2 ∷ 0 ∷ 0 ∷ 0 ∷ 42 ∷ replicate 1016 0

abbrev log0 : Write
log0 = given 1 1 0 0 42

abbrev superblock0 : Write
superblock0 = given 0 2 0 1 2

twice_stored : disk ≡ stored_on (stored_on blank log0) superblock0
unfolding disk blank stored_on block
twice_stored = refl

-- by laws: to compute 256 blocks of 1,024 bytes takes seconds
zero-block : (i : ℕ) → i < disk_blocks → block_in blank i ≡ 0
unfolding blank block_in word half
zero-block i h =
    rw (
      get_or-replicate {A = ℕ} 1024 (block_length * i) 0 0 (omega arith),
      get_or-replicate {A = ℕ} 1024 (block_length * i + 1) 0 0 (omega arith),
      get_or-replicate {A = ℕ} 1024 (block_length * i + 2) 0 0 (omega arith),
      get_or-replicate {A = ℕ} 1024 (block_length * i + 2 + 1) 0 0 (omega arith),
    )

blank_blocks : blocks_of blank ≡ empty_disk
unfolding blocks_of
blank_blocks = tabulate_ext (block_in blank) (λ i. 0) disk_blocks zero-block ∙ unfold tabulate empty_disk in refl

initial_blocks : blocks_of (stored_on (stored_on blank log0) superblock0) ≡ store superblock0 (store log0 empty_disk)
initial_blocks =
    let size : length blank ≡ disk_length = unfold blank in refl in
    blocks_stored (stored_on blank log0) superblock0 (length-stored blank log0 ∙ size) (widths 0 2 0 1 2 (omega arith) (omega arith) (omega arith) (omega arith) (omega arith))
    ∙ ap (store superblock0)
    (blocks_stored blank log0 size (widths 1 1 0 0 42 (omega arith) (omega arith) (omega arith) (omega arith) (omega arith)) ∙ ap (store log0) blank_blocks)

pub initial : blocks_of disk ≡ initial_disk longer
unfolding longer log_test writes_of put_writes start_log block initial_disk written
initial = ap blocks_of twice_stored ∙ initial_blocks

-- what a test computes
unfoldable bads : List Rule → Test → ℕ
unfolding bad_count count_below valid bad consistent holds range_holds damaged run written store initial_disk empty_disk no_write depends_on matches stands bit all_below any all empty first_of second_of
bads rules t = bad_count rules t

pub holds_longer : TestHolds rules longer
unfolding rules longer log_test writes_of put_writes after_all after_put start_log block bads
holds_longer = count-holds rules longer refl

-- the first two puts and a block of the third are handed in, with refused calls between, and drained; a step then finds nothing to store. The gets
-- find nothing before the drain, and the second put's value after it; of other disks they are refused
pub handing : List Call
handing =
    on_own (opening one_byte) ∷ on_own (hand_in log1) ∷ on_own (opening with_test) ∷ on_own (opening cyclic_rule) ∷ call step own (other []) ∷ on_own (hand_in superblock1)
    ∷ call (opening log_bytes) (other []) own ∷ call drain (other ones) own ∷ on_own (get 2) ∷ on_own (hand_in log2) ∷ on_own (hand_in superblock2) ∷ on_own (hand_in log3) ∷ []

handing_listed : Each handing
unfolding handing
handing_listed =
    unread-opening also log1_listed also opening_with_test also cyclic-opening also other_length also superblock1_listed also other-length-opening
    also unsound-state also get-listed 2 own also log2_listed also superblock2_listed also log3_listed also none

pub calls : List Call
calls = handing ++ (on_own drain ∷ on_own (get 2) ∷ call (get 2) own (other []) ∷ call (get 2) own (other past_disk) ∷ on_own step ∷ [])

pub run-K : Run log_bytes rules disk calls
unfolding disk calls
run-K =
    record {
      reads = log-read;
      opens = log-opens disk;
      size = refl;
      listed = together handing_listed (drain-listed also get-listed 2 own also get-listed 2 (other []) also get-listed 2 (other past_disk) also step-listed also none);
    }

pub gave-K : gave rules calls (start log_bytes disk)
    ≡ refused 1 0 ∷ answer 1 ∷ refused 22 0 ∷ refused 8 0 ∷ refused 14 0 ∷ answer 2 ∷ refused 14 0 ∷ refused 15 0 ∷ answer 65536 ∷ answer 3 ∷ answer 4
    ∷ answer 5 ∷ answer 5 ∷ answer 37 ∷ refused 14 0 ∷ refused 21 0 ∷ answer 0 ∷ []
unfolding gave rules disk calls handing one_byte with_test cyclic_rule ones past_disk
gave-K = ap (λ (s : List ℕ). gave rules calls (begun s disk)) (log-state disk)

-- the supply is cut after four of the drain's five steps: two puts are stored, the third's block waits
pub handed_in : Moment
handed_in = after rules handing (start log_bytes disk)

pub cut : Moment
cut = after rules (replicate 4 (on_own step)) handed_in

pub book : Book
book = entry log1 true ∷ entry superblock1 true ∷ entry log2 true ∷ entry superblock2 true ∷ entry log3 false ∷ []

handed-book : handed_in.book ≡ entry log1 false ∷ entry superblock1 false ∷ entry log2 false ∷ entry superblock2 false ∷ entry log3 false ∷ []
unfolding handed_in after gave rules disk handing one_byte with_test cyclic_rule ones
handed-book = ap (λ (s : List ℕ). (after rules handing (begun s disk)).book) (log-state disk)

five_wait : waiting_in handed_in.book ≡ 5
unfolding waiting_in count_below flag_at
five_wait = ap waiting_in handed-book

pub cut_book : cut.book ≡ book
unfolding cut handed_in book rules gave
cut_book = steps_after log_bytes blank disk (file rules []) handing log-read (log-opens disk) (unfold disk in refl) handing_listed 4 ∙ ap (steps_entered rules 4) handed-book

-- the drain counts as five steps
pub counted-drain : counted rules (on_own drain) handed_in ≡ replicate 5 (on_own step)
unfolding counted_as
counted-drain = ap (λ (n : ℕ). replicate n (on_own step)) five_wait

pub cut_inside-drain : Memᴰ cut (moments rules calls (start log_bytes disk))
unfolding cut handed_in calls
cut_inside-drain = cut_inside rules handing _ (on_own drain) (start log_bytes disk) _ inside
  where
    inside : Memᴰ (after rules (replicate 4 (on_own step)) handed_in) (inner rules (on_own drain) handed_in)
    inside = unfold inner in rw counted-drain (passed-after rules (replicate 4 (on_own step)) (on_own step ∷ []) handed_in)

begins : Begins (accepted book) longer.main
unfolding Begins book longer log_test writes_of put_writes after_all after_put start_log block
begins = (superblock3 ∷ log4 ∷ superblock4 ∷ [], refl)

-- a stored write has dependencies: the second superblock depends on the first and on its log block
pub stored_depends : (flag_at book 3 ≡ true) × DependsOn rules (label_at longer.main 3) (label_at longer.main 1) × DependsOn rules (label_at longer.main 3) (label_at longer.main 2)
unfolding book longer rules gave log_test writes_of put_writes after_all after_put start_log
stored_depends = (refl, depends_on-true rules _ _ refl, depends_on-true rules _ _ refl)

-- `NoneBeyond`, computed
unfoldable none_beyond : List Rule → Book → List Write → Bool
none_beyond rules b trace = all_below (λ i. all_below (λ j. not (flag_at b i && (leb (length b) j && depends_on rules (label_at trace i) (label_at trace j)))) (length trace)) (length b)

none_beyond_true : (rules : List Rule) (b : Book) (trace : List Write) → none_beyond rules b trace ≡ true → NoneBeyond rules b trace
unfolding none_beyond NoneBeyond
none_beyond_true rules b trace e i j h f l k d =
    let p = all_below-true _ (length trace) (all_below-true _ (length b) e i h) j k in
    false≢true (rw (f, le-leb (length b) j l, true-depends_on rules _ _ d) at p)

none-beyond : NoneBeyond rules book longer.main
unfolding none_beyond book longer rules gave log_test writes_of put_writes after_all after_put start_log
none-beyond = none_beyond_true rules book longer.main refl

-- so the disk left is consistent
pub consistent-K : Consistent longer.checks (blocks_of cut.held.disk)
consistent-K =
    (safe run-K cut cut_inside-drain).consistent longer initial (subst (λ (b : Book). Begins (accepted b) longer.main) (sym cut_book) begins) holds_longer
    (subst (λ (b : Book). NoneBeyond rules b longer.main) (sym cut_book) none-beyond)

-- ---- a get of the run's own disk

-- refused while block 0 has a head past its tail, and not once a superblock is stored; refused too on another disk, whose log goes past its end
pub damaged_first : List Call
damaged_first = on_own (get 1) ∷ call (get 1) own (other past_disk) ∷ on_own (hand_in superblock1) ∷ on_own (get 1) ∷ on_own step ∷ on_own (get 1) ∷ []

pub run-damaged : Run log_bytes rules reversed_disk damaged_first
unfolding reversed_disk damaged_first
run-damaged =
    record {
      reads = log-read;
      opens = log-opens reversed_disk;
      size = refl;
      listed = get-listed 1 own also get-listed 1 (other past_disk) also superblock1_listed also get-listed 1 own also step-listed also get-listed 1 own also none;
    }

pub gave-damaged : gave rules damaged_first (start log_bytes reversed_disk) ≡ refused 21 0 ∷ refused 21 0 ∷ answer 1 ∷ refused 21 0 ∷ answer 1 ∷ answer 65536 ∷ []
unfolding gave rules damaged_first reversed_disk past_disk
gave-damaged = ap (λ (s : List ℕ). gave rules damaged_first (begun s reversed_disk)) (log-state reversed_disk)

-- ---- K8, K9, K11 of the bench sheet as runs

-- the superblock stored before its log block is handed in
pub too_late : List Call
too_late = on_own (hand_in superblock1) ∷ on_own step ∷ on_own (hand_in log1) ∷ []

pub run-K8 : Run log_bytes rules disk too_late
unfolding disk too_late
run-K8 = record { reads = log-read; opens = log-opens disk; size = refl; listed = superblock1_listed also step-listed also log1_listed also none }

pub K8 : gave rules too_late (start log_bytes disk) ≡ answer 1 ∷ answer 1 ∷ refused 17 0 ∷ []
unfolding gave rules too_late disk
K8 = ap (λ (s : List ℕ). gave rules too_late (begun s disk)) (log-state disk)

-- the test whose main trace is those two writes in the order they are handed in. It holds
pub swapped : Test
swapped = test longer.initial (superblock1 ∷ log1 ∷ []) (Range 0 ∷ [])

-- the moment after the step
pub stored-K8 : Moment
stored-K8 = after rules (on_own (hand_in superblock1) ∷ on_own step ∷ []) (start log_bytes disk)

pub cut_K8 : Memᴰ stored-K8 (moments rules too_late (start log_bytes disk))
unfolding stored-K8 too_late
cut_K8 = cut_after rules (on_own (hand_in superblock1) ∷ on_own step ∷ []) (on_own (hand_in log1) ∷ []) (start log_bytes disk)

-- every hypothesis for a consistent disk is met there but the last, and the disk is not consistent
pub record Inconsistent (rules : List Rule) (disk : List ℕ) (t : Test) (m : Moment) : Type 0 where
  initial : blocks_of disk ≡ initial_disk t
  begins : Begins (accepted m.book) t.main
  holds : TestHolds rules t
  beyond : NoneBeyond rules m.book t.main → ⊥
  inconsistent : Consistent t.checks (blocks_of m.held.disk) → ⊥

K8-book : stored-K8.book ≡ entry superblock1 true ∷ []
unfolding stored-K8 after gave rules disk
K8-book = ap (λ (s : List ℕ). (after rules (on_own (hand_in superblock1) ∷ on_own step ∷ []) (begun s disk)).book) (log-state disk)

K8-disk : consistent swapped.checks (blocks_of stored-K8.held.disk) ≡ false
unfolding stored-K8 swapped after gave bads rules disk blocks_of
K8-disk = ap (λ (s : List ℕ). consistent swapped.checks (blocks_of (after rules (on_own (hand_in superblock1) ∷ on_own step ∷ []) (begun s disk)).held.disk)) (log-state disk)

swapped_holds : TestHolds rules swapped
unfolding rules swapped longer log_test writes_of put_writes after_all after_put start_log block bads
swapped_holds = count-holds rules swapped refl

swapped_beyond : NoneBeyond rules (entry superblock1 true ∷ []) swapped.main → ⊥
unfolding NoneBeyond swapped rules gave
swapped_beyond n = n 0 1 (omega arith) refl (omega arith) (omega arith) (depends_on-true rules _ _ refl)

pub inconsistent_K8 : Inconsistent rules disk swapped stored-K8
unfolding swapped initial_disk
inconsistent_K8 =
    record {
      initial = initial;
      begins = unfold Begins in (log1 ∷ [], rw K8-book);
      holds = swapped_holds;
      beyond = λ n. swapped_beyond (subst (λ (b : Book). NoneBeyond rules b swapped.main) K8-book n);
      inconsistent = λ c. false≢true (sym K8-disk ∙ true-consistent (blocks_of stored-K8.held.disk) swapped.checks c);
    }

-- both handed in before a step
pub in_time : List Call
in_time = on_own (hand_in superblock1) ∷ on_own (hand_in log1) ∷ on_own step ∷ []

pub run-K9 : Run log_bytes rules blank in_time
unfolding blank in_time
run-K9 = record { reads = log-read; opens = log-opens blank; size = refl; listed = superblock1_listed also log1_listed also step-listed also none }

pub K9 : gave rules in_time (start log_bytes blank) ≡ answer 1 ∷ answer 2 ∷ answer 2 ∷ []
unfolding gave rules in_time
K9 = ap (λ (s : List ℕ). gave rules in_time (begun s blank)) (log-state blank)

-- .. and drained: the drain counts as two steps, and between them the log block is stored and the superblock waits
pub drained_in_time : List Call
drained_in_time = on_own (hand_in superblock1) ∷ on_own (hand_in log1) ∷ on_own drain ∷ []

pub run-K9-drained : Run log_bytes rules blank drained_in_time
unfolding blank drained_in_time
run-K9-drained = record { reads = log-read; opens = log-opens blank; size = refl; listed = superblock1_listed also log1_listed also drain-listed also none }

pub both : Moment
both = after rules (on_own (hand_in superblock1) ∷ on_own (hand_in log1) ∷ []) (start log_bytes blank)

pub between-K9 : Moment
between-K9 = after rules (on_own step ∷ []) both

pub counted-K9 : counted rules (on_own drain) both ≡ on_own step ∷ on_own step ∷ []
unfolding both counted_as after gave rules
counted-K9 = ap (λ (s : List ℕ). counted rules (on_own drain) (after rules (on_own (hand_in superblock1) ∷ on_own (hand_in log1) ∷ []) (begun s blank))) (log-state blank)

pub cut_K9 : Memᴰ between-K9 (moments rules drained_in_time (start log_bytes blank))
unfolding between-K9 both drained_in_time inner
cut_K9 =
    cut_inside rules (on_own (hand_in superblock1) ∷ on_own (hand_in log1) ∷ []) [] (on_own drain) (start log_bytes blank) _
    (subst (λ (cs : List Call). Memᴰ between-K9 (passed rules cs both)) (sym counted-K9) (passed-after rules (on_own step ∷ []) (on_own step ∷ []) both))

pub between-book : between-K9.book ≡ entry superblock1 false ∷ entry log1 true ∷ []
unfolding between-K9 both after gave rules
between-book = ap (λ (s : List ℕ). (after rules (on_own (hand_in superblock1) ∷ on_own (hand_in log1) ∷ on_own step ∷ []) (begun s blank)).book) (log-state blank)

-- the rule (1,<,1)
pub down_bytes : List ℕ
down_bytes = 3 ∷ 0 ∷ 3 ∷ 1 ∷ 2 ∷ 1 ∷ []

pub down_rules : List Rule
down_rules = record { first = 1; predicate = 2; second = 1 } ∷ []

pub downward : List Call
downward = on_own (hand_in (given 5 1 1 0 1)) ∷ on_own (hand_in (given 6 1 2 0 1)) ∷ on_own step ∷ []

down_read : read_of down_bytes ≡ answer (file down_rules [])
unfolding down_bytes down_rules gave
down_read = refl

down_state : (open_of down_bytes blank blank).state ≡ opened down_rules
unfolding down_bytes down_rules gave
down_state = refl

down_opens : (open_of down_bytes blank blank).outcome ≡ answer 0
unfolding down_bytes gave
down_opens = refl

pub run-K11 : Run down_bytes down_rules blank downward
unfolding blank downward
run-K11 =
    record {
      reads = down_read;
      opens = down_opens;
      size = refl;
      listed =
          hand_in_listed 5 1 1 0 1 (omega arith) (omega arith) (omega arith) (omega arith) (omega arith)
          also hand_in_listed 6 1 2 0 1 (omega arith) (omega arith) (omega arith) (omega arith) (omega arith) also step-listed also none;
    }

pub K11 : gave down_rules downward (start down_bytes blank) ≡ answer 1 ∷ answer 2 ∷ answer 2 ∷ []
unfolding gave down_rules downward
K11 = ap (λ (s : List ℕ). gave down_rules downward (begun s blank)) down_state

-- ---- names of one byte and of two (02, [2])

-- the rules (2,=,1), by tag 03, and (258,>,257), by tag 0A. The low bytes of 257 and 258 are 1 and 2
pub names_bytes : List ℕ
names_bytes = 3 ∷ 0 ∷ 3 ∷ 2 ∷ 0 ∷ 1 ∷ 10 ∷ 0 ∷ 5 ∷ 1 ∷ 2 ∷ 1 ∷ 1 ∷ 1 ∷ []

pub names_rules : List Rule
names_rules = record { first = 2; predicate = 0; second = 1 } ∷ record { first = 258; predicate = 1; second = 257 } ∷ []

abbrev pub wide258 : Write
wide258 = given 5 258 2 0 1

abbrev pub wide257 : Write
wide257 = given 6 257 1 0 2

abbrev pub narrow2 : Write
narrow2 = given 9 2 1 0 5

abbrev pub narrow1 : Write
narrow1 = given 7 1 1 0 3

-- 258 needs 257, which is stored first
pub names_begun : List Call
names_begun = on_own (hand_in wide258) ∷ on_own (hand_in wide257) ∷ on_own (hand_in narrow2) ∷ on_own (hand_in narrow1) ∷ on_own step ∷ []

-- then 258, which needs nothing of 1, and then 1, since 2 needs it. Once 258 is stored, a 257 of an earlier epoch is late, and a 1 of that epoch is not.
-- A 2 needs no 257, of its epoch or an earlier one, and a 258 no 1 of its epoch: each is stored while these wait
pub names_then : List Call
names_then =
    on_own step ∷ on_own step ∷ on_own (hand_in (given 8 257 0 0 4)) ∷ on_own (hand_in (given 8 1 0 0 4)) ∷ on_own drain
    ∷ on_own (hand_in (given 10 2 7 0 6)) ∷ on_own (hand_in (given 11 257 7 0 7)) ∷ on_own (hand_in (given 12 257 6 0 8)) ∷ on_own step ∷ on_own drain
    ∷ on_own (hand_in (given 13 258 9 0 9)) ∷ on_own (hand_in (given 14 1 9 0 10)) ∷ on_own step ∷ []

names-read : read_of names_bytes ≡ answer (file names_rules [])
unfolding names_bytes names_rules gave
names-read = refl

names-state : (open_of names_bytes blank blank).state ≡ opened names_rules
unfolding names_bytes names_rules gave
names-state = refl

names-opens : (open_of names_bytes blank blank).outcome ≡ answer 0
unfolding names_bytes gave
names-opens = refl

pub run-names : Run names_bytes names_rules blank (names_begun ++ names_then)
unfolding blank names_begun names_then
run-names =
    record {
      reads = names-read;
      opens = names-opens;
      size = refl;
      listed =
          hand_in_listed 5 258 2 0 1 (omega arith) (omega arith) (omega arith) (omega arith) (omega arith)
          also hand_in_listed 6 257 1 0 2 (omega arith) (omega arith) (omega arith) (omega arith) (omega arith)
          also hand_in_listed 9 2 1 0 5 (omega arith) (omega arith) (omega arith) (omega arith) (omega arith)
          also hand_in_listed 7 1 1 0 3 (omega arith) (omega arith) (omega arith) (omega arith) (omega arith) also step-listed also step-listed also step-listed
          also hand_in_listed 8 257 0 0 4 (omega arith) (omega arith) (omega arith) (omega arith) (omega arith)
          also hand_in_listed 8 1 0 0 4 (omega arith) (omega arith) (omega arith) (omega arith) (omega arith) also drain-listed
          also hand_in_listed 10 2 7 0 6 (omega arith) (omega arith) (omega arith) (omega arith) (omega arith)
          also hand_in_listed 11 257 7 0 7 (omega arith) (omega arith) (omega arith) (omega arith) (omega arith)
          also hand_in_listed 12 257 6 0 8 (omega arith) (omega arith) (omega arith) (omega arith) (omega arith) also step-listed also drain-listed
          also hand_in_listed 13 258 9 0 9 (omega arith) (omega arith) (omega arith) (omega arith) (omega arith)
          also hand_in_listed 14 1 9 0 10 (omega arith) (omega arith) (omega arith) (omega arith) (omega arith) also step-listed also none;
    }

pub gave-names : gave names_rules (names_begun ++ names_then) (start names_bytes blank)
    ≡ answer 1 ∷ answer 2 ∷ answer 3 ∷ answer 4 ∷ answer 2 ∷ answer 1 ∷ answer 4 ∷ refused 17 0 ∷ answer 5 ∷ answer 2
    ∷ answer 6 ∷ answer 7 ∷ answer 8 ∷ answer 6 ∷ answer 2 ∷ answer 9 ∷ answer 10 ∷ answer 9 ∷ []
unfolding gave names_rules names_begun names_then
gave-names = ap (λ (s : List ℕ). gave names_rules (names_begun ++ names_then) (begun s blank)) names-state

-- the supply is cut after the first step
pub begun-names : Moment
begun-names = after names_rules names_begun (start names_bytes blank)

pub begun-book : begun-names.book ≡ entry wide258 false ∷ entry wide257 true ∷ entry narrow2 false ∷ entry narrow1 false ∷ []
unfolding begun-names after gave names_rules names_begun
begun-book = ap (λ (s : List ℕ). (after names_rules names_begun (begun s blank)).book) names-state

pub safe_names : Safe names_rules blank begun-names
unfolding begun-names
safe_names = safe run-names begun-names (cut_after names_rules names_begun names_then (start names_bytes blank))

-- the state's bytes there: counts, two rules of 5 bytes from 4 on, and from 164 on four writes of 12
pub begun-bytes : (take 14 begun-names.held.state ≡ 2 ∷ 4 ∷ 1 ∷ 0 ∷ 0 ∷ 2 ∷ 0 ∷ 0 ∷ 1 ∷ 1 ∷ 2 ∷ 1 ∷ 1 ∷ 1 ∷ [])
    × (take 48 (drop 164 begun-names.held.state)
    ≡ 5 ∷ 1 ∷ 2 ∷ 0 ∷ 0 ∷ 0 ∷ 2 ∷ 0 ∷ 0 ∷ 0 ∷ 1 ∷ 0 ∷ 6 ∷ 1 ∷ 1 ∷ 0 ∷ 0 ∷ 0 ∷ 1 ∷ 0 ∷ 0 ∷ 0 ∷ 2 ∷ 1
    ∷ 9 ∷ 0 ∷ 2 ∷ 0 ∷ 0 ∷ 0 ∷ 1 ∷ 0 ∷ 0 ∷ 0 ∷ 5 ∷ 0 ∷ 7 ∷ 0 ∷ 1 ∷ 0 ∷ 0 ∷ 0 ∷ 1 ∷ 0 ∷ 0 ∷ 0 ∷ 3 ∷ 0 ∷ [])
unfolding begun-names after gave names_rules names_begun
begun-bytes = (
  ap (λ (s : List ℕ). take 14 (after names_rules names_begun (begun s blank)).held.state) names-state,
  ap (λ (s : List ℕ). take 48 (drop 164 (after names_rules names_begun (begun s blank)).held.state)) names-state,
)
