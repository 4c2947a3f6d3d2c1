-- The disk: a store on top of the stored writes in order of arrival is the same as the write flagged in its place, because no stored
-- write behind it has its address. And the disk of bytes follows the disk of blocks.
use mathlib.Core.Path.{◌≡◌, refl, sym, ap, subst, subst₂, ◌∙◌}
use mathlib.Core.Logic.{◌≢◌, ◌⊎◌, inl, inr, ⊎_elim}
use mathlib.Core.Bool.{Bool, true, false, cond, false≢true}
use mathlib.Core.List.{List, [], ◌∷◌, ◌++◌}
use Prim.Native.Nat.{ℕ, zero, suc, ◌+◌, ◌*◌, ◌/◌, ◌%◌, ◌^◌, ◌≤◌, ◌<◌}
use native.Mathlib.Decide.{ℕ_discrete, dec_lt}
use native.Mathlib.Nat.{div-one, lt_of_lt_of_le}
use lib.Pow.{pow_mono}
use native.Mathlib.Omega.{arith}
use lib.Dec.{eqb}
use lib.ListN.{length, get_or, set, length-set, length-append, get_or-append}
use lib.Seq.{sets, set_comm, get_or-set_same, get_or-set_other, ext_get_or}
use borrow.Author.Tests.{lt-ltb, le-ltb}
use Rattle.relation.specs.Bits.{bit}
use Rattle.relation.specs.Lists.{tabulate}
use Rattle.relation.proofs.BitLaws.{bit-suc, bit_mask, mask_below}
use Rattle.relation.proofs.ListLaws.{length-tabulate, get_or_tabulate}
use Rattle.model.specs.declared.Write.{Write}
use Rattle.model.specs.declared.Rule.{Rule}
use Rattle.model.specs.Limits.{disk_blocks}
use Rattle.model.specs.Rules.{DependsOn, label_of}
use Rattle.model.specs.Check.{Consistent}
use Rattle.model.specs.Test.{Test, initial_disk, disk_after, TestHolds}
use Rattle.model.specs.Schedule.{no_write, write_at, label_at, store, run, Valid}
use Rattle.file_format.specs.Bytes.{byte, half, word, bytes4, block_length, disk_length, block_in, blocks_of}
use Rattle.file_format.specs.Encode.{WriteFits}
use Rattle.file_format.proofs.ByteLaws.{number}
use Rattle.cache_model.specs.State.{stored_on}
use Rattle.cache_model.specs.Entries.{entry, accepted, flag_at, flagging}
use Rattle.cache_statelaws.proofs.GeneralLaws.{sets_out, sets_in}
use Rattle.cache_statelaws.proofs.EntryLaws.{length-accepted, accepted-at, flag-below}
use Rattle.cache_soundlaws.proofs.KeepLaws.{length-stored}
use Rattle.run_laws.specs.Book.{Book, applied, schedule_of, Begins}
use Rattle.run_laws.specs.Theorem.{NoneBeyond}
use Rattle.run_laws.proofs.BookLaws.{Lawful, needs-by-address, needs-by-rule}

-- ---- stores to different places commute

sets-set_comm : (vs l : List ℕ) (k i x : ℕ) → (k < i) ⊎ (i + length vs ≤ k) → sets (set l k x) i vs ≡ set (sets l i vs) k x
sets-set_comm [] l k i x h = refl
sets-set_comm (v ∷ vs) l k i x h =
    let ne : k ≢ i = ⊎_elim (λ (a : k < i). let d : k ≢ i = omega arith in d) (λ (a : i + length (v ∷ vs) ≤ k). let d : k ≢ i = omega arith in d) h in
    rw (set_comm l k i x v ne)
    (sets-set_comm vs (set l i v) k (suc i) x (⊎_elim (λ (a : k < i). inl (omega arith)) (λ (a : i + length (v ∷ vs) ≤ k). inr (omega arith)) h))

sets-sets_comm : (vs ws l : List ℕ) (i j : ℕ) → (i + length vs ≤ j) ⊎ (j + length ws ≤ i) → sets (sets l i vs) j ws ≡ sets (sets l j ws) i vs
sets-sets_comm [] ws l i j h = refl
sets-sets_comm (v ∷ vs) ws l i j h =
    sets-sets_comm vs ws (set l i v) (suc i) j (⊎_elim (λ (a : i + length (v ∷ vs) ≤ j). inl (omega arith)) (λ (a : j + length ws ≤ i). inr (omega arith)) h)
    ∙ ap (λ (m : List ℕ). sets m (suc i) vs)
    (sets-set_comm ws l i j v (⊎_elim (λ (a : i + length (v ∷ vs) ≤ j). inl (omega arith)) (λ (a : j + length ws ≤ i). inr (omega arith)) h))

stored_comm : (d : List ℕ) (w v : Write) → w.address ≢ v.address → stored_on (stored_on d w) v ≡ stored_on (stored_on d v) w
unfolding stored_on
stored_comm d w v ne =
    sets-sets_comm (bytes4 w.block) (bytes4 v.block) d (block_length * w.address) (block_length * v.address)
    (elim (dec_lt w.address v.address) [ yes l ↦ inl (omega arith) | no g ↦ inr (omega arith) ])

-- a store goes past stored writes to other addresses
past : (b : Book) (d : List ℕ) (w : Write) → ((j : ℕ) → flag_at b j ≡ true → (get_or b j (entry no_write false)).write.address ≢ w.address)
    → applied b (stored_on d w) ≡ stored_on (applied b d) w
unfolding applied flag_at
past [] d w h = refl
past (e ∷ b) d w h = go e.flag refl (past b (stored_on d e.write) w (λ j. h (suc j))) (past b d w (λ j. h (suc j)))
  where
    go : (f : Bool) → e.flag ≡ f → applied b (stored_on (stored_on d e.write) w) ≡ stored_on (applied b (stored_on d e.write)) w
        → applied b (stored_on d w) ≡ stored_on (applied b d) w
        → applied b (cond f (stored_on (stored_on d w) e.write) (stored_on d w)) ≡ stored_on (applied b (cond f (stored_on d e.write) d)) w
    go true q x y = ap (applied b) (sym (stored_comm d e.write w (h 0 q))) ∙ x
    go false q x y = y

-- the heart: a write flagged late equals one store on top
on_top : (b : Book) (d : List ℕ) (i : ℕ) → i < length b → flag_at b i ≡ false
    → ((j : ℕ) → i < j → flag_at b j ≡ true → (get_or b j (entry no_write false)).write.address ≢ (get_or b i (entry no_write false)).write.address)
    → applied (flagging (suc i) b) d ≡ stored_on (applied b d) (get_or b i (entry no_write false)).write
unfolding applied flagging flag_at
on_top [] d i h q n = absurd (omega arith)
on_top (e ∷ b) d zero h q n = rw q (past b d e.write (λ j. n (suc j) (omega arith)))
on_top (e ∷ b) d (suc i) h q n = on_top b (cond e.flag (stored_on d e.write) d) i (omega arith) q (λ j l. n (suc j) (omega arith))

pub applied-flagging : (rules : List Rule) (b : Book) (d : List ℕ) (i : ℕ) → Lawful rules b → i < length b → flag_at b i ≡ false
    → applied (flagging (suc i) b) d ≡ stored_on (applied b d) (write_at (accepted b) i)
applied-flagging rules b d i f h q =
    on_top b d i h q later ∙ ap (stored_on (applied b d)) (sym (accepted-at b i))
  where
    later : (j : ℕ) → i < j → flag_at b j ≡ true → (get_or b j (entry no_write false)).write.address ≢ (get_or b i (entry no_write false)).write.address
    later j l p e =
        let hj : j < length (accepted b) = subst (λ (n : ℕ). j < n) (sym (length-accepted b)) (flag-below b j p) in
        let hi : i < length (accepted b) = subst (λ (n : ℕ). i < n) (sym (length-accepted b)) h in
        let same : (write_at (accepted b) i).address ≡ (write_at (accepted b) j).address = ap (λ (w : Write). w.address) (accepted-at b i) ∙ sym e ∙ sym (ap (λ (w : Write). w.address) (accepted-at b j)) in
        false≢true (sym q ∙ f.fine.closed j i p (needs-by-address rules (accepted b) j i hj hi l same))

-- ---- a valid schedule

bit-schedule : (b : Book) (i : ℕ) → i < length b → bit (schedule_of b) i ≡ flag_at b i
unfolding schedule_of
bit-schedule b i h = bit_mask (flag_at b) (length b) i ∙ rw (lt-ltb i (length b) h)

bit_beyond : (b : Book) (i : ℕ) → length b ≤ i → bit (schedule_of b) i ≡ false
unfolding schedule_of
bit_beyond b i h = bit_mask (flag_at b) (length b) i ∙ rw (le-ltb i (length b) h)

pub valid-book : (rules : List Rule) (b : Book) → Lawful rules b → Valid rules (accepted b) (schedule_of b)
unfolding Valid
valid-book rules b f i j hi hj p d =
    let bi : i < length b = subst (λ (n : ℕ). i < n) (length-accepted b) hi in
    let bj : j < length b = subst (λ (n : ℕ). j < n) (length-accepted b) hj in
    bit-schedule b j bj ∙ f.fine.closed i j (sym (bit-schedule b i bi) ∙ p) (needs-by-rule rules (accepted b) i j hi hj d)

-- ---- bytes and blocks

module _ (d : List ℕ) (w : Write) (size : length d ≡ disk_length) (fits : WriteFits w) where
  block_same : block_in (stored_on d w) w.address ≡ w.block
  unfolding block_in stored_on word half
  block_same =
      let a = fits.address in
      let room : block_length * w.address + block_length ≤ length d = omega arith in
      let z : block_length * w.address ≡ block_length * w.address + 0 = omega arith in
      let y : block_length * w.address + 2 + 1 ≡ block_length * w.address + 3 = omega arith in
      let b0 : byte (sets d (block_length * w.address) (bytes4 w.block)) (block_length * w.address) ≡ w.block / 16777216 % 256 = subst (λ (k : ℕ). byte (sets d (block_length * w.address) (bytes4 w.block)) k ≡ w.block / 16777216 % 256) (sym z) (sets_in 0 (bytes4 w.block) d (block_length * w.address) 0 (omega arith) room) in
      rw (b0, sets_in 0 (bytes4 w.block) d (block_length * w.address) 1 (omega arith) room, sets_in 0 (bytes4 w.block) d (block_length * w.address) 2 (omega arith) room, y, sets_in 0 (bytes4 w.block) d (block_length * w.address) 3 (omega arith) room)
      (number w.block fits.block)

  block_else : (k : ℕ) → k ≢ w.address → block_in (stored_on d w) k ≡ block_in d k
  unfolding block_in stored_on word half
  block_else k ne = rw (first, at 1 (omega arith), at 2 (omega arith), last)
    where
      outside : (j : ℕ) → j < block_length → (block_length * k + j < block_length * w.address) ⊎ (block_length * w.address + block_length ≤ block_length * k + j)
      outside j h = elim (dec_lt k w.address) [ yes l ↦ inl (omega arith) | no g ↦ inr (let n : k ≢ w.address = ne in omega arith) ]

      at : (j : ℕ) → j < block_length → byte (sets d (block_length * w.address) (bytes4 w.block)) (block_length * k + j) ≡ byte d (block_length * k + j)
      at j h = sets_out 0 (bytes4 w.block) d (block_length * w.address) (block_length * k + j) (outside j h)

      first : byte (sets d (block_length * w.address) (bytes4 w.block)) (block_length * k) ≡ byte d (block_length * k)
      first = let z : block_length * k + 0 ≡ block_length * k = omega arith in subst (λ (x : ℕ). byte (sets d (block_length * w.address) (bytes4 w.block)) x ≡ byte d x) z (at 0 (omega arith))

      last : byte (sets d (block_length * w.address) (bytes4 w.block)) (block_length * k + 2 + 1) ≡ byte d (block_length * k + 2 + 1)
      last = let z : block_length * k + 2 + 1 ≡ block_length * k + 3 = omega arith in rw z (at 3 (omega arith))

  pub blocks_stored : blocks_of (stored_on d w) ≡ store w (blocks_of d)
  unfolding blocks_of store
  blocks_stored =
      ext_get_or 0 (tabulate (block_in (stored_on d w)) disk_blocks) (set (tabulate (block_in d) disk_blocks) w.address w.block)
      (length-tabulate (block_in (stored_on d w)) disk_blocks ∙ sym (length-set (tabulate (block_in d) disk_blocks) w.address w.block ∙ length-tabulate (block_in d) disk_blocks))
      (λ k h. block k (subst (λ (n : ℕ). k < n) (length-tabulate (block_in (stored_on d w)) disk_blocks) h))
    where
      block : (k : ℕ) → k < disk_blocks → get_or (tabulate (block_in (stored_on d w)) disk_blocks) k 0 ≡ get_or (set (tabulate (block_in d) disk_blocks) w.address w.block) k 0
      block k h =
          get_or_tabulate (block_in (stored_on d w)) disk_blocks k 0 h
          ∙ elim (ℕ_discrete k w.address) [
            | yes z ↦ rw z (block_same ∙ sym (get_or-set_same (tabulate (block_in d) disk_blocks) w.address w.block 0 (rw (length-tabulate (block_in d) disk_blocks) fits.address)))
            | no n ↦ block_else k n ∙ sym (get_or-set_other (tabulate (block_in d) disk_blocks) w.address k w.block 0 n ∙ get_or_tabulate (block_in d) disk_blocks k 0 h)
          ]

pub length-applied : (b : Book) (d : List ℕ) → length (applied b d) ≡ length d
unfolding applied
length-applied [] d = refl
length-applied (e ∷ b) d = length-applied b (cond e.flag (stored_on d e.write) d) ∙ go e.flag
  where
    go : (f : Bool) → length (cond f (stored_on d e.write) d) ≡ length d
    go true = length-stored d e.write
    go false = refl

-- ---- the disk of the schedule that the flags are

low_bit : (s : ℕ) → bit s 0 ≡ eqb (s % 2) 1
unfolding bit
low_bit s = rw (div-one s)

run_cons : (w : Write) (ws : List Write) (s : ℕ) (d : List ℕ) → run (w ∷ ws) s d ≡ run ws (s / 2) (cond (eqb (s % 2) 1) (store w d) d)
unfolding run
run_cons w ws s d = refl

run-book : (b : Book) (d : List ℕ) (s : ℕ) → length d ≡ disk_length → ((j : ℕ) → j < length b → WriteFits (get_or b j (entry no_write false)).write)
    → ((i : ℕ) → i < length b → bit s i ≡ flag_at b i) → run (accepted b) s (blocks_of d) ≡ blocks_of (applied b d)
unfolding applied flag_at
run-book [] d s size fits h = unfold run in refl
run-book (e ∷ b) d s size fits h =
    run_cons e.write (accepted b) s (blocks_of d)
    ∙ ap (λ (f : Bool). run (accepted b) (s / 2) (cond f (store e.write (blocks_of d)) (blocks_of d))) (sym (low_bit s) ∙ h 0 (omega arith))
    ∙ (go e.flag (λ x q. run-book b x (s / 2) q (λ j l. fits (suc j) (omega arith)) (λ i l. sym (bit-suc s i) ∙ h (suc i) (omega arith))))
  where
    go : (f : Bool) → ((x : List ℕ) → length x ≡ disk_length → run (accepted b) (s / 2) (blocks_of x) ≡ blocks_of (applied b x))
        → run (accepted b) (s / 2) (cond f (store e.write (blocks_of d)) (blocks_of d)) ≡ blocks_of (applied b (cond f (stored_on d e.write) d))
    go true ih = ap (run (accepted b) (s / 2)) (sym (blocks_stored d e.write size (fits 0 (omega arith)))) ∙ ih (stored_on d e.write) (length-stored d e.write ∙ size)
    go false ih = ih d size

run_none : (ws : List Write) (s : ℕ) (d : List ℕ) → ((i : ℕ) → bit s i ≡ false) → run ws s d ≡ d
unfolding run
run_none [] s d h = refl
run_none (w ∷ ws) s d h = rw (sym (low_bit s) ∙ h 0) (run_none ws (s / 2) d (λ i. sym (bit-suc s i) ∙ h (suc i)))

run-front : (ws rest : List Write) (s : ℕ) (d : List ℕ) → ((i : ℕ) → length ws ≤ i → bit s i ≡ false) → run (ws ++ rest) s d ≡ run ws s d
unfolding run
run-front [] rest s d h = run_none rest s d (λ i. h i (omega arith))
run-front (w ∷ ws) rest s d h = run-front ws rest (s / 2) (cond (eqb (s % 2) 1) (store w d) d) (λ i l. sym (bit-suc s i) ∙ h (suc i) (omega arith))

-- ---- the disk left is consistent

label-front : (ws rest : List Write) (i : ℕ) → i < length ws → label_at (ws ++ rest) i ≡ label_at ws i
label-front ws rest i h = ap label_of (get_or-append ws rest no_write i h)

pub consistent-left : (rules : List Rule) (b : Book) (disk : List ℕ) → Lawful rules b → length disk ≡ disk_length
    → (t : Test) → blocks_of disk ≡ initial_disk t → Begins (accepted b) t.main → TestHolds rules t → NoneBeyond rules b t.main
    → Consistent t.checks (blocks_of (applied b disk))
unfolding Begins TestHolds NoneBeyond
consistent-left rules b disk f size t start begins holds beyond =
    subst (Consistent t.checks) same (holds (schedule_of b) below valid)
  where
    valid-at : (i j : ℕ) → i < length b → j < length b → bit (schedule_of b) i ≡ true → DependsOn rules (label_at (accepted b) i) (label_at (accepted b) j) → bit (schedule_of b) j ≡ true
    valid-at i j bi bj p d = bit-schedule b j bj ∙ f.fine.closed i j (sym (bit-schedule b i bi) ∙ p) (needs-by-rule rules (accepted b) i j (subst (λ (n : ℕ). i < n) (sym (length-accepted b)) bi) (subst (λ (n : ℕ). j < n) (sym (length-accepted b)) bj) d)

    ws : List Write
    ws = accepted b

    rest : List Write
    rest = begins.0

    short : length b ≤ length t.main
    short = let a = ap length begins.1 in let c = length-append (accepted b) begins.0 in let e = length-accepted b in omega arith

    mask : schedule_of b < 2 ^ length b
    mask = unfold schedule_of in mask_below (flag_at b) (length b)

    below : schedule_of b < 2 ^ length t.main
    below = lt_of_lt_of_le mask (pow_mono {i = length b} {j = length t.main} short)

    front : (i : ℕ) → i < length b → label_at t.main i ≡ label_at (accepted b) i
    front i h = ap (λ (m : List Write). label_at m i) begins.1 ∙ label-front (accepted b) begins.0 i (subst (λ (n : ℕ). i < n) (sym (length-accepted b)) h)

    valid : Valid rules t.main (schedule_of b)
    valid = unfold Valid in λ i j hi hj p d. elim (dec_lt i (length b)) [
      | no ge ↦ absurd (false≢true (sym (bit_beyond b i (omega arith)) ∙ p))
      | yes bi ↦ elim (dec_lt j (length b)) [
        | yes bj ↦ valid-at i j bi bj p (subst₂ (DependsOn rules) (front i bi) (front j bj) d)
        | no ge ↦ absurd (beyond i j bi (sym (bit-schedule b i bi) ∙ p) (omega arith) hj d)
      ]
    ]

    same : disk_after t (schedule_of b) ≡ blocks_of (applied b disk)
    same =
        ap (λ (m : List Write). run m (schedule_of b) (initial_disk t)) begins.1
        ∙ ap (run (accepted b ++ begins.0) (schedule_of b)) (sym start)
        ∙ run-front (accepted b) begins.0 (schedule_of b) (blocks_of disk) (λ i l. bit_beyond b i (subst (λ (n : ℕ). n ≤ i) (length-accepted b) l))
        ∙ run-book b disk (schedule_of b) size f.fits (bit-schedule b)
