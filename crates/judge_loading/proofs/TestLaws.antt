-- One write more in the columns; a test put together from its parts.
use mathlib.Core.Path.{◌≡◌, refl, ◌∙◌}
use mathlib.Core.List.{List, [], ◌∷◌}
use Prim.Native.Nat.{ℕ, zero, suc, ◌+◌, ◌-◌, ◌/◌, ◌%◌, ◌^◌, ◌≤◌, ◌<◌}
use native.Mathlib.Nat.{pow-suc}
use native.Mathlib.Numerals.{add-one}
use native.Mathlib.Omega.{arith}
use lib.ListN.{length, get_or, take, set, replicate}
use lib.Pow.{pow_pos}
use lib.Seq.{get_or-set_same, get_or-set_other}
use borrow.Author.Rules.{rules}
use Rattle.relation.proofs.ListLaws.{below_extend, get_or_tabulate}
use Rattle.model.specs.declared.Write.{Write}
use Rattle.model.specs.declared.Check.{Check}
use Rattle.model.specs.Limits.{disk_blocks, most_initial, most_checks}
use Rattle.model.specs.Rules.{label_of}
use Rattle.model.specs.Disk.{empty_disk}
use Rattle.model.specs.Schedule.{no_write, write_at, store, run, written}
use Rattle.model.specs.Test.{initial_disk}
use Rattle.file_format.specs.declared.Extent.{Extent}
use Rattle.file_format.specs.File.{is_write, is_check}
use Rattle.file_format.specs.Scan.{write_field, check_field, field_place, fields_at, writes_at, checks_at, main_place, checks_place, test_at}
use Rattle.file_format.specs.Held.{Fields, Inside}
use Rattle.file_loading.proofs.LoadSteps.{places, fields_length, fields_none, fields_more, fields_all}
use Rattle.judge_disks.specs.Packed.{Packs, Stores, held_from, all_flags, labelled, Labels}
use Rattle.judge_disks.proofs.DiskSteps.{stores_run}
use Rattle.judge_loading.specs.Loaded.{LoadsTest, LoadsChecks}

module _ (s : List ℕ) (from : ℕ) where
  write-here : (n i : ℕ) → i < n → write_at (writes_at s from n) i ≡ write_field s (field_place s from i)
  unfolding fields_at
  write-here n i h = get_or_tabulate (λ j. write_field s (field_place s from j)) n i no_write h

  -- the first i of n writes are in a column, by what it has to say of each
  abbrev pub Stored : ℕ → List ℕ → Type 0
  Stored i column = (j : ℕ) → j < i → Packs (write_field s (field_place s from j)) (get_or column j 0)

  abbrev pub Named : ℕ → List ℕ → Type 0
  Named i column = (j : ℕ) → j < i → labelled (get_or column j 0) ≡ label_of (write_field s (field_place s from j))

  pub stored-none : (column : List ℕ) → Stored 0 column
  stored-none column j h = absurd (omega arith)

  pub named_none : (column : List ℕ) → Named 0 column
  named_none column j h = absurd (omega arith)

  module _ (i n at : ℕ) (column : List ℕ) (w : Write) (p : ℕ) (l : length column ≡ most_initial) (h : i < n) (m : n ≤ most_initial)
      (e : at ≡ field_place s from i) (q : w ≡ write_field s at) where
    other : (j : ℕ) → j < i → get_or (set column i p) j 0 ≡ get_or column j 0
    other j k = get_or-set_other column i j p 0 (λ (z : j ≡ i). absurd (omega arith))

    same : get_or (set column i p) i 0 ≡ p
    same = get_or-set_same column i p 0 (omega arith)

    pub stored_more : Stored i column → Packs w p → Stored (i + 1) (set column i p)
    stored_more f k =
        rw (add-one i)
        (below_extend (λ j. Packs (write_field s (field_place s from j)) (get_or (set column i p) j 0)) i
        (λ j z. rw (other j z) (f j z))
        (rw (same, ← e, ← q) k))

    pub named_more : Named i column → labelled p ≡ label_of w → Named (i + 1) (set column i p)
    named_more f k =
        rw (add-one i)
        (below_extend (λ j. labelled (get_or (set column i p) j 0) ≡ label_of (write_field s (field_place s from j))) i
        (λ j z. rw (other j z) (f j z))
        (rw (same, ← e, ← q) k))

  module _ (i n : ℕ) (column : List ℕ) (h : i ≤ n) (k : n ≤ i) where
    pub stored-all : Stored i column → Stores (writes_at s from n) column
    unfolding Stores
    stored-all f j l =
        let b : j < n = omega (arith, fields_length write_field s from n) in
        rw (write-here n j b) (f j (omega arith))

    pub named_all : Named i column → Labels (writes_at s from n) column
    unfolding Labels
    named_all f j l =
        let b : j < n = omega (arith, fields_length write_field s from n) in
        rw (write-here n j b) (f j (omega arith))

pub ruleset columns = (places, stored-none, named_none, stored_more, named_more, stored-all, named_all)

-- ---- the initial disk: the schedule with every flag set

run-all : (k : ℕ) (ws : List Write) (d : List ℕ) → length ws ≤ k → run ws (2 ^ k - 1) d ≡ written ws d
unfolding run written
run-all k [] d h = refl
run-all zero (w ∷ ws) d h = absurd (omega arith)
run-all (suc k) (w ∷ ws) d h =
    let p = pow_pos k in
    let e = pow-suc 2 k in
    let a : (2 ^ suc k - 1) % 2 ≡ 1 = omega arith in
    let b : (2 ^ suc k - 1) / 2 ≡ 2 ^ k - 1 = omega arith in
    rw (a, b) (run-all k ws (store w d) (omega arith))

-- ---- a test from its parts

module _ (s : List ℕ) (e : Extent) (i : Inside s e) where
  pub initial_fields : Fields is_write s e.at e.initial
  initial_fields = i.initial

  pub main_fields : (at : ℕ) → at ≡ main_place s e → Fields is_write s at e.main
  main_fields at q = rw q i.main

  pub checks_fields : (at m : ℕ) → at ≡ main_place s e → m ≡ field_place s at e.main → Fields is_check s m e.checks
  checks_fields at m q r = rw (r, q) i.checks

  pub initial-few : e.initial ≤ most_initial
  initial-few = i.initial-most

  pub main-few : e.main ≤ most_initial
  main-few = let m = i.main-most in omega arith

  pub checks-few : e.checks ≤ most_checks
  checks-few = i.checks-most

  -- the initial disk by the column of the initial writes
  base-is : (column d : List ℕ) → Stores (writes_at s e.at e.initial) column → d ≡ run (held_from column 0 e.initial) all_flags (replicate disk_blocks 0)
      → d ≡ initial_disk (test_at s e)
  unfolding initial_disk empty_disk test_at
  base-is column d f q =
      q ∙ stores_run column (writes_at s e.at e.initial) e.initial all_flags (replicate disk_blocks 0) f (fields_length write_field s e.at e.initial)
      ∙ run-all 64 (writes_at s e.at e.initial) (replicate disk_blocks 0) (let m = i.initial-most in omega (arith, fields_length write_field s e.at e.initial))

  pub loads : (first base stores labels : List ℕ) (at : ℕ) → at ≡ main_place s e → Stores (writes_at s e.at e.initial) first
      → base ≡ run (held_from first 0 e.initial) all_flags (replicate disk_blocks 0)
      → Stores (writes_at s at e.main) stores → Labels (writes_at s at e.main) labels
      → LoadsTest (test_at s e) (record { base = base; stores = stores; labels = labels; main = e.main; checks = e.checks })
  unfolding test_at
  loads first base stores labels at q f b m l =
      record {
        base = base-is first base f b;
        stores = rw q at m;
        labels = rw q at l;
        main = fields_length write_field s (main_place s e) e.main;
        checks = fields_length check_field s (checks_place s e) e.checks;
        main-most = i.main-most;
        checks-most = i.checks-most;
      }

  pub checks_loaded : (at m : ℕ) (cs : List Check) → at ≡ main_place s e → m ≡ field_place s at e.main → take e.checks cs ≡ checks_at s m e.checks
      → LoadsChecks (test_at s e) cs
  unfolding test_at LoadsChecks
  checks_loaded at m cs q r h = rw (fields_length check_field s (checks_place s e) e.checks) (h ∙ rw (r, q))

pub ruleset tests = (rules, initial_fields, main_fields, checks_fields, initial-few, main-few, checks-few, loads, checks_loaded)

pub ruleset checks = (places, fields_none, fields_more, fields_all)
