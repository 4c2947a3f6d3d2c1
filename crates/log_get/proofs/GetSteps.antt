-- The steps of get, in the code's terms.
use mathlib.Core.Path.{◌≡◌, refl, sym, ap, ◌∙◌}
use mathlib.Core.Option.{Option, none, some}
use mathlib.Core.Bool.{Bool, true, false}
use mathlib.Core.List.{List}
use Prim.Native.Nat.{ℕ, suc, ◌+◌, ◌-◌, ◌*◌, ◌≤◌, ◌<◌}
use native.Mathlib.Omega.{arith}
use lib.Dec.{eqb}
use lib.ListN.{length}
use borrow.Author.Rules.{rules}
use borrow.Author.Tests.{eq-eqb, ne_eqb}
use Rattle.relation.proofs.Cases.{told}
use Rattle.model.specs.Limits.{disk_blocks}
use Rattle.model.specs.Answer.{refusal}
use Rattle.model.specs.Disk.{empty, first_of, second_of}
use Rattle.model.specs.Check.{damaged}
use Rattle.model.proofs.CheckLaws.{undamaged_ordered, undamaged_inside}
use Rattle.file_format.specs.Bytes.{word, block_length, disk_length, block_in}
use Rattle.log_get.specs.Get.{keyed, get_from, get_of, value_code, get_code, get_answer}

pub block-word : (d : List ℕ) (a r : ℕ) → r ≡ word d (block_length * a) → r ≡ block_in d a
unfolding block_in
block-word d a r e = e

module _ (d : List ℕ) (key a b : ℕ) (e : b ≡ block_in d a) where
  pub key-empty : b ≡ 0 → false ≡ keyed d key a
  unfolding keyed empty
  key-empty z = rw (eq-eqb (block_in d a) 0 (sym e ∙ z))

  pub key-first : (f : ℕ) → (b ≡ 0 → ⊥) → f ≡ first_of b → eqb f key ≡ keyed d key a
  unfolding keyed empty
  key-first f n q = rw (q, e, ne_eqb (block_in d a) 0 (λ (z : block_in d a ≡ 0). n (e ∙ z)))

-- the addresses from head up to a are still to be seen
module _ (d : List ℕ) (key head tail a : ℕ) where
  pub seen_start : get_from d key head (tail - head) ≡ get_from d key head (tail - head)
  seen_start = refl

  pub seen_inside : (x : ℕ) → damaged head tail ≡ false → head < a → a ≤ tail → x ≡ a - 1 → x < disk_blocks
  seen_inside x u h l z = undamaged_inside head tail x u (omega arith) (omega arith)

  before : head < a → a - head ≡ suc (a - 1 - head)
  before h = omega arith

  last : head < a → head + (a - 1 - head) ≡ a - 1
  last h = omega arith

  pub seen_found : (x b v : ℕ) (t : Bool) (all : Option ℕ) → head < a → x ≡ a - 1 → get_from d key head (a - head) ≡ all → t ≡ keyed d key x → t ≡ true → b ≡ block_in d x → v ≡ second_of b
      → some v ≡ all
  unfolding get_from
  seen_found x b v t all h z g e q p s =
      let k : keyed d key (head + (a - 1 - head)) ≡ true = rw (last h, ← z) (sym e ∙ q) in
      let w : block_in d (head + (a - 1 - head)) ≡ b = rw (last h, ← z) (sym p) in
      let y : some (second_of b) ≡ all = rw (before h, k, w) at g in
      ap some s ∙ y

  pub seen_next : (x : ℕ) (t : Bool) (all : Option ℕ) → head < a → x ≡ a - 1 → get_from d key head (a - head) ≡ all → t ≡ keyed d key x → t ≡ false → get_from d key head (x - head) ≡ all
  unfolding get_from
  seen_next x t all h z g e q =
      let k : keyed d key (head + (a - 1 - head)) ≡ false = rw (last h, ← z) (sym e ∙ q) in
      rw z (rw (before h, k) at g)

  pub seen_all : (all : Option ℕ) → a ≤ head → get_from d key head (a - head) ≡ all → none ≡ all
  unfolding get_from
  seen_all all h g =
      let z : a - head ≡ 0 = omega arith in
      rw z at g

module _ (d : List ℕ) (key r : ℕ) where
  pub get-length : (length d ≡ disk_length → ⊥) → r ≡ refusal 14 0 → r ≡ get_answer d key
  unfolding get_answer get_code get_of
  get-length n e = rw (ne_eqb (length d) disk_length n) e

  module _ (b head tail : ℕ) (size : length d ≡ disk_length) (eb : b ≡ block_in d 0) (eh : head ≡ first_of b) (et : tail ≡ second_of b) where
    module _ (t : Bool) (ed : t ≡ damaged head tail) where
      pub get-damaged : t ≡ true → r ≡ refusal 21 0 → r ≡ get_answer d key
      unfolding get_answer get_code get_of
      get-damaged h e = rw (eq-eqb (length d) disk_length size, ← eb, ← eh, ← et, ← ed, h) e

      get-found : (v : Option ℕ) → t ≡ false → v ≡ get_from d key head (tail - head) → value_code v ≡ get_answer d key
      unfolding get_answer get_code get_of
      get-found v h e = rw (eq-eqb (length d) disk_length size, ← eb, ← eh, ← et, ← ed, h) (ap value_code e)

      pub get-some : (v : ℕ) → t ≡ false → some v ≡ get_from d key head (tail - head) → v ≡ get_answer d key
      unfolding value_code
      get-some v h e = get-found (some v) h e

      pub get-none : t ≡ false → none ≡ get_from d key head (tail - head) → 65536 ≡ get_answer d key
      unfolding value_code
      get-none h e = get-found none h e

pub ruleset gets = (rules, block-word, key-empty, key-first, seen_start, undamaged_ordered, seen_inside, seen_found, seen_next, seen_all, get-length, get-damaged, get-some, get-none, told)
