-- The theorems of get, from the laws of `get_from`: a range that is empty or reversed has no addresses, any other is head + n.
use mathlib.Core.Path.{◌≡◌, refl, ap, subst}
use mathlib.Core.Bool.{Bool, true, false, cond, not, false≢true}
use mathlib.Core.List.{List}
use mathlib.Core.Option.{Option, none}
use Prim.Native.Nat.{ℕ, ◌+◌, ◌-◌}
use native.Mathlib.Omega.{arith}
use native.Mathlib.Decide.{dec_lt}
use lib.Dec.{eqb}
use lib.ListN.{length}
use borrow.Author.Tests.{eq-eqb}
use Rattle.model.specs.Answer.{Outcome, answer, refused}
use Rattle.model.specs.Check.{damaged}
use Rattle.model.proofs.CheckLaws.{damaged-true, true-damaged}
use Rattle.file_format.specs.Bytes.{disk_length}
use Rattle.log_get.specs.Get.{Gets, head_of, tail_of, get_from, get_of}
use Rattle.log_get.specs.Theorem.{Highest, GetAnswers, RefusedGets}
use Rattle.log_get.proofs.GetLaws.{get_from_gets, gets_one}

gets_range : (disk : List ℕ) (key head tail : ℕ) → Gets disk key head tail (get_from disk key head (tail - head))
gets_range disk key head tail = elim (dec_lt tail head) [
  | yes lt ↦ (let e : tail - head ≡ 0 = omega arith in rw e (unfold Gets get_from in λ a l h. absurd (omega arith)))
  | no ge ↦ (let e : head + (tail - head) ≡ tail = omega arith in subst (λ (t : ℕ). Gets disk key head t (get_from disk key head (tail - head))) e (get_from_gets disk key head (tail - head)))
]

pub highest : Highest
highest disk key head tail v = (
  (λ g. gets_one disk key head tail (get_from disk key head (tail - head)) v (gets_range disk key head tail) g),
  λ e. subst (Gets disk key head tail) e (gets_range disk key head tail),
)

-- an answer behind two refusals
unfoldable is_answer : Outcome (Option ℕ) → Bool
is_answer (answer v) = true
is_answer (refused number place) = false

unfoldable value_in : Outcome (Option ℕ) → Option ℕ
value_in (answer v) = v
value_in (refused number place) = none

behind : (b c : Bool) (n m : ℕ) (u v : Option ℕ) → cond b (refused n 0) (cond c (refused m 0) (answer u)) ≡ answer v → (c ≡ false) × (u ≡ v)
unfolding is_answer value_in
behind true c n m u v e = absurd (false≢true (ap is_answer e))
behind false true n m u v e = absurd (false≢true (ap is_answer e))
behind false false n m u v e = (refl, ap value_in e)

-- what an answer tells
answered : (disk : List ℕ) (key : ℕ) (v : Option ℕ) → get_of disk key ≡ answer v
    → (damaged (head_of disk) (tail_of disk) ≡ false) × (get_from disk key (head_of disk) (tail_of disk - head_of disk) ≡ v)
unfolding get_of
answered disk key v e = behind (not (eqb (length disk) disk_length)) (damaged (head_of disk) (tail_of disk)) 14 21 (get_from disk key (head_of disk) (tail_of disk - head_of disk)) v e

pub answered_undamaged : (disk : List ℕ) (key : ℕ) (v : Option ℕ) → get_of disk key ≡ answer v → damaged (head_of disk) (tail_of disk) ≡ false
answered_undamaged disk key v e = (answered disk key v e).0

pub get-answers : GetAnswers
get-answers disk key v e = (highest disk key (head_of disk) (tail_of disk) v).1 (answered disk key v e).1

pub refused_gets : RefusedGets
unfolding get_of
refused_gets d key e =
    let head = head_of d in
    let tail = tail_of d in
    rw (eq-eqb (length d) disk_length e) (
      (λ q. damaged-true head tail (stands (damaged head tail) (get_from d key head (tail - head)) q)),
      λ p. rw (true-damaged head tail p),
    )
  where
    stands : (x : Bool) (v : Option ℕ) → cond x (refused 21 0) (answer v) ≡ refused 21 0 → x ≡ true
    stands true v q = refl
    stands false v q = absurd (let z : ◌≡◌ {A = ℕ} 0 1 = cc in omega arith)
