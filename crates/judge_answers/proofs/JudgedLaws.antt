-- From the judge's answer to its code, outcome by outcome.
use mathlib.Core.Path.{◌≡◌}
use Prim.Native.Nat.{ℕ, ◌<◌}
use native.Mathlib.Omega.{arith}
use borrow.Author.Rules.{rules}
use Rattle.std.specs.Prelude.{Option, Result, Ok, Err}
use Rattle.model.specs.declared.Refusal.{Refusal}
use Rattle.model.specs.Limits.{words}
use Rattle.model.specs.Answer.{Outcome, answer, refused, refusal, number_of, outcome}
use Rattle.judge_counting.specs.declared.Judgement.{Judgement}
use Rattle.judge_cases.specs.Judge.{Case, judgement_of, verdict_of, judged_of, decided_of, SmallRefusal, FewNumbers, Few, FewDecided}
use Rattle.judge_answers.specs.Judged.{judgement_code, verdict_code, judge_answer, verdict_answer}

-- what refuses for a cause at a place has that refusal's code, whatever is refused
same_refusal : {A : Type 0} (n p : ℕ) (x : Result A Refusal) (why : Refusal) (r : ℕ) → outcome x ≡ refused n p → x ≡ Err why → r ≡ refusal (number_of why.cause) why.place → r ≡ refusal n p
same_refusal n p x why r h e q =
    let a = rw e at h in
    let z : number_of why.cause ≡ n = cc in
    let y : why.place ≡ p = cc in
    rw (z, y) at q

module _ (x : Result Judgement Refusal) (few : Few x) where
  pub counts-few : (j : Judgement) → x ≡ Ok j → FewNumbers j
  unfolding Few
  counts-few j e = rw e at few

  pub refused-fits : (why : Refusal) → x ≡ Err why → why.place < words
  unfolding Few
  refused-fits why e =
      let h : SmallRefusal why = rw e at few in
      let b = h.1 in
      omega arith

pub judge-counts : (o : Outcome Case) (x : Result Judgement Refusal) (j : Judgement) (r : ℕ) → outcome x ≡ judged_of o → x ≡ Ok j → r ≡ judgement_code j → r ≡ judge_answer o
unfolding judged_of judge_answer
judge-counts (refused n p) x j r h e q = let a = rw e at h in let z : ◌≡◌ {A = ℕ} 0 1 = cc in absurd (omega arith)
judge-counts (answer c) x j r h e q = let a = rw e at h in let z : j ≡ judgement_of c = cc in rw (← z) q

pub judge-refused : (o : Outcome Case) (x : Result Judgement Refusal) (why : Refusal) (r : ℕ) → outcome x ≡ judged_of o → x ≡ Err why → r ≡ refusal (number_of why.cause) why.place → r ≡ judge_answer o
unfolding judged_of judge_answer
judge-refused (refused n p) x why r h e q = same_refusal n p x why r h e q
judge-refused (answer c) x why r h e q = let a = rw e at h in let z : ◌≡◌ {A = ℕ} 0 1 = cc in absurd (omega arith)

module _ (x : Result (Option ℕ) Refusal) (few : FewDecided x) where
  pub decided_few : (v : Option ℕ) → x ≡ Ok v → FewDecided (Ok v)
  decided_few v e = rw e at few

  pub decided_fits : (why : Refusal) → x ≡ Err why → why.place < words
  unfolding FewDecided
  decided_fits why e =
      let h : SmallRefusal why = rw e at few in
      let b = h.1 in
      omega arith

pub verdict_decided : (o : Outcome Case) (x : Result (Option ℕ) Refusal) (v : Option ℕ) (r : ℕ) → outcome x ≡ decided_of o → x ≡ Ok v → r ≡ verdict_code v → r ≡ verdict_answer o
unfolding decided_of verdict_answer
verdict_decided (refused n p) x v r h e q = let a = rw e at h in let z : ◌≡◌ {A = ℕ} 0 1 = cc in absurd (omega arith)
verdict_decided (answer c) x v r h e q = let a = rw e at h in let z : v ≡ verdict_of c = cc in rw (← z) q

pub verdict-refused : (o : Outcome Case) (x : Result (Option ℕ) Refusal) (why : Refusal) (r : ℕ) → outcome x ≡ decided_of o → x ≡ Err why → r ≡ refusal (number_of why.cause) why.place → r ≡ verdict_answer o
unfolding decided_of verdict_answer
verdict-refused (refused n p) x why r h e q = same_refusal n p x why r h e q
verdict-refused (answer c) x why r h e q = let a = rw e at h in let z : ◌≡◌ {A = ℕ} 0 1 = cc in absurd (omega arith)

pub ruleset judged = (rules, counts-few, refused-fits, judge-counts, judge-refused, decided_few, decided_fits, verdict_decided, verdict-refused)
