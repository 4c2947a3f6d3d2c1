-- `judge_settled::Setting::are_alike` meets its contract. The invariant: of the set, those left are still to be looked at.
use Rattle.std.proofs.Common.{rules, ◌≡◌, true}
use Rattle.judge_settled.proofs.SettledLaws.{alike_chosen, alike_more, alike_base, settling}
use Rattle.judge_settled.proofs.Setting.are_alike.Goals as goal

pub returns-then-ne : goal.returns-then-ne
returns-then-ne g c = search settling

pub returns-then-has_bit : goal.returns-then-has_bit
returns-then-has_bit g c =
    let s = c.args.self.now in
    let same : c.with.result ≡ c.args.first = search rules in
    alike_chosen _ _ _ _ _ _ _ _ _ (λ own. g.met.Q.Question.by_block c.args.question _ _ _ own) c.address-a.ensures.0 c.address-a.ensures.1 s.ready.size _ c.requires.definite _ _ _ _ _ c.loop-left.invariant c.highest-h.ensures.0 c.highest-h.ensures.1 c.block_of.ensures c.with.ensures same _ c.has_bit.ensures c.if-has_bit.true

pub loop-left-smaller : goal.loop-left-smaller
loop-left-smaller g c = search settling

pub loop-left-preserved : goal.loop-left-preserved
loop-left-preserved g c =
    let s = c.args.self.now in
    let same : c.with.result ≡ c.args.first = search rules in
    alike_more _ _ _ _ _ _ _ _ _ (λ own. g.met.Q.Question.by_block c.args.question _ _ _ own) c.address-a.ensures.0 c.address-a.ensures.1 s.ready.size _ c.requires.definite _ _ _ _ _ c.loop-left.invariant c.highest-h.ensures.0 c.highest-h.ensures.1 c.block_of.ensures c.with.ensures same _ s.ready.few c.without-left.ensures

pub returns : goal.returns
returns g c =
    let s = c.args.self.now in
    let same : c.eq.result ≡ true → c.with-2.result ≡ c.args.first = λ e. search rules in
    alike_base _ _ _ _ _ _ _ _ _ (λ own. g.met.Q.Question.by_block c.args.question _ _ _ own) c.address-a.ensures.0 c.address-a.ensures.1 s.ready.size _ c.requires.definite _ _ _ _ c.loop-left.invariant (search rules) c.with-2.ensures same
