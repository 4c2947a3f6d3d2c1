-- `judge_settled::Setting::ask` meets its contract. By the last write to the question's block that may be flagged: none, a chosen one, or a free one.
use mathlib.Core.Path.{refl}
use Rattle.judge_settled.proofs.SettledLaws.{ask_base, ask_last, ask_rest, ask_open, ask_alike}
use Rattle.judge_settled.proofs.Setting.ask.Goals as goal

pub returns-then-may-eq0 : goal.returns-then-may-eq0
returns-then-may-eq0 g c =
    ask_base _ _ _ _ _ _ _ _ _ (λ own. g.met.Q.Question.by_block c.args.question _ _ _ own) c.address-a.ensures.0 c.address-a.ensures.1 _ _ c.args.self.now.ready refl _ c.with.ensures c.if-may-eq0.true

pub returns-then-has_bit : goal.returns-then-has_bit
returns-then-has_bit g c =
    ask_last _ _ _ _ _ _ _ _ _ (λ own. g.met.Q.Question.by_block c.args.question _ _ _ own) c.address-a.ensures.0 c.address-a.ensures.1 _ _ c.args.self.now.ready refl _ c.highest-h.ensures.0 _ _ _ c.with-first.ensures c.has_bit.ensures c.if-has_bit.true c.block_of.ensures

pub returns-then-not-is_definite : goal.returns-then-not-is_definite
returns-then-not-is_definite g c =
    ask_open _ _ _ _ _ _ _ _ _ (λ own. g.met.Q.Question.by_block c.args.question _ _ _ own) c.address-a.ensures.0 c.address-a.ensures.1 _ _ c.args.self.now.ready refl _ c.highest-h.ensures.0 _ c.has_bit.ensures c.if-has_bit.false

pub are_alike-requires-clause-set : goal.are_alike-requires-clause-set
are_alike-requires-clause-set g c =
    ask_rest _ _ _ _ _ c.args.asked.chosen c.args.asked.free _ _ (λ own. g.met.Q.Question.by_block c.args.question _ _ _ own) c.address-a.ensures.0 c.address-a.ensures.1 _ _ c.args.self.now.ready refl c.highest-h.result c.highest-h.ensures.0 _ c.without.ensures

pub returns-then-are_alike : goal.returns-then-are_alike
returns-then-are_alike g c =
    ask_alike _ _ _ _ _ _ _ _ _ (λ own. g.met.Q.Question.by_block c.args.question _ _ _ own) c.address-a.ensures.0 c.address-a.ensures.1 _ _ c.args.self.now.ready refl _ c.highest-h.ensures.0 _ _ _ _ c.block_of.ensures c.with-first.ensures c.without.ensures c.are_alike.ensures c.if-are_alike.true

pub returns : goal.returns
returns g c =
    ask_open _ _ _ _ _ _ _ _ _ (λ own. g.met.Q.Question.by_block c.args.question _ _ _ own) c.address-a.ensures.0 c.address-a.ensures.1 _ _ c.args.self.now.ready refl _ c.highest-h.ensures.0 _ c.has_bit.ensures c.if-has_bit.false
