-- By what was cut, and what the office answered.
use Rattle.std.proofs.Common.{◌+◌, ◌-◌, ap, refl, subst, sym, arith}
use Rattle.sg_histories.specs.declared.kept.Kept.{Kept}
use Rattle.sg_histories.specs.Standing.{StandsFor}
use Rattle.sg_clerk.proofs.LineAsks.{came-at, line-replied}
use Rattle.sg_clerk.proofs.talk.LineAsksAsker.ask.Goals as goal

pub returns-then-self-eq0-clause-asks : goal.returns-then-self-eq0-clause-asks
returns-then-self-eq0-clause-asks g c = λ history start first exchanges stands came.
    record {
      stands = stands;
      rows_are = refl;
      counts = refl;
      over = c.end_behind.ensures.ends _ exchanges (came-at _ c.args.self.now.left 0 _ _ exchanges (omega (arith, c.if-self-eq0.true)) came);
    }

pub returns-in-Err-clause-asks : goal.returns-in-Err-clause-asks
returns-in-Err-clause-asks g c = λ history start first exchanges stands came.
    record {
      stands = stands;
      rows_are = refl;
      counts = refl;
      over = c.in-Err.ensures.cuts _ (c.args.self.now.left - 1) exchanges
          (came-at _ c.args.self.now.left (c.args.self.now.left - 1 + 1) _ _ exchanges (omega (arith, c.if-self-eq0.false)) came);
    }

pub returns-in-Ok-answer_to-clause-asks : goal.returns-in-Ok-answer_to-clause-asks
returns-in-Ok-answer_to-clause-asks g c = λ history start first exchanges stands came.
    let answered = c.in-Ok-answer_to.ensures in
    line-replied c.cut_ask.new.lines (c.args.self.now.left - 1) _ _ c.text.result.now c.in-Ok-answer_to.answer _ c.answer_to.new.office _ _ _ _ _ history exchanges c.text.ensures
    (answered.answers history stands) answered.stores
    (c.in-Ok.ensures.cuts _ (c.args.self.now.left - 1) exchanges
    (came-at _ c.args.self.now.left (c.args.self.now.left - 1 + 1) _ _ exchanges (omega (arith, c.if-self-eq0.false)) came))

pub returns-in-Err-answer_to-clause-asks : goal.returns-in-Err-answer_to-clause-asks
returns-in-Err-answer_to-clause-asks g c = λ history start first exchanges stands came.
    let same = c.in-Err-answer_to.ensures.err in
    let cuts = c.in-Ok.ensures.cuts _ (c.args.self.now.left - 1) exchanges
    (came-at _ c.args.self.now.left (c.args.self.now.left - 1 + 1) _ _ exchanges (omega (arith, c.if-self-eq0.false)) came) in
    record {
      stands = subst (λ (o : Kept). StandsFor o history) (sym same.0) stands;
      rows_are = ap (λ (k : g.row.K.Denot). g.K.Keeper.rows k) same.1;
      counts = ap (λ (k : g.row.K.Denot). g.K.Keeper.faults k) same.1;
      over = cuts.lost;
    }
