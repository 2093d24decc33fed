-- The act is answered that it is done, or memory was wanted.
use Rattle.std.proofs.Common.{◌≡◌, true, sym, subst}
use Rattle.sg_acts.specs.declared.asks.Stamp.{Stamp}
use Rattle.sg_histories.specs.Answers.{accepts}
use Rattle.sg_sample.proofs.Asked.{done_goes, no_other, no_store}
use Rattle.sg_sample.proofs.asking.ask.Goals as goal

pub returns-in-Done : goal.returns-in-Done
returns-in-Done c = done_goes _ _ _ _ _ c.stamp.result c.args.number c.args.act _ c.stamp.ensures c.in-Done.ensures.setup c.in-Done.ensures.turn

pub unreachable-requires : goal.unreachable-requires
unreachable-requires c =
    let taken = c.requires.taken in
    let accepted : accepts c.args.office.now.setup taken.history c.stamp.result c.args.act ≡ true
    = subst (λ (s : Stamp). accepts c.args.office.now.setup taken.history s c.args.act ≡ true) (sym c.stamp.ensures) taken.accepted in
    no_other _ _ _ _ _ c.stamp.result c.args.act c.answer.result taken.history accepted c.in_default.not-Done c.in_default.not-Memory (λ e. no_store (c.answer.ensures.cause e))
    (c.answer.ensures.turn taken.history taken.stands)
