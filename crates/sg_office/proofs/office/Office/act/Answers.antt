use Rattle.std.proofs.Common.{ap, is_none, refl, sym, ◌∙◌}
use Rattle.sg_office.proofs.Turns.{stay_early}
use Rattle.sg_office.proofs.NoStore.{clean_reply, no_store}
use Rattle.sg_histories.specs.Answers.{early_reply}
use Rattle.sg_histories.proofs.Accepted.{accepts_is}
use Rattle.sg_office.proofs.office.Office.act.Goals as goal

pub returns-in-Some-clause-turn : goal.returns-in-Some-clause-turn
returns-in-Some-clause-turn g c = λ history stands.
    stay_early c.args.self.now (g.K.Keeper.tells c.args.keeper.now) (g.K.Keeper.rows c.args.keeper.now) (g.K.Keeper.rows c.args.keeper.now) c.args.stamp.now c.args.act.now c.in-Some.reply history stands
    (λ t. refl) (sym c.in-Some.is ∙ c.in-Ok-early.ensures history stands)

pub returns-in-Some-clause-cause : goal.returns-in-Some-clause-cause
returns-in-Some-clause-cause g c = λ store.
    absurd (no_store c.in-Some.reply (early_reply c.args.self.now.setup c.office_law.ensures.history c.args.stamp.now c.args.act.now)
    (clean_reply c.args.self.now.setup c.office_law.ensures.history c.args.stamp.now c.args.act.now)
    (sym c.in-Some.is ∙ c.in-Ok-early.ensures c.office_law.ensures.history c.office_law.ensures.stands) store)

pub accept-requires-clause-accepted : goal.accept-requires-clause-accepted
accept-requires-clause-accepted g c = λ history stands.
    accepts_is c.args.self.now.setup history c.args.stamp.now c.args.act.now ∙ ap is_none (sym (c.in-Ok-early.ensures history stands) ∙ c.in-None.is)
