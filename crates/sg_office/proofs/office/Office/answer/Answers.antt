use Rattle.std.proofs.Common.{refl, sym, subst}
use Rattle.sg_acts.specs.declared.asks.Ask.{Ask}
use Rattle.sg_histories.specs.Standing.{Turned}
use Rattle.sg_histories.specs.declared.kept.Kept.{Kept}
use Rattle.sg_office.proofs.Turns.{stay_look}
use Rattle.sg_office.proofs.office.Office.answer.Goals as goal

pub returns-in-Ok-clause-turn : goal.returns-in-Ok-clause-turn
returns-in-Ok-clause-turn g c = λ history stands.
    let tells = g.K.Keeper.tells c.args.keeper.now in
    let rows = g.K.Keeper.rows c.args.keeper.now in
    subst (λ (k : Kept). Turned c.args.self.now k tells rows rows c.args.ask.now c.in-Ok.reply history) (sym c.look.ensures.same)
    (subst (λ (a : Ask). Turned c.args.self.now c.args.self.now tells rows rows a c.in-Ok.reply history) (sym c.in-See.is)
    (stay_look c.args.self.now tells rows rows c.in-See.look c.in-Ok.reply history stands (λ t. refl) c.in-Ok.ensures.reply))
