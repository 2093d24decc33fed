use Rattle.std.proofs.Common.{sym, subst}
use Rattle.sg_acts.specs.declared.asks.Ask.{Ask}
use Rattle.sg_asks.specs.Codes.{HasCodes}
use Rattle.sg_histories.specs.Standing.{IsAsk}
use Rattle.sg_talk.proofs.turns.can_come.Goals as goal

pub returns-in-Do : goal.returns-in-Do
returns-in-Do c = λ setup has yes.
    subst (λ (a : Ask). HasCodes setup.plan.version a → IsAsk setup a) (sym c.in-Do.is) (λ known. (c.know_number.ensures, c.is_countable.ensures setup known yes)) has
