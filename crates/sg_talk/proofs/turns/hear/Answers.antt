use Rattle.std.proofs.Common.{ℕ, refl, sym, subst}
use Rattle.sg_asks.specs.Codes.{HasCodes}
use Rattle.sg_talk.proofs.turns.hear.Goals as goal

pub returns-then-can_come-clause-comes : goal.returns-then-can_come-clause-comes
returns-then-can_come-clause-comes c = λ setup same.
    c.if-can_come.ensures setup (subst (λ (v : ℕ). HasCodes v c.in_ok-ask.ask) (sym same) c.in_ok-ask.ensures.codes) refl
