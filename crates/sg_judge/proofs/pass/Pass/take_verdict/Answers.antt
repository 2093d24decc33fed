use Rattle.std.proofs.Common.{◌≡◌, List, Option, sym, subst, ◌∙◌}
use Rattle.sg_grammar.specs.Placed.{Placed}
use Rattle.sg_ledger.specs.Tells.{totals_placed}
use Rattle.sg_ledger.specs.declared.ledger.Ledger.{Ledger}
use Rattle.sg_judge.proofs.Ending.{cut_short, open_judges, whole_end}
use Rattle.sg_judge.specs.inside.Taking.{Keeps}
use Rattle.sg_plan.specs.declared.plan.Plan.{Plan}
use Rattle.sg_judge.proofs.pass.Pass.take_verdict.Goals as goal

pub returns-then-whole-clause-all : goal.returns-then-whole-clause-all
returns-then-whole-clause-all c = λ lines stands.
    whole_end c.args.self.now.expect c.args.self.now.sealer c.args.self.now.ledger c.args.self.now.number lines c.totals_told.result
    (open_judges c.args.self.now.broken c.args.self.now.expect c.args.self.now.sealer c.args.self.now.ledger c.args.self.now.number lines stands.judges c.in_default.is)
    (sym c.whole.ensures ∙ c.if-whole.true)
    (subst (λ (o : Option Ledger). (plan : Plan) (placed : List Placed) → Keeps plan o placed → c.totals_told.result ≡ totals_placed placed) c.take-ledger.ensures.value c.totals_told.ensures)

pub returns-clause-all : goal.returns-clause-all
returns-clause-all c = λ lines stands.
    cut_short c.args.self.now.expect c.args.self.now.sealer c.args.self.now.ledger c.args.self.now.number c.saturating_add.result lines
    (open_judges c.args.self.now.broken c.args.self.now.expect c.args.self.now.sealer c.args.self.now.ledger c.args.self.now.number lines stands.judges c.in_default.is)
    (sym c.whole.ensures ∙ c.if-whole.false) c.saturating_add.ensures
