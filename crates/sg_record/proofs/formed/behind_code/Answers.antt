-- A code may stand by its test, which is read off the ballot's races.
use Rattle.std.proofs.Common.{◌+◌, sym, ap, ◌∙◌}
use Rattle.sg_grammar.specs.Head.{if_then}
use Rattle.sg_record.proofs.CastLines.{code_behind}
use Rattle.sg_record.proofs.formed.behind_code.Goals as goal

pub returns-then-not-is_mark : goal.returns-then-not-is_mark
returns-then-not-is_mark c ballot same =
    ap (λ b. if_then b (c.args.code.now.race, c.args.code.now.column + 1)) (sym c.if-not-is_mark.true)
    ∙ code_behind c.args.index.now ballot c.args.race c.args.column c.args.races.now c.args.code.now c.is_mark.result same (rw c.plan-plan.ensures.plan at c.is_mark.ensures.test)

pub returns : goal.returns
returns c ballot same =
    ap (λ b. if_then b (c.args.code.now.race, c.args.code.now.column + 1)) (sym c.if-not-is_mark.false)
    ∙ code_behind c.args.index.now ballot c.args.race c.args.column c.args.races.now c.args.code.now c.is_mark.result same (rw c.plan-plan.ensures.plan at c.is_mark.ensures.test)
