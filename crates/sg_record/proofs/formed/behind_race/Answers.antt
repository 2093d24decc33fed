-- A race is left by its test, which is read off the ballot's races.
use Rattle.std.proofs.Common.{ℕ, ◌+◌, sym, ap, ◌∙◌}
use Rattle.sg_grammar.specs.Head.{if_then}
use Rattle.sg_record.proofs.CastLines.{race_behind}
use Rattle.sg_record.proofs.formed.behind_race.Goals as goal

pub returns-then-not-is_race_left : goal.returns-then-not-is_race_left
returns-then-not-is_race_left c ballot same =
    ap (λ b. if_then {A = ℕ × ℕ} b (c.args.race + 1, 0)) (sym c.if-not-is_race_left.true)
    ∙ race_behind c.args.index.now ballot c.args.least c.args.race c.args.races.now c.is_race_left.result same (rw c.plan-plan.ensures.plan at c.is_race_left.ensures.test)

pub returns : goal.returns
returns c ballot same =
    ap (λ b. if_then {A = ℕ × ℕ} b (c.args.race + 1, 0)) (sym c.if-not-is_race_left.false)
    ∙ race_behind c.args.index.now ballot c.args.least c.args.race c.args.races.now c.is_race_left.result same (rw c.plan-plan.ensures.plan at c.is_race_left.ensures.test)
