use Rattle.std.proofs.Common.{ℕ, List, [], ◌∷◌, ◌++◌, drop, ap, sym, ◌∙◌, arith}
use Rattle.sg_plan.specs.Limits.{first_bad}
use Rattle.sg_desks.specs.ActReading.{act_in}
use Rattle.sg_histories.specs.ValidRows.{stage_keeps}
use Rattle.sg_open.proofs.StageRows.{both_told, both_utf8, close_utf8, second_bad, third_bad, two_rows}
use Rattle.sg_open.proofs.Steps.{damage_here}
use Rattle.sg_open.proofs.stages.read_stages.Goals as goal

pub returns-then-len-eq1-clause-utf8 : goal.returns-then-len-eq1-clause-utf8
returns-then-len-eq1-clause-utf8 c =
    close_utf8 c.args.told.now c.push.new.self c.requires.utf8 (c.in_ok-push.ensures.ok ∙ ap (λ (t : List ℕ). c.args.told.now ++ t ∷ []) c.in_ok-close_text.ensures)

pub returns-in_default-clause-fault : goal.returns-in_default-clause-fault
returns-in_default-clause-fault c =
    damage_here 3 1 (first_bad (stage_keeps c.args.plan.now (act_in c.args.plan.now.version)) [] c.args.rows.now) c.bad_row-in_default.result
    (second_bad c.args.plan.now c.args.rows.now c.get.result.now c.get-2.result.now (drop 2 c.args.rows.now) (two_rows c.args.rows.now c.get.result.now c.get-2.result.now c.get.ensures.rest c.get-2.ensures.rest)
    (sym c.is_close.ensures ∙ c.if-not-is_close.false) (sym c.in_ok-draw.ensures ∙ c.in_default.is)) c.bad_row-in_default.ensures

pub returns-then-len-gt2-clause-fault : goal.returns-then-len-gt2-clause-fault
returns-then-len-gt2-clause-fault c =
    damage_here 3 2 (first_bad (stage_keeps c.args.plan.now (act_in c.args.plan.now.version)) [] c.args.rows.now) c.bad_row-then-len-gt2.result
    (third_bad c.args.plan.now c.args.rows.now c.get.result.now c.get-2.result.now (drop 2 c.args.rows.now) c.in-Some.draw (two_rows c.args.rows.now c.get.result.now c.get-2.result.now c.get.ensures.rest c.get-2.ensures.rest)
    (sym c.is_close.ensures ∙ c.if-not-is_close.false) (sym c.in_ok-draw.ensures ∙ c.in-Some.is) (omega (arith, c.if-len-gt2.true, c.len-3.ensures))) c.bad_row-then-len-gt2.ensures

pub returns-clause-told : goal.returns-clause-told
returns-clause-told c =
    both_told c.args.plan.now.version c.args.rows.now c.get.result.now c.get-2.result.now (drop 2 c.args.rows.now) c.in-Some.draw c.args.told.now c.push.new.self c.push-2.new.self
    (two_rows c.args.rows.now c.get.result.now c.get-2.result.now c.get.ensures.rest c.get-2.ensures.rest)
    (sym c.is_close.ensures ∙ c.if-not-is_close.false) (sym c.in_ok-draw.ensures ∙ c.in-Some.is) (omega (arith, c.if-len-gt2.false, c.len-3.ensures))
    (c.in_ok-push.ensures.ok ∙ ap (λ (t : List ℕ). c.args.told.now ++ t ∷ []) c.in_ok-close_text.ensures) c.in_ok-push-2.ensures.ok

pub returns-clause-utf8 : goal.returns-clause-utf8
returns-clause-utf8 c =
    both_utf8 c.args.plan.now.version c.get-2.result.now c.in-Some.draw c.args.told.now c.push.new.self c.push-2.new.self c.requires.utf8
    (sym c.in_ok-draw.ensures ∙ c.in-Some.is)
    (c.in_ok-push.ensures.ok ∙ ap (λ (t : List ℕ). c.args.told.now ++ t ∷ []) c.in_ok-close_text.ensures) c.in_ok-push-2.ensures.ok
