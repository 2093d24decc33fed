use Rattle.std.proofs.Common.{◌++◌, ◌∷◌, [], Option, None, sym, subst, ap, ◌∙◌}
use Rattle.std.specs.Option.{is_some}
use Rattle.sg_lists.proofs.Options.{is_some-false, is_some-true}
use Rattle.sg_forms.specs.Said.{said}
use Rattle.sg_ledger.specs.declared.ledger.Ledger.{Ledger}
use Rattle.sg_judge.proofs.Advancing.{form_stops, made_stands, plan_advances}
use Rattle.sg_judge.proofs.FirstSeal.{next_seal-plan}
use Rattle.sg_judge.proofs.Placing.{good_plan, plan_step-before, step-falls}
use Rattle.sg_judge.proofs.header.advance_header.Goals as goal
use Rattle.sg_judge.specs.inside.Taking.{Stands}
use Rattle.sg_grammar.proofs.Walking.{take_bytes-not_read}
use Rattle.sg_grammar.specs.Head.{head_line}
use Rattle.sg_grammar.specs.Walk.{take_line}
use Rattle.sg_plan.specs.Limits.{fault_of}

pub returns-in_default-clause-goes_on : goal.returns-in_default-clause-goes_on
returns-in_default-clause-goes_on c = λ lines stands.
    form_stops c.args.expect.now c.args.sealer.now None lines c.args.bytes.now stands
    (take_bytes-not_read c.args.expect.now c.args.bytes.now (sym c.in_default.ensures.exact))

pub returns-then-is_of_plan-clause-goes_on : goal.returns-then-is_of_plan-clause-goes_on
returns-then-is_of_plan-clause-goes_on c = λ lines stands.
    subst (λ (o : Option Ledger). Stands c.plan_step.new.self c.add.new.self o (lines ++ c.args.bytes.now ∷ [])) (sym c.requires.closed)
    (plan_advances c.args.expect.now c.plan_step.new.self c.args.sealer.now c.add.new.self c.args.bytes.now (said c.in-Some.line) (sym c.in-Some.ensures.exact)
    (sym c.is_of_plan.ensures ∙ c.if-is_of_plan.true) c.in_ok-plan_step.ensures.ok c.add.ensures lines stands)

pub returns-then-is_of_plan-clause-opens : goal.returns-then-is_of_plan-clause-opens
returns-then-is_of_plan-clause-opens c = λ good.
    ap is_some c.requires.closed
    ∙ sym (plan_step-before c.args.expect.now c.plan_step.new.self (said c.in-Some.line) (sym c.is_of_plan.ensures ∙ c.if-is_of_plan.true) c.in_ok-plan_step.ensures.ok)

pub returns-then-is_of_plan-clause-falls : goal.returns-then-is_of_plan-clause-falls
returns-then-is_of_plan-clause-falls c = λ good.
    step-falls c.args.expect.now c.plan_step.new.self (said c.in-Some.line) (made_stands c.args.expect.now c.args.sealer.now None c.requires.stands.0 c.requires.stands.1) c.in_ok-plan_step.ensures.ok

pub returns-then-is_of_plan-clause-seal : goal.returns-then-is_of_plan-clause-seal
returns-then-is_of_plan-clause-seal c = λ good.
    next_seal-plan c.args.expect.now c.args.bytes.now (said c.in-Some.line) c.args.seal.now (sym c.in-Some.ensures.exact) (sym c.is_of_plan.ensures ∙ c.if-is_of_plan.true)

pub make-requires : goal.make-requires
make-requires c =
    let there = is_some-true (take_line c.args.expect.now (said c.in-Some.line)) c.in-Some.ensures.found.2 in
    ap fault_of c.plan.ensures.is
    ∙ good_plan c.args.expect.now (said c.in-Some.line) there.0 (made_stands c.args.expect.now c.args.sealer.now None c.requires.stands.0 c.requires.stands.1)
    (is_some-false (head_line c.args.expect.now.plan c.args.expect.now.head (said c.in-Some.line)) (sym c.is_of_plan.ensures ∙ c.if-is_of_plan.false)) there.1
