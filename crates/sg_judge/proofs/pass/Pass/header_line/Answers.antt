use Rattle.std.proofs.Common.{◌+◌, ◌<◌, ◌^◌, Bool, [], ◌∷◌, ◌++◌, Option, None, sym, subst, ap, ◌∙◌, arith}
use Rattle.sg_lists.proofs.Options.{is_none-true, is_some-false}
use Rattle.sg_ledger.specs.declared.ledger.Ledger.{Ledger}
use Rattle.sg_judge.proofs.FirstSeal.{seal_going}
use Rattle.sg_judge.proofs.Going.{judges-push, number_fits, says-push}
use Rattle.sg_judge.proofs.pass.Pass.header_line.Goals as goal
use Rattle.sg_judge.specs.Pass.{Judges, Says, step_of}
use Rattle.sg_judge.specs.declared.pass.Step.{Step}

pub overflow_add-self : goal.overflow_add-self
overflow_add-self c =
    let some = c.requires.stands in
    let fits : c.args.self.now.number + 1 < 2 ^ 32 =
    number_fits c.args.self.now.broken c.args.self.now.expect c.args.self.now.sealer c.args.self.now.ledger c.args.self.now.number some.0 some.1.judges
    (is_some-false c.args.self.now.broken (sym c.is_some.ensures ∙ c.if-is_some.false)) in
    omega (arith, fits)

pub returns-clause-adds : goal.returns-clause-adds
returns-clause-adds c = λ still lines stands. record {
  judges = judges-push c.args.self.now.broken c.in_ok-broken.broken c.args.self.now.expect c.advance_header.new.expect c.args.self.now.sealer c.advance_header.new.sealer
      None c.advance_header.new.ledger c.args.self.now.number c.args.line.now (is_none-true c.args.self.now.broken still) c.in_ok-broken.ensures.goes_on lines
      (subst (λ (o : Option Ledger). Judges c.args.self.now.broken c.args.self.now.expect c.args.self.now.sealer o c.args.self.now.number lines)
      (is_some-false c.args.self.now.ledger c.requires.before) stands.judges)
      c.in_ok-broken.ensures.opens;
  sealed = λ good. seal_going c.args.self.now.broken c.in_ok-broken.broken c.args.self.now.expect c.advance_header.new.expect c.args.self.now.sealer c.advance_header.new.sealer
      None c.advance_header.new.ledger c.args.self.now.number c.args.line.now lines (is_none-true c.args.self.now.broken still) good
      (subst (λ (o : Option Ledger). Judges c.args.self.now.broken c.args.self.now.expect c.args.self.now.sealer o c.args.self.now.number lines)
      (is_some-false c.args.self.now.ledger c.requires.before) stands.judges)
      c.in_ok-broken.ensures.goes_on c.args.self.now.seal c.advance_header.new.seal (stands.sealed (is_none-true c.args.self.now.broken still)) (c.in_ok-broken.ensures.seal good);
}

pub returns-clause-says : goal.returns-clause-says
returns-clause-says c = λ still lines stands.
    subst (λ (s : Step). Says s (lines ++ c.args.line.now ∷ [])) (sym (c.answer.ensures ∙ ap (λ (ready : Bool). step_of c.in_ok-broken.broken ready) c.is_ready.ensures.is))
    (says-push c.args.self.now.broken c.in_ok-broken.broken c.args.self.now.expect c.advance_header.new.expect c.args.self.now.sealer c.advance_header.new.sealer
    None c.advance_header.new.ledger c.args.self.now.number c.args.line.now (is_none-true c.args.self.now.broken still) c.in_ok-broken.ensures.goes_on lines
    (subst (λ (o : Option Ledger). Judges c.args.self.now.broken c.args.self.now.expect c.args.self.now.sealer o c.args.self.now.number lines)
    (is_some-false c.args.self.now.ledger c.requires.before) stands.judges)
    c.in_ok-broken.ensures.opens)
