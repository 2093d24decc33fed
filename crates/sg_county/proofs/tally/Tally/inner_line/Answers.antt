-- A line inside the last part.
use Rattle.std.proofs.Common.{◌∷◌, ◌++◌, [], Bool, not, refl, sym, subst, ap, ◌∙◌}
use Rattle.sg_county.proofs.Falling.{inner_falls}
use Rattle.sg_county.proofs.Going.{open_kept}
use Rattle.sg_county.proofs.Inner.{inner_open, inner_says, inner_stands, more_fine}
use Rattle.sg_county.proofs.tally.Tally.inner_line.Goals as goal
use Rattle.sg_county.specs.Tally.{StandsFor}

pub take_line-requires-clause-stands : goal.take_line-requires-clause-stands
take_line-requires-clause-stands c =
    let old = open_kept c.args.self.now c.requires.stands.0 c.requires.open c.requires.stands.1 in (old.last, old.stands)

pub take_line-requires-clause-open : goal.take_line-requires-clause-open
take_line-requires-clause-open c = (open_kept c.args.self.now c.requires.stands.0 c.requires.open c.requires.stands.1).fine ∙ c.requires.open

pub returns-clause-adds : goal.returns-clause-adds
returns-clause-adds c = λ lines stands.
    subst (λ (b : Bool). StandsFor (record { pass = c.take_line.new.pass; kept = c.args.self.now.kept; over = b; settled = c.args.self.now.settled }) (lines ++ c.args.line.now ∷ [])) (sym c.is_over-self.ensures)
    (inner_stands c.args.self.now c.take_line.new.pass c.in_ok-step.step c.args.line.now c.requires.inner c.requires.open c.in_ok-step.ensures.adds c.in_ok-step.ensures.says c.in_ok-step.ensures.open lines stands)

pub returns-clause-says : goal.returns-clause-says
returns-clause-says c = λ lines stands.
    inner_says c.args.self.now c.take_line.new.pass c.in_ok-step.step c.args.line.now c.requires.inner c.requires.open c.in_ok-step.ensures.adds c.in_ok-step.ensures.says c.in_ok-step.ensures.open lines stands

pub returns-clause-open : goal.returns-clause-open
returns-clause-open c =
    ap not c.is_over-self.ensures
    ∙ inner_open c.args.self.now c.take_line.new.pass c.in_ok-step.step c.args.line.now c.requires.inner c.requires.open c.in_ok-step.ensures.adds c.in_ok-step.ensures.says c.in_ok-step.ensures.open
    c.requires.stands.0 c.requires.stands.1

pub returns-clause-falls : goal.returns-clause-falls
returns-clause-falls c = λ more.
    inner_falls c.args.self.now (record { pass = c.take_line.new.pass; kept = c.args.self.now.kept; over = c.is_over-self.result; settled = c.args.self.now.settled }) refl
    (c.in_ok-step.ensures.falls (more_fine c.in_ok-step.step more))
