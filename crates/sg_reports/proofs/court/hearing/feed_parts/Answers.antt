-- The line was in its place; or it is off, and that is the fault of all lines that begin so.
use Rattle.std.proofs.Common.{[], ◌∷◌, ◌++◌, subst}
use Rattle.std.specs.Prelude.{Option}
use Rattle.sg_parts.specs.Reads.{GoesOn}
use Rattle.sg_parts.specs.declared.parts.RecountFault.{RecountFault}
use Rattle.sg_reports.proofs.court.hearing.feed_parts.Goals as goal

pub returns-in-None-clause-goes : goal.returns-in-None-clause-goes
returns-in-None-clause-goes c = λ lines read.
    subst (λ (f : Option RecountFault). GoesOn f c.take.new.self (lines ++ c.args.line.now ∷ [])) c.in-None.is (c.in_ok-take.ensures.goes lines read)

pub returns-in-Some-clause-goes : goal.returns-in-Some-clause-goes
returns-in-Some-clause-goes c = λ lines read more.
    let off = subst (λ (f : Option RecountFault). GoesOn f c.take.new.self (lines ++ c.args.line.now ∷ [])) c.in-Some.is (c.in_ok-take.ensures.goes lines read) in
    (off.0, off.1 more)
