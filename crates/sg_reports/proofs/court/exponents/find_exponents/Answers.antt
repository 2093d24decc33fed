-- One more exponent is found.
use Rattle.std.proofs.Common.{subst}
use Rattle.sg_odds.specs.Answers.{IsBound, IsFound}
use Rattle.sg_odds.specs.declared.found.OddsFound.{OddsFound}
use Rattle.sg_reports.proofs.Courts.Putting.{exponents_more, exponents_none}
use Rattle.sg_reports.proofs.court.exponents.find_exponents.Goals as goal

pub loop-race-init : goal.loop-race-init
loop-race-init c = exponents_none c.args.parts.now c.new-values.result c.count_races-race-end.ensures.parts c.new-values.ensures

pub loop-race-preserved : goal.loop-race-preserved
loop-race-preserved c =
    let given = c.args.parts.now in
    exponents_more given c.loop-race.race c.in-Exponent.value c.loop-race.values c.push.new.self c.loop-race.invariant
    (subst (λ (f : OddsFound). IsFound given c.loop-race.race f) c.in-Exponent.is c.in_ok-value.ensures.found) (subst (λ (f : OddsFound). IsBound given f) c.in-Exponent.is c.in_ok-value.ensures.bound)
    c.in_ok-push-in-Exponent.ensures.ok
