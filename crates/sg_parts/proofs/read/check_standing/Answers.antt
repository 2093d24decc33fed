-- The printing stands with the record at each row, or this is the first where it doesn't.
use Rattle.std.proofs.Common.{None, Some, subst}
use Rattle.sg_plan.specs.declared.plan.Plan.{Plan}
use Rattle.sg_record.specs.Places.{places_in}
use Rattle.sg_parts.proofs.Halves.{wrong_is}
use Rattle.sg_parts.proofs.Holding.{stands_all}
use Rattle.sg_parts.proofs.Standing.{stands_not, stands_there}
use Rattle.sg_parts.specs.Faults.{StandsAt}
use Rattle.sg_parts.specs.Given.{printing_of}
use Rattle.sg_parts.specs.inside.Checks.{FirstRow, row_stands}
use Rattle.sg_parts.proofs.read.check_standing.Goals as goal

pub returns-in-Some : goal.returns-in-Some
returns-in-Some c =
    let first = subst (λ (p : Plan). FirstRow p (row_stands p c.args.posted.now c.in_ok-known.known c.args.lists.now) (Some c.in-Some.at)) c.requires.index c.in-Some.ensures in
    wrong_is c.args.posted.now.plan (row_stands c.args.posted.now.plan c.args.posted.now c.in_ok-known.known c.args.lists.now) (StandsAt c.args.posted.now.plan (places_in c.args.posted.now) (printing_of c.args.lists.now))
    c.in-Some.at.race c.in-Some.at.instance c.in-Some.at.row
    (λ r i x less passes. stands_there c.args.posted.now c.requires.accepted c.in_ok-known.known c.args.lists.now c.in_ok-known.ensures r i x passes)
    (λ r i x less fails stands. stands_not c.args.posted.now c.requires.accepted c.in_ok-known.known c.args.lists.now c.in_ok-known.ensures r i x less fails stands)
    first

pub returns : goal.returns
returns c =
    let all = subst (λ (p : Plan). FirstRow p (row_stands p c.args.posted.now c.in_ok-known.known c.args.lists.now) None) c.requires.index c.in-None.ensures in
    stands_all c.args.posted.now c.requires.accepted c.args.lists.now
    (λ r i x half. stands_there c.args.posted.now c.requires.accepted c.in_ok-known.known c.args.lists.now c.in_ok-known.ensures r i x (all r i x half))
