-- The office that was opened talked, or it was written why there is none.
use Rattle.std.proofs.Common.{inr, refl, subst}
use Rattle.sg_clerk.proofs.Connections.ServeEnds.{SaysClosed, never_closed, office_serves}
use Rattle.sg_clerk.proofs.calls.serving.serve.Goals as goal

pub returns-in-Ok-clause-says : goal.returns-in-Ok-clause-says
returns-in-Ok-clause-says g c =
    let office = c.in-Ok.ensures in
    let serves = rw office.quiet at c.serve_calls-ending.ensures.serves in
    rw c.outcome.ensures
    (office_serves c.serve_calls-ending.result c.in-Ok.office c.args.port c.args.count _ (g.K.Keeper.tells c.open_office.new.keeper) _ (g.K.Keeper.rows c.open_office.new.keeper) _ _ _
    (g.K.Keeper.faults c.open_office.new.keeper) office.starts office.opens office.told office.same office.later serves)

pub returns-in-Ok-clause-unlinked : goal.returns-in-Ok-clause-unlinked
returns-in-Ok-clause-unlinked g c = λ closed.
    absurd (never_closed c.serve_calls-ending.result c.in-Ok.office c.args.port c.args.count _ _ _ _ _ _ _ c.in-Ok.ensures.starts c.serve_calls-ending.ensures.serves
    (subst SaysClosed c.outcome.ensures closed))

pub returns-in-Err-clause-says : goal.returns-in-Err-clause-says
returns-in-Err-clause-says g c = inr (inr (record { unasked = (refl, refl); same = c.in-Err.ensures.same; says = c.in-Err.ensures.opens }))
