-- The answer that is due was put together, and sent or a front of it.
use Rattle.std.proofs.Common.{inl, refl}
use Rattle.sg_http.specs.Visits.{Due}
use Rattle.sg_http.proofs.serving.send.Goals as goal

pub returns-in-Ok-put-clause-sends : goal.returns-in-Ok-put-clause-sends
returns-in-Ok-put-clause-sends g c =
    let due : Due = record { status = c.args.status; allow = c.args.allow; body = c.args.body.now } in
    (due, inl refl, refl, rw (c.bytes.ensures, c.in-Ok.ensures) at c.in-Ok-put.ensures.ok)

pub returns-clause-sends : goal.returns-clause-sends
returns-clause-sends g c =
    let due : Due = record { status = c.args.status; allow = c.args.allow; body = c.args.body.now } in
    (due, inl refl, rw (c.bytes.ensures, c.in-Ok.ensures) at c.in-Err.ensures.err)
