use Rattle.std.proofs.Common.{rules, nat_le, ap}
use Rattle.std.specs.BTreeMap.{get_by_text}
use Rattle.sg_open.proofs.Judged.{ballots_at, claims_at, is_read, stages_at}
use Rattle.sg_open.proofs.opening.read_tables.Goals as goal

pub returns-in_err-read_ballots-clause-fault : goal.returns-in_err-read_ballots-clause-fault
returns-in_err-read_ballots-clause-fault c =
    let h = ballots_at c.args.setup.now c.args.rows.now c.args.index.now c.in_err-read_ballots.field-0.0 c.requires.plan c.in_err-read_ballots.ensures.fault in search (rules, h)

pub returns-in_err-stage-clause-fault : goal.returns-in_err-stage-clause-fault
returns-in_err-stage-clause-fault c =
    let h = stages_at c.args.setup.now c.args.rows.now c.args.index.now c.in_err-stage.field-0.0 c.requires.plan c.in_ok-read_ballots.ensures.good c.in_err-stage.ensures.fault in search (rules, h)

pub returns-in_err-claims-clause-fault : goal.returns-in_err-claims-clause-fault
returns-in_err-claims-clause-fault c =
    let h = claims_at c.args.setup.now c.args.rows.now c.args.index.now (nat_le 2 c.len-drawn.result) c.in_err-claims.field-0.0 c.requires.plan (ap (nat_le 2) c.len-drawn.ensures) c.in_ok-read_ballots.ensures.good c.in_ok-stage.ensures.good c.in_err-claims.ensures.fault in
    search (rules, h)

pub returns-clause-read : goal.returns-clause-read
returns-clause-read c =
    is_read c.args.setup.now c.args.rows.now (λ text. get_by_text c.args.stations.now text) c.args.index.now (nat_le 2 c.len-drawn.result) c.args.found.now c.read_ballots.new.found c.read_stages.new.told c.read_claims.new.told c.tell_voids.new.told
    c.requires.plan (ap (nat_le 2) c.len-drawn.ensures) c.requires.start c.in_ok-read_ballots.ensures.good c.in_ok-read_ballots.ensures.found
    c.in_ok-stage.ensures.good c.in_ok-stage.ensures.told c.in_ok-claims.ensures.good c.in_ok-claims.ensures.told c.in_ok-tell_voids.ensures.told c.in_ok-tell_voids.ensures.utf8
