-- The ballot of the entry's row is the only one that has the entry.
use Rattle.std.proofs.Common.{◌≡◌, ◌/◌, ◌<◌, ◌+◌, true, length, subst, sym, ap, ◌∙◌, arith}
use Rattle.sg_plan.specs.Ballots.{ballot_has, ballot_row, ballots_of, candidates_of}
use Rattle.sg_plan.specs.declared.plan.Plan.{Plan}
use Rattle.sg_tables.proofs.Lists.{length-map_below}
use Rattle.sg_tables.proofs.Sizes.{sizes}
use Rattle.sg_tables.proofs.Values.{entry_split}
use Rattle.sg_post.specs.Posting.{is_audited_ballot}
use Rattle.sg_post.proofs.Audits.{audited-entry}
use Rattle.sg_post.proofs.Kept.{item-in}
use Rattle.sg_post.proofs.openings.is_audited.Goals as goal

pub overflow_cast-candidates : goal.overflow_cast-candidates
overflow_cast-candidates c = omega (arith, c.candidates-candidates.ensures, ap (λ (p : Plan). candidates_of p c.args.race) c.plan.ensures.plan, (sizes c.args.tables.now.plan c.args.race c.plan.ensures.limits c.requires.race).candidates)

pub nonzero_div-row : goal.nonzero_div-row
nonzero_div-row c =
    let plan = c.args.tables.now.plan in
    let small = sizes plan c.args.race c.plan.ensures.limits c.requires.race in
    omega (arith, small.some_candidate, c.candidates-candidates.ensures, ap (λ (p : Plan). candidates_of p c.args.race) c.plan.ensures.plan)

pub ballot-ballot-requires-clause-race : goal.ballot-ballot-requires-clause-race
ballot-ballot-requires-clause-race c = subst (λ (p : Plan). c.args.race < length p.races) (sym c.requires.posting.index) c.requires.race

pub ballot-ballot-requires-clause-row : goal.ballot-ballot-requires-clause-row
ballot-ballot-requires-clause-row c =
    let plan = c.args.tables.now.plan in
    let small = sizes plan c.args.race c.plan.ensures.limits c.requires.race in
    let split = entry_split plan c.args.race c.args.entry small.some_candidate c.requires.entry in
    rw (c.candidates-candidates.ensures, c.plan.ensures.plan, c.requires.posting.index) split.row

pub get-requires : goal.get-requires
get-requires c =
    let plan = c.args.tables.now.plan in
    let last = subst (λ (p : Plan). c.ballot-ballot.result < ballots_of p + 1) c.requires.posting.index (omega (arith, c.ballot-ballot.ensures.last)) in
    omega (arith, last, ap length c.requires.posting.audited, length-map_below (is_audited_ballot c.args.story.now.fates) (ballots_of plan + 1))

pub returns : goal.returns
returns c =
    let plan = c.args.tables.now.plan in
    let fates = c.args.story.now.fates in
    let has = subst (λ (p : Plan). ballot_has p c.ballot-ballot.result c.args.race ≡ true) c.requires.posting.index c.ballot-ballot.ensures.has in
    let row = sym (ap (λ (p : Plan). ballot_row p c.args.race c.ballot-ballot.result) c.requires.posting.index) ∙ c.ballot-ballot.ensures.row ∙ ap (λ k. c.args.entry / k) (c.candidates-candidates.ensures ∙ ap (λ (p : Plan). candidates_of p c.args.race) c.plan.ensures.plan) in
    item-in c.args.posting.now.audited (is_audited_ballot fates) (ballots_of plan + 1) c.ballot-ballot.result c.get.result.now c.requires.posting.audited c.get.ensures.item
    ∙ audited-entry plan fates c.args.race c.args.entry c.ballot-ballot.result has row
