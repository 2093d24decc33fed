-- The places are those of the race, and few.
use Rattle.std.proofs.Common.{[], length, sym, ap, ◌∙◌, arith}
use Rattle.std.proofs.lemmas.Option.{get_or_from_slice_get}
use Rattle.sg_plan.specs.Ballots.{candidates_of}
use Rattle.sg_plan.specs.declared.plan.Plan.{Plan}
use Rattle.sg_tables.proofs.Sizes.{sizes}
use Rattle.sg_post.proofs.totals.total_race.Goals as goal

pub overflow_cast-candidates : goal.overflow_cast-candidates
overflow_cast-candidates c = omega (arith, c.candidates-candidates.ensures, ap (λ (p : Plan). candidates_of p c.args.race) c.plan.ensures.plan, (sizes c.args.tables.now.plan c.args.race c.plan.ensures.limits c.requires.race).candidates)

pub get-requires : goal.get-requires
get-requires c = omega (arith, c.requires.places.many, c.requires.race)

pub total_candidates-requires-clause-few : goal.total_candidates-requires-clause-few
total_candidates-requires-clause-few c =
    let many = ap length (sym (get_or_from_slice_get c.args.places.now c.args.race c.get.result.now [] c.get.ensures.item)) ∙ c.requires.places.each c.args.race c.requires.race in
    omega (arith, many, c.count_entries.ensures, c.ranges)

pub total_candidates-requires-clause-some : goal.total_candidates-requires-clause-some
total_candidates-requires-clause-some c = omega (arith, c.candidates-candidates.ensures, ap (λ (p : Plan). candidates_of p c.args.race) c.plan.ensures.plan, (sizes c.args.tables.now.plan c.args.race c.plan.ensures.limits c.requires.race).some_candidate)

pub returns : goal.returns
returns c =
    rw (get_or_from_slice_get c.args.places.now c.args.race c.get.result.now [] c.get.ensures.item) (rw (c.candidates-candidates.ensures, c.plan.ensures.plan) at c.total_candidates.ensures)
