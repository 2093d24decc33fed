use Rattle.sg_plan.proofs.PlanLaws.{bounds}
use Rattle.sg_plan.proofs.plan.Plan.entries.Goals as goal

pub count_entries-requires : goal.count_entries-requires
count_entries-requires c =
    let known = bounds c.args.self.now c.requires.limits in
    record { race = c.requires.race; few_ballots = known.few_ballots; few_candidates = known.few_candidates c.args.race }
