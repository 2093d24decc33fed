use Rattle.std.proofs.Common.{◌∙◌, sym}
use Rattle.sg_plan.proofs.PlanLaws.{race_sizes, races_kept, runs_kept}
use Rattle.sg_plan.proofs.plan.Plan.check.Goals as goal

pub count_table_rows-rows-requires-clause-few_races : goal.count_table_rows-rows-requires-clause-few_races
count_table_rows-rows-requires-clause-few_races c =
    (races_kept c.args.self.now.races (sym c.bad_race.ensures ∙ c.in_default.is)).most

pub count_table_rows-rows-requires-clause-few_ballots : goal.count_table_rows-rows-requires-clause-few_ballots
count_table_rows-rows-requires-clause-few_ballots c =
    (runs_kept c.len-2.result c.args.self.now.runs (sym c.bad_run.ensures ∙ c.in_default-bad_run.is)).most

pub count_table_rows-rows-requires-clause-few_candidates : goal.count_table_rows-rows-requires-clause-few_candidates
count_table_rows-rows-requires-clause-few_candidates c =
    let kept = races_kept c.args.self.now.races (sym c.bad_race.ensures ∙ c.in_default.is) in
    λ race. (race_sizes c.args.self.now race kept.each).most
