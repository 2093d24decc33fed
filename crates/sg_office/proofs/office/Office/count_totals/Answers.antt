-- The fates are told of what is kept, and fit its plan.
use Rattle.std.proofs.Common.{◌≡◌, true, List, sym, ap, subst, ◌∙◌}
use Rattle.sg_plan.specs.declared.plan.Plan.{Plan}
use Rattle.sg_post.specs.Fits.{fates_fit}
use Rattle.sg_post.specs.Marks.{total_of}
use Rattle.sg_post.specs.Posted.{by_candidate}
use Rattle.sg_post.specs.declared.story.Told.{Told}
use Rattle.sg_histories.specs.declared.kept.Kept.{Kept}
use Rattle.sg_histories.specs.Answers.{totals_of}
use Rattle.sg_histories.specs.Stories.{told_fates}
use Rattle.sg_office.specs.inside.Now.{fate_at}
use Rattle.sg_office.proofs.Told.{fates_fit_now}
use Rattle.sg_office.proofs.office.Office.count_totals.Goals as goal

pub total_fates-requires-clause-fits : goal.total_fates-requires-clause-fits
total_fates-requires-clause-fits c =
    let kept = c.args.self.now in
    let history = c.office_law.ensures.history in
    let plan : Plan = c.self.inside.tables.plan in
    let told = c.in_ok-fates.ensures ∙ ap (λ (p : Plan). told_fates p (fate_at c.self.inside.slots)) c.self.invariant.1 in
    subst (λ (l : List Told). fates_fit plan 0 l ≡ true) (sym told)
    (subst (λ (k : Kept). fates_fit k.setup.plan 0 (told_fates k.setup.plan (fate_at k.slots)) ≡ true) (sym c.self.view_is)
    (fates_fit_now kept history c.office_law.ensures.stands (c.stories_law.ensures kept.setup history c.office_law.ensures.stands.lawful)))

pub returns : goal.returns
returns c =
    let plan : Plan = c.self.inside.tables.plan in
    let told = c.in_ok-fates.ensures ∙ ap (λ (p : Plan). told_fates p (fate_at c.self.inside.slots)) c.self.invariant.1 in
    rw (ap (λ (l : List Told). by_candidate plan (total_of plan c.self.inside.tables.seed l)) told
    ∙ ap (λ (k : Kept). totals_of k.setup.plan k.setup.seed.0 (fate_at k.slots)) c.self.view_is) at c.total_fates.ensures
