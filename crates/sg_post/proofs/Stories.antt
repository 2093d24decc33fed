-- What it means that a story fits its plan.
use Rattle.std.proofs.Common.{◌≡◌, ℕ, ◌==◌, nat_le, true, ◌&&◌, List, length, refl}
use Rattle.std.proofs.lemmas.Bool.{and_parts, eqb-true}
use Rattle.std.specs.List.{list_all}
use Rattle.sg_plan.specs.Limits.{most_claims}
use Rattle.sg_plan.specs.declared.plan.Draw.{Draw}
use Rattle.sg_plan.specs.declared.plan.Plan.{Plan}
use Rattle.sg_plan.specs.declared.plan.Stage.{Stage}
use Rattle.sg_plan.specs.declared.plan.Stage.TheVariants as stage
use Rattle.sg_record.specs.Formed.{is_draw}
use Rattle.sg_record.specs.Lines.{stage_lines}
use Rattle.sg_post.specs.Fits.{claim_fits, fates_fit, stage_fits, story_fits}
use Rattle.sg_post.specs.Posted.{lines_at, posted_record}
use Rattle.sg_post.specs.inside.Ready.{draw_of}
use Rattle.sg_post.specs.declared.story.Claimed.{Claimed}
use Rattle.sg_post.specs.declared.story.Story.{Story}
use Rattle.sg_post.specs.declared.story.Told.{Told}

pub record StoryParts (plan : Plan) (story : Story) : Type 0 where
  pub fates : fates_fit plan 0 story.fates ≡ true
  pub stage : stage_fits story.stage story.claims ≡ true
  pub claims : list_all (claim_fits plan) story.claims ≡ true

pub story-parts : (plan : Plan) (story : Story) → story_fits plan story ≡ true → StoryParts plan story
story-parts plan story fit =
    let whole = and_parts (fates_fit plan 0 story.fates) (stage_fits story.stage story.claims && list_all (claim_fits plan) story.claims) fit in
    let rest = and_parts (stage_fits story.stage story.claims) (list_all (claim_fits plan) story.claims) whole.1 in
    record { fates = whole.0; stage = rest.0; claims = rest.1 }

-- its draw may be posted, at each stage
none-few : (claims : List Claimed) → (length claims == 0) ≡ true → nat_le (length claims) most_claims ≡ true
none-few claims none = rw (eqb-true (length claims) 0 none) refl

at-stage : (at : Stage) (claims : List Claimed) → stage_fits at claims ≡ true → stage_fits (stage.Drawn (draw_of at)) claims ≡ true
at-stage stage.Voting claims fit = none-few claims fit
at-stage stage.Closed claims fit = none-few claims fit
at-stage (stage.Drawn draw) claims fit = fit

pub draw-fits : (plan : Plan) (story : Story) (draw : Draw) → story_fits plan story ≡ true → draw ≡ draw_of story.stage → stage_fits (stage.Drawn draw) story.claims ≡ true
draw-fits plan story draw fit is = rw is (at-stage story.stage story.claims (story-parts plan story fit).stage)

pub story-draw : (plan : Plan) (story : Story) (draw : Draw) → story_fits plan story ≡ true → draw ≡ draw_of story.stage → is_draw draw ≡ true
story-draw plan story draw fit is = (and_parts (is_draw draw) (nat_le (length story.claims) most_claims) (draw-fits plan story draw fit is)).0

-- the lines of its stage are those of its record
lines-same : (plan : Plan) (seed : List ℕ) (fates : List Told) (claims : List Claimed) (at : Stage) → lines_at plan seed fates claims at ≡ stage_lines at (posted_record plan seed fates (draw_of at) claims)
lines-same plan seed fates claims stage.Voting = refl
lines-same plan seed fates claims stage.Closed = refl
lines-same plan seed fates claims (stage.Drawn draw) = refl

pub story-lines : (plan : Plan) (seed : List ℕ) (story : Story) (draw : Draw) → draw ≡ draw_of story.stage
    → lines_at plan seed story.fates story.claims story.stage ≡ stage_lines story.stage (posted_record plan seed story.fates draw story.claims)
story-lines plan seed story draw is = rw is (lines-same plan seed story.fates story.claims story.stage)
