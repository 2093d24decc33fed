-- What is posted once sides are drawn is the text of its record.
use Rattle.std.proofs.Common.{◌≡◌, ℕ, true, ◌&&◌, List, subst, ap}
use Rattle.std.proofs.lemmas.Bool.{and_parts}
use Rattle.std.specs.List.{list_all}
use Rattle.sg_plan.specs.declared.plan.Draw.{Draw}
use Rattle.sg_plan.specs.declared.plan.Plan.{Plan}
use Rattle.sg_plan.specs.declared.plan.Stage.{Stage}
use Rattle.sg_plan.specs.declared.plan.Stage.TheVariants as stage
use Rattle.sg_record.specs.Lines.{text_of}
use Rattle.sg_record.specs.Writing.{text_in}
use Rattle.sg_post.proofs.PostedFormed.{posted-formed}
use Rattle.sg_post.proofs.PostedTyped.{posted-words}
use Rattle.sg_post.specs.Fits.{claim_fits, fates_fit, stage_fits}
use Rattle.sg_post.specs.Laws.{PostedIsText}
use Rattle.sg_post.specs.Posted.{lines_at, posted_record, posted_text}
use Rattle.sg_post.specs.declared.story.Story.{Story}

-- the text of a story that is drawn is that of its record
pub text-same : (plan : Plan) (seed : List ℕ) (story : Story) (draw : Draw) → story.stage ≡ stage.Drawn draw → posted_text plan seed story ≡ text_of (posted_record plan seed story.fates draw story.claims)
unfolding posted_text text_of
text-same plan seed story draw is = ap (λ (s : Stage). text_in plan.version (lines_at plan seed story.fates story.claims s)) is

pub posted_is_text : PostedIsText
posted_is_text plan seed story draw fine fits is bytes =
    let parts = and_parts (fates_fit plan 0 story.fates) (stage_fits story.stage story.claims && list_all (claim_fits plan) story.claims) fits in
    let rest = and_parts (stage_fits story.stage story.claims) (list_all (claim_fits plan) story.claims) parts.1 in
    let drawn : stage_fits (stage.Drawn draw) story.claims ≡ true = subst (λ (s : Stage). stage_fits s story.claims ≡ true) is rest.0 in
    record {
      words = posted-words plan seed story.fates draw story.claims fine parts.0 drawn bytes rest.1;
      formed = posted-formed plan seed story.fates draw story.claims fine parts.0 drawn rest.1;
      text = text-same plan seed story draw is;
    }
