-- The walk over the text of an unaltered story stands whole, each line in its place.
use Rattle.std.proofs.Common.{◌≡◌, ℕ, true, ◌&&◌, List, length, Some, None, refl, ap, ◌∙◌}
use Rattle.std.proofs.lemmas.Bool.{and_parts}
use Rattle.std.specs.List.{list_all}
use Rattle.sg_plan.specs.Limits.{fault_of}
use Rattle.sg_plan.specs.declared.plan.Draw.{Draw}
use Rattle.sg_plan.specs.declared.plan.Plan.{Plan}
use Rattle.sg_plan.specs.declared.plan.Stage.{Stage}
use Rattle.sg_plan.specs.declared.plan.Stage.TheVariants as stage
use Rattle.sg_outside.specs.TextLines.{lines_of}
use Rattle.sg_grammar.specs.Walk.{Walked, start, walk}
use Rattle.sg_record.proofs.PlacesLaw.{formed_are_walked, places-many, texts_have_lines}
use Rattle.sg_record.specs.Formed.{is_formed}
use Rattle.sg_record.specs.Laws.{HasWords}
use Rattle.sg_record.specs.Lines.{lines_in}
use Rattle.sg_record.specs.Places.{behind_record, places_in, posts}
use Rattle.sg_record.specs.declared.record.Record.{Record}
use Rattle.sg_record.specs.Typed.{AreDrawn}
use Rattle.sg_post.specs.Fits.{claim_fits, fates_fit, stage_fits}
use Rattle.sg_post.specs.Posted.{posted_record, posted_text}
use Rattle.sg_post.specs.declared.story.Claimed.{Claimed}
use Rattle.sg_post.specs.declared.story.Story.{Story}
use Rattle.sg_post.specs.declared.story.Told.{Told}
use Rattle.sg_post.proofs.PostedText.{posted_is_text}
use Rattle.sg_accepted.specs.Unaltered.{IsDrawn, IsUnaltered}

-- what is walked over
abbrev pub walked_as : Plan → List ℕ → List Told → Draw → List Claimed → Walked
walked_as plan seed fates draw claims = record {
  posted = posts plan.version (lines_in (posted_record plan seed fates draw claims)) (places_in (posted_record plan seed fates draw claims));
  next = behind_record (posted_record plan seed fates draw claims);
}

-- the walk over the text of a story that is drawn
pub record Walks (plan : Plan) (seed : List ℕ) (story : Story) : Type 0 where
  pub draw : Draw
  pub fit : fates_fit plan 0 story.fates ≡ true
  pub claimed : list_all (claim_fits plan) story.claims ≡ true
  pub is : story.stage ≡ stage.Drawn draw
  pub bytes : AreDrawn draw
  pub words : HasWords (posted_record plan seed story.fates draw story.claims)
  pub formed : is_formed (posted_record plan seed story.fates draw story.claims) ≡ true
  pub many : length (lines_in (posted_record plan seed story.fates draw story.claims)) ≡ length (places_in (posted_record plan seed story.fates draw story.claims))
  pub walks : walk start (lines_of (posted_text plan seed story)) ≡ Some (walked_as plan seed story.fates draw story.claims)

pub story-walks : (plan : Plan) (seed : List ℕ) (story : Story) → fault_of plan ≡ None → IsUnaltered plan seed story → Walks plan seed story
story-walks plan seed story fine unaltered =
    let parts = and_parts (fates_fit plan 0 story.fates) (stage_fits story.stage story.claims && list_all (claim_fits plan) story.claims) unaltered.fits in
    let rest = and_parts (stage_fits story.stage story.claims) (list_all (claim_fits plan) story.claims) parts.1 in
    at_stage story.stage refl rest.0 unaltered.drawn parts.0 rest.1
  where
    at_stage : (s : Stage) → story.stage ≡ s → stage_fits s story.claims ≡ true → IsDrawn s → fates_fit plan 0 story.fates ≡ true → list_all (claim_fits plan) story.claims ≡ true → Walks plan seed story
    at_stage stage.Voting is fits none fit claimed = absurd none
    at_stage stage.Closed is fits none fit claimed = absurd none
    at_stage (stage.Drawn draw) is fits bytes fit claimed =
        let posted : Record = posted_record plan seed story.fates draw story.claims in
        let text = posted_is_text plan seed story draw fine unaltered.fits is bytes in
        record {
          draw = draw;
          fit = fit;
          claimed = claimed;
          is = is;
          bytes = bytes;
          words = text.words;
          formed = text.formed;
          many = places-many posted text.words text.formed;
          walks = ap (λ (bytes : List ℕ). walk start (lines_of bytes)) text.text
              ∙ (ap (walk start) (texts_have_lines posted text.words) ∙ formed_are_walked posted text.words text.formed);
        }
