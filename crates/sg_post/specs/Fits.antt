-- Which stories an office may post (this project's rules for the record).
use Rattle.std.specs.Prelude.{ℕ, ◌==◌, nat_le, nat_lt, Bool, true, ◌&&◌, List, [], ◌∷◌, length}
use Rattle.std.specs.List.{list_all}
use Rattle.sg_plan.specs.Limits.{most_claims}
use Rattle.sg_plan.specs.Ballots.{ballot_has}
use Rattle.sg_plan.specs.Codes.{is_code}
use Rattle.sg_plan.specs.Fates.{fate_fits}
use Rattle.sg_plan.specs.declared.plan.Plan.{Plan}
use Rattle.sg_plan.specs.declared.plan.Stage.{Stage}
use Rattle.sg_plan.specs.declared.plan.Stage.TheVariants as stage
use Rattle.sg_record.specs.Formed.{is_draw}
use Rattle.sg_post.specs.declared.story.Claimed.{Claimed}
use Rattle.sg_post.specs.declared.story.Story.{Story}
use Rattle.sg_post.specs.declared.story.Told.{Told}

-- strictly rising ballots of the plan behind this one, each with a fate that fits it
abbrev pub fates_fit : Plan → ℕ → List Told → Bool
fates_fit plan last [] = true
fates_fit plan last (told ∷ fates) = (nat_lt last told.ballot && fate_fits plan told.ballot told.fate) && fates_fit plan told.ballot fates

-- the claim is of a ballot of the plan, in a race that it has, and of a code of the version
abbrev pub claim_fits : Plan → Claimed → Bool
claim_fits plan claimed = ballot_has plan claimed.ballot claimed.race && is_code plan claimed.code

-- claims stand only once sides are drawn, and are few; public bytes are 1 to 4,096
abbrev pub stage_fits : Stage → List Claimed → Bool
stage_fits (stage.Drawn draw) claims = is_draw draw && nat_le (length claims) most_claims
stage_fits other claims = length claims == 0

-- the story may be posted
abbrev pub story_fits : Plan → Story → Bool
story_fits plan story = fates_fit plan 0 story.fates && (stage_fits story.stage story.claims && list_all (claim_fits plan) story.claims)
