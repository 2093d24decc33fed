-- The laws of posting.
use Rattle.std.specs.Prelude.{◌≡◌, ℕ, true, List, ◌++◌, None}
use Rattle.sg_plan.specs.Limits.{fault_of}
use Rattle.sg_plan.specs.declared.plan.Draw.{Draw}
use Rattle.sg_plan.specs.declared.plan.Plan.{Plan}
use Rattle.sg_plan.specs.declared.plan.Stage.{Stage}
use Rattle.sg_plan.specs.declared.plan.Stage.TheVariants as stage
use Rattle.sg_record.specs.Laws.{IsTextOf}
use Rattle.sg_record.specs.Typed.{AreDrawn}
use Rattle.sg_post.specs.Fits.{story_fits}
use Rattle.sg_post.specs.Posted.{posted_record, posted_text}
use Rattle.sg_post.specs.declared.story.Claimed.{Claimed}
use Rattle.sg_post.specs.declared.story.Story.{Story}

-- what stays when the stages are these: nothing while the ballots are voted on; the fates once they are closed; and once
-- sides are drawn the draw, and the claims, behind which others may come
abbrev pub Stays : Stage → Stage → Story → Story → Type 0
Stays stage.Voting later early late = Unit {0}
Stays stage.Closed stage.Voting early late = ⊥
Stays stage.Closed stage.Closed early late = late.fates ≡ early.fates
Stays stage.Closed (stage.Drawn draw) early late = late.fates ≡ early.fates
Stays (stage.Drawn draw) stage.Voting early late = ⊥
Stays (stage.Drawn draw) stage.Closed early late = ⊥
Stays (stage.Drawn draw) (stage.Drawn other) early late = (other ≡ draw) × (late.fates ≡ early.fates) × (more : List Claimed) × (late.claims ≡ early.claims ++ more)

-- the later story goes on from the earlier one
abbrev pub GoesOn : Story → Story → Type 0
GoesOn early late = Stays early.stage late.stage early late

-- what is posted stays posted: the text of a story is a front of the text of each story that goes on from it
abbrev pub PostedStays : Type 0
PostedStays = (plan : Plan) (seed : List ℕ) (early late : Story) → GoesOn early late → (rest : List ℕ) × (posted_text plan seed late ≡ posted_text plan seed early ++ rest)

-- what is posted once sides are drawn, of a story that may be posted, is the text of its record: this is formed, and its
-- words are of their kinds
abbrev pub PostedIsText : Type 0
PostedIsText = (plan : Plan) (seed : List ℕ) (story : Story) (draw : Draw) → fault_of plan ≡ None → story_fits plan story ≡ true → story.stage ≡ stage.Drawn draw → AreDrawn draw
    → IsTextOf (posted_text plan seed story) (posted_record plan seed story.fates draw story.claims)
