-- What is posted of an unaltered run is accepted.
use Rattle.std.specs.Prelude.{◌≡◌, ℕ, List, None}
use Rattle.sg_outside.specs.TextLines.{lines_of}
use Rattle.sg_plan.specs.Limits.{fault_of}
use Rattle.sg_plan.specs.declared.plan.Plan.{Plan}
use Rattle.sg_check.specs.Verdict.{IsVerdict, totals_of}
use Rattle.sg_check.specs.declared.judged.Judged.TheVariants as judged
use Rattle.sg_post.specs.Posted.{posted_text}
use Rattle.sg_post.specs.declared.story.Story.{Story}
use Rattle.sg_accepted.specs.Unaltered.{IsUnaltered}

-- for every plan that keeps its limits, every seed and every unaltered story, the verdict on what is posted is yes
abbrev pub UnalteredIsAccepted : Type 0
UnalteredIsAccepted = (plan : Plan) (seed : List ℕ) (story : Story) → fault_of plan ≡ None → IsUnaltered plan seed story
    → IsVerdict (lines_of (posted_text plan seed story)) (judged.Yes (totals_of (lines_of (posted_text plan seed story))))
