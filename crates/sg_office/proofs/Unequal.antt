-- A paper with another number of lists fits no races.
use Rattle.std.proofs.Common.{◌≡◌, ◌≢◌, ℕ, suc, ◌==◌, false, ◌&&◌, List, [], ◌∷◌, length, refl, ap, ◌∙◌}
use Rattle.std.proofs.Math.Bool.{and-false}
use Rattle.sg_plan.specs.Ballots.{candidates_of}
use Rattle.sg_plan.specs.declared.plan.Plan.{Plan}
use Rattle.sg_histories.specs.Answers.{fits_races}

pub unequal : (plan : Plan) (races : List ℕ) (paper : List (List ℕ)) → length paper ≢ length races → fits_races plan races paper ≡ false
unequal plan [] [] h = absurd (h refl)
unequal plan [] (list ∷ paper) h = refl
unequal plan (race ∷ races) [] h = refl
unequal plan (race ∷ races) (list ∷ paper) h =
    ap (λ b. (length list == candidates_of plan race) && b) (unequal plan races paper (λ e. h (ap (λ n. suc n) e))) ∙ and-false (length list == candidates_of plan race)
