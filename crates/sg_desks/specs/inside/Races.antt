-- Papers and posted codes of a ballot, over a list of its races.
use Rattle.std.specs.Prelude.{ℕ, List, map}
use Rattle.std.specs.List.{flat_map}
use Rattle.sg_plan.specs.Ballots.{ballot_row}
use Rattle.sg_plan.specs.declared.plan.Fate.{Fate}
use Rattle.sg_plan.specs.declared.plan.Plan.{Plan}
use Rattle.sg_tables.specs.Posts.{posted_codes}
use Rattle.sg_tables.specs.Tables.{codes_of_row}
use Rattle.sg_acts.specs.declared.replies.CodeSeen.{CodeSeen}
use Rattle.sg_desks.specs.Receipts.{code_seen}

-- the lists of a ballot's paper in these races
abbrev pub lists_of : Plan → List ℕ → ℕ → List ℕ → List (List ℕ)
lists_of plan seed ballot races = map (λ race. codes_of_row plan seed race (ballot_row plan race ballot)) races

-- the codes posted of a ballot with this fate in these races
abbrev pub posted_among : Plan → List ℕ → ℕ → Fate → List ℕ → List CodeSeen
posted_among plan seed ballot what races = flat_map (λ race. map (code_seen race) (posted_codes plan seed race (ballot_row plan race ballot) what)) races
