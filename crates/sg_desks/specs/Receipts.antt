-- What is posted of a ballot (this project's rules for the office).
use Rattle.std.specs.Prelude.{ℕ, List, map}
use Rattle.std.specs.List.{flat_map}
use Rattle.sg_plan.specs.Ballots.{ballot_row, races_of_ballot}
use Rattle.sg_plan.specs.declared.plan.Fate.{Fate}
use Rattle.sg_plan.specs.declared.plan.Plan.{Plan}
use Rattle.sg_tables.specs.Posts.{posted_codes}
use Rattle.sg_acts.specs.declared.replies.CodeSeen.{CodeSeen}

-- a code of a race
abbrev pub code_seen : ℕ → ℕ → CodeSeen
code_seen race code = record { race = race; code = code }

-- the codes posted of a ballot with this fate, in the order of the record's lines
abbrev pub posted_of : Plan → List ℕ → ℕ → Fate → List CodeSeen
posted_of plan seed ballot what =
    flat_map (λ race. map (code_seen race) (posted_codes plan seed race (ballot_row plan race ballot) what)) (races_of_ballot plan ballot)
