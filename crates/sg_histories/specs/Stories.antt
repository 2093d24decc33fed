-- The story that a history tells: what is posted of it beside the tables (this project's rules for the office).
use Rattle.std.specs.List.{filter}
use Rattle.std.specs.Prelude.{ℕ, ◌+◌, Bool, true, false, not, List, map}
use Rattle.sg_plan.specs.Ballots.{ballot_row, ballots_of}
use Rattle.sg_plan.specs.declared.plan.Fate.{Fate}
use Rattle.sg_plan.specs.declared.plan.Fate.TheVariants as fate
use Rattle.sg_plan.specs.declared.plan.Plan.{Plan}
use Rattle.sg_streams.specs.Numbers.{numbers_below}
use Rattle.sg_tables.specs.Posts.{right_word}
use Rattle.sg_keeper.specs.declared.setup.Setup.{Setup}
use Rattle.sg_post.specs.declared.story.Claimed.{Claimed}
use Rattle.sg_post.specs.declared.story.Story.{Story}
use Rattle.sg_post.specs.declared.story.Told.{Told}
use Rattle.sg_histories.specs.Histories.{Entry, claims_of, fate_of, stage_of}
use Rattle.sg_histories.specs.declared.kept.Claim.{Claim}

-- the ballot was not used
abbrev pub is_unused_fate : Fate → Bool
is_unused_fate fate.Unused = true
is_unused_fate other = false

-- what is told of a ballot
abbrev pub told_of : (ℕ → Fate) → ℕ → Told
told_of fates ballot = record { ballot = ballot; fate = fates ballot }

-- the ballots that were used, rising, each with its fate
abbrev pub told_fates : Plan → (ℕ → Fate) → List Told
told_fates plan fates = filter (λ told. not (is_unused_fate told.fate)) (map (λ place. told_of fates (place + 1)) (numbers_below (ballots_of plan)))

-- a claim with its right answer
abbrev pub answered : Plan → List ℕ → (ℕ → Fate) → Claim → Claimed
answered plan seed fates claim = record {
  ballot = claim.ballot;
  race = claim.race;
  code = claim.code;
  word = right_word plan seed claim.race (ballot_row plan claim.race claim.ballot) (fates claim.ballot) claim.code;
}

-- the story of a history
abbrev pub story_of : Setup → List Entry → Story
story_of setup history = record {
  fates = told_fates setup.plan (fate_of history);
  stage = stage_of history;
  claims = map (answered setup.plan setup.seed.0 (fate_of history)) (claims_of history);
}
