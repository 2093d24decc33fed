-- The run of a sample election, by a number for its seed and a number of ballots (this project's sample run): its plan
-- and setup, the acts, and the history, the story and the record that they make.
use Rattle.std.specs.Int.{w32, to_be_bytes}
use Rattle.std.specs.Option.{option_map_or}
use Rattle.std.specs.Prelude.{ℕ, zero, suc, ◌+◌, ◌%◌, ◌==◌, if◌then◌else◌, List, [], ◌∷◌, ◌++◌, length, replicate, codes, Option, Some, None}
use Rattle.sg_plan.specs.declared.plan.Draw.{Draw}
use Rattle.sg_plan.specs.declared.plan.Draw.TheVariants as draw
use Rattle.sg_plan.specs.declared.plan.Mark.{Mark}
use Rattle.sg_plan.specs.declared.plan.Plan.{Plan}
use Rattle.sg_plan.specs.declared.plan.Race.{Race}
use Rattle.sg_plan.specs.declared.plan.Style.{Style}
use Rattle.sg_tables.specs.Tables.{paper_of}
use Rattle.sg_acts.specs.declared.asks.Act.{Act}
use Rattle.sg_acts.specs.declared.asks.Act.TheVariants as act
use Rattle.sg_acts.specs.declared.asks.Ask.{Ask}
use Rattle.sg_acts.specs.declared.asks.Ask.TheVariants as ask
use Rattle.sg_keeper.specs.declared.setup.Setup.{Setup}
use Rattle.sg_post.specs.Posted.{posted_text}
use Rattle.sg_post.specs.declared.story.Story.{Story}
use Rattle.sg_histories.specs.Histories.{Entry}
use Rattle.sg_histories.specs.HistoryLaws.{history_after}
use Rattle.sg_histories.specs.Stories.{story_of}

-- THE SETUP

abbrev pub mayor : Race
mayor = record { name = codes "Mayor"; candidates = codes "Ada" ∷ codes "Ben" ∷ codes "Cy" ∷ []; votes = 1 }

abbrev pub council : Race
council = record { name = codes "Council"; candidates = codes "Dan" ∷ codes "Eve" ∷ codes "Fay" ∷ codes "Gus" ∷ []; votes = 2 }

abbrev pub both_races : Style
both_races = record { name = codes "All"; races = 0 ∷ 1 ∷ [] }

-- the plan: two races on one style of paper, in three instances
unfoldable pub sample_plan : ℕ → Plan
sample_plan ballots = record {
  version = 1;
  name = codes "Sample";
  instances = 3;
  races = mayor ∷ council ∷ [];
  styles = both_races ∷ [];
  runs = record { style = 0; count = ballots } ∷ [];
}

-- the seed: 28 zero bytes, and the number as four bytes, the highest first
unfoldable pub sample_seed : ℕ → List ℕ
sample_seed number = replicate 28 0 ++ to_be_bytes w32 number

-- the secret of the one station: 16 zero bytes
abbrev pub sample_secret : List ℕ
sample_secret = replicate 16 0

abbrev pub sample_setup : ℕ → ℕ → Setup
sample_setup number ballots = record {
  plan = sample_plan ballots;
  seed = record { 0 = sample_seed number };
  secrets = sample_secret ∷ [];
}

-- THE ACTS

abbrev pub mark : ℕ → ℕ → Mark
mark race candidate = record { race = race; candidate = candidate }

-- the marks of a ballot that is scanned: where its number ends with 1, one too many in the second race
unfoldable pub sample_marks : ℕ → List Mark
sample_marks ballot =
    mark 0 (ballot % 3) ∷ mark 1 (ballot % 4) ∷ mark 1 ((ballot + 1) % 4)
    ∷ (if ballot % 10 == 1 then mark 1 ((ballot + 2) % 4) ∷ [] else [])

-- what is done with a ballot, by the last digit of its number: 0 is spoiled, 5 audited with its true paper, 7 not used,
-- and all others are scanned
abbrev pub ballot_act : Plan → List ℕ → ℕ → Option Act
ballot_act plan seed ballot =
    (if ballot % 10 == 0 then Some (act.Spoil ballot)
    else (if ballot % 10 == 5 then Some (act.Audit ballot (paper_of plan seed ballot))
    else (if ballot % 10 == 7 then None
    else Some (act.Scan ballot (sample_marks ballot)))))

-- the public bytes of the draw: the number as four bytes
abbrev pub sample_draw : ℕ → Draw
sample_draw number = draw.Public (to_be_bytes w32 number)

-- THE ASKS, the newest first

-- the ask for an act behind these: the station numbers its acts from 0
abbrev pub ask_behind : List Ask → Act → Ask
ask_behind asks done = ask.Do (record { station = 0; secret = sample_secret; number = length asks }) done

abbrev pub with_act : List Ask → Act → List Ask
with_act asks done = ask_behind asks done ∷ asks

-- those for the first ballots
unfoldable pub ballot_asks : Setup → ℕ → List Ask
ballot_asks setup zero = []
ballot_asks setup (suc before) = option_map_or (with_act (ballot_asks setup before)) (ballot_act setup.plan setup.seed.0 (suc before)) (ballot_asks setup before)

-- all: those for the ballots, the close, and the draw
abbrev pub sample_asks : ℕ → ℕ → List Ask
sample_asks number ballots = with_act (with_act (ballot_asks (sample_setup number ballots) ballots) act.Close) (act.Draw (sample_draw number))

-- WHAT THEY MAKE

unfoldable pub sample_history : ℕ → ℕ → List Entry
sample_history number ballots = history_after (sample_setup number ballots) (sample_asks number ballots)

abbrev pub sample_story : ℕ → ℕ → Story
sample_story number ballots = story_of (sample_setup number ballots) (sample_history number ballots)

-- the text of the record
abbrev pub sample_record : ℕ → ℕ → List ℕ
sample_record number ballots = posted_text (sample_plan ballots) (sample_seed number) (sample_story number ballots)
