-- What the proofs of the laws of rows take of a plan and of a reader: it follows from the plan's limits and from
-- reading acts.
use Rattle.std.specs.Option.{option_map_or}
use Rattle.std.specs.Prelude.{◌≡◌, ℕ, ◌≤◌, ◌<◌, ◌^◌, true, List, length, Option, Some, pos, false}
use Rattle.sg_plan.specs.Ballots.{races_of_ballot}
use Rattle.sg_plan.specs.declared.plan.Plan.{Plan}
use Rattle.sg_acts.specs.declared.asks.Act.{Act}
use Rattle.sg_keeper.specs.declared.rows.BallotRow.{BallotRow}
use Rattle.sg_keeper.specs.declared.rows.ChangeRow.TheVariants as change
use Rattle.sg_keeper.specs.declared.rows.StageRow.{StageRow}
use Rattle.sg_keeper.specs.declared.setup.Setup.{Setup}
use Rattle.sg_histories.specs.Answers.{is_ballot}
use Rattle.sg_histories.specs.KeptRows.{row_of_act}
use Rattle.sg_histories.specs.ValidRows.{ballot_text, fits, natural, stage_text}

-- each ballot of the plan has a race: so it is in a plan that keeps its limits
abbrev pub HasRaces : Plan → Type 0
HasRaces plan = (ballot : ℕ) → is_ballot plan ballot ≡ true → 1 ≤ length (races_of_ballot plan ballot)

-- each ballot of the plan has a number below 2^32: there are at most 20,000
abbrev pub SmallBallots : Plan → Type 0
SmallBallots plan = (ballot : ℕ) → is_ballot plan ballot ≡ true → ballot < 2 ^ 32

-- a row whose text is read tells just the act that is read, so its detail is spelled as the act spells it
pub record ReadsRows (setup : Setup) (read : List ℕ → Option Act) : Type 0 where
  pub ballots : (row : BallotRow) (text : List ℕ) (done : Act) → option_map_or (is_ballot setup.plan) (natural row.ballot) false ≡ true → ballot_text row ≡ Some text → read text ≡ Some done → fits setup.plan done ≡ true → (kept : ℕ) → row_of_act setup.plan.version kept done ≡ change.Ballot row
  pub draws : (row : StageRow) (done : Act) → row.step ≡ pos 2 → read (stage_text row) ≡ Some done → fits setup.plan done ≡ true → (kept : ℕ) → row_of_act setup.plan.version kept done ≡ change.Stage row
