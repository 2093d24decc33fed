-- What is made ready before an act is kept.
use Rattle.std.specs.Prelude.{◌≡◌, ℕ, ◌-◌, ◌≤◌, List, [], ◌∷◌, ◌++◌, slice_set}
use Rattle.sg_plan.specs.Ballots.{ballots_of}
use Rattle.sg_plan.specs.declared.plan.Fate.TheVariants as fate
use Rattle.sg_plan.specs.declared.plan.Plan.{Plan}
use Rattle.sg_plan.specs.declared.plan.Stage.TheVariants as stage
use Rattle.sg_keeper.specs.Rows.{done_before, put}
use Rattle.sg_acts.specs.declared.asks.Act.{Act}
use Rattle.sg_acts.specs.declared.asks.Act.TheVariants as act
use Rattle.sg_acts.specs.declared.asks.Stamp.{Stamp}
use Rattle.sg_keeper.specs.declared.rows.Change.{Change}
use Rattle.sg_keeper.specs.declared.rows.DoneRow.{DoneRow}
use Rattle.sg_histories.specs.declared.kept.Slot.{Slot}
use Rattle.sg_office.specs.declared.ready.Part.{Part}
use Rattle.sg_office.specs.declared.ready.Part.TheVariants as part
use Rattle.sg_office.specs.declared.ready.Ready.{Ready}
use Rattle.sg_histories.specs.Answers.{entry_of}
use Rattle.sg_histories.specs.Histories.{Entry}
use Rattle.sg_histories.specs.KeptRows.{done_row, row_of_act}
use Rattle.sg_office.specs.inside.Now.{scanner_at}
use Rattle.sg_histories.specs.declared.kept.Kept.{Kept}
use Rattle.sg_histories.specs.Standing.{StandsFor}

-- what an act of a station changes, beside the rows
abbrev pub part_of : List Slot → ℕ → Act → Part
part_of slots station (act.Scan ballot marks) = part.Ballot ballot (record { fate = fate.Cast marks; station = station })
part_of slots station (act.Spoil ballot) = part.Ballot ballot (record { fate = fate.Spoiled; station = scanner_at slots ballot })
part_of slots station (act.Audit ballot paper) = part.Ballot ballot (record { fate = fate.Audited paper; station = scanner_at slots ballot })
part_of slots station act.Close = part.Stage stage.Closed
part_of slots station (act.Draw drawn) = part.Stage (stage.Drawn drawn)
part_of slots station (act.Claim ballot race code) = part.Claim (record { ballot = ballot; race = race; code = code })
part_of slots station (act.Void ballot) = part.Ballot ballot (record { fate = fate.Voided; station = scanner_at slots ballot })

-- what an act adds to the rows, where so many claims are kept
abbrev pub act_change : ℕ → ℕ → Stamp → Act → Change
act_change version claims stamp asked = record { row = row_of_act version claims asked; done = done_row version (entry_of stamp asked) }

-- the part and the change
pub record IsReady (ready : Ready) (changed : Part) (change : Change) : Type 0 where
  pub part_is : ready.part ≡ changed
  pub change_is : ready.change ≡ change

-- what is kept when a part was changed and an act was done
abbrev pub with_part : Kept → Part → DoneRow → Kept
with_part kept (part.Ballot ballot slot) done = record kept { slots = slice_set kept.slots (ballot - 1) slot; dones = put done_before done kept.dones }
with_part kept (part.Stage now) done = record kept { stage = now; dones = put done_before done kept.dones }
with_part kept (part.Claim claim) done = record kept { claims = kept.claims ++ claim ∷ []; dones = put done_before done kept.dones }

-- the part is of a ballot of the plan, or not of a ballot
abbrev pub FitsPart : Plan → Part → Type 0
FitsPart plan (part.Ballot ballot slot) = (1 ≤ ballot) × (ballot ≤ ballots_of plan)
FitsPart plan (part.Stage now) = Unit {0}
FitsPart plan (part.Claim claim) = Unit {0}

-- each history that the office stands for leads to another one, for which it then stands
abbrev pub Allows : Kept → Kept → Type 0
Allows kept new = (history : List Entry) → StandsFor kept history → (next : List Entry) × StandsFor new next
