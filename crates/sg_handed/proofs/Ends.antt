-- How `openings` ends, from what was opened and what was written.
use Rattle.std.proofs.Common.{◌≡◌, ℕ, Bool, true, false, List, inl, inr, refl, sym, ap, ◌∙◌, subst}
use Rattle.std.specs.Io.KnownBytes.{Appends}
use Rattle.std.proofs.lemmas.Bool.{true≢false}
use Rattle.sg_outside.specs.Streams.{AppendsFront, Seen}
use Rattle.sg_outside.specs.declared.outcome.Outcome.{Outcome}
use Rattle.sg_outside.specs.declared.outcome.Outcome.TheVariants as outcome
use Rattle.sg_plan.specs.declared.plan.Stage.{Stage}
use Rattle.sg_plan.specs.declared.plan.Stage.TheVariants as stage
use Rattle.sg_keeper.specs.declared.rows.Rows.{Rows}
use Rattle.sg_keeper.specs.declared.setup.Setup.{Setup}
use Rattle.sg_post.specs.declared.story.Story.{Story}
use Rattle.sg_tables.specs.Tables.{MadeFrom}
use Rattle.sg_histories.specs.Histories.{Entry}
use Rattle.sg_histories.specs.Standing.{StandsFor}
use Rattle.sg_histories.specs.Stories.{story_of}
use Rattle.sg_histories.specs.declared.kept.Kept.{Kept}
use Rattle.sg_openings.specs.Openings.{openings_text}
use Rattle.sg_clerk.specs.Opening.{IsOpen, WritesPart}
use Rattle.sg_clerk.specs.Talks.{ClosedSays}
use Rattle.sg_clerk.proofs.Showing.{closed_shows, office_shows}
use Rattle.sg_handed.specs.Handed.{IsOffice, OpeningsSays, due_at, due_of, is_drawn, undrawn_line}
use Rattle.sg_handed.specs.inside.Endings.{HandsOver}

-- WHAT IS DUE

-- behind the draw the openings
pub drawn_due : (setup : Setup) (at : Stage) → is_drawn at ≡ true → due_at setup at ≡ openings_text setup.plan setup.seed.0
drawn_due setup stage.Voting is = absurd (true≢false (sym is))
drawn_due setup stage.Closed is = absurd (true≢false (sym is))
drawn_due setup (stage.Drawn draw) is = refl

-- and before it the line of the refusal
pub undrawn_due : (setup : Setup) (at : Stage) → is_drawn at ≡ false → due_at setup at ≡ undrawn_line
undrawn_due setup stage.Voting is = refl
undrawn_due setup stage.Closed is = refl
undrawn_due setup (stage.Drawn draw) is = absurd (true≢false is)

-- the stage of an office is that of its story
pub stage_told : (kept : Kept) (history : List Entry) (story : Story) → StandsFor kept history → story ≡ story_of kept.setup history → is_drawn kept.stage ≡ is_drawn story.stage
stage_told kept history story stands is = ap is_drawn stands.stage ∙ sym (ap (λ (s : Story). is_drawn s.stage) is)

-- the openings of the office's tables are what is due of it behind the draw
tables_due : (kept : Kept) (tables : MadeFrom) → tables ≡ record { plan = kept.setup.plan; seed = kept.setup.seed.0 }
    → openings_text tables.plan tables.seed ≡ openings_text kept.setup.plan kept.setup.seed.0
tables_due kept tables same = ap (λ (made : MadeFrom). openings_text made.plan made.seed) same

-- they were written whole
pub rows_whole : (kept : Kept) (tables : MadeFrom) (out out' : Seen) → tables ≡ record { plan = kept.setup.plan; seed = kept.setup.seed.0 } → is_drawn kept.stage ≡ true
    → Appends out.bytes out'.bytes (openings_text tables.plan tables.seed) → HandsOver outcome.Done kept out out'
rows_whole kept tables out out' same is written = (is, subst (λ (l : List ℕ). Appends out.bytes out'.bytes l) (tables_due kept tables same) written)

-- a front of them was
pub rows_part : (kept : Kept) (tables : MadeFrom) (out out' : Seen) → tables ≡ record { plan = kept.setup.plan; seed = kept.setup.seed.0 } → is_drawn kept.stage ≡ true
    → AppendsFront out.bytes out'.bytes (openings_text tables.plan tables.seed) → AppendsFront out.bytes out'.bytes (due_at kept.setup kept.stage)
rows_part kept tables out out' same is written =
    subst (λ (l : List ℕ). AppendsFront out.bytes out'.bytes l) (tables_due kept tables same ∙ sym (drawn_due kept.setup kept.stage is)) written

-- a front of the refusal's line was
pub line_part : (kept : Kept) (out out' : Seen) → is_drawn kept.stage ≡ false → AppendsFront out.bytes out'.bytes undrawn_line → AppendsFront out.bytes out'.bytes (due_at kept.setup kept.stage)
line_part kept out out' is written = subst (λ (l : List ℕ). AppendsFront out.bytes out'.bytes l) (sym (undrawn_due kept.setup kept.stage is)) written

-- THE OFFICE

-- the rows are those of an office whose draw is made, or isn't, as what is kept says
office_is : (kept : Kept) (rows : Rows) (drawn : Bool) → IsOpen kept rows → is_drawn kept.stage ≡ drawn → IsOffice kept.setup drawn rows
office_is kept rows drawn opens is = record { whole = opens.whole; each = λ text history lawful same. ap is_drawn (sym (opens.each text history lawful same).stage) ∙ is }

-- a front of what is due of it was written
due_part : (kept : Kept) (out out' : Seen) → AppendsFront out.bytes out'.bytes (due_at kept.setup kept.stage) → WritesPart due_of kept out out'
due_part kept out out' written = record { text = due_at kept.setup kept.stage; is = λ history stands. ap (due_at kept.setup) stands.stage; written = written }

-- behind an office that was opened
pub office_ends : (how : Outcome) (kept : Kept) (tells : Type 0) (rows : Rows) (faults faults' : ℕ) (out out' : Seen)
    → (tells → IsOpen kept rows) → HandsOver how kept out out' → OpeningsSays how tells rows faults faults' out out'
office_ends outcome.Done kept tells rows faults faults' out out' opens ends = record { setup = kept.setup; drawn = λ told. office_is kept rows true (opens told) ends.0; written = ends.1 }
office_ends outcome.WriteFailed kept tells rows faults faults' out out' opens ends =
    office_shows due_of outcome.WriteFailed kept tells rows faults faults' out out' opens (ends.0, due_part kept out out' ends.1)
office_ends outcome.Refused kept tells rows faults faults' out out' opens ends =
    inr (record { setup = kept.setup; undrawn = λ told. office_is kept rows false (opens told) ends.0; written = ends.1 })
office_ends outcome.NoMemory kept tells rows faults faults' out out' opens (inl same) = inl same
office_ends outcome.NoMemory kept tells rows faults faults' out out' opens (inr part) = office_shows due_of outcome.NoMemory kept tells rows faults faults' out out' opens (inr (due_part kept out out' part))
office_ends _ kept tells rows faults faults' out out' opens ends = absurd ends

-- behind rows that no office was opened of
pub none_ends : (how : Outcome) (tells : Type 0) (rows : Rows) (faults faults' : ℕ) (out out' : Seen) → ClosedSays how tells rows faults faults' out out' → OpeningsSays how tells rows faults faults' out out'
none_ends outcome.WriteFailed tells rows faults faults' out out' says = closed_shows due_of outcome.WriteFailed tells rows faults faults' out out' says
none_ends outcome.KeeperFailed tells rows faults faults' out out' says = says
none_ends outcome.Refused tells rows faults faults' out out' says = inl says
none_ends outcome.Damaged tells rows faults faults' out out' says = says
none_ends outcome.NoMemory tells rows faults faults' out out' says = inl says
none_ends _ tells rows faults faults' out out' says = absurd says
