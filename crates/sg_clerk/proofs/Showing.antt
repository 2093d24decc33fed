-- How a command that shows what is kept ends, from what was opened and what was written.
use Rattle.std.proofs.Common.{◌≡◌, ℕ, List, inl, inr, refl, sym, ap, ◌∙◌, subst}
use Rattle.sg_outside.specs.Streams.{AppendsFront, Seen}
use Rattle.sg_outside.specs.declared.outcome.Outcome.{Outcome}
use Rattle.sg_outside.specs.declared.outcome.Outcome.TheVariants as outcome
use Rattle.sg_keeper.specs.declared.rows.Rows.{Rows}
use Rattle.sg_keeper.specs.declared.setup.Setup.{Setup}
use Rattle.sg_post.specs.Posted.{posted_text}
use Rattle.sg_post.specs.declared.story.Story.{Story}
use Rattle.sg_tables.specs.Tables.{MadeFrom}
use Rattle.sg_histories.specs.Histories.{Entry}
use Rattle.sg_histories.specs.Opens.{Damaged, Empty, OpenTo, Opens, Whole}
use Rattle.sg_histories.specs.Standing.{StandsFor}
use Rattle.sg_histories.specs.Stories.{story_of}
use Rattle.sg_histories.specs.declared.kept.Kept.{Kept}
use Rattle.sg_clerk.specs.Sheet.{sheet_of, sheet_text}
use Rattle.sg_clerk.specs.Shown.{IsDue, IsDueOf, ShowSays, WritesFront, damaged_line, empty_line, posted_of}
use Rattle.sg_clerk.specs.Opening.{IsOpen, IsTextOf, OfficeEnds, WritesPart}
use Rattle.sg_clerk.specs.Talks.{ClosedSays, IsCutLine, NoOffice, NoSetup}

-- WHAT IS POSTED

-- the text of the office's story is what is posted of each of its histories
pub posted_is : (kept : Kept) (tables : MadeFrom) (story : Story) → tables ≡ record { plan = kept.setup.plan; seed = kept.setup.seed.0 }
    → ((history : List Entry) → StandsFor kept history → story ≡ story_of kept.setup history) → IsTextOf posted_of kept (posted_text tables.plan tables.seed story)
posted_is kept tables story same told history stands =
    ap (λ (made : MadeFrom). posted_text made.plan made.seed story) same
    ∙ ap (λ (one : Story). posted_text kept.setup.plan kept.setup.seed.0 one) (told history stands)

-- a front of it was written
pub posted_part : (kept : Kept) (tables : MadeFrom) (story : Story) (out out' : Seen) → tables ≡ record { plan = kept.setup.plan; seed = kept.setup.seed.0 }
    → ((history : List Entry) → StandsFor kept history → story ≡ story_of kept.setup history)
    → AppendsFront out.bytes out'.bytes (posted_text tables.plan tables.seed story) → WritesPart posted_of kept out out'
posted_part kept tables story out out' same told written = record {
  text = posted_text tables.plan tables.seed story;
  is = posted_is kept tables story same told;
  written = written;
}

-- WHAT THE SHEET IS

-- the text of the office's tables is that of each of its histories
sheet_is : (kept : Kept) (tables : MadeFrom) → tables ≡ record { plan = kept.setup.plan; seed = kept.setup.seed.0 } → IsTextOf sheet_of kept (sheet_text tables.plan tables.seed)
sheet_is kept tables same history stands = ap (λ (made : MadeFrom). sheet_text made.plan made.seed) same

-- a front of it was written
pub sheet_part : (kept : Kept) (tables : MadeFrom) (out out' : Seen) → tables ≡ record { plan = kept.setup.plan; seed = kept.setup.seed.0 }
    → AppendsFront out.bytes out'.bytes (sheet_text tables.plan tables.seed) → WritesPart sheet_of kept out out'
sheet_part kept tables out out' same written = record { text = sheet_text tables.plan tables.seed; is = sheet_is kept tables same; written = written }

-- ENDINGS

-- what is due of rows that open so
due_as : (due_of : Setup → List Entry → List ℕ) (tells : Type 0) (rows : Rows) (opens : Opens) (due : List ℕ)
    → (tells → OpenTo rows opens) → IsDueOf due_of rows opens due → IsDue due_of tells rows due
due_as due_of tells rows opens due opened is told = (opens, opened told, is)

-- what is due of rows that open to an office is what is shown of it
due_whole : (due_of : Setup → List Entry → List ℕ) (kept : Kept) (tells : Type 0) (rows : Rows) (text : List ℕ) → (tells → IsOpen kept rows)
    → IsTextOf due_of kept text → IsDue due_of tells rows text
due_whole due_of kept tells rows text opens is told =
    let open_now = opens told in
    (Whole kept.setup, open_now.whole, λ kept_text history lawful same. is history (open_now.each kept_text history lawful same))

-- a front of what is shown of an office was written
due_front : (due_of : Setup → List Entry → List ℕ) (kept : Kept) (tells : Type 0) (rows : Rows) (out out' : Seen) → (tells → IsOpen kept rows)
    → WritesPart due_of kept out out' → WritesFront due_of tells rows out out'
due_front due_of kept tells rows out out' opens part = record {
  due = part.text;
  is_due = due_whole due_of kept tells rows part.text opens part.is;
  written = part.written;
}

-- behind an office that was opened
pub office_shows : (due_of : Setup → List Entry → List ℕ) (how : Outcome) (kept : Kept) (tells : Type 0) (rows : Rows) (faults faults' : ℕ) (out out' : Seen)
    → (tells → IsOpen kept rows) → OfficeEnds due_of how kept out out' → ShowSays due_of how tells rows faults faults' out out'
office_shows due_of outcome.Done kept tells rows faults faults' out out' opens ends = record {
  due = ends.text;
  whole = λ told. (kept.setup, (opens told).whole);
  is_due = due_whole due_of kept tells rows ends.text opens ends.is;
  written = ends.written;
}
office_shows due_of outcome.WriteFailed kept tells rows faults faults' out out' opens ends =
    record { cause = ends.0; front = due_front due_of kept tells rows out out' opens ends.1 }
office_shows due_of outcome.NoMemory kept tells rows faults faults' out out' opens (inl same) = inl same
office_shows due_of outcome.NoMemory kept tells rows faults faults' out out' opens (inr part) = inr (due_front due_of kept tells rows out out' opens part)
office_shows due_of _ kept tells rows faults faults' out out' opens ends = absurd ends

-- a front of the line that is due was written
line_front : (due_of : Setup → List Entry → List ℕ) (tells : Type 0) (rows : Rows) (out out' : Seen) → IsCutLine tells rows out out' → WritesFront due_of tells rows out out'
line_front due_of tells rows out out' (NoSetup empty written) =
    record { due = empty_line; is_due = due_as due_of tells rows Empty empty_line empty refl; written = written }
line_front due_of tells rows out out' (NoOffice table row damage written) =
    record { due = damaged_line table row; is_due = due_as due_of tells rows (Damaged table row) (damaged_line table row) damage refl; written = written }

-- behind rows that no office was opened of
pub closed_shows : (due_of : Setup → List Entry → List ℕ) (how : Outcome) (tells : Type 0) (rows : Rows) (faults faults' : ℕ) (out out' : Seen)
    → ClosedSays how tells rows faults faults' out out' → ShowSays due_of how tells rows faults faults' out out'
closed_shows due_of outcome.WriteFailed tells rows faults faults' out out' says = record { cause = says.cause; front = line_front due_of tells rows out out' says.cut }
closed_shows due_of outcome.KeeperFailed tells rows faults faults' out out' says = says
closed_shows due_of outcome.Refused tells rows faults faults' out out' says = says
closed_shows due_of outcome.Damaged tells rows faults faults' out out' says = says
closed_shows due_of outcome.NoMemory tells rows faults faults' out out' says = inl says
closed_shows due_of _ tells rows faults faults' out out' says = absurd says
