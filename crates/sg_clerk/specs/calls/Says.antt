-- How the command `serve` ends (this project's command line).
use Rattle.std.specs.Prelude.{◌≡◌, ℕ, ◌⊎◌, Option}
use Rattle.sg_outside.specs.Faults.{Rose}
use Rattle.sg_outside.specs.Streams.{Seen}
use Rattle.sg_outside.specs.declared.outcome.Outcome.{Outcome}
use Rattle.sg_outside.specs.declared.outcome.Outcome.TheVariants as outcome
use Rattle.sg_links.specs.Board.{Board}
use Rattle.sg_keeper.specs.declared.rows.Rows.{Rows}
use Rattle.sg_keeper.specs.declared.setup.Setup.{Setup}
use Rattle.sg_histories.specs.Opens.{OpenTo, Whole}
use Rattle.sg_clerk.specs.Outside.{Outside, output_at}
use Rattle.sg_clerk.specs.Talks.{StaysClosed, Talks}
use Rattle.sg_clerk.specs.calls.Calls.{AreServed, stores_in}
use Rattle.sg_clerk.specs.calls.Serves.{CallsEnd, listening}

-- an office was opened and the port listened on, and it served connections
abbrev pub HasServed : Outcome → ℕ → ℕ → (tells : Type 0) → Rows → Rows → Outside → Outside → Type 0
HasServed result port count tells rows rows' before now =
    Talks AreServed stores_in (CallsEnd count (listening port before) now) result tells rows rows' before.keep_faults now.keep_faults

-- an office was opened, and the links' count of faults rose where the port was to be listened on; no connection was taken,
-- nothing was written, and the rows are as they were, where they are told
pub record ListenFails (tells : Type 0) (rows rows' : Rows) (links links' : Option Board) (faults faults' : ℕ) (out out' : Seen) : Type 0 where
  pub setup : Setup
  pub whole : tells → OpenTo rows (Whole setup)
  pub cause : Rose faults faults'
  pub board : links' ≡ links
  pub same : tells → rows' ≡ rows
  pub unwritten : out' ≡ out

-- no connection was taken, and the links did not fail
abbrev pub IsUnlinked : Outside → Outside → Type 0
IsUnlinked before now = (now.board ≡ before.board) × (now.link_faults ≡ before.link_faults)

-- How `serve` ended: by the end of its run over connections; or the links failed before it; or no office was opened. It may
-- also be that memory was wanted behind an office that was opened, before a port was listened on; that is told as where none
-- is opened.
abbrev pub ServeSays : Outcome → ℕ → ℕ → (tells : Type 0) → Rows → Rows → Outside → Outside → Type 0
ServeSays result port count tells rows rows' before now =
    HasServed result port count tells rows rows' before now
    ⊎ ((result ≡ outcome.LinksFailed) × ListenFails tells rows rows' before.board now.board before.link_faults now.link_faults (output_at before) (output_at now))
    ⊎ StaysClosed (IsUnlinked before now) result tells rows rows' before.keep_faults now.keep_faults (output_at before) (output_at now)
