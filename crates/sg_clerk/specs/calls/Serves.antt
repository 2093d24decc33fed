-- How the command `serve` ends (this project's command line).
use Rattle.std.specs.Prelude.{◌≡◌, ◌⊎◌, ℕ, ◌+◌, ◌-◌, ◌^◌, ◌<◌, ◌≤◌, List, length, Option, None, option_map}
use Rattle.std.specs.List.{concat}
use Rattle.std.specs.Io.KnownBytes.{Appends}
use Rattle.sg_outside.specs.Faults.{Rose}
use Rattle.sg_outside.specs.Streams.{Seen}
use Rattle.sg_links.specs.Board.{Board, listens}
use Rattle.sg_keeper.specs.declared.rows.Rows.{Rows}
use Rattle.sg_keeper.specs.declared.setup.Setup.{Setup}
use Rattle.sg_histories.specs.Histories.{Entry}
use Rattle.sg_histories.specs.Standing.{StandsFor}
use Rattle.sg_histories.specs.declared.kept.Kept.{Kept}
use Rattle.sg_clerk.specs.Outside.{Outside, output_at}
use Rattle.sg_clerk.specs.calls.Calls.{AreServed, Call, TakesKnown, failures_in, lines_in, stores_in}
use Rattle.sg_clerk.specs.Ends.{CutsLast, HasFailed}
use Rattle.sg_clerk.specs.Talks.{Talked}
use Rattle.sg_clerk.specs.declared.ended.Ending.{Ending}
use Rattle.sg_clerk.specs.declared.ended.Ending.TheVariants as ending

-- what an ending says of the connections taken, and of their lines: all were taken, and all lines written; or the links
-- failed behind fewer, and their lines were written; or a write failed, or memory was wanted, in the line of the last
abbrev pub EndsSo : Ending → ℕ → List Call → (written written' : Option (List ℕ)) → Type 0
EndsSo ending.Done count calls written written' = (length calls ≡ count) × Appends written written' (concat (lines_in calls))
EndsSo ending.LinkFault count calls written written' = (length calls < count) × Appends written written' (concat (lines_in calls))
EndsSo (ending.WriteFault None) count calls written written' = (length calls ≤ count) × CutsLast written written' (lines_in calls)
EndsSo ending.NoMemory count calls written written' = (length calls ≤ count) × CutsLast written written' (lines_in calls)
EndsSo other count calls written written' = ⊥

-- one more failure, where the links failed between connections
abbrev pub one_more : Ending → ℕ
one_more ending.LinkFault = 1
one_more _ = 0

-- How the run ended: at most as many connections failed as the links' count rose by, unless that stands at its last value.
pub record EndsCalls (count : ℕ) (board board' : Option Board) (faults faults' : ℕ) (out out' : Seen) (how : Ending) (setup : Setup) (calls : List Call) : Type 0 where
  pub failures : faults' < 2 ^ 64 - 1 → faults + (failures_in calls + one_more how) ≤ faults'
  pub takes : TakesKnown calls board board'
  pub cause : HasFailed how faults faults' out.faults out'.faults
  pub ends : EndsSo how count calls out.bytes out'.bytes

abbrev pub CallsEnd : ℕ → Outside → Outside → Ending → Setup → List Call → Type 0
CallsEnd count before now = EndsCalls count before.board now.board before.link_faults now.link_faults (output_at before) (output_at now)

-- Connections were taken behind this history and served by a talk of the office.
abbrev pub ServesCalls : Ending → Setup → List Entry → ℕ → (tells : Type 0) → Rows → Rows → Outside → Outside → Type 0
ServesCalls how setup history count tells rows rows' before now =
    Talked AreServed stores_in (CallsEnd count before now how) setup history tells rows rows' before.keep_faults now.keep_faults

-- nothing was taken or written, for want of memory or since the port could not be listened on
pub record StaysShut (how : Ending) (tells : Type 0) (rows after : Rows) (before now : Outside) : Type 0 where
  pub cause : ((how ≡ ending.NoMemory) × (now.link_faults ≡ before.link_faults))
      ⊎ ((how ≡ ending.LinkFault) × Rose before.link_faults now.link_faults)
  pub board : now.board ≡ before.board
  pub written : now.written ≡ before.written
  pub rows_are : tells → after ≡ rows
  pub write_faults : now.write_faults ≡ before.write_faults
  pub keep_faults : now.keep_faults ≡ before.keep_faults

-- where the port is listened on
abbrev pub listening : ℕ → Outside → Outside
listening port scene = record scene { board = option_map (listens port) scene.board }

-- how `serve` ended, from an office on: the port was listened on, and connections were served by a talk from each history
-- that the office stands for; or nothing was done
abbrev pub ServesPort : Ending → Kept → ℕ → ℕ → (tells : Type 0) → Rows → Rows → Outside → Outside → Type 0
ServesPort how office port count tells rows after before now =
    ((history : List Entry) → StandsFor office history → ServesCalls how office.setup history count tells rows after (listening port before) now)
    ⊎ StaysShut how tells rows after before now
