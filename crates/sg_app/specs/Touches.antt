-- What a command touches of what stands outside, and when nothing of that failed (this project's command line).
use Rattle.std.specs.Prelude.{◌≡◌, Bool, true, false}
use Rattle.sg_outside.specs.Faults.{Rose}
use Rattle.sg_clerk.specs.Outside.{Outside}
use Rattle.sg_words.specs.declared.command.Command.{Command}
use Rattle.sg_words.specs.declared.command.Command.TheVariants as command

-- whether a command reads the input, asks the keeper, changes the rows, and takes connections; and whether it reports on what
-- it reads: then it writes nothing before all of that is read
pub record Touched : Type 0 where
  pub reads : Bool
  pub keeps : Bool
  pub changes : Bool
  pub links : Bool
  pub reports : Bool

-- what reports on the input alone; what asks the keeper about the input; and what shows what the keeper has
abbrev pub reports : Touched
reports = record { reads = true; keeps = false; changes = false; links = false; reports = true }

abbrev pub asks : Touched
asks = record { reads = true; keeps = true; changes = true; links = false; reports = false }

abbrev pub shows : Touched
shows = record { reads = false; keeps = true; changes = false; links = false; reports = false }

abbrev pub touched : Command → Touched
touched command.Audit = reports
touched command.Init = asks
touched command.Sheet = shows
touched command.Do = asks
touched command.Scans = asks
touched (command.Serve asked) = record { reads = false; keeps = true; changes = true; links = true; reports = false }
touched command.Record = shows
touched command.Openings = shows
touched (command.Sample asked) = record { reads = false; keeps = false; changes = false; links = false; reports = false }
touched command.Recount = reports
touched command.Odds = reports
touched command.County = reports

abbrev pub reads_input : Command → Bool
reads_input asked = (touched asked).reads

abbrev pub asks_keeper : Command → Bool
asks_keeper asked = (touched asked).keeps

abbrev pub changes_rows : Command → Bool
changes_rows asked = (touched asked).changes

abbrev pub takes_links : Command → Bool
takes_links asked = (touched asked).links

abbrev pub is_report : Command → Bool
is_report asked = (touched asked).reports

-- no count of faults rose of what the command touches: of the input, of the keeper, of the links, of the output
pub record NothingFailed (asked : Command) (before now : Outside) : Type 0 where
  pub reads : reads_input asked ≡ true → ¬ Rose before.read_faults now.read_faults
  pub keeps : asks_keeper asked ≡ true → ¬ Rose before.keep_faults now.keep_faults
  pub links : takes_links asked ≡ true → ¬ Rose before.link_faults now.link_faults
  pub writes : ¬ Rose before.write_faults now.write_faults
