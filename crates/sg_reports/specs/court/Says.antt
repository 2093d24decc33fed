-- How the commands `recount` and `odds` end (this project's command line).
use Rattle.std.specs.Prelude.{◌≡◌, ℕ, List, Option, IfSome}
use Rattle.std.specs.Io.KnownBytes.{IsAtEnd}
use Rattle.sg_outside.specs.Streams.{Seen}
use Rattle.sg_outside.specs.TextLines.{lines_of}
use Rattle.sg_outside.specs.declared.outcome.Outcome.{Outcome}
use Rattle.sg_outside.specs.declared.outcome.Outcome.TheVariants.{Done}
use Rattle.sg_driver.specs.Says.{Ends}
use Rattle.sg_driver.specs.Taken.{TookLines, TookOneMore, TookUnended}
use Rattle.sg_reports.specs.court.Heard.{IsUnsettled}
use Rattle.sg_reports.specs.court.Odds.{OddsDue}
use Rattle.sg_reports.specs.court.Recounts.{RecountDue}

-- Of some lines, and where the input tells its bytes of all its lines, this outcome and this text are due. At most one line, or as
-- many bytes, were taken behind lines that settle nothing; and where the work is done, the input was read to its end.
pub record Answers (Due : List (List ℕ) → Outcome → List ℕ → Type 0) (outcome : Outcome) (text : List ℕ) (before now : Option (List ℕ)) : Type 0 where
  pub lines : List (List ℕ)
  pub due : Due lines outcome text
  pub told : IfSome before (λ bytes. Due (lines_of bytes) outcome text)
  pub took : TookOneMore IsUnsettled before now
  pub ended : outcome ≡ Done → IsAtEnd now

-- Where a read failed or memory was wanted, lines were taken that settle nothing, and at most one line or as many bytes behind them.
abbrev pub Says : (List (List ℕ) → Outcome → List ℕ → Type 0) → Outcome → Seen → Seen → Seen → Seen → Type 0
Says Due = Ends (Answers Due) (TookUnended IsUnsettled) (TookLines IsUnsettled)

-- `recount`
abbrev pub RecountSays : Outcome → Seen → Seen → Seen → Seen → Type 0
RecountSays = Says RecountDue

-- `odds`
abbrev pub OddsSays : Outcome → Seen → Seen → Seen → Seen → Type 0
OddsSays = Says OddsDue
