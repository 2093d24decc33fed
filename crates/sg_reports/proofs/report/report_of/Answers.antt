-- No other command is a report.
use Rattle.sg_reports.proofs.Reporting.{no_report}
use Rattle.sg_reports.proofs.report.report_of.Goals as goal

pub returns-in_default : goal.returns-in_default
returns-in_default c = no_report c.args.command c.in_default.not-Audit c.in_default.not-Recount c.in_default.not-Odds c.in_default.not-County
