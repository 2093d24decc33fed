-- What is said of each command's call.
use Rattle.sg_app.proofs.work.obey.Goals as goal

pub returns-in-Audit-clause-says : goal.returns-in-Audit-clause-says
returns-in-Audit-clause-says g c = rw c.in-Audit.is c.write_report.ensures.says

pub returns-in-Init-clause-says : goal.returns-in-Init-clause-says
returns-in-Init-clause-says g c = rw c.in-Init.is c.init.ensures.says

pub returns-in-Sheet-clause-says : goal.returns-in-Sheet-clause-says
returns-in-Sheet-clause-says g c = rw c.in-Sheet.is c.sheet.ensures.says

pub returns-in-Do-clause-says : goal.returns-in-Do-clause-says
returns-in-Do-clause-says g c = rw c.in-Do.is c.answer_asks.ensures.says

pub returns-in-Scans-clause-says : goal.returns-in-Scans-clause-says
returns-in-Scans-clause-says g c = rw c.in-Scans.is c.answer_scans.ensures.says

pub returns-in-Serve-clause-says : goal.returns-in-Serve-clause-says
returns-in-Serve-clause-says g c = rw c.in-Serve.is c.serve.ensures.says

pub returns-in-Record-clause-says : goal.returns-in-Record-clause-says
returns-in-Record-clause-says g c = rw c.in-Record.is c.record.ensures.says

pub returns-in-Openings-clause-says : goal.returns-in-Openings-clause-says
returns-in-Openings-clause-says g c = rw c.in-Openings.is c.answer_openings.ensures.says

pub returns-in-Sample-clause-says : goal.returns-in-Sample-clause-says
returns-in-Sample-clause-says g c = rw c.in-Sample.is c.sample.ensures.says

pub returns-in-Recount-clause-says : goal.returns-in-Recount-clause-says
returns-in-Recount-clause-says g c = rw c.in-Recount.is c.write_report-in-Recount.ensures.says

pub returns-in-Odds-clause-says : goal.returns-in-Odds-clause-says
returns-in-Odds-clause-says g c = rw c.in-Odds.is c.write_report-in-Odds.ensures.says

pub returns-in-County-clause-says : goal.returns-in-County-clause-says
returns-in-County-clause-says g c = rw c.in-County.is c.write_report-in-County.ensures.says
