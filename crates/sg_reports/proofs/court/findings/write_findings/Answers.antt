-- The sums come behind the altered rows.
use Rattle.sg_outside.proofs.StreamLemmas.{AppendsFront-more}
use Rattle.sg_report.proofs.Pieces.{put_behind}
use Rattle.sg_reports.specs.court.Recounts.{sums_text}
use Rattle.sg_reports.specs.court.Texts.{altered_text}
use Rattle.sg_reports.proofs.court.findings.write_findings.Goals as goal

pub returns-in-Ok-clause-bytes : goal.returns-in-Ok-clause-bytes
returns-in-Ok-clause-bytes g c =
    put_behind _ (g.O.Sink.written c.write_altered.new.out) _ _ (altered_text 0 c.args.findings.now.altered) (sums_text 0 c.args.findings.now.sums) c.in-Ok.ensures.bytes c.write_sums.ensures.bytes

pub returns-in-Err-clause-bytes : goal.returns-in-Err-clause-bytes
returns-in-Err-clause-bytes g c = AppendsFront-more _ _ (altered_text 0 c.args.findings.now.altered) (sums_text 0 c.args.findings.now.sums) c.in-Err.ensures.bytes
