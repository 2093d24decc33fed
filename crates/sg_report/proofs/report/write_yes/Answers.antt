-- The totals' lines come behind the first line.
use Rattle.std.proofs.Common.{codes}
use Rattle.sg_outside.proofs.StreamLemmas.{AppendsFront-more}
use Rattle.sg_report.specs.Report.{totals_text}
use Rattle.sg_report.proofs.Pieces.{put_behind}
use Rattle.sg_report.proofs.report.write_yes.Goals as goal

pub returns-in-Ok-clause-bytes : goal.returns-in-Ok-clause-bytes
returns-in-Ok-clause-bytes g c =
    put_behind _ (g.O.Sink.written c.put.new.self) _ _ (codes "yes\n") (totals_text c.args.totals.now) c.in-Ok.ensures.bytes c.write_totals.ensures.bytes

pub returns-in-Err-clause-bytes : goal.returns-in-Err-clause-bytes
returns-in-Err-clause-bytes g c =
    AppendsFront-more _ _ (codes "yes\n") (totals_text c.args.totals.now) c.in-Err.ensures.bytes
