-- The record is accepted and ends with its seal, and the summary is that of the run.
use Rattle.std.proofs.Common.{◌≤◌, List, length, sym, subst}
use Rattle.std.proofs.lemmas.Result.{IfOk-weaker}
use Rattle.sg_post.specs.declared.story.Told.{Told}
use Rattle.sg_sample.proofs.SampleRuns.{fates_few}
use Rattle.sg_sample.proofs.Summing.{ends_so, has_totals, seal_of, summary_is}
use Rattle.sg_sample.proofs.sampling.told.Goals as goal

pub audited_totals-requires : goal.audited_totals-requires
audited_totals-requires c = has_totals c.args.text.now c.args.sample.seed c.args.sample.ballots c.requires.some c.requires.few c.requires.text

pub count_lines-lines-requires : goal.count_lines-lines-requires
count_lines-lines-requires c = has_totals c.args.text.now c.args.sample.seed c.args.sample.ballots c.requires.some c.requires.few c.requires.text

pub last_digits-digits-requires : goal.last_digits-digits-requires
last_digits-digits-requires c =
    (seal_of c.args.sample.seed c.args.sample.ballots, ends_so c.args.text.now c.args.sample.seed c.args.sample.ballots c.requires.few c.requires.text)

pub write_summary-requires : goal.write_summary-requires
write_summary-requires c =
    subst (λ (fates : List Told). length fates ≤ 9000) (sym c.requires.fates) (fates_few c.args.sample.seed c.args.sample.ballots c.requires.few)

pub returns : goal.returns
returns c =
    let seed = c.args.sample.seed in
    let ballots = c.args.sample.ballots in
    IfOk-weaker c.write_summary.result _ _
    (λ text is.
    summary_is text c.args.text.now seed ballots c.count_lines-lines.result c.last_digits-digits.result.now c.args.fates.now c.in-Ok.totals c.requires.some c.requires.few
    c.requires.fates c.requires.text c.count_lines-lines.ensures c.in-Ok.ensures
    (c.last_digits-digits.ensures (seal_of seed ballots) (ends_so c.args.text.now seed ballots c.requires.few c.requires.text)) is)
    c.write_summary.ensures
