-- From no bit on, the bits of all ballots.
use Rattle.std.proofs.Common.{false, List, Bool, ap, ◌∙◌}
use Rattle.std.specs.Prelude.{replicate}
use Rattle.sg_post.specs.inside.RowMarks.{marked_fates}
use Rattle.sg_post.proofs.RowMarking.{marked-all}
use Rattle.sg_post.proofs.ballot_marks.mark_entries.Goals as goal

pub returns : goal.returns
returns c =
    let plan = c.args.tables.now.plan in
    let seed = c.args.tables.now.seed in
    c.mark_fates.ensures
    ∙ (ap (λ (l : List Bool). marked_fates plan seed c.args.race c.args.fates.now l) (c.in_ok-marks.ensures ∙ ap (λ n. replicate n false) c.count_entries.ensures)
    ∙ marked-all plan seed c.args.race c.args.fates.now)
