-- The rows follow one another.
use Rattle.std.proofs.Common.{arith}
use Rattle.sg_plan.specs.Ballots.{entries_of}
use Rattle.sg_record.proofs.Putting.{each_end, each_fault, each_next, left_all}
use Rattle.sg_post.specs.inside.Lines.{row_commit}
use Rattle.sg_post.proofs.commitments.put_instance_commits.Goals as goal

pub loop-row-init : goal.loop-row-init
loop-row-init g c = record { walk = c.row_openings-walk.ensures; written = left_all _ _ }

pub returns-in_err-put_row : goal.returns-in_err-put_row
returns-in_err-put_row g c =
    each_fault _ _ _ _ _ (row_commit c.args.tables.now.plan c.args.tables.now.seed c.args.race c.args.instance) c.loop-row.row (entries_of c.args.tables.now.plan c.args.race) (omega arith) c.loop-row.invariant.written c.from_residual.ensures.0 c.in_err-put_row.ensures.writes

pub loop-row-preserved : goal.loop-row-preserved
loop-row-preserved g c = record {
  walk = c.in_ok-put_row.ensures.walk;
  written = each_next _ _ _ _ (row_commit c.args.tables.now.plan c.args.tables.now.seed c.args.race c.args.instance) c.loop-row.row (entries_of c.args.tables.now.plan c.args.race) (omega arith) c.loop-row.invariant.written c.in_ok-put_row.ensures.writes;
}

pub returns : goal.returns
returns g c = each_end _ _ _ (row_commit c.args.tables.now.plan c.args.tables.now.seed c.args.race c.args.instance) c.loop-row.row (entries_of c.args.tables.now.plan c.args.race) c.loop-row.invariant.written (omega arith)
