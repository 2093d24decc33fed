-- The rows follow one another.
use Rattle.std.proofs.Common.{arith}
use Rattle.sg_plan.specs.Ballots.{entries_of}
use Rattle.sg_grammar.specs.Due.{each}
use Rattle.sg_record.proofs.Putting.{each_end, each_fault, each_next, left_all}
use Rattle.sg_post.specs.inside.Lines.{row_opening}
use Rattle.sg_post.proofs.openings.put_instance_rows.Goals as goal

pub loop-row-init : goal.loop-row-init
loop-row-init g c = record {
  walks = (c.row_openings.ensures, c.at.ensures);
  written = left_all _ (each (row_opening c.args.posted.now.tables.now.plan c.args.posted.now.tables.now.seed c.args.posted.now.story.now.fates c.args.posted.now.draw.now c.args.race c.args.instance) 0 (entries_of c.args.posted.now.tables.now.plan c.args.race));
}

pub returns-in_err-put_opening : goal.returns-in_err-put_opening
returns-in_err-put_opening g c =
    each_fault _ _ _ _ _ (row_opening c.args.posted.now.tables.now.plan c.args.posted.now.tables.now.seed c.args.posted.now.story.now.fates c.args.posted.now.draw.now c.args.race c.args.instance) c.loop-row.row (entries_of c.args.posted.now.tables.now.plan c.args.race) (omega arith) c.loop-row.invariant.written c.from_residual.ensures.0 c.in_err-put_opening.ensures.writes

pub loop-row-preserved : goal.loop-row-preserved
loop-row-preserved g c = record {
  walks = c.in_ok-put_opening.ensures.walks;
  written = each_next _ _ _ _ (row_opening c.args.posted.now.tables.now.plan c.args.posted.now.tables.now.seed c.args.posted.now.story.now.fates c.args.posted.now.draw.now c.args.race c.args.instance) c.loop-row.row (entries_of c.args.posted.now.tables.now.plan c.args.race) (omega arith) c.loop-row.invariant.written c.in_ok-put_opening.ensures.writes;
}

pub returns : goal.returns
returns g c = each_end _ _ _ (row_opening c.args.posted.now.tables.now.plan c.args.posted.now.tables.now.seed c.args.posted.now.story.now.fates c.args.posted.now.draw.now c.args.race c.args.instance) c.loop-row.row (entries_of c.args.posted.now.tables.now.plan c.args.race) c.loop-row.invariant.written (omega arith)
