-- The rows follow one another.
use Rattle.std.proofs.Common.{arith}
use Rattle.sg_plan.specs.Ballots.{entries_of}
use Rattle.sg_grammar.specs.Due.{each}
use Rattle.sg_record.proofs.Putting.{each_end, each_fault, each_next, left_all}
use Rattle.sg_openings.specs.inside.Lines.{row_line}
use Rattle.sg_openings.proofs.writing.put_instance.Goals as goal

pub loop-row-init : goal.loop-row-init
loop-row-init g c = record {
  walk = c.row_openings-walk.ensures;
  written = left_all _ (each (row_line c.args.tables.now.plan c.args.tables.now.seed c.args.race c.args.instance) 0 (entries_of c.args.tables.now.plan c.args.race));
}

pub returns-in_err-put_opened : goal.returns-in_err-put_opened
returns-in_err-put_opened g c =
    each_fault _ _ _ _ _ (row_line c.args.tables.now.plan c.args.tables.now.seed c.args.race c.args.instance) c.loop-row.row (entries_of c.args.tables.now.plan c.args.race) (omega arith) c.loop-row.invariant.written c.from_residual.ensures.0 c.in_err-put_opened.ensures.writes

pub loop-row-preserved : goal.loop-row-preserved
loop-row-preserved g c = record {
  walk = c.in_ok-put_opened.ensures.walk;
  written = each_next _ _ _ _ (row_line c.args.tables.now.plan c.args.tables.now.seed c.args.race c.args.instance) c.loop-row.row (entries_of c.args.tables.now.plan c.args.race) (omega arith) c.loop-row.invariant.written c.in_ok-put_opened.ensures.writes;
}

pub returns : goal.returns
returns g c = each_end _ _ _ (row_line c.args.tables.now.plan c.args.tables.now.seed c.args.race c.args.instance) c.loop-row.row (entries_of c.args.tables.now.plan c.args.race) c.loop-row.invariant.written (omega arith)
