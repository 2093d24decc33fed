-- The entries follow one another.
use Rattle.std.proofs.Common.{arith}
use Rattle.sg_plan.specs.Ballots.{entries_of}
use Rattle.sg_record.proofs.Putting.{each_end, each_fault, each_next, left_all}
use Rattle.sg_post.specs.inside.Lines.{entry_commit}
use Rattle.sg_post.proofs.commitments.put_race_commits.Goals as goal

pub loop-entry-init : goal.loop-entry-init
loop-entry-init g c = record { walk = c.q_openings-walk.ensures; written = left_all _ _ }

pub returns-in_err-put_entry_commit : goal.returns-in_err-put_entry_commit
returns-in_err-put_entry_commit g c =
    each_fault _ _ _ _ _ (entry_commit c.args.tables.now.plan c.args.tables.now.seed c.args.race) c.loop-entry.entry (entries_of c.args.tables.now.plan c.args.race) (omega arith) c.loop-entry.invariant.written c.from_residual.ensures.0 c.in_err-put_entry_commit.ensures.writes

pub loop-entry-preserved : goal.loop-entry-preserved
loop-entry-preserved g c = record {
  walk = c.in_ok-put_entry_commit.ensures.walk;
  written = each_next _ _ _ _ (entry_commit c.args.tables.now.plan c.args.tables.now.seed c.args.race) c.loop-entry.entry (entries_of c.args.tables.now.plan c.args.race) (omega arith) c.loop-entry.invariant.written c.in_ok-put_entry_commit.ensures.writes;
}

pub returns : goal.returns
returns g c = each_end _ _ _ (entry_commit c.args.tables.now.plan c.args.tables.now.seed c.args.race) c.loop-entry.entry (entries_of c.args.tables.now.plan c.args.race) c.loop-entry.invariant.written (omega arith)
