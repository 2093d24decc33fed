-- Where the walk has come to, and what is written so far.
use Rattle.std.proofs.Common.{◌≡◌}
use Rattle.sg_plan.specs.Ballots.{entries_of}
use Rattle.sg_record.proofs.Putting.{LeftEach}
use Rattle.sg_record.specs.Pens.{moment}
use Rattle.sg_post.specs.inside.Lines.{entry_commit}
use Rattle.sg_post.proofs.commitments.put_race_commits.Given as goal

abbrev pub invariant-loop-entry : goal.invariant-loop-entry
invariant-loop-entry g l = record {
  walk : l.walk ≡ record { plan = l.fn.tables.plan; seed = l.fn.tables.seed; race = l.fn.race; entry = l.entry };
  written : LeftEach (moment g.O.Sink.written g.O.Sink.faults l.fn.pen l.fn.out) (moment g.O.Sink.written g.O.Sink.faults l.pen l.out) (entry_commit l.fn.tables.plan l.fn.tables.seed l.fn.race) l.entry (entries_of l.fn.tables.plan l.fn.race);
}
