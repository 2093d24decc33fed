use Rattle.std.proofs.Common.{◌≡◌}
use Rattle.sg_post.specs.inside.Making.{places_by}
use Rattle.sg_post.proofs.making.place_entries.Given as goal

abbrev pub invariant-loop-entry : goal.invariant-loop-entry
invariant-loop-entry l = l.places ≡ places_by l.tables.plan l.tables.seed l.race l.marks l.entry
