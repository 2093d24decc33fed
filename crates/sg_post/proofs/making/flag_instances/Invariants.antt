use Rattle.std.proofs.Common.{◌≡◌, map}
use Rattle.sg_streams.specs.Numbers.{numbers_below}
use Rattle.sg_post.specs.inside.Making.{flags_by}
use Rattle.sg_post.proofs.making.flag_instances.Given as goal

abbrev pub invariant-loop-instance : goal.invariant-loop-instance
invariant-loop-instance l = l.flags ≡ map (flags_by l.tables.plan l.tables.seed l.fn.race l.marks) (numbers_below l.instance)
