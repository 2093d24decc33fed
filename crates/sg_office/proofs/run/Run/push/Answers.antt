use Rattle.std.proofs.Common.{w64, ap, ◌∙◌}
use Rattle.std.proofs.lemmas.Int.{to_z-of_z}
use Rattle.sg_office.specs.inside.Runs.{are_below, flat}
use Rattle.sg_office.proofs.Numbers.{rise_pushed}
use Rattle.sg_office.proofs.run.Run.push.Goals as goal

pub invariant_of-self : goal.invariant_of-self
invariant_of-self c =
    rise_pushed (flat c.self.inside.blocks.items) (flat c.push.new.blocks.items) c.args.number c.args.text c.push.result c.self.invariant (ap (are_below c.args.number) c.self.view_is ∙ c.requires)
    (rw (to_z-of_z w64 c.args.number c.ranges.number) at c.push.ensures.ok) c.push.ensures.err
