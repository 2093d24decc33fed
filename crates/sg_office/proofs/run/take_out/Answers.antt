use Rattle.std.proofs.Common.{w64, sym, ◌∙◌}
use Rattle.std.proofs.lemmas.Int.{to_z-of_z}
use Rattle.sg_office.proofs.Numbers.{out_at_place, out_nowhere, place_within}
use Rattle.sg_office.proofs.run.take_out.Goals as goal

pub remove-requires : goal.remove-requires
remove-requires c = place_within c.args.acts.now c.args.number c.in-Some.at (sym (rw (to_z-of_z w64 c.args.number c.ranges.number) at c.in-Some.ensures))

pub returns-in-Some : goal.returns-in-Some
returns-in-Some c =
    c.remove.ensures.rest ∙ sym (out_at_place c.args.acts.now c.args.number c.in-Some.at (sym (rw (to_z-of_z w64 c.args.number c.ranges.number) at c.in-Some.ensures)))

pub returns-in_default : goal.returns-in_default
returns-in_default c =
    sym (out_nowhere c.args.acts.now c.args.number ((rw (to_z-of_z w64 c.args.number c.ranges.number) at (sym c.place_of.ensures)) ∙ c.in_default.is))
