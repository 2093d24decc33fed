use Rattle.std.proofs.Common.{w64, sym, ap, ◌∙◌}
use Rattle.std.proofs.lemmas.Int.{to_z-of_z}
use Rattle.std.specs.Option.{option_copied}
use Rattle.sg_office.proofs.Numbers.{place_within, text_at_place, text_nowhere}
use Rattle.sg_office.proofs.run.text_of.Goals as goal

pub returns-in_err-at : goal.returns-in_err-at
returns-in_err-at c =
    ap option_copied c.from_residual.ensures
    ∙ sym (text_nowhere c.args.acts.now c.args.number ((rw (to_z-of_z w64 c.args.number c.ranges.number) at (sym c.place_of.ensures)) ∙ c.in_err-at.was))

pub get-requires : goal.get-requires
get-requires c = place_within c.args.acts.now c.args.number c.in_ok-at.at (sym (rw (to_z-of_z w64 c.args.number c.ranges.number) at c.in_ok-at.ensures))

pub returns : goal.returns
returns c =
    sym (text_at_place c.args.acts.now c.args.number c.in_ok-at.at c.get.result.now (sym (rw (to_z-of_z w64 c.args.number c.ranges.number) at c.in_ok-at.ensures)) c.get.ensures.item)
