use Rattle.std.proofs.Common.{◌≡◌, Some, w64, ap, sym, ◌∙◌}
use Rattle.std.proofs.lemmas.Int.{to_z-of_z}
use Rattle.std.specs.List.{slice_get}
use Rattle.std.proofs.lemmas.Option.{slice_get-get_or}
use Rattle.sg_office.specs.inside.Runs.{IsOnlyIn, text_of}
use Rattle.sg_office.proofs.Blocks.{rise_at, text_only}
use Rattle.sg_office.proofs.Numbers.{no_text_above}
use Rattle.sg_office.proofs.run.Run.text_of.Goals as goal

pub returns-then-is_below : goal.returns-then-is_below
returns-then-is_below c =
    sym (no_text_above c.args.self.now c.args.number ((rw (to_z-of_z w64 c.args.number c.ranges.number) at (sym c.is_below.ensures)) ∙ c.if-is_below.true))

pub text_of-requires : goal.text_of-requires
text_of-requires c =
    let only : IsOnlyIn c.args.number c.self.inside.blocks.items c.in_ok-at.at = rw (to_z-of_z w64 c.args.number c.ranges.number, c.as_slice.ensures.value) at c.in_ok-at.ensures.some in
    let block : slice_get c.self.inside.blocks.items c.in_ok-at.at ≡ Some c.index.result.now = slice_get-get_or c.self.inside.blocks.items c.in_ok-at.at c.index.result.now only.in_range ∙ ap Some (sym c.index.ensures) in
    rise_at c.self.inside.blocks.items c.in_ok-at.at c.index.result.now c.self.invariant block

pub returns : goal.returns
returns c =
    let only : IsOnlyIn c.args.number c.self.inside.blocks.items c.in_ok-at.at = rw (to_z-of_z w64 c.args.number c.ranges.number, c.as_slice.ensures.value) at c.in_ok-at.ensures.some in
    let block : slice_get c.self.inside.blocks.items c.in_ok-at.at ≡ Some c.index.result.now = slice_get-get_or c.self.inside.blocks.items c.in_ok-at.at c.index.result.now only.in_range ∙ ap Some (sym c.index.ensures) in
    (rw (to_z-of_z w64 c.args.number c.ranges.number) at c.text_of.ensures)
    ∙ (sym (text_only c.args.number c.self.inside.blocks.items c.in_ok-at.at c.index.result.now only block) ∙ ap (text_of c.args.number) c.self.view_is)
