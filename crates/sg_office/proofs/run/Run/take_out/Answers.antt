use Rattle.std.proofs.Common.{◌≡◌, None, Some, w64, ap, sym, subst, ◌∙◌}
use Rattle.std.proofs.lemmas.Int.{to_z-of_z}
use Rattle.std.specs.List.{slice_get, slice_set}
use Rattle.std.proofs.lemmas.Option.{slice_get-get_or}
use Rattle.sg_office.specs.inside.Runs.{IsOnlyIn, Rise, flat, text_of, without_number}
use Rattle.sg_office.proofs.Blocks.{out_none, out_only, rise_at}
use Rattle.sg_office.proofs.Numbers.{rise_without}
use Rattle.sg_office.proofs.run.Run.take_out.Goals as goal

pub take_out-requires : goal.take_out-requires
take_out-requires c =
    let only : IsOnlyIn c.args.number c.self.inside.blocks.items c.in-Some.at = rw (to_z-of_z w64 c.args.number c.ranges.number, c.as_slice.ensures.value) at c.in-Some.ensures.some in
    let block : slice_get c.self.inside.blocks.items c.in-Some.at ≡ Some c.index_mut.result.now = slice_get-get_or c.self.inside.blocks.items c.in-Some.at c.index_mut.result.now only.in_range ∙ ap Some (sym c.index_mut.ensures.value) in
    rise_at c.self.inside.blocks.items c.in-Some.at c.index_mut.result.now c.self.invariant block

pub invariant_of-self : goal.invariant_of-self
invariant_of-self c =
    let only : IsOnlyIn c.args.number c.self.inside.blocks.items c.in-Some.at = rw (to_z-of_z w64 c.args.number c.ranges.number, c.as_slice.ensures.value) at c.in-Some.ensures.some in
    let block : slice_get c.self.inside.blocks.items c.in-Some.at ≡ Some c.index_mut.result.now = slice_get-get_or c.self.inside.blocks.items c.in-Some.at c.index_mut.result.now only.in_range ∙ ap Some (sym c.index_mut.ensures.value) in
    subst Rise
    (sym (ap (λ acts. flat (slice_set c.self.inside.blocks.items c.in-Some.at acts)) (rw (to_z-of_z w64 c.args.number c.ranges.number) at c.take_out.ensures)
    ∙ out_only c.args.number c.self.inside.blocks.items c.in-Some.at c.index_mut.result.now only block))
    (rise_without (flat c.self.inside.blocks.items) c.args.number c.self.invariant)

pub returns-in-Some : goal.returns-in-Some
returns-in-Some c =
    let only : IsOnlyIn c.args.number c.self.inside.blocks.items c.in-Some.at = rw (to_z-of_z w64 c.args.number c.ranges.number, c.as_slice.ensures.value) at c.in-Some.ensures.some in
    let block : slice_get c.self.inside.blocks.items c.in-Some.at ≡ Some c.index_mut.result.now = slice_get-get_or c.self.inside.blocks.items c.in-Some.at c.index_mut.result.now only.in_range ∙ ap Some (sym c.index_mut.ensures.value) in
    ap (λ acts. flat (slice_set c.self.inside.blocks.items c.in-Some.at acts)) (rw (to_z-of_z w64 c.args.number c.ranges.number) at c.take_out.ensures)
    ∙ (out_only c.args.number c.self.inside.blocks.items c.in-Some.at c.index_mut.result.now only block ∙ ap (without_number c.args.number) c.self.view_is)

pub returns-in_default : goal.returns-in_default
returns-in_default c =
    let none : text_of c.args.number (flat c.self.inside.blocks.items) ≡ None = rw (to_z-of_z w64 c.args.number c.ranges.number, c.as_slice.ensures.value) at c.in_default.ensures.none in
    sym c.self.view_is ∙ (sym (out_none c.args.number (flat c.self.inside.blocks.items) none) ∙ ap (without_number c.args.number) c.self.view_is)
