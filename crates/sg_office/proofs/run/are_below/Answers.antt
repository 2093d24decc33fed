use Rattle.std.proofs.Common.{◌≡◌, ◌-◌, suc, [], Some, drop, length, w64, rules, arith, ap, sym, subst, ◌∙◌}
use Rattle.std.proofs.lemmas.Int.{to_z-of_z}
use Rattle.std.specs.List.{slice_get}
use Rattle.std.proofs.lemmas.Option.{slice_get-get_or}
use Rattle.sg_office.specs.inside.Runs.{flat}
use Rattle.sg_office.proofs.Blocks.{below_end}
use Rattle.sg_office.proofs.run.are_below.Goals as goal

pub returns-in-Some : goal.returns-in-Some
returns-in-Some c =
    let block : slice_get c.args.blocks.now (c.back.at - 1) ≡ Some c.index-blocks-at.result =
    slice_get-get_or c.args.blocks.now (c.back.at - 1) c.index-blocks-at.result (omega (arith, c.back-test.true, c.back.invariant.0)) ∙ ap Some (sym c.index-blocks-at.is) in
    let behind : flat (drop (suc (c.back.at - 1)) c.args.blocks.now) ≡ [] =
    subst (λ n. flat (drop n c.args.blocks.now) ≡ []) {x = c.back.at} {y = suc (c.back.at - 1)} (omega (arith, c.back-test.true)) c.back.invariant.1 in
    let last : slice_get c.index-blocks-at.result (length c.index-blocks-at.result - 1) ≡ Some c.in-Some.last.now = sym (rw c.as_slice.ensures at c.in-Some.ensures.value) in
    rw (to_z-of_z w64 c.in-Some.last.now.0 (search rules), to_z-of_z w64 c.args.number c.ranges.number)
    (sym (below_end c.args.number c.args.blocks.now (c.back.at - 1) c.index-blocks-at.result c.in-Some.last.now c.requires block last behind))
