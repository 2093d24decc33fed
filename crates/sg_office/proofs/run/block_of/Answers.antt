use Rattle.std.proofs.Common.{◌≡◌, ◌-◌, suc, None, Some, drop, w64, rules, arith, ap, sym, subst, ◌∙◌}
use Rattle.std.proofs.lemmas.Int.{to_z-of_z}
use Rattle.std.specs.List.{slice_get}
use Rattle.std.proofs.lemmas.Option.{slice_get-get_or}
use Rattle.sg_office.specs.inside.Runs.{flat, text_of}
use Rattle.sg_office.proofs.Blocks.{none_above, not_above, not_below, only_here}
use Rattle.sg_office.proofs.run.block_of.Goals as goal

pub returns-then-first-number-clause-some : goal.returns-then-first-number-clause-some
returns-then-first-number-clause-some c =
    let block : slice_get c.args.blocks.now (c.back.at - 1) ≡ Some c.index-blocks-at.result =
    slice_get-get_or c.args.blocks.now (c.back.at - 1) c.index-blocks-at.result (omega (arith, c.back-test.true, c.back.invariant.0)) ∙ ap Some (sym c.index-blocks-at.is) in
    let behind : text_of c.args.number (flat (drop (suc (c.back.at - 1)) c.args.blocks.now)) ≡ None =
    subst (λ n. text_of c.args.number (flat (drop n c.args.blocks.now)) ≡ None) {x = c.back.at} {y = suc (c.back.at - 1)} (omega (arith, c.back-test.true))
    (rw (to_z-of_z w64 c.args.number c.ranges.number) at c.back.invariant.1) in
    let first : slice_get c.index-blocks-at.result 0 ≡ Some c.in-Some.first.now = sym (rw c.as_slice.ensures at c.in-Some.ensures.value) in
    only_here c.args.number c.args.blocks.now (c.back.at - 1) c.index-blocks-at.result c.in-Some.first.now c.requires (omega (arith, c.back-test.true, c.back.invariant.0)) block first
    (not_below c.in-Some.first.now.0 c.args.number (rw (to_z-of_z w64 c.in-Some.first.now.0 (search rules), to_z-of_z w64 c.args.number c.ranges.number) at c.if-first-number.true)) behind

pub back-preserved-else-first-number : goal.back-preserved-else-first-number
back-preserved-else-first-number c =
    let block : slice_get c.args.blocks.now (c.back.at - 1) ≡ Some c.index-blocks-at.result =
    slice_get-get_or c.args.blocks.now (c.back.at - 1) c.index-blocks-at.result (omega (arith, c.back-test.true, c.back.invariant.0)) ∙ ap Some (sym c.index-blocks-at.is) in
    let behind : text_of c.args.number (flat (drop (suc (c.back.at - 1)) c.args.blocks.now)) ≡ None =
    subst (λ n. text_of c.args.number (flat (drop n c.args.blocks.now)) ≡ None) {x = c.back.at} {y = suc (c.back.at - 1)} (omega (arith, c.back-test.true))
    (rw (to_z-of_z w64 c.args.number c.ranges.number) at c.back.invariant.1) in
    let first : slice_get c.index-blocks-at.result 0 ≡ Some c.in-Some.first.now = sym (rw c.as_slice.ensures at c.in-Some.ensures.value) in
    rw (to_z-of_z w64 c.args.number c.ranges.number) (
      omega (arith, c.back.invariant.0),
      none_above c.args.number c.args.blocks.now (c.back.at - 1) c.index-blocks-at.result c.in-Some.first.now c.requires block first
          (not_above c.in-Some.first.now.0 c.args.number (rw (to_z-of_z w64 c.in-Some.first.now.0 (search rules), to_z-of_z w64 c.args.number c.ranges.number) at c.if-first-number.false)) behind,
    )
