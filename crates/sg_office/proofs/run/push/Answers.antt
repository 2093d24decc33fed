use Rattle.std.proofs.Common.{◌≡◌, ◌∷◌, ◌++◌, ◌-◌, ◌+◌, [], length, Some, arith, ap, sym, ◌∙◌}
use Rattle.std.proofs.lemmas.Option.{slice_get-get_or}
use Rattle.sg_office.specs.inside.Runs.{flat}
use Rattle.sg_office.proofs.Blocks.{pushed_block, pushed_last}
use Rattle.sg_office.proofs.run.push.Goals as goal

pub returns-then-len-room_of-clause-ok : goal.returns-then-len-room_of-clause-ok
returns-then-len-room_of-clause-ok c =
    let many : length c.args.blocks.now.items ≡ c.len-count.result - 1 + 1 = omega (arith, c.if-count-gt0.true, c.len-count.ensures, c.args.blocks.now.ok) in
    pushed_last c.push.result c.args.blocks.now.items (c.len-count.result - 1) c.index_mut.result.now c.push.new.self c.args.act
    (slice_get-get_or c.args.blocks.now.items (c.len-count.result - 1) c.index_mut.result.now (omega (arith, many)) ∙ ap Some (sym c.index_mut.ensures.value)) many c.push.ensures.ok

pub returns-clause-ok : goal.returns-clause-ok
returns-clause-ok c =
    ap flat c.in_ok-push-2.ensures.items
    ∙ (ap (λ acts. flat (c.args.blocks.now.items ++ acts ∷ [])) (c.in_ok-push.ensures.ok ∙ ap (λ l. l ++ c.args.act ∷ []) c.in_ok-block.ensures)
    ∙ pushed_block c.args.blocks.now.items c.args.act)
