-- Each turn adds the flag of one more row.
use Rattle.std.proofs.Common.{ℕ, sym, ap, ◌∙◌}
use Rattle.std.proofs.lemmas.Option.{get_or_from_slice_get}
use Rattle.sg_tables.proofs.Lists.{map_below-more, map_below-none}
use Rattle.sg_tables.specs.Tables.{left_of}
use Rattle.sg_post.specs.inside.Making.{has_bit}
use Rattle.sg_post.proofs.making.flag_rows.Goals as goal

pub loop-row-init : goal.loop-row-init
loop-row-init c = c.in_ok-flags.ensures ∙ sym (map_below-none (λ (row : ℕ). has_bit c.args.marks.now (left_of c.args.tables.now.plan c.args.tables.now.seed c.args.race c.args.instance row)))

pub loop-row-preserved : goal.loop-row-preserved
loop-row-preserved c =
    let flag = λ (row : ℕ). has_bit c.args.marks.now (left_of c.args.tables.now.plan c.args.tables.now.seed c.args.race c.args.instance row) in
    let item = sym (get_or_from_slice_get c.args.marks.now c.r_row-entry.result.0 c.get.result.now _ c.get.ensures.item) ∙ ap (has_bit c.args.marks.now) c.r_row-entry.ensures.left in
    map_below-more flag c.loop-row.row c.loop-row.flags c.push.new.self c.get.result.now c.loop-row.invariant item c.in_ok-push.ensures.ok
