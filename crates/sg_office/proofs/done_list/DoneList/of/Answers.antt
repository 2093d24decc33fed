use Rattle.std.proofs.Common.{◌-◌, rules, w64, ap, length, arith, ◌∙◌}
use Rattle.std.proofs.lemmas.Int.{to_z-of_z}
use Rattle.std.proofs.lemmas.List.Edits.{length-remove}
use Rattle.sg_office.proofs.Moved.{moved, next_last, next_new}
use Rattle.sg_office.proofs.done_list.DoneList.of.Goals as goal

pub add-requires : goal.add-requires
add-requires c =
    rw (to_z-of_z w64 c.remove-row.result.station (search rules), to_z-of_z w64 c.remove-row.result.number (search rules))
    (next_new c.args.rows c.rows.dones c.rows.rest (c.len-in-rows.result - 1) c.remove-row.result c.requires c.rows.invariant c.remove-row.ensures.old
    (omega (arith, c.rows-test.true, c.len.ensures, c.len-in-rows.ensures)))

pub rows-smaller : goal.rows-smaller
rows-smaller c =
    omega (
      arith,
      c.rows-test.true,
      c.len.ensures,
      c.len-in-rows.ensures,
      ap length c.remove-row.ensures.rest,
      length-remove c.rows.rest (c.len-in-rows.result - 1) (omega (arith, c.rows-test.true, c.len.ensures, c.len-in-rows.ensures)),
    )

pub rows-preserved : goal.rows-preserved
rows-preserved c =
    moved c.args.rows c.rows.dones c.add.new.self c.rows.rest c.remove-row.new.self (c.len-in-rows.result - 1) c.remove-row.result c.rows.invariant c.remove-row.ensures.old
    (omega (arith, c.rows-test.true, c.len.ensures, c.len-in-rows.ensures))
    ((rw (to_z-of_z w64 c.remove-row.result.station (search rules), to_z-of_z w64 c.remove-row.result.number (search rules)) at c.in_ok-add.ensures.ok)
    ∙ next_last c.args.rows c.rows.dones c.rows.rest (c.len-in-rows.result - 1) c.remove-row.result c.requires c.rows.invariant c.remove-row.ensures.old
    (omega (arith, c.rows-test.true, c.len.ensures, c.len-in-rows.ensures)))
    c.remove-row.ensures.rest
