use Rattle.std.proofs.Common.{◌-◌, reverse, arith}
use Rattle.sg_office.proofs.Moved.{moved}
use Rattle.sg_office.proofs.done_list.reversed.Goals as goal

pub rows-preserved : goal.rows-preserved
rows-preserved c =
    moved (reverse c.args.rows) c.rows.turned c.push.new.self c.rows.rows c.remove.new.self (c.len-in-rows-2.result - 1) c.remove.result c.rows.invariant c.remove.ensures.old
    (omega (arith, c.rows-test.true, c.len-in-rows.ensures, c.len-in-rows-2.ensures)) c.in_ok-push.ensures.ok c.remove.ensures.rest
