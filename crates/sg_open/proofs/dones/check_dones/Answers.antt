use Rattle.std.proofs.Common.{sym, ◌∙◌, arith}
use Rattle.std.proofs.lemmas.Grind.{common_steps}
use Rattle.sg_open.proofs.Passes.{fault_within}
use Rattle.sg_open.proofs.dones.check_dones.Goals as goal

pub bad_row-requires : goal.bad_row-requires
bad_row-requires c =
    let within = fault_within c.args.stations c.args.told.now c.args.rows.now c.in-Some.at (sym c.in_ok-found.ensures ∙ c.in-Some.is) in
    grind (arith, common_steps, within)
