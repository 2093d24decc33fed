use Rattle.std.proofs.Common.{◌*◌, ◌%◌, ◌<◌, arith}
use Rattle.std.proofs.lemmas.Nat.{div-add-mod', mod_below}
use Rattle.sg_ledger.proofs.Places.{column_below}
use Rattle.sg_plan.proofs.PlanLaws.{bounds}
use Rattle.sg_plan.specs.Ballots.{candidates_of, rows_of}
use Rattle.sg_ledger.proofs.audits.is_paper_wrong.Goals as goal

pub entry_place-requires-clause-entry : goal.entry_place-requires-clause-entry
entry_place-requires-clause-entry c =
    let plan = c.args.book.now in
    let race = c.args.race in
    let n = candidates_of plan race in
    let left = c.in-Both.left in
    let right = c.in-Both.right in
    let some : 0 < n = omega (arith, (bounds plan c.plan.ensures.good).two_candidates race c.requires.race) in
    let below : left.value < rows_of plan race * n = omega (arith, c.if-left-entries.false, c.entries-entries.ensures) in
    let small = column_below (rows_of plan race) n left.value (right.value % n) below (mod_below right.value n some) in
    rw c.candidates-candidates.ensures (omega (arith, small, div-add-mod' left.value n))
