use Rattle.std.proofs.Common.{◌≡◌, true, OnOk, w64, ap, subst, ◌∙◌}
use Rattle.std.proofs.lemmas.Int.{to_z-of_z}
use Rattle.sg_keeper.specs.Rows.{done_before, done_is, is_new, put}
use Rattle.sg_office.specs.inside.Runs.{gathered, row_of, rows_in}
use Rattle.sg_office.proofs.Stations.{late_stay, new_late, rows_after, runs_stay, to_late, to_runs, whole_after}
use Rattle.sg_office.proofs.done_list.DoneList.add.Goals as goal

pub invariant_of-self : goal.invariant_of-self
invariant_of-self c =
    let row = row_of c.args.station (c.args.number, c.args.text) in
    let late = c.self.inside.late.entries in
    let new : is_new done_is row (gathered (rows_in c.self.inside.runs.entries late)) ≡ true = ap (is_new done_is row) c.self.view_is ∙ c.requires in
    whole_after c.push.result row c.self.inside.runs.entries c.push.new.runs.entries late late c.self.invariant c.push.ensures.order new
    (to_runs c.push.result row c.self.inside.runs.entries c.push.new.runs.entries late (rw (to_z-of_z w64 c.args.station c.ranges.station, to_z-of_z w64 c.args.number c.ranges.number) at c.push.ensures.ok))
    (runs_stay c.push.result c.self.inside.runs.entries c.push.new.runs.entries late c.push.ensures.err)

pub put_late-requires : goal.put_late-requires
put_late-requires c =
    let row = row_of c.args.station (c.args.number, c.args.text) in
    let new : is_new done_is row (gathered (rows_in c.self.inside.runs.entries c.self.inside.late.entries)) ≡ true = ap (is_new done_is row) c.self.view_is ∙ c.requires in
    rw (to_z-of_z w64 c.args.station c.ranges.station, to_z-of_z w64 c.args.number c.ranges.number) (record { new = new_late row c.self.inside.runs.entries c.self.inside.late.entries new })

pub invariant_of-self-else-is_last : goal.invariant_of-self-else-is_last
invariant_of-self-else-is_last c =
    let row = row_of c.args.station (c.args.number, c.args.text) in
    let runs = c.self.inside.runs.entries in
    let new : is_new done_is row (gathered (rows_in runs c.self.inside.late.entries)) ≡ true = ap (is_new done_is row) c.self.view_is ∙ c.requires in
    whole_after c.put_late.result row runs runs c.self.inside.late.entries c.put_late.new.late.entries c.self.invariant c.self.invariant.stations new
    (to_late c.put_late.result row runs c.self.inside.late.entries c.put_late.new.late.entries (rw (to_z-of_z w64 c.args.station c.ranges.station, to_z-of_z w64 c.args.number c.ranges.number) at c.put_late.ensures.ok))
    (late_stay c.put_late.result runs c.self.inside.late.entries c.put_late.new.late.entries c.put_late.ensures.err)

pub returns-then-is_last-clause-ok : goal.returns-then-is_last-clause-ok
returns-then-is_last-clause-ok c =
    let row = row_of c.args.station (c.args.number, c.args.text) in
    let late = c.self.inside.late.entries in
    let new : is_new done_is row (gathered (rows_in c.self.inside.runs.entries late)) ≡ true = ap (is_new done_is row) c.self.view_is ∙ c.requires in
    subst (λ l. OnOk c.push.result (gathered (rows_in c.push.new.runs.entries late) ≡ put done_before row l)) c.self.view_is
    (rows_after c.push.result row c.self.inside.runs.entries c.push.new.runs.entries late late c.self.invariant new
    (to_runs c.push.result row c.self.inside.runs.entries c.push.new.runs.entries late (rw (to_z-of_z w64 c.args.station c.ranges.station, to_z-of_z w64 c.args.number c.ranges.number) at c.push.ensures.ok)))

pub returns-else-is_last-clause-ok : goal.returns-else-is_last-clause-ok
returns-else-is_last-clause-ok c =
    let row = row_of c.args.station (c.args.number, c.args.text) in
    let runs = c.self.inside.runs.entries in
    let new : is_new done_is row (gathered (rows_in runs c.self.inside.late.entries)) ≡ true = ap (is_new done_is row) c.self.view_is ∙ c.requires in
    subst (λ l. OnOk c.put_late.result (gathered (rows_in runs c.put_late.new.late.entries) ≡ put done_before row l)) c.self.view_is
    (rows_after c.put_late.result row runs runs c.self.inside.late.entries c.put_late.new.late.entries c.self.invariant new
    (to_late c.put_late.result row runs c.self.inside.late.entries c.put_late.new.late.entries (rw (to_z-of_z w64 c.args.station c.ranges.station, to_z-of_z w64 c.args.number c.ranges.number) at c.put_late.ensures.ok)))
