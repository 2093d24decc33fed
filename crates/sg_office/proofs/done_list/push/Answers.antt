use Rattle.std.proofs.Common.{◌≡◌, ◌∷◌, ◌++◌, [], w64, int_cmp, ap, sym, subst, ◌∙◌}
use Rattle.std.proofs.lemmas.Int.{to_z-of_z}
use Rattle.std.specs.BTreeMap.{insert_entry}
use Rattle.sg_office.specs.inside.Runs.{Inserted, row_of, rows_of_runs}
use Rattle.sg_office.proofs.Stations.{inserted_as_first, pushed}
use Rattle.sg_office.proofs.done_list.push.Goals as goal

pub returns-in-Some-clause-ok : goal.returns-in-Some-clause-ok
returns-in-Some-clause-ok c =
    (pushed c.args.station c.args.number c.args.text c.args.runs.now.entries (c.get_mut.follows.lender c.push.new.self).entries c.in-Some.run'.now c.push.new.self c.push.result
    (sym (rw (to_z-of_z w64 c.args.station c.ranges.station) at c.in-Some.ensures.value))
    (rw (to_z-of_z w64 c.args.station c.ranges.station) at (c.get_mut.follows.holds c.push.new.self).0)
    (rw (to_z-of_z w64 c.args.number c.ranges.number) at c.push.ensures.ok) c.push.ensures.err).0

pub returns-in-Some-clause-err : goal.returns-in-Some-clause-err
returns-in-Some-clause-err c =
    (pushed c.args.station c.args.number c.args.text c.args.runs.now.entries (c.get_mut.follows.lender c.push.new.self).entries c.in-Some.run'.now c.push.new.self c.push.result
    (sym (rw (to_z-of_z w64 c.args.station c.ranges.station) at c.in-Some.ensures.value))
    (rw (to_z-of_z w64 c.args.station c.ranges.station) at (c.get_mut.follows.holds c.push.new.self).0)
    (rw (to_z-of_z w64 c.args.number c.ranges.number) at c.push.ensures.ok) c.push.ensures.err).1

pub returns-clause-ok : goal.returns-clause-ok
returns-clause-ok c =
    let run_is : c.push-2.new.self ≡ (c.args.number, c.args.text) ∷ [] =
    (rw (to_z-of_z w64 c.args.number c.ranges.number) at c.in_ok-push.ensures.ok) ∙ ap (λ l. l ++ (c.args.number, c.args.text) ∷ []) c.new-run.ensures in
    subst (λ entries. Inserted (row_of c.args.station (c.args.number, c.args.text)) (rows_of_runs c.args.runs.now.entries) (rows_of_runs entries))
    (sym ((rw (to_z-of_z w64 c.args.station c.ranges.station) at c.in_ok-insert.ensures.entries)
    ∙ (ap (λ m. insert_entry int_cmp m.entries c.args.station c.push-2.new.self) c.get_mut.follows.holds-at-none
    ∙ ap (insert_entry int_cmp c.args.runs.now.entries c.args.station) run_is)))
    (inserted_as_first c.args.station c.args.runs.now.entries (c.args.number, c.args.text) (sym (rw (to_z-of_z w64 c.args.station c.ranges.station) at c.in_default.ensures.value)))
