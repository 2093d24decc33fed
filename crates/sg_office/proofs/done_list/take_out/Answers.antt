use Rattle.std.proofs.Common.{w64, rules, int_cmp, ap, sym, ◌∙◌}
use Rattle.std.proofs.lemmas.Int.{to_z-of_z}
use Rattle.std.specs.BTreeMap.{is_at}
use Rattle.std.specs.Map.{set_value}
use Rattle.sg_office.specs.inside.Runs.{rows_of_runs}
use Rattle.sg_office.proofs.Stations.{out_of_none, out_of_run}
use Rattle.sg_office.proofs.done_list.take_out.Goals as goal

pub returns-in-Some-clause-rows : goal.returns-in-Some-clause-rows
returns-in-Some-clause-rows c =
    ap rows_of_runs (c.get_mut.follows.holds c.take_out.new.self).0
    ∙ (ap (λ acts. rows_of_runs (set_value (is_at (int_cmp c.args.done.now.station)) c.args.runs.now.entries acts)) (rw (to_z-of_z w64 c.args.done.now.number (search rules)) at c.take_out.ensures)
    ∙ out_of_run c.args.done.now c.args.runs.now.entries c.in-Some.run'.now c.get_mut.ensures.ordered (sym c.in-Some.ensures.value))

pub returns-in_default-clause-rows : goal.returns-in_default-clause-rows
returns-in_default-clause-rows c =
    ap (λ m. rows_of_runs m.entries) c.get_mut.follows.holds-at-none ∙ sym (out_of_none c.args.done.now c.args.runs.now.entries (sym c.in_default.ensures.value))
