use Rattle.std.proofs.Common.{rules, []}
use Rattle.std.specs.BTreeMap.{get_by_text}
use Rattle.std.proofs.lemmas.Result.{IfErr-weaker}
use Rattle.sg_plan.specs.Limits.{first_bad}
use Rattle.sg_desks.specs.ActReading.{act_in}
use Rattle.sg_histories.specs.ValidRows.{at_table, damage_of}
use Rattle.sg_open.specs.inside.Finding.{IsDamage, void_passes}
use Rattle.sg_open.proofs.Judged.{both_ok, dones_at, is_judged, read_long, voids_at}
use Rattle.sg_open.proofs.opening.judge_tables.Goals as goal

pub returns-in_err-check_dones-clause-fault : goal.returns-in_err-check_dones-clause-fault
returns-in_err-check_dones-clause-fault c =
    let h = dones_at c.args.setup.now c.args.rows.now (λ text. get_by_text c.args.stations.now text) c.args.found.now c.len.result c.in_err-check_dones.field-0.0 c.requires.read c.len.ensures c.in_err-check_dones.ensures.fault in search (rules, h)

pub read_voids-requires : goal.read_voids-requires
read_voids-requires c = read_long c.args.setup.now c.args.rows.now (λ text. get_by_text c.args.stations.now text) c.args.found.now c.requires.read

pub returns-clause-judged : goal.returns-clause-judged
returns-clause-judged c =
    both_ok c.read_voids.result (is_judged c.args.setup.now c.args.rows.now (λ text. get_by_text c.args.stations.now text) c.args.found.now c.len.result c.read_voids.new.slots c.requires.read c.len.ensures c.requires.first c.in_ok-check_dones.ensures.good)
    c.read_voids.ensures.good c.read_voids.ensures.slots

pub returns-clause-fault : goal.returns-clause-fault
returns-clause-fault c =
    IfErr-weaker c.read_voids.result (λ told. IsDamage told (at_table 6 (first_bad (void_passes c.args.setup.now.plan.version (λ text. get_by_text c.args.stations.now text) c.args.found.now.scanners) [] c.args.rows.now.voids))) (λ told. IsDamage told (damage_of c.args.setup.now (act_in c.args.setup.now.plan.version) c.args.rows.now))
    (λ told. voids_at c.args.setup.now c.args.rows.now (λ text. get_by_text c.args.stations.now text) c.args.found.now c.len.result told c.requires.read c.len.ensures c.requires.first c.in_ok-check_dones.ensures.good)
    c.read_voids.ensures.fault
