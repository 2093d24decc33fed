use Rattle.std.proofs.Common.{List, ap, sym, ◌∙◌, subst}
use Rattle.sg_tables.specs.Tables.{MadeFrom}
use Rattle.sg_keeper.specs.declared.rows.DoneRow.{DoneRow}
use Rattle.sg_histories.specs.Standing.{IsOffice}
use Rattle.sg_office.proofs.DonesRise.{office_rises}
use Rattle.sg_office.proofs.office.Office.with.Goals as goal

pub of-requires : goal.of-requires
of-requires c = office_rises c.args.kept c.requires

pub invariant_of-result : goal.invariant_of-result
invariant_of-result c = (
  subst (λ (t : MadeFrom). IsOffice (record {
    setup = record { plan = t.plan; seed = record { 0 = t.seed }; secrets = c.args.kept.setup.secrets };
    slots = c.args.kept.slots;
    stage = c.args.kept.stage;
    claims = c.args.kept.claims;
    dones = c.in_ok-dones.dones;
  })) (sym c.in_ok-tables.ensures)
      (subst (λ (d : List DoneRow). IsOffice (record c.args.kept { dones = d })) (sym c.in_ok-dones.ensures) c.requires),
  c.in_ok-index.ensures ∙ sym (ap (λ (t : MadeFrom). t.plan) c.in_ok-tables.ensures),
  tt,
)
