-- The rows of the acts that an office has done rise by their stamps.
use Rattle.std.proofs.Common.{◌≡◌, ℕ, true, List, [], ◌∷◌, sym, subst}
use Rattle.sg_keeper.specs.Rows.{done_before, done_is, is_new}
use Rattle.sg_keeper.specs.Laws.{Rises}
use Rattle.sg_keeper.specs.declared.rows.DoneRow.{DoneRow}
use Rattle.sg_keeper.specs.declared.setup.Setup.{Setup}
use Rattle.sg_keeper.proofs.Rising.{done_keys, put_rises}
use Rattle.sg_histories.specs.Histories.{Entry}
use Rattle.sg_histories.specs.KeptRows.{done_row, rows_of}
use Rattle.sg_histories.specs.Lawful.{Lawful}
use Rattle.sg_histories.specs.Standing.{IsOffice}
use Rattle.sg_histories.specs.declared.kept.Kept.{Kept}
use Rattle.sg_office.proofs.NewKeys.{new_change}

-- the done rows of a history rise
pub dones_rise : (setup : Setup) (text : List ℕ) (history : List Entry) → Lawful setup history → Rises done_before (rows_of setup text history).dones
dones_rise setup text [] lawful = tt
dones_rise setup text (entry ∷ history) lawful =
    put_rises done_before done_is done_keys (done_row setup.plan.version entry) (rows_of setup text history).dones fresh (dones_rise setup text history lawful.1)
  where
    fresh : is_new done_is (done_row setup.plan.version entry) (rows_of setup text history).dones ≡ true
    fresh = subst (λ (e : Entry). is_new done_is (done_row setup.plan.version e) (rows_of setup text history).dones ≡ true) (sym lawful.0.is)
        (new_change setup text history lawful.0.stamp entry.act lawful.1 lawful.0.accepted).done

pub office_rises : (kept : Kept) → IsOffice kept → Rises done_before kept.dones
office_rises kept office = subst (λ (rows : List DoneRow). Rises done_before rows) (sym (office.stands.dones [])) (dones_rise kept.setup [] office.history office.stands.lawful)
