-- A station's number stands once in a lawful history, and the done rows tell the act that has it.
use Rattle.std.proofs.Common.{◌≡◌, ℕ, ◌+◌, ◌≤◌, ◌==◌, Bool, true, false, ◌&&◌, cond, List, [], ◌∷◌, count_by, Option, Some, None, refl, ap, sym, ◌∙◌, arith, subst}
use Rattle.std.specs.Option.{option_map}
use Rattle.std.specs.Ordering.{int_eq}
use Rattle.std.specs.Prelude.{pos}
use Rattle.std.proofs.lemmas.Bool.{and_parts, eqb-true}
use Rattle.sg_lists.proofs.Bools.{one_if}
use Rattle.sg_lists.proofs.Options.{cond_none}
use Rattle.sg_keeper.specs.Rows.{done_before, put}
use Rattle.sg_acts.specs.declared.asks.Act.{Act}
use Rattle.sg_acts.specs.declared.asks.Stamp.{Stamp}
use Rattle.sg_keeper.specs.declared.rows.DoneRow.{DoneRow}
use Rattle.sg_keeper.specs.declared.setup.Setup.{Setup}
use Rattle.sg_desks.specs.ActTexts.{act_text}
use Rattle.sg_histories.specs.Answers.{repeat_of}
use Rattle.sg_histories.specs.Histories.{Entry, act_of_stamp, is_stamped}
use Rattle.sg_histories.specs.HistoryLaws.{StampsStandOnce}
use Rattle.sg_histories.specs.KeptRows.{done_row, rows_of}
use Rattle.sg_histories.specs.Lawful.{Lawful}
use Rattle.sg_histories.specs.Standing.{text_at}
use Rattle.sg_histories.proofs.Accepted.{passed}
use Rattle.sg_histories.proofs.OutDones.{count_cons, same_done}

-- NEW NUMBERS

-- a number that is new is at no entry
pub new_number : (setup : Setup) (history : List Entry) (stamp : Stamp) (asked : Act) → repeat_of setup history stamp asked ≡ None
    → (count_by (is_stamped stamp.station stamp.number) history ≡ 0) × (act_of_stamp history stamp.station stamp.number ≡ None)
new_number setup [] stamp asked e = (refl, refl)
new_number setup (entry ∷ history) stamp asked e =
    let here = cond_none (is_stamped stamp.station stamp.number entry) _ (repeat_of setup history stamp asked) e in
    let rest = new_number setup history stamp asked here.1 in
    let count = count_cons (is_stamped stamp.station stamp.number) entry history in
    let other : one_if (is_stamped stamp.station stamp.number entry) ≡ 0 = ap one_if here.0 in
    let none = rest.0 in (
      omega (arith, count, other, none),
      ap (λ b. cond b (Some entry.act) (act_of_stamp history stamp.station stamp.number)) here.0 ∙ rest.1,
    )

-- the number of an entry that was accepted is new before it
pub entry_new : (setup : Setup) (entry : Entry) (history : List Entry) → Lawful setup (entry ∷ history) → (station number : ℕ) → is_stamped station number entry ≡ true
    → (count_by (is_stamped station number) history ≡ 0) × (act_of_stamp history station number ≡ None)
entry_new setup entry history lawful station number is =
    let new = new_number setup history lawful.0.stamp entry.act (passed setup history lawful.0.stamp entry.act lawful.0.accepted).new in
    let parts = and_parts (entry.station == station) (entry.number == number) is in
    let station_is : lawful.0.stamp.station ≡ station = ap (λ (e : Entry). e.station) (sym lawful.0.is) ∙ eqb-true entry.station station parts.0 in
    let number_is : lawful.0.stamp.number ≡ number = ap (λ (e : Entry). e.number) (sym lawful.0.is) ∙ eqb-true entry.number number parts.1 in
    subst (λ (s : ℕ). (count_by (is_stamped s number) history ≡ 0) × (act_of_stamp history s number ≡ None)) station_is
    (subst (λ (n : ℕ). (count_by (is_stamped lawful.0.stamp.station n) history ≡ 0) × (act_of_stamp history lawful.0.stamp.station n ≡ None)) number_is new)

pub stamps_stand_once : StampsStandOnce
stamps_stand_once setup [] lawful station number = omega arith
stamps_stand_once setup (entry ∷ history) lawful station number =
    by_test (is_stamped station number entry) refl (count_cons (is_stamped station number) entry history) (stamps_stand_once setup history lawful.1 station number)
  where
    by_test : (t : Bool) → is_stamped station number entry ≡ t → count_by (is_stamped station number) (entry ∷ history) ≡ one_if t + count_by (is_stamped station number) history
        → count_by (is_stamped station number) history ≤ 1 → count_by (is_stamped station number) (entry ∷ history) ≤ 1
    by_test true is count ih = (let none = (entry_new setup entry history lawful station number is).0 in omega (arith, count, none))
    by_test false is count ih = omega (arith, count, ih)

-- DONE ROWS

put_other : (station number : ℕ) (row : DoneRow) (rows : List DoneRow) → (int_eq row.station (pos station) && int_eq row.number (pos number)) ≡ false
    → text_at station number (put done_before row rows) ≡ text_at station number rows
put_other station number row [] e = ap (λ b. cond b (Some row.act) None) e
put_other station number row (x ∷ xs) e = by_order (done_before row x) (put_other station number row xs e)
  where
    by_order : (b : Bool) → text_at station number (put done_before row xs) ≡ text_at station number xs
        → text_at station number (cond b (row ∷ x ∷ xs) (x ∷ put done_before row xs)) ≡ text_at station number (x ∷ xs)
    by_order true ih = ap (λ b. cond b (Some row.act) (text_at station number (x ∷ xs))) e
    by_order false ih = ap (λ o. cond (int_eq x.station (pos station) && int_eq x.number (pos number)) (Some x.act) o) ih

pub put_here : (station number : ℕ) (row : DoneRow) (rows : List DoneRow) → (int_eq row.station (pos station) && int_eq row.number (pos number)) ≡ true
    → text_at station number rows ≡ None → text_at station number (put done_before row rows) ≡ Some row.act
put_here station number row [] e none = ap (λ b. cond b (Some row.act) None) e
put_here station number row (x ∷ xs) e none =
    let past = cond_none (int_eq x.station (pos station) && int_eq x.number (pos number)) x.act (text_at station number xs) none in
    by_order (done_before row x) past.0 (put_here station number row xs e past.1)
  where
    by_order : (b : Bool) → (int_eq x.station (pos station) && int_eq x.number (pos number)) ≡ false → text_at station number (put done_before row xs) ≡ Some row.act
        → text_at station number (cond b (row ∷ x ∷ xs) (x ∷ put done_before row xs)) ≡ Some row.act
    by_order true past ih = ap (λ b. cond b (Some row.act) (text_at station number (x ∷ xs))) e
    by_order false past ih = ap (λ b. cond b (Some x.act) (text_at station number (put done_before row xs))) past ∙ ih

-- the done rows tell the text of the act that has a station's number
pub rows_tell : (setup : Setup) (text : List ℕ) (history : List Entry) → Lawful setup history → (station number : ℕ)
    → text_at station number (rows_of setup text history).dones ≡ option_map (act_text setup.plan.version) (act_of_stamp history station number)
rows_tell setup text [] lawful station number = refl
rows_tell setup text (entry ∷ history) lawful station number =
    by_test (is_stamped station number entry) refl (same_done setup.plan.version station number [] entry) (rows_tell setup text history lawful.1 station number)
  where
    row : DoneRow
    row = done_row setup.plan.version entry

    by_test : (t : Bool) → is_stamped station number entry ≡ t → (int_eq row.station (pos station) && int_eq row.number (pos number)) ≡ is_stamped station number entry
        → text_at station number (rows_of setup text history).dones ≡ option_map (act_text setup.plan.version) (act_of_stamp history station number)
        → text_at station number (put done_before row (rows_of setup text history).dones) ≡ option_map (act_text setup.plan.version) (cond t (Some entry.act) (act_of_stamp history station number))
    by_test true is same ih =
        put_here station number row (rows_of setup text history).dones (same ∙ is)
        (ih ∙ ap (λ (o : Option Act). option_map (act_text setup.plan.version) o) (entry_new setup entry history lawful station number is).1)
    by_test false is same ih = put_other station number row (rows_of setup text history).dones (same ∙ is) ∙ ih
