-- What rows open to, from the laws of valid rows.
use Rattle.std.proofs.Common.{◌≡◌, ℕ, ◌==◌, Bool, true, false, cond, ◌&&◌, List, [], ◌∷◌, length, Option, Some, None, inl, inr, refl, ap, ap₂, sym, ◌∙◌, subst}
use Rattle.std.specs.Cmp.{both_ways}
use Rattle.std.specs.Prelude.{pos}
use Rattle.std.specs.Option.{option_map_or}
use Rattle.std.specs.Ordering.{int_eq}
use Rattle.std.proofs.lemmas.Option.{same_Some}
use Rattle.sg_plan.specs.Limits.{first_bad, first_of}
use Rattle.sg_keeper.specs.Rows.{ballot_before}
use Rattle.sg_keeper.specs.SetupText.{IsSetupText, setup_text}
use Rattle.sg_keeper.specs.declared.rows.BallotRow.{BallotRow}
use Rattle.sg_keeper.specs.declared.rows.Rows.{Rows}
use Rattle.sg_keeper.specs.declared.rows.StageRow.{StageRow}
use Rattle.sg_keeper.specs.declared.setup.Setup.{Setup}
use Rattle.sg_keeper.proofs.SetupLaw.{setups_differ}
use Rattle.sg_acts.specs.declared.asks.Act.{Act}
use Rattle.sg_desks.specs.ActReading.{act_in}
use Rattle.sg_histories.specs.Answers.{is_ballot}
use Rattle.sg_histories.specs.KeptRows.{rows_of}
use Rattle.sg_histories.specs.Opens.{Damaged, Empty, IsOfNone, IsOfSetup, Whole}
use Rattle.sg_histories.specs.Reading.{ReadsActs}
use Rattle.sg_histories.specs.RowLaws.{LawfulRowsOpen, OpenRowsAreLawful, RowsOpenOnce}
use Rattle.sg_histories.specs.ValidRows.{at_table, ballot_keeps, ballot_text, claim_keeps, climbs, damage_of, done_fault, fits, is_drawn_in, natural, stage_keeps, stage_text, tells_fit, told_by, void_keeps}
use Rattle.sg_histories.proofs.Back.{same_bad}
use Rattle.sg_histories.proofs.BackAll.{rows_stand, setup_kept}
use Rattle.sg_histories.proofs.Out.{rows_valid}
use Rattle.sg_histories.proofs.PlanRaces.{has_races, small_ballots}
use Rattle.sg_histories.proofs.ReadingActs.{act_in_reads_acts}
use Rattle.sg_histories.proofs.RowTexts.{reads_rows}

-- LAWFUL ROWS

pub lawful_rows_open : LawfulRowsOpen
lawful_rows_open setup history is made lawful =
    let reads = act_in_reads_acts setup is.plan in
    record {
      text = setup_text setup;
      kept = setup_kept setup (setup_text setup) history;
      setup_is = (is, made, refl);
      read = act_in setup.plan.version;
      reads = reads;
      damage_is = rows_valid setup (act_in setup.plan.version) reads (has_races setup.plan is.plan) (small_ballots setup.plan is.plan) (setup_text setup) history lawful;
    }

pub open_rows_are_lawful : OpenRowsAreLawful
open_rows_are_lawful setup rows opens =
    let its = opens.setup_is in
    let found = rows_stand setup opens.read opens.reads (reads_rows setup opens.read opens.reads (small_ballots setup.plan its.0.plan)) opens.text rows opens.kept opens.damage_is in
    record {
      history = found.0;
      setup_is = its.0;
      lawful = found.1;
      rows_are = subst (λ (t : List ℕ). rows ≡ rows_of setup t found.0) its.2 found.2;
    }

-- ONE THING AT MOST

-- a text that tells a fitting act by one reader does so by each other one
tells_by : (setup : Setup) (read other : List ℕ → Option Act) → ReadsActs setup read → ReadsActs setup other → (text : List ℕ)
    → option_map_or (fits setup.plan) (read text) false ≡ true → option_map_or (fits setup.plan) (other text) false ≡ true
tells_by setup read other reads others text e = by_act (read text) refl e
  where
    by_act : (found : Option Act) → read text ≡ found → option_map_or (fits setup.plan) found false ≡ true → option_map_or (fits setup.plan) (other text) false ≡ true
    by_act None is f = cc
    by_act (Some done) is f =
        (let its = reads.only text done is f in
        let same : other text ≡ Some done = ap other (sym its.1) ∙ others.found done its.0 f in
        ap (λ (o : Option Act). option_map_or (fits setup.plan) o false) same ∙ f)

tells_same : (setup : Setup) (read other : List ℕ → Option Act) → ReadsActs setup read → ReadsActs setup other → (text : Option (List ℕ)) → tells_fit setup.plan read text ≡ tells_fit setup.plan other text
tells_same setup read other reads others None = refl
tells_same setup read other reads others (Some text) =
    both_ways (option_map_or (fits setup.plan) (read text) false) (option_map_or (fits setup.plan) (other text) false) (tells_by setup read other reads others text) (tells_by setup other read others reads text)

-- the first bad row is the same by each reader
damage_same : (setup : Setup) (read other : List ℕ → Option Act) → ReadsActs setup read → ReadsActs setup other → (rows : Rows) → damage_of setup read rows ≡ damage_of setup other rows
unfolding damage_of
damage_same setup read other reads others rows =
    ap₂ (λ (ballots stages : Option ℕ). first_of (
    at_table 2 ballots
    ∷ at_table 3 stages
    ∷ at_table 4 (first_bad (claim_keeps setup.plan (is_drawn_in rows)) [] rows.claims)
    ∷ at_table 5 (done_fault (length setup.secrets) (told_by setup.plan.version rows) rows.dones)
    ∷ at_table 6 (first_bad (void_keeps setup.plan.version rows) [] rows.voids)
    ∷ []))
    (same_bad (ballot_keeps setup.plan read) (ballot_keeps setup.plan other) [] rows.ballots ballot_same)
    (same_bad (stage_keeps setup.plan read) (stage_keeps setup.plan other) [] rows.stages stage_same)
  where
    ballot_same : (front : List BallotRow) (row : BallotRow) → ballot_keeps setup.plan read front row ≡ ballot_keeps setup.plan other front row
    ballot_same front row =
        ap (λ (b : Bool). climbs ballot_before front row && (option_map_or (is_ballot setup.plan) (natural row.ballot) false && b)) (tells_same setup read other reads others (ballot_text row))

    stage_same : (front : List StageRow) (row : StageRow) → stage_keeps setup.plan read front row ≡ stage_keeps setup.plan other front row
    stage_same front row =
        ap (λ (b : Bool). cond (length front == 0) (int_eq row.step (pos 1) && length row.detail == 0) ((length front == 1 && int_eq row.step (pos 2)) && b)) (tells_same setup read other reads others (Some (stage_text row)))

pub no_text : (rows : Rows) (text : List ℕ) → rows.setup ≡ None → rows.setup ≡ Some text → ⊥
no_text rows text none kept = let wrong : None ≡ Some text = sym none ∙ kept in cc

-- a kept text is of one setup, or of none
same_text : (rows : Rows) (text other : List ℕ) (setup : Setup) → rows.setup ≡ Some text → rows.setup ≡ Some other → IsSetupText other setup → IsSetupText text setup
same_text rows text other setup kept kept' its = subst (λ (t : List ℕ). IsSetupText t setup) (same_Some other text (sym kept' ∙ kept)) its

not_both : (rows : Rows) (setup : Setup) (damage : Option (ℕ × ℕ)) → IsOfNone rows → IsOfSetup setup damage rows → ⊥
not_both rows setup damage none its = none.none setup (same_text rows none.text its.text setup none.kept its.kept its.setup_is)

pub one_setup : (rows : Rows) (a b : Setup) (p q : Option (ℕ × ℕ)) → IsOfSetup a p rows → IsOfSetup b q rows → a ≡ b
one_setup rows a b p q of_a of_b = setups_differ of_a.text a b of_a.setup_is (same_text rows of_a.text of_b.text b of_a.kept of_b.kept of_b.setup_is)

one_damage : (rows : Rows) (a b : Setup) (p q : Option (ℕ × ℕ)) → IsOfSetup a p rows → IsOfSetup b q rows → p ≡ q
one_damage rows a b p q of_a of_b =
    let its = subst (λ (s : Setup). IsOfSetup s q rows) (sym (one_setup rows a b p q of_a of_b)) of_b in
    sym of_a.damage_is ∙ (damage_same a of_a.read its.read of_a.reads its.reads rows ∙ its.damage_is)

one_place : (a b : ℕ × ℕ) → Some a ≡ Some b → Damaged a.0 a.1 ≡ Damaged b.0 b.1
one_place a b e = ap (λ (at : ℕ × ℕ). Damaged at.0 at.1) (same_Some a b e)

pub rows_open_once : RowsOpenOnce
rows_open_once rows Empty Empty p q = refl
rows_open_once rows Empty (Damaged table row) p (inl none) = absurd (no_text rows none.0.text p none.0.kept)
rows_open_once rows Empty (Damaged table row) p (inr its) = absurd (no_text rows its.1.text p its.1.kept)
rows_open_once rows Empty (Whole setup) p q = absurd (no_text rows q.text p q.kept)
rows_open_once rows (Damaged table row) Empty (inl none) q = absurd (no_text rows none.0.text q none.0.kept)
rows_open_once rows (Damaged table row) Empty (inr its) q = absurd (no_text rows its.1.text q its.1.kept)
rows_open_once rows (Damaged table row) (Damaged table' row') (inl p) (inl q) = ap₂ Damaged (p.1 ∙ sym q.1) (p.2 ∙ sym q.2)
rows_open_once rows (Damaged table row) (Damaged table' row') (inl p) (inr q) = absurd (not_both rows q.0 (Some (table', row')) p.0 q.1)
rows_open_once rows (Damaged table row) (Damaged table' row') (inr p) (inl q) = absurd (not_both rows p.0 (Some (table, row)) q.0 p.1)
rows_open_once rows (Damaged table row) (Damaged table' row') (inr p) (inr q) = one_place (table, row) (table', row') (one_damage rows p.0 q.0 (Some (table, row)) (Some (table', row')) p.1 q.1)
rows_open_once rows (Damaged table row) (Whole setup) (inl p) q = absurd (not_both rows setup None p.0 q)
rows_open_once rows (Damaged table row) (Whole setup) (inr p) q = let wrong = one_damage rows p.0 setup (Some (table, row)) None p.1 q in cc
rows_open_once rows (Whole setup) Empty p q = absurd (no_text rows p.text q p.kept)
rows_open_once rows (Whole setup) (Damaged table row) p (inl q) = absurd (not_both rows setup None q.0 p)
rows_open_once rows (Whole setup) (Damaged table row) p (inr q) = let wrong = one_damage rows setup q.0 None (Some (table, row)) p q.1 in cc
rows_open_once rows (Whole setup) (Whole other) p q = ap Whole (one_setup rows setup other None None p q)
