-- The rows of a lawful history: ballots rise and fit, stages and claims are those of the history, done rows rise
-- and are as many of each act as the other tables tell.
use Rattle.std.proofs.Common.{◌≡◌, ℕ, ◌≤◌, true, false, cond, List, [], ◌∷◌, length, map, Option, Some, None, refl, ap, ◌∙◌, arith}
use Rattle.std.specs.List.{join_with_byte, list_all}
use Rattle.std.specs.Option.{option_map_or}
use Rattle.std.specs.Prelude.{pos, int_lt}
use Rattle.std.proofs.lemmas.Int.{ints}
use Rattle.sg_plan.specs.Ballots.{races_of_ballot}
use Rattle.sg_plan.specs.declared.plan.Plan.{Plan}
use Rattle.sg_plan.specs.declared.plan.Stage.{Stage}
use Rattle.sg_plan.specs.declared.plan.Stage.TheVariants as stage
use Rattle.sg_keeper.specs.Rows.{ballot_before, ballot_is, is_new, put, stage_before, with_row}
use Rattle.sg_acts.specs.declared.asks.Act.{Act}
use Rattle.sg_acts.specs.declared.asks.Act.TheVariants as act
use Rattle.sg_acts.specs.declared.replies.Reply.TheVariants as reply
use Rattle.sg_keeper.specs.declared.rows.BallotRow.{BallotRow}
use Rattle.sg_keeper.specs.declared.rows.StageRow.{StageRow}
use Rattle.sg_keeper.specs.declared.setup.Setup.{Setup}
use Rattle.sg_desks.specs.ActTexts.{act_text, codes_word, draw_word, mark_word}
use Rattle.sg_histories.specs.Answers.{is_ballot, is_closed, is_voting, refusal_of, unless}
use Rattle.sg_histories.specs.Histories.{Entry, claims_of, fate_of, fate_word, phase_of, phase_word, stage_after, stage_of}
use Rattle.sg_histories.specs.KeptRows.{row_of_act, rows_of}
use Rattle.sg_histories.specs.Lawful.{IsAskable, Lawful}
use Rattle.sg_histories.specs.Reading.{ReadsActs}
use Rattle.sg_histories.specs.ValidRows.{ballot_text, fits, natural, row_fits, tells_fit}
use Rattle.sg_histories.specs.inside.RowReading.{HasRaces}
use Rattle.sg_histories.proofs.Accepted.{early, first_none, passed, unless_none, unused_is}
use Rattle.sg_histories.proofs.Fitting.{audit_fits, audit_row, fits_long, fits_new, scan_row, spoil_row}
use Rattle.sg_histories.proofs.NewKeys.{new_ballot}
use Rattle.sg_histories.proofs.Pairing.{Rises}
use Rattle.sg_histories.proofs.Rising.{all_put, ballot_order, put_rises}

-- BALLOTS

tells : (plan : Plan) (read : List ℕ → Option Act) (text : Option (List ℕ)) (told : List ℕ) (done : Act) → text ≡ Some told → read told ≡ Some done → fits plan done ≡ true → tells_fit plan read text ≡ true
tells plan read text told done e r f = ap (λ (t : Option (List ℕ)). tells_fit plan read t) e ∙ (ap (λ (o : Option Act). option_map_or (fits plan) o false) r ∙ f)

-- the audit's paper has a list
pub paper_long : (setup : Setup) (history : List Entry) (ballot station : ℕ) (paper : List (List ℕ)) → HasRaces setup.plan → refusal_of setup history station (act.Audit ballot paper) ≡ None → 1 ≤ length paper
paper_long setup history ballot station paper races r =
    let f = audit_fits setup.plan (phase_of history) (fate_word (fate_of history ballot)) ballot paper r in
    fits_long setup.plan (races_of_ballot setup.plan ballot) paper f.1 (races ballot f.0)

pub record Ballots (setup : Setup) (read : List ℕ → Option Act) (ballots : List BallotRow) : Type 0 where
  pub rise : Rises ballot_before ballots
  pub fit : list_all (row_fits setup.plan read) ballots ≡ true

one_more : (setup : Setup) (read : List ℕ → Option Act) (row : BallotRow) (told : List ℕ) (done : Act) (ballots : List BallotRow) → Ballots setup read ballots
    → option_map_or (is_ballot setup.plan) (natural row.ballot) false ≡ true → is_new ballot_is row ballots ≡ true → ballot_text row ≡ Some told → read told ≡ Some done → fits setup.plan done ≡ true → Ballots setup read (put ballot_before row ballots)
one_more setup read row told done ballots old known new e r f = record {
  rise = put_rises ballot_before ballot_is ballot_order row ballots new old.rise;
  fit = all_put ballot_before (row_fits setup.plan read) row ballots (rw (known) (tells setup.plan read (ballot_text row) told done e r f)) old.fit;
}

pub ballots_out : (setup : Setup) (read : List ℕ → Option Act) (text : List ℕ) (history : List Entry) → ReadsActs setup read → HasRaces setup.plan → Lawful setup history
    → Ballots setup read (rows_of setup text history).ballots
ballots_out setup read text [] reads races lawful = record { rise = tt; fit = refl }
ballots_out setup read text (entry ∷ history) reads races lawful =
    by_act entry.act lawful.0.act_is (passed setup history lawful.0.stamp entry.act lawful.0.accepted).refusal (ballots_out setup read text history reads races lawful.1)
  where
    by_act : (done : Act) → IsAskable setup done → refusal_of setup history lawful.0.stamp.station done ≡ None
        → Ballots setup read (rows_of setup text history).ballots
        → Ballots setup read (with_row (rows_of setup text history) (row_of_act setup.plan.version (length (claims_of history)) done)).ballots
    by_act (act.Scan ballot marks) is r old =
        let u : fate_of history ballot ≡ _ = unused_is (fate_of history ballot) (early setup.plan (phase_of history) (fate_word (fate_of history ballot)) ballot (first_none _ _ r).0).unused in
        let row : BallotRow = record { ballot = pos ballot; fate = pos 1; detail = join_with_byte 32 (map mark_word marks) } in
        let f = fits_new setup history lawful.0.stamp.station (act.Scan ballot marks) is r in
        one_more setup read row (act_text setup.plan.version (act.Scan ballot marks)) (act.Scan ballot marks) (rows_of setup text history).ballots old (early setup.plan (phase_of history) (fate_word (fate_of history ballot)) ballot (first_none _ _ r).0).ballot_is
        (new_ballot setup text history ballot row refl u) (scan_row setup.plan.version ballot marks) (reads.found (act.Scan ballot marks) is f) f
    by_act (act.Spoil ballot) is r old =
        let u : fate_of history ballot ≡ _ = unused_is (fate_of history ballot) (early setup.plan (phase_of history) (fate_word (fate_of history ballot)) ballot r).unused in
        let row : BallotRow = record { ballot = pos ballot; fate = pos 2; detail = [] } in
        let f = fits_new setup history lawful.0.stamp.station (act.Spoil ballot) is r in
        one_more setup read row (act_text setup.plan.version (act.Spoil ballot)) (act.Spoil ballot) (rows_of setup text history).ballots old (early setup.plan (phase_of history) (fate_word (fate_of history ballot)) ballot r).ballot_is
        (new_ballot setup text history ballot row refl u) (spoil_row setup.plan.version ballot) (reads.found (act.Spoil ballot) is f) f
    by_act (act.Audit ballot paper) is r old =
        let u : fate_of history ballot ≡ _ = unused_is (fate_of history ballot) (early setup.plan (phase_of history) (fate_word (fate_of history ballot)) ballot (first_none _ _ r).0).unused in
        let row : BallotRow = record { ballot = pos ballot; fate = pos 3; detail = join_with_byte 32 (map (codes_word setup.plan.version) paper) } in
        let f = fits_new setup history lawful.0.stamp.station (act.Audit ballot paper) is r in
        let long = paper_long setup history ballot lawful.0.stamp.station paper races r in
        one_more setup read row (act_text setup.plan.version (act.Audit ballot paper)) (act.Audit ballot paper) (rows_of setup text history).ballots old (early setup.plan (phase_of history) (fate_word (fate_of history ballot)) ballot (first_none _ _ r).0).ballot_is
        (new_ballot setup text history ballot row refl u) (audit_row setup.plan.version ballot paper long) (reads.found (act.Audit ballot paper) is f) f
    by_act (act.Void ballot) is r old = old
    by_act act.Close is r old = old
    by_act (act.Draw drawn) is r old = old
    by_act (act.Claim ballot race code) is r old = old

-- STAGES

-- the rows of a stage
abbrev pub stage_rows : Stage → List StageRow
stage_rows stage.Voting = []
stage_rows stage.Closed = record { step = pos 1; detail = [] } ∷ []
stage_rows (stage.Drawn drawn) = record { step = pos 1; detail = [] } ∷ record { step = pos 2; detail = draw_word drawn } ∷ []

pub voting_stage : (now : Stage) → is_voting (phase_word now) ≡ true → now ≡ stage.Voting
voting_stage stage.Voting e = refl
voting_stage stage.Closed e = cc
voting_stage (stage.Drawn drawn) e = cc

pub closed_stage : (now : Stage) → is_closed (phase_word now) ≡ true → now ≡ stage.Closed
closed_stage stage.Voting e = cc
closed_stage stage.Closed e = refl
closed_stage (stage.Drawn drawn) e = cc

behind_one : int_lt (pos 2) (pos 1) ≡ false
behind_one = grind (arith, ints)

pub stages_out : (setup : Setup) (text : List ℕ) (history : List Entry) → Lawful setup history → (rows_of setup text history).stages ≡ stage_rows (stage_of history)
stages_out setup text [] lawful = refl
stages_out setup text (entry ∷ history) lawful =
    by_act entry.act (passed setup history lawful.0.stamp entry.act lawful.0.accepted).refusal (stages_out setup text history lawful.1)
  where
    by_act : (done : Act) → refusal_of setup history lawful.0.stamp.station done ≡ None
        → (rows_of setup text history).stages ≡ stage_rows (stage_of history)
        → (with_row (rows_of setup text history) (row_of_act setup.plan.version (length (claims_of history)) done)).stages ≡ stage_rows (stage_after done (stage_of history))
    by_act (act.Scan ballot marks) r old = old
    by_act (act.Spoil ballot) r old = old
    by_act (act.Audit ballot paper) r old = old
    by_act (act.Void ballot) r old = old
    by_act act.Close r old =
        let v : stage_of history ≡ stage.Voting = voting_stage (stage_of history) (unless_none (is_voting (phase_of history)) (reply.Phase (phase_of history)) (first_none (unless (is_voting (phase_of history)) (reply.Phase (phase_of history))) _ r).0) in
        ap (put stage_before (record { step = pos 1; detail = [] })) (old ∙ ap stage_rows v)
    by_act (act.Draw drawn) r old =
        let v : stage_of history ≡ stage.Closed = closed_stage (stage_of history) (unless_none (is_closed (phase_of history)) (reply.Phase (phase_of history)) (first_none (unless (is_closed (phase_of history)) (reply.Phase (phase_of history))) _ r).0) in
        let row : StageRow = record { step = pos 2; detail = draw_word drawn } in
        let one : StageRow = record { step = pos 1; detail = [] } in
        ap (put stage_before row) (old ∙ ap stage_rows v) ∙ ap (λ b. cond b (row ∷ one ∷ []) (one ∷ row ∷ [])) behind_one
    by_act (act.Claim ballot race code) r old = old
