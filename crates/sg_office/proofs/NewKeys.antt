-- The keys of an act that is accepted are not among the rows of its history.
use Rattle.std.proofs.Common.{◌≡◌, ◌≢◌, ℕ, ◌+◌, ◌<◌, true, false, List, [], ◌∷◌, ◌++◌, length, map, None, refl, ap, ◌∙◌, arith}
use Rattle.std.specs.List.{join_with_byte}
use Rattle.std.specs.Option.{option_map}
use Rattle.sg_desks.specs.ActTexts.{act_text, codes_word, draw_word, mark_word}
use Rattle.std.specs.Prelude.{pos}
use Rattle.std.proofs.lemmas.List.{length_push}
use Rattle.sg_plan.specs.declared.plan.Draw.{Draw}
use Rattle.sg_plan.specs.declared.plan.Fate.{Fate}
use Rattle.sg_plan.specs.declared.plan.Fate.TheVariants as fate
use Rattle.sg_plan.specs.declared.plan.Stage.{Stage}
use Rattle.sg_plan.specs.declared.plan.Stage.TheVariants as stage
use Rattle.sg_keeper.specs.Rows.{IsNewChange, ballot_is, claim_before, claim_is, done_is, is_new, is_new_row, stage_is, with_row}
use Rattle.sg_acts.specs.declared.asks.Act.{Act}
use Rattle.sg_acts.specs.declared.asks.Act.TheVariants as act
use Rattle.sg_acts.specs.declared.asks.Stamp.{Stamp}
use Rattle.sg_keeper.specs.declared.rows.BallotRow.{BallotRow}
use Rattle.sg_keeper.specs.declared.rows.ClaimRow.{ClaimRow}
use Rattle.sg_histories.specs.Answers.{accepts, entry_of, is_cast_word, is_closed, is_voting, refusal_of, unless}
use Rattle.sg_acts.specs.declared.replies.Reply.TheVariants as reply
use Rattle.sg_histories.specs.Lawful.{Lawful}
use Rattle.sg_histories.proofs.Accepted.{Passed, early, first_none, passed, unless_none, unused_is, voids}
use Rattle.sg_histories.proofs.NewKeys.{any_put, apart, new_ballot, new_void}
use Rattle.sg_histories.proofs.OutRows.{stage_rows, stages_out}
use Rattle.sg_histories.proofs.Stamps.{new_number, rows_tell}
use Rattle.sg_office.proofs.NewRows.{new_row}
use Rattle.sg_keeper.specs.declared.setup.Setup.{Setup}
use Rattle.sg_histories.specs.Histories.{Entry, claims_after, claims_of, fate_of, fate_word, phase_of, phase_word, scanner_of, stage_of}
use Rattle.sg_histories.specs.KeptRows.{change_of, done_row, row_of_act, rows_of}

-- STAGES

pub voting_is : (now : Stage) → is_voting (phase_word now) ≡ true → now ≡ stage.Voting
voting_is stage.Voting e = refl
voting_is stage.Closed e = cc
voting_is (stage.Drawn drawn) e = cc

pub closed_is : (now : Stage) → is_closed (phase_word now) ≡ true → now ≡ stage.Closed
closed_is stage.Voting e = cc
closed_is stage.Closed e = refl
closed_is (stage.Drawn drawn) e = cc

-- an accepted close comes while voting, an accepted draw after the close
pub close_voting : (setup : Setup) (history : List Entry) (station : ℕ) → refusal_of setup history station act.Close ≡ None → stage_of history ≡ stage.Voting
close_voting setup history station e = voting_is (stage_of history) (unless_none _ _ (first_none (unless (is_voting (phase_of history)) (reply.Phase (phase_of history))) _ e).0)

pub draw_closed : (setup : Setup) (history : List Entry) (station : ℕ) (drawn : Draw) → refusal_of setup history station (act.Draw drawn) ≡ None → stage_of history ≡ stage.Closed
draw_closed setup history station drawn e = closed_is (stage_of history) (unless_none _ _ (first_none (unless (is_closed (phase_of history)) (reply.Phase (phase_of history))) _ e).0)

-- CLAIMS

-- a number above all claims is new
pub new_claim : (setup : Setup) (text : List ℕ) (history : List Entry) (number : ℕ) (row : ClaimRow) → row.claim ≡ pos number → length (claims_of history) < number
    → is_new claim_is row (rows_of setup text history).claims ≡ true
new_claim setup text [] number row is above = refl
new_claim setup text (entry ∷ history) number row is above = by_act entry.act above (new_claim setup text history number row is)
  where
    by_act : (done : Act) → length (claims_after done (claims_of history)) < number
        → (length (claims_of history) < number → is_new claim_is row (rows_of setup text history).claims ≡ true)
        → is_new claim_is row (with_row (rows_of setup text history) (row_of_act setup.plan.version (length (claims_of history)) done)).claims ≡ true
    by_act (act.Scan ballot marks) k old = old k
    by_act (act.Spoil ballot) k old = old k
    by_act (act.Audit ballot paper) k old = old k
    by_act act.Close k old = old k
    by_act (act.Draw drawn) k old = old k
    by_act (act.Claim ballot race code) k old =
        let more : length (claims_of history ++ record { ballot = ballot; race = race; code = code } ∷ []) ≡ length (claims_of history) + 1 = length_push (claims_of history) (record { ballot = ballot; race = race; code = code }) in
        let below : length (claims_of history) < number = omega (arith, k, more) in
        let differ : length (claims_of history) + 1 ≢ number = λ e. omega (arith, k, more, e) in
        let other : ClaimRow = record { claim = pos (length (claims_of history) + 1); ballot = pos ballot; race = pos race; code = pos code } in
        let tests : claim_is other row ≡ false = rw is (apart (length (claims_of history) + 1) number differ) in
        rw (any_put claim_before (λ kept. claim_is kept row) other (rows_of setup text history).claims) (rw tests (old below))
    by_act (act.Void ballot) k old = old k

-- ALL ACTS

not_cast : (told : Fate) → is_cast_word (fate_word told) ≡ true → told ≡ fate.Voided → ⊥
not_cast fate.Unused e v = cc
not_cast (fate.Cast marks) e v = cc
not_cast fate.Spoiled e v = cc
not_cast (fate.Audited paper) e v = cc
not_cast fate.Voided e v = cc

-- neither key of a new act is kept
pub new_change : (setup : Setup) (text : List ℕ) (history : List Entry) (stamp : Stamp) (asked : Act) → Lawful setup history → accepts setup history stamp asked ≡ true
    → IsNewChange (rows_of setup text history) (change_of setup history (entry_of stamp asked))
new_change setup text history stamp asked lawful accepted = record { row = by_act asked pass.refusal; done = done_new }
  where
    pass : Passed setup history stamp asked
    pass = passed setup history stamp asked accepted

    unused : (ballot : ℕ) (row : BallotRow) → row.ballot ≡ pos ballot → refusal_of setup history stamp.station (act.Spoil ballot) ≡ None → is_new ballot_is row (rows_of setup text history).ballots ≡ true
    unused ballot row is e = new_ballot setup text history ballot row is
        (unused_is (fate_of history ballot) (early setup.plan (phase_of history) (fate_word (fate_of history ballot)) ballot e).unused)

    by_act : (done : Act) → refusal_of setup history stamp.station done ≡ None → is_new_row (rows_of setup text history) (row_of_act setup.plan.version (length (claims_of history)) done) ≡ true
    by_act (act.Scan ballot marks) e = unused ballot (record { ballot = pos ballot; fate = pos 1; detail = join_with_byte 32 (map mark_word marks) }) refl (first_none _ _ e).0
    by_act (act.Spoil ballot) e = unused ballot (record { ballot = pos ballot; fate = pos 2; detail = [] }) refl e
    by_act (act.Audit ballot paper) e = unused ballot (record { ballot = pos ballot; fate = pos 3; detail = join_with_byte 32 (map (codes_word setup.plan.version) paper) }) refl (first_none _ _ e).0
    by_act act.Close e = ap (is_new stage_is (record { step = pos 1; detail = [] })) (stages_out setup text history lawful ∙ ap stage_rows (close_voting setup history stamp.station e))
    by_act (act.Draw drawn) e = ap (is_new stage_is (record { step = pos 2; detail = draw_word drawn })) (stages_out setup text history lawful ∙ ap stage_rows (draw_closed setup history stamp.station drawn e))
    by_act (act.Claim ballot race code) e =
        new_claim setup text history (length (claims_of history) + 1) (record { claim = pos (length (claims_of history) + 1); ballot = pos ballot; race = pos race; code = pos code }) refl (omega arith)
    by_act (act.Void ballot) e = new_void setup text history ballot lawful
        (not_cast (fate_of history ballot) (voids setup.plan (phase_of history) (fate_word (fate_of history ballot)) (scanner_of history ballot) stamp.station ballot e).cast)

    done_new : is_new done_is (done_row setup.plan.version (entry_of stamp asked)) (rows_of setup text history).dones ≡ true
    done_new = new_row (done_row setup.plan.version (entry_of stamp asked)) stamp.station stamp.number (rows_of setup text history).dones refl refl
        (rows_tell setup text history lawful stamp.station stamp.number
        ∙ ap (option_map (act_text setup.plan.version)) (new_number setup history stamp asked pass.new).1)
