-- What is posted of a history stays, and a sheet has the papers.
use Rattle.std.proofs.Common.{◌≡◌, ℕ, true, List, [], ◌∷◌, ◌++◌, map, None, refl, sym, ap, subst, ◌∙◌, append_assoc, append-nil}
use Rattle.std.specs.Option.{option_map_or}
use Rattle.std.proofs.lemmas.List.{map-append}
use Rattle.sg_plan.specs.Ballots.{ballot_row, races_of_style}
use Rattle.sg_plan.specs.declared.plan.Draw.{Draw}
use Rattle.sg_plan.specs.declared.plan.Stage.{Stage}
use Rattle.sg_plan.specs.declared.plan.Stage.TheVariants as stage
use Rattle.sg_tables.specs.Tables.{codes_of_row, paper_of}
use Rattle.sg_acts.specs.declared.asks.Act.{Act}
use Rattle.sg_acts.specs.declared.asks.Act.TheVariants as act
use Rattle.sg_acts.specs.declared.replies.Reply.TheVariants as reply
use Rattle.sg_keeper.specs.declared.setup.Setup.{Setup}
use Rattle.sg_post.specs.Laws.{GoesOn, Stays}
use Rattle.sg_post.specs.declared.story.Claimed.{Claimed}
use Rattle.sg_post.specs.declared.story.Story.{Story}
use Rattle.sg_post.proofs.Prefixes.{posted_stays}
use Rattle.sg_histories.proofs.Accepted.{early, first_none, passed, unless_none, voids}
use Rattle.sg_histories.proofs.Fitting.{claims}
use Rattle.sg_histories.specs.Answers.{early_refusal, is_closed, is_drawn, is_voting, refusal_of, unless}
use Rattle.sg_histories.specs.Histories.{Entry, claims_of, fate_of, fate_word, phase_of, phase_word, scanner_of, stage_of}
use Rattle.sg_histories.specs.Lawful.{IsAccepted}
use Rattle.sg_histories.specs.Stories.{answered, story_of}
use Rattle.sg_histories.specs.declared.kept.Claim.{Claim}
use Rattle.std.specs.Prelude.{length}
use Rattle.sg_clerk.specs.Laws.{RecordStays, SheetHasPapers, codes_in}
use Rattle.sg_sheet.specs.Sheet.{codes_line}
use Rattle.sg_clerk.specs.Shown.{posted_of}

-- ONE ACT MORE

-- nothing must stay while ballots are voted on
while_voting : (now next : Stage) (old new : Story) → is_voting (phase_word now) ≡ true → Stays now next old new
while_voting stage.Voting next old new voting = tt
while_voting stage.Closed next old new voting = absurd cc
while_voting (stage.Drawn drawn) next old new voting = absurd cc

-- the fates stay at the draw
at_draw : (now : Stage) (drawn : Draw) (old new : Story) → is_closed (phase_word now) ≡ true → new.fates ≡ old.fates → Stays now (stage.Drawn drawn) old new
at_draw stage.Voting drawn old new closed same = absurd cc
at_draw stage.Closed drawn old new closed same = same
at_draw (stage.Drawn other) drawn old new closed same = absurd cc

-- and all but the claims behind it
at_claim : (now : Stage) (old new : Story) (more : List Claimed) → is_drawn (phase_word now) ≡ true → new.fates ≡ old.fates → new.claims ≡ old.claims ++ more → Stays now now old new
at_claim stage.Voting old new more drawn same longer = absurd cc
at_claim stage.Closed old new more drawn same longer = absurd cc
at_claim (stage.Drawn draw) old new more drawn same longer = (refl, same, more, longer)

-- the history with one act more
abbrev with_act : List Entry → ℕ → ℕ → Act → List Entry
with_act history station number done = record { station = station; number = number; act = done } ∷ history

-- the story of a history with an accepted act more goes on from that of the history
act_goes_on : (setup : Setup) (history : List Entry) (station number : ℕ) (done : Act) → refusal_of setup history station done ≡ None
    → GoesOn (story_of setup history) (story_of setup (with_act history station number done))
act_goes_on setup history station number (act.Scan ballot marks) none =
    let first = first_none (early_refusal setup.plan (phase_of history) (fate_word (fate_of history ballot)) ballot) _ none in
    while_voting (stage_of history) _ _ _ (early setup.plan (phase_of history) (fate_word (fate_of history ballot)) ballot first.0).voting
act_goes_on setup history station number (act.Spoil ballot) none =
    while_voting (stage_of history) _ _ _ (early setup.plan (phase_of history) (fate_word (fate_of history ballot)) ballot none).voting
act_goes_on setup history station number (act.Audit ballot paper) none =
    let first = first_none (early_refusal setup.plan (phase_of history) (fate_word (fate_of history ballot)) ballot) _ none in
    while_voting (stage_of history) _ _ _ (early setup.plan (phase_of history) (fate_word (fate_of history ballot)) ballot first.0).voting
act_goes_on setup history station number (act.Void ballot) none =
    while_voting (stage_of history) _ _ _ (voids setup.plan (phase_of history) (fate_word (fate_of history ballot)) (scanner_of history ballot) station ballot none).voting
act_goes_on setup history station number act.Close none =
    let first = first_none (unless (is_voting (phase_of history)) (reply.Phase (phase_of history))) _ none in
    while_voting (stage_of history) _ _ _ (unless_none _ _ first.0)
act_goes_on setup history station number (act.Draw drawn) none =
    let first = first_none (unless (is_closed (phase_of history)) (reply.Phase (phase_of history))) _ none in
    at_draw (stage_of history) drawn (story_of setup history) (story_of setup (with_act history station number (act.Draw drawn))) (unless_none _ _ first.0) refl
act_goes_on setup history station number (act.Claim ballot race code) none =
    let told = claims setup.plan (phase_of history) (length (claims_of history)) ballot race none in
    let right : Claim → Claimed = answered setup.plan setup.seed.0 (fate_of history) in
    let new : Claim = record { ballot = ballot; race = race; code = code } in
    at_claim (stage_of history) (story_of setup history) (story_of setup (with_act history station number (act.Claim ballot race code))) (right new ∷ []) told.drawn refl
    (map-append right (claims_of history) (new ∷ []))

-- ALL THAT COME

-- an accepted entry
entry_goes_on : (setup : Setup) (history : List Entry) (entry : Entry) → IsAccepted setup history entry → GoesOn (story_of setup history) (story_of setup (entry ∷ history))
entry_goes_on setup history entry new =
    let station : entry.station ≡ new.stamp.station = ap (λ (e : Entry). e.station) new.is in
    let fits = (passed setup history new.stamp entry.act new.accepted).refusal in
    act_goes_on setup history entry.station entry.number entry.act (subst (λ n. refusal_of setup history n entry.act ≡ None) (sym station) fits)

pub record_stays : RecordStays
record_stays setup history [] lawful = ([], sym (append-nil (posted_of setup history)))
record_stays setup history (entry ∷ more) lawful =
    let before = record_stays setup history more lawful.1 in
    let last = posted_stays setup.plan setup.seed.0 (story_of setup (more ++ history)) (story_of setup (entry ∷ (more ++ history))) (entry_goes_on setup (more ++ history) entry lawful.0) in
    (before.0 ++ last.0, last.1 ∙ (ap (λ l. l ++ last.0) before.1 ∙ append_assoc (posted_of setup history) before.0 last.0))

-- PAPERS

pub sheet_has_papers : SheetHasPapers
unfolding paper_of
sheet_has_papers plan seed ballot style is =
    each (races_of_style plan style)
    ∙ ap (λ s. map (λ race. codes_of_row plan seed race (ballot_row plan race ballot)) (option_map_or (races_of_style plan) s [])) (sym is)
  where
    each : (races : List ℕ) → map codes_in (map (codes_line plan (codes_of_row plan seed) ballot) races) ≡ map (λ race. codes_of_row plan seed race (ballot_row plan race ballot)) races
    each [] = refl
    each (race ∷ races) = ap (λ l. codes_of_row plan seed race (ballot_row plan race ballot) ∷ l) (each races)
