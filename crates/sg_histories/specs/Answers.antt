-- What an office answers (this project's rules for the office). Its refusals are tried in the order in which
-- they stand here, and the first that holds is the reply.
use Rattle.std.specs.Option.{option_map, option_map_or, unwrap_or}
use Rattle.std.specs.Prelude.{ℕ, ◌==◌, nat_lt, nat_le, if◌then◌else◌, Bool, true, false, ◌&&◌, not, List, [], ◌∷◌, length, bytes_eq, slice_get, Option, Some, None, is_none}
use Rattle.sg_plan.specs.Ballots.{ballot_has, ballot_row, ballots_of, candidates_of, races_of_ballot}
use Rattle.sg_plan.specs.Fates.{each_fits, has_mark}
use Rattle.sg_plan.specs.Limits.{first_bad, first_of, most_claims}
use Rattle.sg_plan.specs.declared.plan.Draw.{Draw}
use Rattle.sg_plan.specs.declared.plan.Fate.{Fate}
use Rattle.sg_plan.specs.declared.plan.Fate.TheVariants as fate
use Rattle.sg_plan.specs.declared.plan.Mark.{Mark}
use Rattle.sg_plan.specs.declared.plan.Plan.{Plan}
use Rattle.sg_tables.specs.Posts.{right_word, void_races}
use Rattle.sg_tables.specs.Tables.{paper_of}
use Rattle.sg_acts.specs.declared.asks.Act.{Act}
use Rattle.sg_acts.specs.declared.asks.Act.TheVariants as act
use Rattle.sg_acts.specs.declared.asks.Ask.{Ask}
use Rattle.sg_acts.specs.declared.asks.Ask.TheVariants as ask
use Rattle.sg_acts.specs.declared.asks.Look.{Look}
use Rattle.sg_acts.specs.declared.asks.Look.TheVariants as look
use Rattle.sg_acts.specs.declared.asks.Stamp.{Stamp}
use Rattle.sg_acts.specs.declared.replies.Body.{Body}
use Rattle.sg_acts.specs.declared.replies.Body.TheVariants as body
use Rattle.sg_acts.specs.declared.replies.FateWord.{FateWord}
use Rattle.sg_acts.specs.declared.replies.FateWord.TheVariants as word
use Rattle.sg_acts.specs.declared.replies.Phase.{Phase}
use Rattle.sg_acts.specs.declared.replies.Phase.TheVariants as phase
use Rattle.sg_acts.specs.declared.replies.Receipt.{Receipt}
use Rattle.sg_acts.specs.declared.replies.Reply.{Reply}
use Rattle.sg_acts.specs.declared.replies.Reply.TheVariants as reply
use Rattle.sg_keeper.specs.declared.setup.Setup.{Setup}
use Rattle.sg_desks.specs.ActTexts.{act_text}
use Rattle.sg_desks.specs.Papers.{same_paper}
use Rattle.sg_desks.specs.Receipts.{posted_of}
use Rattle.sg_record.specs.Formed.{is_draw}
use Rattle.sg_post.specs.Marks.{total_of}
use Rattle.sg_post.specs.Posted.{by_candidate}
use Rattle.sg_histories.specs.Histories.{Entry, act_of_stamp, claims_of, fate_of, fate_word, is_stamped, phase_of, scanner_of}
use Rattle.sg_histories.specs.Stories.{told_fates}

-- REFUSALS

-- the refusal, unless the test holds
abbrev pub unless : Bool → Reply → Option Reply
unless test refusal = (if test then None else Some refusal)

abbrev pub is_voting : Phase → Bool
is_voting phase.Voting = true
is_voting other = false

abbrev pub is_closed : Phase → Bool
is_closed phase.Closed = true
is_closed other = false

abbrev pub is_drawn : Phase → Bool
is_drawn phase.Drawn = true
is_drawn other = false

abbrev pub is_unused : FateWord → Bool
is_unused word.Unused = true
is_unused other = false

abbrev pub is_cast_word : FateWord → Bool
is_cast_word word.Cast = true
is_cast_word other = false

-- the ballot is in the plan
abbrev pub is_ballot : Plan → ℕ → Bool
is_ballot plan ballot = nat_le 1 ballot && nat_le ballot (ballots_of plan)

-- the list has a list of K codes for each of these races
abbrev pub fits_races : Plan → List ℕ → List (List ℕ) → Bool
fits_races plan races paper = each_fits (λ race list. length list == candidates_of plan race) races paper

-- of an act on a ballot that should have no fate yet
abbrev pub early_refusal : Plan → Phase → FateWord → ℕ → Option Reply
early_refusal plan now told ballot = first_of (
    unless (is_voting now) (reply.Phase now)
    ∷ unless (is_ballot plan ballot) reply.Ballot
    ∷ unless (is_unused told) (reply.Fate told)
    ∷ [])

-- of a scan
abbrev pub scan_refusal : Plan → Phase → FateWord → ℕ → List Mark → Option Reply
scan_refusal plan now told ballot marks = first_of (
    early_refusal plan now told ballot
    ∷ option_map reply.Race (first_bad (λ earlier mark. ballot_has plan ballot mark.race) [] marks)
    ∷ option_map reply.Candidate (first_bad (λ earlier mark. nat_lt mark.candidate (candidates_of plan mark.race)) [] marks)
    ∷ option_map reply.Twice (first_bad (λ earlier mark. not (has_mark earlier mark.race mark.candidate)) [] marks)
    ∷ [])

-- of a print audit
abbrev pub audit_refusal : Plan → Phase → FateWord → ℕ → List (List ℕ) → Option Reply
audit_refusal plan now told ballot paper = first_of (
    early_refusal plan now told ballot
    ∷ unless (fits_races plan (races_of_ballot plan ballot) paper) reply.Paper
    ∷ [])

-- of a void by a station, of a ballot that another one scanned
abbrev pub void_refusal : Plan → Phase → FateWord → ℕ → ℕ → ℕ → Option Reply
void_refusal plan now told scanner station ballot = first_of (
    unless (is_voting now) (reply.Phase now)
    ∷ unless (is_ballot plan ballot) reply.Ballot
    ∷ unless (is_cast_word told) (reply.Fate told)
    ∷ unless (not (station == scanner)) (reply.Station scanner)
    ∷ [])

-- of the close
abbrev pub close_refusal : Phase → Option Reply
close_refusal now = first_of (unless (is_voting now) (reply.Phase now) ∷ [])

-- of the draw
abbrev pub draw_refusal : Phase → Draw → Option Reply
draw_refusal now drawn = first_of (
    unless (is_closed now) (reply.Phase now)
    ∷ unless (is_draw drawn) reply.Draw
    ∷ [])

-- of a claim, where so many are kept
abbrev pub claim_refusal : Plan → Phase → ℕ → ℕ → ℕ → Option Reply
claim_refusal plan now kept ballot race = first_of (
    unless (is_drawn now) (reply.Phase now)
    ∷ unless (is_ballot plan ballot) reply.Ballot
    ∷ unless (ballot_has plan ballot race) (reply.Race 0)
    ∷ unless (nat_lt kept most_claims) reply.Full
    ∷ [])

-- of a station's new act
abbrev pub refusal_of : Setup → List Entry → ℕ → Act → Option Reply
refusal_of setup history station (act.Scan ballot marks) = scan_refusal setup.plan (phase_of history) (fate_word (fate_of history ballot)) ballot marks
refusal_of setup history station (act.Spoil ballot) = early_refusal setup.plan (phase_of history) (fate_word (fate_of history ballot)) ballot
refusal_of setup history station (act.Audit ballot paper) = audit_refusal setup.plan (phase_of history) (fate_word (fate_of history ballot)) ballot paper
refusal_of setup history station act.Close = close_refusal (phase_of history)
refusal_of setup history station (act.Draw drawn) = draw_refusal (phase_of history) drawn
refusal_of setup history station (act.Claim ballot race code) = claim_refusal setup.plan (phase_of history) (length (claims_of history)) ballot race
refusal_of setup history station (act.Void ballot) = void_refusal setup.plan (phase_of history) (fate_word (fate_of history ballot)) (scanner_of history ballot) station ballot

-- BODIES

-- what an accepted act is answered, where the ballots have these fates
abbrev pub body_with : Setup → (ℕ → Fate) → Act → Body
body_with setup fates (act.Scan ballot marks) = body.Scanned (void_races setup.plan (fate.Cast marks))
body_with setup fates (act.Spoil ballot) = body.Spoiled
body_with setup fates (act.Audit ballot paper) = body.Audited (same_paper paper (paper_of setup.plan setup.seed.0 ballot))
body_with setup fates act.Close = body.Closed
body_with setup fates (act.Draw drawn) = body.Drawn
body_with setup fates (act.Claim ballot race code) = body.Claimed (right_word setup.plan setup.seed.0 race (ballot_row setup.plan race ballot) (fates ballot) code)
body_with setup fates (act.Void ballot) = body.Voided

-- what an act is answered that is accepted after this history
abbrev pub body_of : Setup → List Entry → Act → Body
body_of setup history done = body_with setup (fate_of history) done

-- ACTS

-- one of the stations, with its own secret
abbrev pub knows_secret_of : List (List ℕ) → Stamp → Bool
knows_secret_of secrets stamp = option_map_or (λ secret. bytes_eq secret stamp.secret) (slice_get secrets stamp.station) false

-- the act is new and accepted: the station shows its secret, no act has its number, and nothing refuses it
abbrev pub accepts : Setup → List Entry → Stamp → Act → Bool
accepts setup history stamp asked =
    knows_secret_of setup.secrets stamp && (is_none (act_of_stamp history stamp.station stamp.number) && is_none (refusal_of setup history stamp.station asked))

-- the two acts have the same text, and so are the same act
abbrev pub same_act : Setup → Act → Act → Bool
same_act setup a b = bytes_eq (act_text setup.plan.version a) (act_text setup.plan.version b)

-- the reply where the station's number was accepted before: the first body where it was this act
abbrev pub repeat_of : Setup → List Entry → Stamp → Act → Option Reply
repeat_of setup [] stamp asked = None
repeat_of setup (entry ∷ history) stamp asked =
    (if is_stamped stamp.station stamp.number entry then
    Some (if same_act setup entry.act asked then reply.Done (body_of setup history entry.act) else reply.Ref (act_text setup.plan.version entry.act))
    else repeat_of setup history stamp asked)

-- the reply to an act, and nothing where it is new and accepted
abbrev pub early_reply : Setup → List Entry → Stamp → Act → Option Reply
early_reply setup history stamp asked = first_of (
    unless (knows_secret_of setup.secrets stamp) reply.Secret
    ∷ repeat_of setup history stamp asked
    ∷ refusal_of setup history stamp.station asked
    ∷ [])

-- LOOKS

-- what is posted of a ballot with this fate
abbrev pub receipt_of : Plan → List ℕ → ℕ → Fate → Receipt
receipt_of plan seed ballot told = record {
  ballot = ballot;
  fate = fate_word told;
  codes = posted_of plan seed ballot told;
  over = void_races plan told;
}

-- the totals of all races, by candidate: those that are posted
abbrev pub totals_of : Plan → List ℕ → (ℕ → Fate) → List (List ℕ)
totals_of plan seed fates = by_candidate plan (total_of plan seed (told_fates plan fates))

-- the reply to a look in a phase, where the ballots have these fates
abbrev pub look_reply : Setup → Phase → (ℕ → Fate) → Look → Reply
look_reply setup now fates (look.Receipt ballot) =
    (if is_voting now then reply.Phase now
    else (if is_ballot setup.plan ballot then reply.Done (body.Receipt (receipt_of setup.plan setup.seed.0 ballot (fates ballot))) else reply.Ballot))
look_reply setup now fates look.Totals =
    (if is_voting now then reply.Phase now else reply.Done (body.Totals (totals_of setup.plan setup.seed.0 fates)))

-- THE ANSWER

-- the reply to an ask
unfoldable pub answer_of : Setup → List Entry → Ask → Reply
answer_of setup history (ask.Do stamp asked) = unwrap_or (early_reply setup history stamp asked) (reply.Done (body_of setup history asked))
answer_of setup history (ask.See seen) = look_reply setup (phase_of history) (fate_of history) seen

-- the entry that an act makes
abbrev pub entry_of : Stamp → Act → Entry
entry_of stamp asked = record { station = stamp.station; number = stamp.number; act = asked }

-- the history after an ask: with the act where it is new and accepted
unfoldable pub next_history : Setup → List Entry → Ask → List Entry
next_history setup history (ask.Do stamp asked) = (if accepts setup history stamp asked then entry_of stamp asked ∷ history else history)
next_history setup history (ask.See seen) = history

-- the ask was done; every other reply is a refusal
abbrev pub is_done : Reply → Bool
is_done (reply.Done said) = true
is_done other = false
