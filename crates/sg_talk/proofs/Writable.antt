-- Each answer of an office can be written: its codes are codes of the version, and a kept act's text is made of plain
-- bytes.
use Rattle.std.proofs.Common.{◌≡◌, ℕ, ◌==◌, nat_lt, Bool, true, false, not, if◌then◌else◌, List, [], ◌∷◌, length, All, Option, Some, None, sym, subst}
use Rattle.std.specs.Prelude.{IfSome}
use Rattle.std.specs.Option.{option_map, unwrap_or}
use Rattle.sg_plan.specs.Ballots.{ballot_has, candidates_of, races_of_ballot}
use Rattle.sg_plan.specs.Fates.{has_mark}
use Rattle.sg_plan.specs.Limits.{fault_of, first_bad, first_of}
use Rattle.sg_plan.specs.declared.plan.Fate.{Fate}
use Rattle.sg_plan.specs.declared.plan.Mark.{Mark}
use Rattle.sg_plan.specs.declared.plan.Plan.{Plan}
use Rattle.sg_acts.specs.declared.asks.Act.{Act}
use Rattle.sg_acts.specs.declared.asks.Act.TheVariants as act
use Rattle.sg_acts.specs.declared.asks.Ask.{Ask}
use Rattle.sg_acts.specs.declared.asks.Ask.TheVariants as ask
use Rattle.sg_acts.specs.declared.asks.Look.{Look}
use Rattle.sg_acts.specs.declared.asks.Look.TheVariants as look
use Rattle.sg_acts.specs.declared.asks.Stamp.{Stamp}
use Rattle.sg_acts.specs.declared.replies.FateWord.{FateWord}
use Rattle.sg_acts.specs.declared.replies.Phase.{Phase}
use Rattle.sg_acts.specs.declared.replies.Reply.{Reply}
use Rattle.sg_acts.specs.declared.replies.Reply.TheVariants as reply
use Rattle.sg_keeper.specs.declared.setup.Setup.{Setup}
use Rattle.sg_asks.specs.Replies.{HasPlainText, HasReplyCodes, IsPlain}
use Rattle.sg_talk.specs.declared.answered.Answered.TheVariants as answered
use Rattle.sg_talk.specs.Answers.{IsWritable}
use Rattle.sg_desks.specs.ActTexts.{act_text}
use Rattle.sg_histories.specs.Answers.{answer_of, body_of, body_with, early_refusal, early_reply, fits_races, is_ballot, is_cast_word, is_closed, is_drawn, is_unused, is_voting, knows_secret_of, look_reply, refusal_of, repeat_of, same_act, scan_refusal, unless}
use Rattle.sg_record.specs.Formed.{is_draw}
use Rattle.sg_histories.specs.Histories.{Entry, claims_of, fate_of, fate_word, is_stamped, phase_of, scanner_of}
use Rattle.sg_histories.specs.Lawful.{IsAccepted, Lawful, Turn}
use Rattle.sg_histories.proofs.Accepted.{passed}
use Rattle.sg_histories.proofs.Fitting.{fits_new}
use Rattle.sg_histories.proofs.ReadingActs.{numbers_fit}
use Rattle.sg_talk.proofs.Plain.{text_plain}
use Rattle.sg_talk.proofs.Posting.{posted_below}

abbrev CanWrite : ℕ → Reply → Type 0
CanWrite version said = HasReplyCodes version said × HasPlainText said

abbrev CanWriteEach : ℕ → List (Option Reply) → Type 0
CanWriteEach version [] = Unit {0}
CanWriteEach version (refusal ∷ refusals) = IfSome refusal (CanWrite version) × CanWriteEach version refusals

first_can : (version : ℕ) (refusals : List (Option Reply)) → CanWriteEach version refusals → IfSome (first_of refusals) (CanWrite version)
first_can version [] each = tt
first_can version (None ∷ refusals) each = first_can version refusals each.1
first_can version (Some refusal ∷ refusals) each = each.0

unless_can : (version : ℕ) (test : Bool) (refusal : Reply) → CanWrite version refusal → IfSome (unless test refusal) (CanWrite version)
unless_can version true refusal can = tt
unless_can version false refusal can = can

mapped_can : (version : ℕ) (make : ℕ → Reply) → ((at : ℕ) → CanWrite version (make at)) → (found : Option ℕ) → IfSome (option_map make found) (CanWrite version)
mapped_can version make each None = tt
mapped_can version make each (Some at) = each at

-- REFUSALS

early_can : (version : ℕ) (plan : Plan) (now : Phase) (told : FateWord) (ballot : ℕ) → IfSome (early_refusal plan now told ballot) (CanWrite version)
early_can version plan now told ballot =
    first_can version (unless (is_voting now) (reply.Phase now) ∷ unless (is_ballot plan ballot) reply.Ballot ∷ unless (is_unused told) (reply.Fate told) ∷ [])
    (unless_can version (is_voting now) (reply.Phase now) (tt, tt), (unless_can version (is_ballot plan ballot) reply.Ballot (tt, tt), (unless_can version (is_unused told) (reply.Fate told) (tt, tt), tt)))

scan_can : (version : ℕ) (plan : Plan) (now : Phase) (told : FateWord) (ballot : ℕ) (marks : List Mark) → IfSome (scan_refusal plan now told ballot marks) (CanWrite version)
scan_can version plan now told ballot marks =
    first_can version (
    early_refusal plan now told ballot
    ∷ option_map reply.Race (first_bad (λ earlier mark. ballot_has plan ballot mark.race) [] marks)
    ∷ option_map reply.Candidate (first_bad (λ earlier mark. nat_lt mark.candidate (candidates_of plan mark.race)) [] marks)
    ∷ option_map reply.Twice (first_bad (λ earlier mark. not (has_mark earlier mark.race mark.candidate)) [] marks)
    ∷ [])
    (early_can version plan now told ballot, (mapped_can version reply.Race (λ at. (tt, tt)) _, (mapped_can version reply.Candidate (λ at. (tt, tt)) _, (mapped_can version reply.Twice (λ at. (tt, tt)) _, tt))))

refusal_can : (version : ℕ) (setup : Setup) (history : List Entry) (station : ℕ) (asked : Act) → IfSome (refusal_of setup history station asked) (CanWrite version)
refusal_can version setup history station (act.Scan ballot marks) = scan_can version setup.plan (phase_of history) (fate_word (fate_of history ballot)) ballot marks
refusal_can version setup history station (act.Spoil ballot) = early_can version setup.plan (phase_of history) (fate_word (fate_of history ballot)) ballot
refusal_can version setup history station (act.Audit ballot paper) =
    let now = phase_of history in
    let told = fate_word (fate_of history ballot) in
    let fits = fits_races setup.plan (races_of_ballot setup.plan ballot) paper in
    first_can version (early_refusal setup.plan now told ballot ∷ unless fits reply.Paper ∷ [])
    (early_can version setup.plan now told ballot, (unless_can version fits reply.Paper (tt, tt), tt))
refusal_can version setup history station act.Close =
    let now = phase_of history in
    first_can version (unless (is_voting now) (reply.Phase now) ∷ []) (unless_can version (is_voting now) (reply.Phase now) (tt, tt), tt)
refusal_can version setup history station (act.Draw drawn) =
    let now = phase_of history in
    first_can version (unless (is_closed now) (reply.Phase now) ∷ unless (is_draw drawn) reply.Draw ∷ [])
    (unless_can version (is_closed now) (reply.Phase now) (tt, tt), (unless_can version (is_draw drawn) reply.Draw (tt, tt), tt))
refusal_can version setup history station (act.Claim ballot race code) =
    let now = phase_of history in
    let kept = length (claims_of history) in
    first_can version (unless (is_drawn now) (reply.Phase now) ∷ unless (is_ballot setup.plan ballot) reply.Ballot ∷ unless (ballot_has setup.plan ballot race) (reply.Race 0) ∷ unless (nat_lt kept 10000) reply.Full ∷ []) (
      unless_can version (is_drawn now) (reply.Phase now) (tt, tt),
      (
        unless_can version (is_ballot setup.plan ballot) reply.Ballot (tt, tt),
        (unless_can version (ballot_has setup.plan ballot race) (reply.Race 0) (tt, tt), (unless_can version (nat_lt kept 10000) reply.Full (tt, tt), tt)),
      ),
    )
refusal_can version setup history station (act.Void ballot) =
    let now = phase_of history in
    let told = fate_word (fate_of history ballot) in
    let scanner = scanner_of history ballot in
    first_can version (unless (is_voting now) (reply.Phase now) ∷ unless (is_ballot setup.plan ballot) reply.Ballot ∷ unless (is_cast_word told) (reply.Fate told) ∷ unless (not (station == scanner)) (reply.Station scanner) ∷ []) (
      unless_can version (is_voting now) (reply.Phase now) (tt, tt),
      (
        unless_can version (is_ballot setup.plan ballot) reply.Ballot (tt, tt),
        (unless_can version (is_cast_word told) (reply.Fate told) (tt, tt), (unless_can version (not (station == scanner)) (reply.Station scanner) (tt, tt), tt)),
      ),
    )

-- ACTS

body_can : (version : ℕ) (setup : Setup) (fates : ℕ → Fate) (done : Act) → CanWrite version (reply.Done (body_with setup fates done))
body_can version setup fates (act.Scan ballot marks) = (tt, tt)
body_can version setup fates (act.Spoil ballot) = (tt, tt)
body_can version setup fates (act.Audit ballot paper) = (tt, tt)
body_can version setup fates act.Close = (tt, tt)
body_can version setup fates (act.Draw drawn) = (tt, tt)
body_can version setup fates (act.Claim ballot race code) = (tt, tt)
body_can version setup fates (act.Void ballot) = (tt, tt)

either_can : (version : ℕ) (test : Bool) (first second : Reply) → CanWrite version first → CanWrite version second → CanWrite version (if test then first else second)
either_can version true first second one two = one
either_can version false first second one two = two

some_can : (version : ℕ) (test : Bool) (first : Reply) (second : Option Reply) → CanWrite version first → IfSome second (CanWrite version) → IfSome (if test then Some first else second) (CanWrite version)
some_can version true first second one two = one
some_can version false first second one two = two

-- the text of an accepted act
kept_plain : (setup : Setup) (history : List Entry) (entry : Entry) → fault_of setup.plan ≡ None → IsAccepted setup history entry → All IsPlain (act_text setup.plan.version entry.act)
kept_plain setup history entry fine accepted =
    let refused = (passed setup history accepted.stamp entry.act accepted.accepted).refusal in
    let fit = fits_new setup history accepted.stamp.station entry.act accepted.act_is refused in
    text_plain setup.plan.version entry.act (numbers_fit setup.plan entry.act fine accepted.act_is.counted fit) accepted.act_is.codes

repeat_can : (setup : Setup) (history : List Entry) (stamp : Stamp) (asked : Act) → fault_of setup.plan ≡ None → Lawful setup history → IfSome (repeat_of setup history stamp asked) (CanWrite setup.plan.version)
repeat_can setup [] stamp asked fine lawful = tt
repeat_can setup (entry ∷ history) stamp asked fine lawful =
    let version = setup.plan.version in
    let again = reply.Done (body_of setup history entry.act) in
    let kept = reply.Ref (act_text version entry.act) in
    some_can version (is_stamped stamp.station stamp.number entry) (if same_act setup entry.act asked then again else kept) (repeat_of setup history stamp asked)
    (either_can version (same_act setup entry.act asked) again kept (body_can version setup (fate_of history) entry.act)
    (tt, kept_plain setup history entry fine lawful.0))
    (repeat_can setup history stamp asked fine lawful.1)

reply_can : (setup : Setup) (history : List Entry) (stamp : Stamp) (asked : Act) → fault_of setup.plan ≡ None → Lawful setup history → IfSome (early_reply setup history stamp asked) (CanWrite setup.plan.version)
reply_can setup history stamp asked fine lawful =
    let version = setup.plan.version in
    first_can version (unless (knows_secret_of setup.secrets stamp) reply.Secret ∷ repeat_of setup history stamp asked ∷ refusal_of setup history stamp.station asked ∷ [])
    (unless_can version (knows_secret_of setup.secrets stamp) reply.Secret (tt, tt), (repeat_can setup history stamp asked fine lawful, (refusal_can version setup history stamp.station asked, tt)))

unwrapped_can : (version : ℕ) (found : Option Reply) (other : Reply) → IfSome found (CanWrite version) → CanWrite version other → CanWrite version (unwrap_or found other)
unwrapped_can version None other one two = two
unwrapped_can version (Some said) other one two = one

-- LOOKS

look_can : (setup : Setup) (now : Phase) (fates : ℕ → Fate) (seen : Look) → fault_of setup.plan ≡ None → CanWrite setup.plan.version (look_reply setup now fates seen)
look_can setup now fates (look.Receipt ballot) fine =
    either_can setup.plan.version (is_voting now) (reply.Phase now) _ (tt, tt)
    (either_can setup.plan.version (is_ballot setup.plan ballot) _ reply.Ballot (posted_below setup.plan setup.seed.0 ballot (fates ballot) fine, tt) (tt, tt))
look_can setup now fates look.Totals fine = either_can setup.plan.version (is_voting now) (reply.Phase now) _ (tt, tt) (tt, tt)

-- TURNS

answer_can : (setup : Setup) (history : List Entry) (asked : Ask) → fault_of setup.plan ≡ None → Lawful setup history → CanWrite setup.plan.version (answer_of setup history asked)
unfolding answer_of
answer_can setup history (ask.Do stamp asked) fine lawful =
    unwrapped_can setup.plan.version (early_reply setup history stamp asked) (reply.Done (body_of setup history asked)) (reply_can setup history stamp asked fine lawful)
    (body_can setup.plan.version setup (fate_of history) asked)
answer_can setup history (ask.See seen) fine lawful = look_can setup (phase_of history) (fate_of history) seen fine

pub turn_can : (setup : Setup) (history next : List Entry) (asked : Ask) (said : Reply) → fault_of setup.plan ≡ None → Lawful setup history → Turn setup history asked said next
    → IsWritable setup.plan.version (answered.Reply said)
turn_can setup history next asked said fine lawful (Turn.Answered is after) =
    subst (λ (r : Reply). IsWritable setup.plan.version (answered.Reply r)) (sym is) (answer_can setup history asked fine lawful)
turn_can setup history next asked said fine lawful (Turn.NoMemory is after) = subst (λ (r : Reply). IsWritable setup.plan.version (answered.Reply r)) (sym is) (tt, tt)
turn_can setup history next asked said fine lawful (Turn.NotStored is after new) = subst (λ (r : Reply). IsWritable setup.plan.version (answered.Reply r)) (sym is) (tt, tt)
