-- How a scan is answered that comes again after another scan.
use Rattle.std.proofs.Common.{◌≡◌, ◌≢◌, ℕ, ◌==◌, nat_lt, Bool, true, false, not, if◌then◌else◌, List, [], ◌∷◌, Option, Some, None, is_none, refl, ap, sym, ◌∙◌, subst}
use Rattle.std.proofs.lemmas.Bool.{and_parts, eq-eqb, eqb-true}
use Rattle.std.specs.Option.{option_map, unwrap_or}
use Rattle.std.proofs.lemmas.Slice.Eq.{bytes_eq-Decides}
use Rattle.sg_plan.specs.Ballots.{ballot_has, candidates_of}
use Rattle.sg_plan.specs.Limits.{first_bad, first_of}
use Rattle.sg_plan.specs.declared.plan.Fate.{Fate}
use Rattle.sg_plan.specs.declared.plan.Fate.TheVariants as fate
use Rattle.sg_plan.specs.declared.plan.Mark.{Mark}
use Rattle.sg_plan.specs.declared.plan.Plan.{Plan}
use Rattle.sg_desks.specs.ActTexts.{act_text}
use Rattle.sg_acts.specs.declared.asks.Act.{Act}
use Rattle.sg_acts.specs.declared.asks.Stamp.{Stamp}
use Rattle.sg_acts.specs.declared.replies.FateWord.{FateWord}
use Rattle.sg_acts.specs.declared.replies.FateWord.TheVariants as word
use Rattle.sg_acts.specs.declared.replies.Phase.{Phase}
use Rattle.sg_acts.specs.declared.replies.Reply.{Reply}
use Rattle.sg_acts.specs.declared.replies.Reply.TheVariants as reply
use Rattle.sg_keeper.specs.declared.setup.Setup.{Setup}
use Rattle.sg_plan.specs.Fates.{has_mark}
use Rattle.sg_desks.specs.ActTexts.{IsAct}
use Rattle.sg_desks.proofs.ActsRead.{texts_differ}
use Rattle.sg_histories.specs.Answers.{accepts, answer_of, body_of, early_refusal, early_reply, entry_of, is_ballot, is_done, is_unused, is_voting, knows_secret_of, next_history, refusal_of, repeat_of, same_act, scan_refusal, unless}
use Rattle.sg_histories.specs.Histories.{Entry, fate_of, fate_word, is_stamped, phase_of}
use Rattle.sg_histories.proofs.Accepted.{Passed, accepts_is, early, first_none, next_early, passed}
use Rattle.sg_scans.specs.ScanLaws.{AnswersAlike, IsScan, Scan, scan_act, scan_ask}

-- REFUSALS ARE NOT DONE

abbrev pub Refuses : Option Reply → Type 0
Refuses None = Unit {0}
Refuses (Some said) = is_done said ≡ false

refuses_first : (o : Option Reply) (os : List (Option Reply)) → Refuses o → Refuses (first_of os) → Refuses (first_of (o ∷ os))
refuses_first None os one more = more
refuses_first (Some said) os one more = one

refuses_unless : (b : Bool) (said : Reply) → is_done said ≡ false → Refuses (unless b said)
refuses_unless true said e = tt
refuses_unless false said e = e

refuses_race : (o : Option ℕ) → Refuses (option_map reply.Race o)
refuses_race None = tt
refuses_race (Some n) = refl

refuses_candidate : (o : Option ℕ) → Refuses (option_map reply.Candidate o)
refuses_candidate None = tt
refuses_candidate (Some n) = refl

refuses_twice : (o : Option ℕ) → Refuses (option_map reply.Twice o)
refuses_twice None = tt
refuses_twice (Some n) = refl

scan_refuses : (plan : Plan) (now : Phase) (told : FateWord) (ballot : ℕ) (marks : List Mark) → Refuses (scan_refusal plan now told ballot marks)
scan_refuses plan now told ballot marks =
    refuses_first (early_refusal plan now told ballot) _
    (refuses_first (unless (is_voting now) (reply.Phase now)) _ (refuses_unless (is_voting now) (reply.Phase now) refl)
    (refuses_first (unless (is_ballot plan ballot) reply.Ballot) _ (refuses_unless (is_ballot plan ballot) reply.Ballot refl)
    (refuses_first (unless (is_unused told) (reply.Fate told)) _ (refuses_unless (is_unused told) (reply.Fate told) refl) tt)))
    (refuses_first (option_map reply.Race (first_bad (λ earlier mark. ballot_has plan ballot mark.race) [] marks)) _ (refuses_race _)
    (refuses_first (option_map reply.Candidate (first_bad (λ earlier mark. nat_lt mark.candidate (candidates_of plan mark.race)) [] marks)) _ (refuses_candidate _)
    (refuses_first (option_map reply.Twice (first_bad (λ earlier mark. not (has_mark earlier mark.race mark.candidate)) [] marks)) _ (refuses_twice _) tt)))

-- a scan that is not refused behind another scan was not refused before it
still_refused : (plan : Plan) (now : Phase) (ballot other : ℕ) (marks more : List Mark) (before : Fate)
    → scan_refusal plan now (fate_word (if other == ballot then fate.Cast more else before)) ballot marks ≡ None
    → scan_refusal plan now (fate_word before) ballot marks ≡ None
still_refused plan now ballot other marks more before e = by_ballot (other == ballot) e
  where
    by_ballot : (b : Bool) → scan_refusal plan now (fate_word (if b then fate.Cast more else before)) ballot marks ≡ None → scan_refusal plan now (fate_word before) ballot marks ≡ None
    by_ballot false h = h
    by_ballot true h =
        let one = first_none (early_refusal plan now word.Cast ballot) _ h in
        let two : is_unused word.Cast ≡ true = (early plan now word.Cast ballot one.0).unused in
        cc two

-- EARLY REPLIES

-- two replies, of which the later one is there
pub record Alike (first : Reply) (again : Option Reply) : Type 0 where
  pub said : Reply
  pub is : again ≡ Some said
  pub alike : AnswersAlike first said

pub alike_same : (said : Reply) → AnswersAlike said said
alike_same said = record { done = λ e. refl; refused = λ e. e }

alike_refused : (first again : Reply) → is_done first ≡ false → is_done again ≡ false → AnswersAlike first again
alike_refused first again no_first no_again = record { done = λ e. cc (sym e ∙ no_first); refused = λ e. no_again }

pub alike_then : (a b c : Reply) → AnswersAlike a b → AnswersAlike b c → AnswersAlike a c
alike_then a b c one two = by_done (is_done a) refl
  where
    by_done : (d : Bool) → is_done a ≡ d → AnswersAlike a c
    by_done true e =
        let same : b ≡ a = one.done e in
        let next : c ≡ b = two.done (ap is_done same ∙ e) in
        record { done = λ h. next ∙ same; refused = λ h. cc (sym e ∙ h) }
    by_done false e =
        let next : is_done c ≡ false = two.refused (one.refused e) in
        alike_refused a c e next

-- the reply, by the three parts
abbrev early_is : (secret : Bool) (again refusal : Option Reply) → Option Reply
early_is secret again refusal = first_of (unless secret reply.Secret ∷ again ∷ refusal ∷ [])

-- whether a number was taken does not depend on what it was taken for
taken : (setup : Setup) (history : List Entry) (a b : Stamp) (x y : Act) → a.station ≡ b.station → a.number ≡ b.number
    → repeat_of setup history a x ≡ None → repeat_of setup history b y ≡ None
taken setup [] a b x y station number e = refl
taken setup (entry ∷ history) a b x y station number e = by_stamp (is_stamped a.station a.number entry) refl (taken setup history a b x y station number)
  where
    same : is_stamped b.station b.number entry ≡ is_stamped a.station a.number entry
    same = ap (λ (n : ℕ). is_stamped n b.number entry) (sym station) ∙ ap (λ (n : ℕ). is_stamped a.station n entry) (sym number)

    by_stamp : (t : Bool) → is_stamped a.station a.number entry ≡ t → (repeat_of setup history a x ≡ None → repeat_of setup history b y ≡ None) → repeat_of setup (entry ∷ history) b y ≡ None
    by_stamp true t ih =
        let said : (if true then Some (if same_act setup entry.act x then reply.Done (body_of setup history entry.act) else reply.Ref (act_text setup.plan.version entry.act)) else repeat_of setup history a x) ≡ None = rw t at e in
        cc said
    by_stamp false t ih =
        let mine : is_stamped b.station b.number entry ≡ false = same ∙ t in
        let none : repeat_of setup history a x ≡ None = rw t at e in
        rw mine (ih none)

-- a reply that was early stays, or stays refused
goes_on : (secret : Bool) (again refusal later refusal_later : Option Reply) (said : Reply) → early_is secret again refusal ≡ Some said
    → ((x : Reply) → again ≡ Some x → later ≡ Some x) → (again ≡ None → refusal ≢ None → Refuses later)
    → Refuses refusal → Refuses refusal_later → (refusal_later ≡ None → refusal ≡ None)
    → Alike said (early_is secret later refusal_later)
goes_on false again refusal later refusal_later said e keep free one two back = record { said = said; is = e; alike = alike_same said }
goes_on true (Some x) refusal later refusal_later said e keep free one two back =
    rw (keep x refl) (record { said = said; is = e; alike = alike_same said })
goes_on true None None later refusal_later said e keep free one two back = cc e
goes_on true None (Some y) None None said e keep free one two back = cc (back refl)
goes_on true None (Some y) None (Some z) said e keep free one two back =
    let same : y ≡ said = cc e in
    record { said = z; is = refl; alike = alike_refused said z (ap is_done (sym same) ∙ one) two }
goes_on true None (Some y) (Some w) refusal_later said e keep free one two back =
    let same : y ≡ said = cc e in
    let no : is_done w ≡ false = free refl (λ h. cc h) in
    record { said = w; is = refl; alike = alike_refused said w (ap is_done (sym same) ∙ one) no }

-- behind a new scan
after_new : (setup : Setup) (history : List Entry) (scan other : Scan) → IsScan scan → IsScan other
    → Passed setup history other.stamp (scan_act other)
    → (said : Reply) → early_reply setup history scan.stamp (scan_act scan) ≡ Some said
    → Alike said (early_reply setup (entry_of other.stamp (scan_act other) ∷ history) scan.stamp (scan_act scan))
after_new setup history scan other small small_other p said e =
    goes_on (knows_secret_of setup.secrets scan.stamp) (repeat_of setup history scan.stamp (scan_act scan)) (refusal_of setup history scan.stamp.station (scan_act scan))
    (repeat_of setup (entry_of other.stamp (scan_act other) ∷ history) scan.stamp (scan_act scan)) (refusal_of setup (entry_of other.stamp (scan_act other) ∷ history) scan.stamp.station (scan_act scan))
    said e keep (free (is_stamped scan.stamp.station scan.stamp.number (entry_of other.stamp (scan_act other))) refl)
    (scan_refuses setup.plan (phase_of history) (fate_word (fate_of history scan.ballot)) scan.ballot scan.marks)
    (scan_refuses setup.plan (phase_of history) (fate_word (fate_of (entry_of other.stamp (scan_act other) ∷ history) scan.ballot)) scan.ballot scan.marks)
    (still_refused setup.plan (phase_of history) scan.ballot other.ballot scan.marks other.marks (fate_of history scan.ballot))
  where
    keep_by : (t : Bool) → is_stamped scan.stamp.station scan.stamp.number (entry_of other.stamp (scan_act other)) ≡ t
        → (x : Reply) → repeat_of setup history scan.stamp (scan_act scan) ≡ Some x → repeat_of setup (entry_of other.stamp (scan_act other) ∷ history) scan.stamp (scan_act scan) ≡ Some x
    keep_by false t x h = rw t h
    keep_by true t x h =
        let station : other.stamp.station ≡ scan.stamp.station = eqb-true _ _ (and_parts _ _ t).0 in
        let number : other.stamp.number ≡ scan.stamp.number = eqb-true _ _ (and_parts (other.stamp.station == scan.stamp.station) _ t).1 in
        let none : repeat_of setup history scan.stamp (scan_act scan) ≡ None = taken setup history other.stamp scan.stamp (scan_act other) (scan_act scan) station number p.new in
        cc (sym none ∙ h)

    keep : (x : Reply) → repeat_of setup history scan.stamp (scan_act scan) ≡ Some x → repeat_of setup (entry_of other.stamp (scan_act other) ∷ history) scan.stamp (scan_act scan) ≡ Some x
    keep = keep_by (is_stamped scan.stamp.station scan.stamp.number (entry_of other.stamp (scan_act other))) refl

    by_act : (b : Bool) → same_act setup (scan_act other) (scan_act scan) ≡ b → refusal_of setup history scan.stamp.station (scan_act scan) ≢ None
        → Refuses (Some (if b then reply.Done (body_of setup history (scan_act other)) else reply.Ref (act_text setup.plan.version (scan_act other))))
    by_act false b not_none = refl
    by_act true b not_none =
        let is_one : IsAct setup.plan.version (scan_act other) = record { numbers = (small_other.ballot, small_other.marks); codes = tt } in
        let is_two : IsAct setup.plan.version (scan_act scan) = record { numbers = (small.ballot, small.marks); codes = tt } in
        let same : scan_act other ≡ scan_act scan = texts_differ setup.plan.version (scan_act other) (scan_act scan) is_one is_two ((bytes_eq-Decides _ _).0 b) in
        let none : refusal_of setup history other.stamp.station (scan_act other) ≡ None = p.refusal in
        let mine : refusal_of setup history other.stamp.station (scan_act scan) ≡ None = subst (λ (a : Act). refusal_of setup history other.stamp.station a ≡ None) same none in
        absurd (not_none mine)

    free : (t : Bool) → is_stamped scan.stamp.station scan.stamp.number (entry_of other.stamp (scan_act other)) ≡ t
        → repeat_of setup history scan.stamp (scan_act scan) ≡ None → refusal_of setup history scan.stamp.station (scan_act scan) ≢ None
        → Refuses (repeat_of setup (entry_of other.stamp (scan_act other) ∷ history) scan.stamp (scan_act scan))
    free false t h not_none = rw (t, h) tt
    free true t h not_none = rw t (by_act (same_act setup (scan_act other) (scan_act scan)) refl not_none)

-- behind any scan
pub again : (setup : Setup) (history : List Entry) (scan other : Scan) → IsScan scan → IsScan other
    → (said : Reply) → early_reply setup history scan.stamp (scan_act scan) ≡ Some said
    → Alike said (early_reply setup (next_history setup history (scan_ask other)) scan.stamp (scan_act scan))
unfolding next_history
again setup history scan other small small_other said e = by_accepts (accepts setup history other.stamp (scan_act other)) refl
  where
    by_accepts : (b : Bool) → accepts setup history other.stamp (scan_act other) ≡ b
        → Alike said (early_reply setup (if b then entry_of other.stamp (scan_act other) ∷ history else history) scan.stamp (scan_act scan))
    by_accepts false a = record { said = said; is = e; alike = alike_same said }
    by_accepts true a = after_new setup history scan other small small_other (passed setup history other.stamp (scan_act other) a) said e

-- behind itself
done_again : (setup : Setup) (history : List Entry) (scan : Scan) → knows_secret_of setup.secrets scan.stamp ≡ true
    → early_reply setup (entry_of scan.stamp (scan_act scan) ∷ history) scan.stamp (scan_act scan) ≡ Some (reply.Done (body_of setup history (scan_act scan)))
done_again setup history scan secret =
    let one : (scan.stamp.station == scan.stamp.station) ≡ true = eq-eqb scan.stamp.station scan.stamp.station refl in
    let two : (scan.stamp.number == scan.stamp.number) ≡ true = eq-eqb scan.stamp.number scan.stamp.number refl in
    let three : same_act setup (scan_act scan) (scan_act scan) ≡ true = (bytes_eq-Decides (act_text setup.plan.version (scan_act scan)) (act_text setup.plan.version (scan_act scan))).1 refl in
    rw (secret, one, two, three) refl

pub first_then : (setup : Setup) (history : List Entry) (scan : Scan)
    → Alike (answer_of setup history (scan_ask scan)) (early_reply setup (next_history setup history (scan_ask scan)) scan.stamp (scan_act scan))
unfolding answer_of
first_then setup history scan =
    subst (λ (after : List Entry). Alike (answer_of setup history (scan_ask scan)) (early_reply setup after scan.stamp (scan_act scan))) (sym (next_early setup history scan.stamp (scan_act scan)))
    (by_early (early_reply setup history scan.stamp (scan_act scan)) refl)
  where
    by_early : (o : Option Reply) → early_reply setup history scan.stamp (scan_act scan) ≡ o
        → Alike (unwrap_or o (reply.Done (body_of setup history (scan_act scan)))) (early_reply setup (if is_none o then entry_of scan.stamp (scan_act scan) ∷ history else history) scan.stamp (scan_act scan))
    by_early (Some said) e = record { said = said; is = e; alike = alike_same said }
    by_early None e =
        let accepted : accepts setup history scan.stamp (scan_act scan) ≡ true = accepts_is setup history scan.stamp (scan_act scan) ∙ ap is_none e in
        let p = passed setup history scan.stamp (scan_act scan) accepted in
        record { said = reply.Done (body_of setup history (scan_act scan)); is = done_again setup history scan p.secret; alike = alike_same _ }
