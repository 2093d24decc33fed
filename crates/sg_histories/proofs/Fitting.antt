-- An accepted act fits the plan, and its row has its text.
use Rattle.std.proofs.Common.{◌≡◌, ℕ, ◌<◌, ◌≤◌, ◌==◌, nat_lt, true, false, cond, List, [], ◌∷◌, ◌++◌, length, map, Some, None, is_none, refl, ap, arith, subst}
use Rattle.std.specs.List.{join_with_byte}
use Rattle.std.specs.Prelude.{pos, codes}
use Rattle.std.proofs.lemmas.Bool.Decides.{nat_tests}
use Rattle.std.proofs.lemmas.List.{length-append}
use Rattle.sg_plan.specs.Ballots.{ballot_has, races_of_ballot}
use Rattle.sg_plan.specs.Codes.{codes_of}
use Rattle.sg_plan.specs.declared.plan.Mark.{Mark}
use Rattle.sg_plan.specs.declared.plan.Plan.{Plan}
use Rattle.sg_lines.specs.Words.{decimal}
use Rattle.sg_acts.specs.declared.asks.Act.{Act}
use Rattle.sg_acts.specs.declared.asks.Act.TheVariants as act
use Rattle.sg_acts.specs.declared.replies.FateWord.{FateWord}
use Rattle.sg_acts.specs.declared.replies.FateWord.TheVariants as word
use Rattle.sg_acts.specs.declared.replies.Phase.{Phase}
use Rattle.sg_acts.specs.declared.replies.Phase.TheVariants as phase
use Rattle.sg_acts.specs.declared.replies.Reply.TheVariants as reply
use Rattle.sg_keeper.specs.declared.setup.Setup.{Setup}
use Rattle.sg_desks.specs.ActTexts.{act_text, codes_word, mark_word}
use Rattle.sg_histories.specs.Answers.{audit_refusal, claim_refusal, early_refusal, fits_races, is_ballot, is_closed, is_drawn, is_unused, is_voting, refusal_of, scan_refusal, unless}
use Rattle.sg_record.specs.Formed.{is_draw}
use Rattle.sg_histories.specs.Histories.{Entry, claims_of, fate_of, fate_word, phase_of, scanner_of}
use Rattle.sg_histories.specs.Lawful.{IsAskable}
use Rattle.sg_histories.specs.ValidRows.{ballot_text, fits}
use Rattle.sg_histories.proofs.Accepted.{early, first_none, unless_none, voids}

pub voting_is : (p : Phase) → is_voting p ≡ true → p ≡ phase.Voting
voting_is phase.Voting e = refl
voting_is phase.Closed e = cc
voting_is phase.Drawn e = cc

pub closed_is : (p : Phase) → is_closed p ≡ true → p ≡ phase.Closed
closed_is phase.Voting e = cc
closed_is phase.Closed e = refl
closed_is phase.Drawn e = cc

pub drawn_is : (p : Phase) → is_drawn p ≡ true → p ≡ phase.Drawn
drawn_is phase.Voting e = cc
drawn_is phase.Closed e = cc
drawn_is phase.Drawn e = refl

pub unused_word : (w : FateWord) → is_unused w ≡ true → w ≡ word.Unused
unused_word word.Unused e = refl
unused_word word.Cast e = cc
unused_word word.Spoiled e = cc
unused_word word.Audited e = cc
unused_word word.Voided e = cc

-- what an accepted claim tells
pub record Claims (plan : Plan) (now : Phase) (kept ballot race : ℕ) : Type 0 where
  pub drawn : is_drawn now ≡ true
  pub ballot_is : is_ballot plan ballot ≡ true
  pub race_is : ballot_has plan ballot race ≡ true
  pub few : nat_lt kept 10000 ≡ true

pub claims : (plan : Plan) (now : Phase) (kept ballot race : ℕ) → claim_refusal plan now kept ballot race ≡ None → Claims plan now kept ballot race
claims plan now kept ballot race e =
    let one = first_none (unless (is_drawn now) (reply.Phase now)) _ e in
    let two = first_none (unless (is_ballot plan ballot) reply.Ballot) _ one.1 in
    let three = first_none (unless (ballot_has plan ballot race) (reply.Race 0)) _ two.1 in
    let four = first_none (unless (nat_lt kept 10000) reply.Full) _ three.1 in
    record { drawn = unless_none _ _ one.0; ballot_is = unless_none _ _ two.0; race_is = unless_none _ _ three.0; few = unless_none _ _ four.0 }

-- an accepted act fits
pub fits_new : (setup : Setup) (history : List Entry) (station : ℕ) (done : Act) → IsAskable setup done → refusal_of setup history station done ≡ None → fits setup.plan done ≡ true
fits_new setup history station (act.Scan ballot marks) is r =
    let e = early setup.plan (phase_of history) (fate_word (fate_of history ballot)) ballot (first_none _ _ r).0 in
    let v : phase_of history ≡ phase.Voting = voting_is (phase_of history) e.voting in
    let u : fate_word (fate_of history ballot) ≡ word.Unused = unused_word (fate_word (fate_of history ballot)) e.unused in
    let k : scan_refusal setup.plan phase.Voting word.Unused ballot marks ≡ None
    = subst (λ (p : Phase). scan_refusal setup.plan p word.Unused ballot marks ≡ None) v (subst (λ (w : FateWord). scan_refusal setup.plan (phase_of history) w ballot marks ≡ None) u r) in
    ap is_none k
fits_new setup history station (act.Spoil ballot) is r =
    let e = early setup.plan (phase_of history) (fate_word (fate_of history ballot)) ballot r in
    let v : phase_of history ≡ phase.Voting = voting_is (phase_of history) e.voting in
    let u : fate_word (fate_of history ballot) ≡ word.Unused = unused_word (fate_word (fate_of history ballot)) e.unused in
    let k : early_refusal setup.plan phase.Voting word.Unused ballot ≡ None
    = subst (λ (p : Phase). early_refusal setup.plan p word.Unused ballot ≡ None) v (subst (λ (w : FateWord). early_refusal setup.plan (phase_of history) w ballot ≡ None) u r) in
    ap is_none k
fits_new setup history station (act.Audit ballot paper) is r =
    let e = early setup.plan (phase_of history) (fate_word (fate_of history ballot)) ballot (first_none _ _ r).0 in
    let v : phase_of history ≡ phase.Voting = voting_is (phase_of history) e.voting in
    let u : fate_word (fate_of history ballot) ≡ word.Unused = unused_word (fate_word (fate_of history ballot)) e.unused in
    let k : audit_refusal setup.plan phase.Voting word.Unused ballot paper ≡ None
    = subst (λ (p : Phase). audit_refusal setup.plan p word.Unused ballot paper ≡ None) v (subst (λ (w : FateWord). audit_refusal setup.plan (phase_of history) w ballot paper ≡ None) u r) in
    ap is_none k
fits_new setup history station act.Close is r = refl
fits_new setup history station (act.Draw drawn) is r =
    let one = first_none (unless (is_closed (phase_of history)) (reply.Phase (phase_of history))) _ r in
    unless_none (is_draw drawn) reply.Draw (first_none (unless (is_draw drawn) reply.Draw) _ one.1).0
fits_new setup history station (act.Claim ballot race code) is r =
    let c = claims setup.plan (phase_of history) (length (claims_of history)) ballot race r in
    let low : code < codes_of setup.plan.version = is.codes in
    let test : nat_lt code (codes_of setup.plan.version) ≡ true = grind (arith, nat_tests, low) in
    rw (c.ballot_is, c.race_is, test) refl
fits_new setup history station (act.Void ballot) is r =
    (voids setup.plan (phase_of history) (fate_word (fate_of history ballot)) (scanner_of history ballot) station ballot r).ballot_is

-- TEXTS OF ROWS

some_long : (n : ℕ) → 1 ≤ n → (n == 0) ≡ false
some_long n h = grind (arith, nat_tests, h)

long_more : (a : List ℕ) (c : ℕ) (b : List ℕ) → (length (a ++ c ∷ b) == 0) ≡ false
long_more a c b = some_long (length (a ++ c ∷ b)) (let h = length-append a (c ∷ b) in omega (arith, h))

long_mark : (mark : Mark) (marks : List Mark) → (length (join_with_byte 32 (map mark_word (mark ∷ marks))) == 0) ≡ false
long_mark mark [] = long_more (decimal mark.race) 58 (decimal mark.candidate)
long_mark mark (m ∷ marks) = long_more (mark_word mark) 32 (join_with_byte 32 (map mark_word (m ∷ marks)))

pub scan_row : (version ballot : ℕ) (marks : List Mark)
    → ballot_text (record { ballot = pos ballot; fate = pos 1; detail = join_with_byte 32 (map mark_word marks) }) ≡ Some (act_text version (act.Scan ballot marks))
unfolding act_text
scan_row version ballot [] = refl
scan_row version ballot (mark ∷ marks) =
    ap (λ b. Some (join_with_byte 32 (codes "scan" ∷ decimal ballot ∷ cond b [] (join_with_byte 32 (map mark_word (mark ∷ marks)) ∷ [])))) (long_mark mark marks)

pub spoil_row : (version ballot : ℕ) → ballot_text (record { ballot = pos ballot; fate = pos 2; detail = [] }) ≡ Some (act_text version (act.Spoil ballot))
unfolding act_text
spoil_row version ballot = refl

pub audit_row : (version ballot : ℕ) (paper : List (List ℕ)) → 1 ≤ length paper
    → ballot_text (record { ballot = pos ballot; fate = pos 3; detail = join_with_byte 32 (map (codes_word version) paper) }) ≡ Some (act_text version (act.Audit ballot paper))
unfolding act_text
audit_row version ballot [] some = absurd (omega (arith, some))
audit_row version ballot (list ∷ paper) some = refl

-- a paper that fits has a list for each race
pub fits_long : (plan : Plan) (races : List ℕ) (paper : List (List ℕ)) → fits_races plan races paper ≡ true → 1 ≤ length races → 1 ≤ length paper
fits_long plan [] paper e some = absurd (omega (arith, some))
fits_long plan (r ∷ races) [] e some = cc
fits_long plan (r ∷ races) (list ∷ paper) e some = omega (arith)

pub audit_fits : (plan : Plan) (now : Phase) (told : FateWord) (ballot : ℕ) (paper : List (List ℕ)) → audit_refusal plan now told ballot paper ≡ None
    → (is_ballot plan ballot ≡ true) × (fits_races plan (races_of_ballot plan ballot) paper ≡ true)
audit_fits plan now told ballot paper e =
    let one = first_none (early_refusal plan now told ballot) _ e in
    let two = first_none (unless (fits_races plan (races_of_ballot plan ballot) paper) reply.Paper) _ one.1 in
    ((early plan now told ballot one.0).ballot_is, unless_none _ _ two.0)
