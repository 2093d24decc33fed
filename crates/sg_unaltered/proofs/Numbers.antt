-- Each station has a number left: a lawful history is short.
use Rattle.std.proofs.Common.{◌≡◌, ℕ, zero, suc, ◌+◌, ◌<◌, ◌≤◌, ◌==◌, ◌^◌, Bool, true, false, ◌&&◌, cond, List, [], ◌∷◌, length, Option, Some, None, refl, ap, sym, ◌∙◌, arith, subst, if◌then◌else◌}
use Rattle.std.proofs.Math.Bool.{and-false}
use Rattle.std.proofs.lemmas.Bool.{and_parts, eqb-true, leb-true}
use Rattle.std.proofs.lemmas.Bool.Decides.{nat_tests}
use Rattle.std.proofs.lemmas.List.{length-append}
use Rattle.std.specs.Prelude.{nat_le}
use Rattle.sg_plan.proofs.LimitLaws.{keeps_limits, passes_tests}
use Rattle.sg_plan.specs.Ballots.{ballots_of}
use Rattle.sg_plan.specs.declared.plan.Fate.{Fate}
use Rattle.sg_plan.specs.declared.plan.Fate.TheVariants as fate
use Rattle.sg_plan.specs.declared.plan.Stage.{Stage}
use Rattle.sg_plan.specs.declared.plan.Stage.TheVariants as stage
use Rattle.sg_acts.specs.declared.asks.Act.{Act}
use Rattle.sg_acts.specs.declared.asks.Act.TheVariants as act
use Rattle.sg_acts.specs.declared.replies.FateWord.{FateWord}
use Rattle.sg_acts.specs.declared.replies.Reply.TheVariants as reply
use Rattle.sg_keeper.specs.declared.setup.Setup.{Setup}
use Rattle.sg_histories.specs.Answers.{early_refusal, is_ballot, is_cast_word, is_closed, is_unused, is_voting, refusal_of, unless}
use Rattle.sg_histories.specs.Histories.{Entry, act_of_stamp, claims_after, claims_of, fate_after, fate_of, fate_word, is_stamped, phase_of, phase_word, scanner_of, stage_after, stage_of}
use Rattle.sg_histories.specs.Lawful.{Lawful}
use Rattle.sg_histories.specs.declared.kept.Claim.{Claim}
use Rattle.sg_histories.proofs.Accepted.{early, first_none, passed, unless_none, voids}
use Rattle.sg_histories.proofs.OutDones.{claims_fit}
use Rattle.sg_histories.proofs.OutRows.{closed_stage, voting_stage}
use Rattle.sg_unaltered.specs.GoingOn.{NumbersAreLeft}

-- A BALLOT'S ACTS

-- how many acts made a fate
abbrev pub acts_of : Fate → ℕ
acts_of fate.Unused = 0
acts_of (fate.Cast marks) = 1
acts_of fate.Spoiled = 1
acts_of (fate.Audited paper) = 1
acts_of fate.Voided = 2

-- how many acts made the fates of so many ballots
abbrev pub acts_in : (ℕ → Fate) → ℕ → ℕ
acts_in fates zero = 0
acts_in fates (suc count) = acts_of (fates (suc count)) + acts_in fates count

few_acts : (told : Fate) → acts_of told ≤ 2
few_acts fate.Unused = omega arith
few_acts (fate.Cast marks) = omega arith
few_acts fate.Spoiled = omega arith
few_acts (fate.Audited paper) = omega arith
few_acts fate.Voided = omega arith

few_in : (fates : ℕ → Fate) (count : ℕ) → acts_in fates count ≤ count + count
few_in fates zero = omega arith
few_in fates (suc count) = let here = few_acts (fates (suc count)) in let rest = few_in fates count in omega (arith, here, rest)

-- the fates where one ballot has another fate
abbrev pub moved : (ℕ → Fate) → ℕ → Fate → ℕ → Fate
moved fates ballot new other = (if ballot == other then new else fates other)

-- one ballot's act more is at least as many of all
no_fewer : (fates : ℕ → Fate) (ballot : ℕ) (new : Fate) (count : ℕ) → acts_of (fates ballot) < acts_of new → acts_in fates count ≤ acts_in (moved fates ballot new) count
no_fewer fates ballot new zero more = omega arith
no_fewer fates ballot new (suc count) more = by_test (ballot == suc count) refl (no_fewer fates ballot new count more)
  where
    by_test : (t : Bool) → (ballot == suc count) ≡ t → acts_in fates count ≤ acts_in (moved fates ballot new) count
        → acts_of (fates (suc count)) + acts_in fates count ≤ acts_of (if t then new else fates (suc count)) + acts_in (moved fates ballot new) count
    by_test true e rest =
        let here : acts_of (fates (suc count)) < acts_of new = subst (λ (n : ℕ). acts_of (fates n) < acts_of new) (eqb-true ballot (suc count) e) more in
        omega (arith, here, rest)
    by_test false e rest = omega (arith, rest)

-- and more where the ballot is among them
one_more : (fates : ℕ → Fate) (ballot : ℕ) (new : Fate) (count : ℕ) → acts_of (fates ballot) < acts_of new → 1 ≤ ballot → ballot ≤ count → acts_in fates count < acts_in (moved fates ballot new) count
one_more fates ballot new zero more first last = absurd (omega (arith, first, last))
one_more fates ballot new (suc count) more first last = by_test (ballot == suc count) refl (no_fewer fates ballot new count more) (λ within. one_more fates ballot new count more first within)
  where
    within : (a b : ℕ) → a ≤ suc b → (a == suc b) ≡ false → a ≤ b
    within a b l e = grind (arith, nat_tests, l, e)

    by_test : (t : Bool) → (ballot == suc count) ≡ t → acts_in fates count ≤ acts_in (moved fates ballot new) count → (ballot ≤ count → acts_in fates count < acts_in (moved fates ballot new) count)
        → acts_of (fates (suc count)) + acts_in fates count < acts_of (if t then new else fates (suc count)) + acts_in (moved fates ballot new) count
    by_test true e rest less =
        let here : acts_of (fates (suc count)) < acts_of new = subst (λ (n : ℕ). acts_of (fates n) < acts_of new) (eqb-true ballot (suc count) e) more in
        omega (arith, here, rest)
    by_test false e rest less = let later = less (within ballot count last e) in omega (arith, later)

unused_acts : (told : Fate) → is_unused (fate_word told) ≡ true → acts_of told ≡ 0
unused_acts fate.Unused e = refl
unused_acts (fate.Cast marks) e = cc
unused_acts fate.Spoiled e = cc
unused_acts (fate.Audited paper) e = cc
unused_acts fate.Voided e = cc

cast_acts : (told : Fate) → is_cast_word (fate_word told) ≡ true → acts_of told ≡ 1
cast_acts fate.Unused e = cc
cast_acts (fate.Cast marks) e = refl
cast_acts fate.Spoiled e = cc
cast_acts (fate.Audited paper) e = cc
cast_acts fate.Voided e = cc

-- A LAWFUL HISTORY IS SHORT

-- how many acts made a stage
abbrev pub acts_to : Stage → ℕ
acts_to stage.Voting = 0
acts_to stage.Closed = 1
acts_to (stage.Drawn drawn) = 2

-- each act was of a ballot, the close, the draw, or a claim
pub acts_counted : (setup : Setup) (history : List Entry) → Lawful setup history
    → length history ≤ acts_in (fate_of history) (ballots_of setup.plan) + (acts_to (stage_of history) + length (claims_of history))
acts_counted setup [] lawful = omega arith
acts_counted setup (entry ∷ history) lawful =
    by_act entry.act (passed setup history lawful.0.stamp entry.act lawful.0.accepted).refusal (acts_counted setup history lawful.1)
  where
    ballots : ℕ
    ballots = ballots_of setup.plan

    AreCounted : (ℕ → Fate) → Stage → List Claim → ℕ → Type 0
    AreCounted fates now kept count = count ≤ acts_in fates ballots + (acts_to now + length kept)

    told : (ballot : ℕ) (new : Fate) → is_ballot setup.plan ballot ≡ true → acts_of (fate_of history ballot) < acts_of new
        → AreCounted (fate_of history) (stage_of history) (claims_of history) (length history)
        → AreCounted (moved (fate_of history) ballot new) (stage_of history) (claims_of history) (suc (length history))
    told ballot new known more old =
        let parts = and_parts (nat_le 1 ballot) (nat_le ballot ballots) known in
        let less = one_more (fate_of history) ballot new ballots more (leb-true 1 ballot parts.0) (leb-true ballot ballots parts.1) in
        omega (arith, old, less)

    told_first : (ballot : ℕ) (new : Fate) → 0 < acts_of new → early_refusal setup.plan (phase_of history) (fate_word (fate_of history ballot)) ballot ≡ None
        → AreCounted (fate_of history) (stage_of history) (claims_of history) (length history)
        → AreCounted (moved (fate_of history) ballot new) (stage_of history) (claims_of history) (suc (length history))
    told_first ballot new some none old =
        let first = early setup.plan (phase_of history) (fate_word (fate_of history ballot)) ballot none in
        let zero_is = unused_acts (fate_of history ballot) first.unused in
        told ballot new first.ballot_is (omega (arith, zero_is, some)) old

    by_act : (done : Act) → refusal_of setup history lawful.0.stamp.station done ≡ None
        → AreCounted (fate_of history) (stage_of history) (claims_of history) (length history)
        → AreCounted (λ ballot. fate_after ballot done (fate_of history ballot)) (stage_after done (stage_of history)) (claims_after done (claims_of history)) (suc (length history))
    by_act (act.Scan ballot marks) r old = told_first ballot (fate.Cast marks) (omega arith) (first_none _ _ r).0 old
    by_act (act.Spoil ballot) r old = told_first ballot fate.Spoiled (omega arith) r old
    by_act (act.Audit ballot paper) r old = told_first ballot (fate.Audited paper) (omega arith) (first_none _ _ r).0 old
    by_act (act.Void ballot) r old =
        let void = voids setup.plan (phase_of history) (fate_word (fate_of history ballot)) (scanner_of history ballot) lawful.0.stamp.station ballot r in
        let one_is = cast_acts (fate_of history ballot) void.cast in
        told ballot fate.Voided void.ballot_is (omega (arith, one_is)) old
    by_act act.Close r old =
        let v : stage_of history ≡ stage.Voting = voting_stage (stage_of history) (unless_none (is_voting (phase_of history)) (reply.Phase (phase_of history)) (first_none (unless (is_voting (phase_of history)) (reply.Phase (phase_of history))) _ r).0) in
        let zero_is = ap acts_to v in
        omega (arith, old, zero_is)
    by_act (act.Draw drawn) r old =
        let c : stage_of history ≡ stage.Closed = closed_stage (stage_of history) (unless_none (is_closed (phase_of history)) (reply.Phase (phase_of history)) (first_none (unless (is_closed (phase_of history)) (reply.Phase (phase_of history))) _ r).0) in
        let one_is = ap acts_to c in
        omega (arith, old, one_is)
    by_act (act.Claim ballot race code) r old =
        let more = length-append (claims_of history) (record { ballot = ballot; race = race; code = code } ∷ []) in
        omega (arith, old, more)

-- A NUMBER IS LEFT

-- the entries that have other numbers
abbrev pub without : ℕ → List Entry → List Entry
without number [] = []
without number (entry ∷ history) = (if entry.number == number then without number history else entry ∷ without number history)

no_longer : (number : ℕ) (history : List Entry) → length (without number history) ≤ length history
no_longer number [] = omega arith
no_longer number (entry ∷ history) = by_test (entry.number == number) (no_longer number history)
  where
    by_test : (t : Bool) → length (without number history) ≤ length history
        → length (if t then without number history else entry ∷ without number history) ≤ suc (length history)
    by_test true rest = omega (arith, rest)
    by_test false rest = omega (arith, rest)

-- shorter where the number is there
shorter : (number station : ℕ) (history : List Entry) (done : Act) → act_of_stamp history station number ≡ Some done → length (without number history) < length history
shorter number station [] done e = cc
shorter number station (entry ∷ history) done e = by_tests (entry.station == station) (entry.number == number) e (no_longer number history) (shorter number station history done)
  where
    by_tests : (s n : Bool) → (if s && n then Some entry.act else act_of_stamp history station number) ≡ Some done → length (without number history) ≤ length history
        → (act_of_stamp history station number ≡ Some done → length (without number history) < length history)
        → length (if n then without number history else entry ∷ without number history) < suc (length history)
    by_tests s true k less rest = omega (arith, less)
    by_tests true false k less rest = let r = rest k in omega (arith, r)
    by_tests false false k less rest = let r = rest k in omega (arith, r)

-- another number is at no entry where it is at none of these
still_unused : (number other station : ℕ) (history : List Entry) → other < number → act_of_stamp (without number history) station other ≡ None → act_of_stamp history station other ≡ None
still_unused number other station [] less e = refl
still_unused number other station (entry ∷ history) less e = by_test (entry.number == number) refl e (still_unused number other station history less)
  where
    apart : (a b c : ℕ) → c < b → (a == b) ≡ true → (a == c) ≡ false
    apart a b c l k = grind (arith, nat_tests, l, k)

    here : {A : Type 0} (t : Bool) (x : A) (o o' : Option A) → (o ≡ None → o' ≡ None) → (if t then Some x else o) ≡ None → (if t then Some x else o') ≡ None
    here true x o o' rest k = cc
    here false x o o' rest k = rest k

    by_test : (t : Bool) → (entry.number == number) ≡ t → act_of_stamp (if t then without number history else entry ∷ without number history) station other ≡ None
        → (act_of_stamp (without number history) station other ≡ None → act_of_stamp history station other ≡ None)
        → act_of_stamp (entry ∷ history) station other ≡ None
    by_test true is k rest =
        let passed_by : is_stamped station other entry ≡ false = ap (λ b. entry.station == station && b) (apart entry.number number other less is) ∙ and-false (entry.station == station) in
        ap (λ b. cond b (Some entry.act) (act_of_stamp history station other)) passed_by ∙ rest k
    by_test false is k rest = here (is_stamped station other entry) entry.act (act_of_stamp (without number history) station other) (act_of_stamp history station other) rest k

-- a number below the end that is at no entry
record Unused (history : List Entry) (station end : ℕ) : Type 0 where
  pub number : ℕ
  pub low : number < end
  pub none : act_of_stamp history station number ≡ None

-- fewer entries than numbers leave one
one_left : (end : ℕ) (history : List Entry) (station : ℕ) → length history < end → Unused history station end
one_left zero history station few = absurd (omega (arith, few))
one_left (suc end) history station few =
    by_found (act_of_stamp history station end) refl (λ less. one_left end (without end history) station less)
  where
    by_found : (found : Option Act) → act_of_stamp history station end ≡ found → (length (without end history) < end → Unused (without end history) station end) → Unused history station (suc end)
    by_found None e rest = record { number = end; low = omega arith; none = e }
    by_found (Some done) e rest =
        let less = shorter end station history done e in
        let left = rest (omega (arith, few, less)) in
        let low = left.low in
        record { number = left.number; low = omega (arith, low); none = still_unused end left.number station history low left.none }

few_to : (now : Stage) → acts_to now ≤ 2
few_to stage.Voting = omega arith
few_to stage.Closed = omega arith
few_to (stage.Drawn drawn) = omega arith

pub numbers_are_left : NumbersAreLeft
numbers_are_left setup history station kept lawful =
    let counted = acts_counted setup history lawful in
    let ballots = few_in (fate_of history) (ballots_of setup.plan) in
    let most : ballots_of setup.plan ≤ 20000 = (keeps_limits setup.plan (passes_tests setup.plan kept)).most_ballots in
    let stages = few_to (stage_of history) in
    let claims = (claims_fit setup history lawful).few in
    let few : length history < 2 ^ 32 = omega (arith, counted, ballots, most, stages, claims) in
    let left = one_left (2 ^ 32) history station few in
    (left.number, left.low, left.none)
