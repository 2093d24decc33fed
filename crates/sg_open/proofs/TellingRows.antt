-- A row passes its test exactly where it tells something, and what it tells has the text that it should.
use Rattle.std.proofs.Common.{◌≡◌, ℕ, ◌<◌, ◌≤◌, ◌==◌, nat_lt, Bool, true, false, ◌&&◌, cond, List, [], ◌∷◌, length, get_or, Option, Some, None, refl, ap, sym, ◌∙◌, inl, inr, arith, subst}
use Rattle.std.specs.Prelude.{◌⊎◌, ℤ, pos, negsuc, codes, is_some}
use Rattle.std.proofs.lemmas.Int.{ints}
use Rattle.std.specs.List.{join_with_byte}
use Rattle.std.specs.Option.{option_and_then, option_map, option_map_or}
use Rattle.std.specs.Ordering.{int_eq}
use Rattle.std.specs.Str.{is_utf8}
use Rattle.std.proofs.lemmas.Str.{IsUtf8-from_ascii, is_utf8-from_IsUtf8}
use Rattle.std.proofs.lemmas.Bool.Decides.{nat_tests}
use Rattle.std.proofs.lemmas.List.Elements.{All-get_or}
use Rattle.std.proofs.Math.ListN.{get_or-eq_default}
use Rattle.sg_lists.proofs.Options.{is_some-cond}
use Rattle.sg_plan.specs.Ballots.{ballots_of}
use Rattle.sg_plan.specs.declared.plan.Draw.{Draw}
use Rattle.sg_plan.specs.declared.plan.Fate.{Fate}
use Rattle.sg_plan.specs.declared.plan.Plan.{Plan}
use Rattle.sg_lines.specs.Words.{decimal}
use Rattle.sg_desks.specs.ActReading.{act_in}
use Rattle.sg_desks.specs.ActTexts.{IsAct, act_text}
use Rattle.sg_keeper.specs.Rows.{IsAscii, ballot_before}
use Rattle.sg_acts.specs.declared.asks.Act.{Act}
use Rattle.sg_acts.specs.declared.asks.Act.TheVariants as act
use Rattle.sg_keeper.specs.declared.rows.BallotRow.{BallotRow}
use Rattle.sg_keeper.specs.declared.rows.StageRow.{StageRow}
use Rattle.sg_histories.specs.Answers.{is_ballot}
use Rattle.sg_histories.specs.ValidRows.{ballot_keeps, ballot_text, ballot_words, climbs, fits, natural, row_fits, stage_text, tells_fit}
use Rattle.sg_open.specs.declared.ballots.BallotTold.{BallotTold}
use Rattle.sg_open.specs.declared.stages.DrawTold.{DrawTold}
use Rattle.sg_open.specs.inside.Telling.{act_draw, act_fate, ballot_number, ballot_told, draw_line, draw_told, text_drawn, text_told}
use Rattle.sg_open.proofs.Agreeing.{audit_agrees, scan_agrees, spoil_agrees}
use Rattle.sg_desks.proofs.ActsAscii.{texts_are_ascii}
use Rattle.sg_desks.proofs.ActsFound.{acts_are_spelled}

map_some : {A B : Type 0} (f : A → B) (o : Option A) → is_some (option_map f o) ≡ is_some o
map_some f None = refl
map_some f (Some x) = refl

-- TEXTS

low_byte : (text : List ℕ) (i : ℕ) → IsAscii text → get_or text i 0 < 128
low_byte text i ascii = by_test (nat_lt i (length text)) refl
  where
    within : nat_lt i (length text) ≡ true → i < length text
    within e = grind (arith, nat_tests, e)

    past : nat_lt i (length text) ≡ false → length text ≤ i
    past e = grind (arith, nat_tests, e)

    by_test : (b : Bool) → nat_lt i (length text) ≡ b → get_or text i 0 < 128
    by_test true e = All-get_or (λ byte. byte < 128) text i 0 (within e) ascii
    by_test false e = let none : get_or text i 0 ≡ 0 = get_or-eq_default text 0 (past e) in omega (arith, none)

-- ASCII is text
pub ascii_utf8 : (text : List ℕ) → IsAscii text → is_utf8 text ≡ true
ascii_utf8 text ascii = is_utf8-from_IsUtf8 text (IsUtf8-from_ascii text (λ i. low_byte text i ascii))

pub act_utf8 : (version : ℕ) (done : Act) → IsAct version done → is_utf8 (act_text version done) ≡ true
act_utf8 version done is = ascii_utf8 (act_text version done) (texts_are_ascii version done is)

abbrev pub first_byte : List ℕ → ℕ
first_byte text = get_or text 0 0

-- what is read begins as its text does
read_first : (version : ℕ) (text : List ℕ) (done : Act) → act_in version text ≡ Some done → first_byte (act_text version done) ≡ first_byte text
read_first version text done e = ap first_byte (sym (acts_are_spelled version text done e).1)

close_first : (version : ℕ) → first_byte (act_text version act.Close) ≡ 99
unfolding act_text
close_first version = refl

draw_first : (version : ℕ) (drawn : Draw) → first_byte (act_text version (act.Draw drawn)) ≡ 100
unfolding act_text
draw_first version drawn = refl

claim_first : (version ballot race code : ℕ) → first_byte (act_text version (act.Claim ballot race code)) ≡ 99
unfolding act_text
claim_first version ballot race code = refl

void_first : (version ballot : ℕ) → first_byte (act_text version (act.Void ballot)) ≡ 118
unfolding act_text
void_first version ballot = refl

pub scan_first : (version ballot : ℕ) (marks : _) → first_byte (act_text version (act.Scan ballot marks)) ≡ 115
unfolding act_text
scan_first version ballot marks = refl

pub spoil_first : (version ballot : ℕ) → first_byte (act_text version (act.Spoil ballot)) ≡ 115
unfolding act_text
spoil_first version ballot = refl

pub audit_first : (version ballot : ℕ) (paper : List (List ℕ)) → first_byte (act_text version (act.Audit ballot paper)) ≡ 97
unfolding act_text
audit_first version ballot paper = refl

-- BALLOTS

abbrev pub BeginsBallot : List ℕ → Type 0
BeginsBallot text = (first_byte text ≡ 115) ⊎ (first_byte text ≡ 97)

clash : (n k : ℕ) (text : List ℕ) → n ≡ first_byte text → n ≡ k → (k ≡ 115 → ⊥) → (k ≡ 97 → ⊥) → BeginsBallot text → ⊥
clash n k text e f s a (inl h) = s (sym f ∙ (e ∙ h))
clash n k text e f s a (inr h) = a (sym f ∙ (e ∙ h))

ballot_begins : (kind : ℤ) (ballot : ℕ) (detail : List ℕ) (words : List (List ℕ)) → ballot_words kind ballot detail ≡ Some words → BeginsBallot (join_with_byte 32 words)
ballot_begins kind ballot detail words = by_tests (int_eq kind (pos 1)) (int_eq kind (pos 2)) (int_eq kind (pos 3)) (length detail == 0)
  where
    same : {A : Type 0} (a b : A) → Some a ≡ Some b → a ≡ b
    same a b e = cc

    by_tests : (one two three empty : Bool)
        → cond one (Some (codes "scan" ∷ decimal ballot ∷ cond empty [] (detail ∷ []))) (cond two (cond empty (Some (codes "spoil" ∷ decimal ballot ∷ [])) None) (cond three (Some (codes "audit" ∷ decimal ballot ∷ detail ∷ [])) None)) ≡ Some words
        → BeginsBallot (join_with_byte 32 words)
    by_tests true two three empty e = subst (λ (w : List (List ℕ)). BeginsBallot (join_with_byte 32 w)) (same _ _ e) (inl refl)
    by_tests false true three true e = subst (λ (w : List (List ℕ)). BeginsBallot (join_with_byte 32 w)) (same _ _ e) (inl refl)
    by_tests false true three false e = cc
    by_tests false false true empty e = subst (λ (w : List (List ℕ)). BeginsBallot (join_with_byte 32 w)) (same _ _ e) (inr refl)
    by_tests false false false empty e = cc

ballot_act : (plan : Plan) (text : List ℕ) (done : Act) → IsAct plan.version done → first_byte (act_text plan.version done) ≡ first_byte text → BeginsBallot text → is_some (act_fate plan done) ≡ fits plan done
ballot_act plan text (act.Scan ballot marks) is e begins = is_some-cond _ _ ∙ sym (scan_agrees plan ballot marks)
ballot_act plan text (act.Spoil ballot) is e begins = is_some-cond _ _ ∙ sym (spoil_agrees plan ballot)
ballot_act plan text (act.Audit ballot paper) is e begins = is_some-cond _ _ ∙ sym (audit_agrees plan ballot paper is.codes)
ballot_act plan text act.Close is e begins = absurd (clash _ 99 text e (close_first plan.version) (λ k. omega (arith, k)) (λ k. omega (arith, k)) begins)
ballot_act plan text (act.Draw drawn) is e begins = absurd (clash _ 100 text e (draw_first plan.version drawn) (λ k. omega (arith, k)) (λ k. omega (arith, k)) begins)
ballot_act plan text (act.Claim ballot race code) is e begins = absurd (clash _ 99 text e (claim_first plan.version ballot race code) (λ k. omega (arith, k)) (λ k. omega (arith, k)) begins)
ballot_act plan text (act.Void ballot) is e begins = absurd (clash _ 118 text e (void_first plan.version ballot) (λ k. omega (arith, k)) (λ k. omega (arith, k)) begins)

text_tells : (plan : Plan) (ballot : ℕ) (text : List ℕ) → BeginsBallot text → is_some (text_told plan ballot text) ≡ option_map_or (fits plan) (act_in plan.version text) false
text_tells plan ballot text begins = map_some _ _ ∙ by_act (act_in plan.version text) refl
  where
    by_act : (read : Option Act) → act_in plan.version text ≡ read → is_some (option_and_then (act_fate plan) read) ≡ option_map_or (fits plan) read false
    by_act None e = refl
    by_act (Some done) e = ballot_act plan text done (acts_are_spelled plan.version text done e).0 (read_first plan.version text done e) begins

-- a ballot's row fits exactly where it tells something
pub row_tells : (plan : Plan) (row : BallotRow) → is_some (ballot_told plan row) ≡ row_fits plan (act_in plan.version) row
row_tells plan row = by_number (natural row.ballot)
  where
    by_words : (ballot : ℕ) (words : Option (List (List ℕ))) → ballot_words row.fate ballot row.detail ≡ words
        → is_some (option_and_then (text_told plan ballot) (option_map (join_with_byte 32) words)) ≡ tells_fit plan (act_in plan.version) (option_map (join_with_byte 32) words)
    by_words ballot None e = refl
    by_words ballot (Some words) e = text_tells plan ballot (join_with_byte 32 words) (ballot_begins row.fate ballot row.detail words e)

    by_ballot : (ballot : ℕ) (test : Bool)
        → is_some (option_and_then (λ b. option_and_then (text_told plan b) (option_map (join_with_byte 32) (ballot_words row.fate b row.detail))) (cond test (Some ballot) None))
        ≡ (test && tells_fit plan (act_in plan.version) (option_map (join_with_byte 32) (ballot_words row.fate ballot row.detail)))
    by_ballot ballot true = by_words ballot (ballot_words row.fate ballot row.detail) refl
    by_ballot ballot false = refl

    by_number : (number : Option ℕ)
        → is_some (option_and_then (λ b. option_and_then (text_told plan b) (option_map (join_with_byte 32) (ballot_words row.fate b row.detail))) (option_and_then (λ n. cond (is_ballot plan n) (Some n) None) number))
        ≡ (option_map_or (is_ballot plan) number false && tells_fit plan (act_in plan.version) (option_and_then (λ b. option_map (join_with_byte 32) (ballot_words row.fate b row.detail)) number))
    by_number None = refl
    by_number (Some ballot) = by_ballot ballot (is_ballot plan ballot)

-- what a ballot's row tells: of its ballot, with its text, an act that was read
pub record Tells (plan : Plan) (row : BallotRow) (told : BallotTold) : Type 0 where
  pub number : row.ballot ≡ pos told.ballot
  pub known : is_ballot plan told.ballot ≡ true
  pub text : ballot_text row ≡ Some told.text
  pub done : Act
  pub read : act_in plan.version told.text ≡ Some done
  pub fate : act_fate plan done ≡ Some told.fate

pub told_is : (plan : Plan) (row : BallotRow) (told : BallotTold) → ballot_told plan row ≡ Some told → Tells plan row told
told_is plan row told = by_row row.ballot refl
  where
    same : {A : Type 0} (a b : A) → Some a ≡ Some b → a ≡ b
    same a b e = cc

    by_fate : (ballot : ℕ) (text : List ℕ) (done : Act) (made : Option Fate) → row.ballot ≡ pos ballot → is_ballot plan ballot ≡ true → ballot_text row ≡ Some text → act_in plan.version text ≡ Some done → act_fate plan done ≡ made
        → option_map (λ (f : Fate). record { ballot = ballot; text = text; fate = f }) made ≡ Some told → Tells plan row told
    by_fate ballot text done None b k t r m e = cc
    by_fate ballot text done (Some f) b k t r m e =
        let is : record { ballot = ballot; text = text; fate = f } ≡ told = same _ _ e in
        subst (λ (t : BallotTold). Tells plan row t) is (record { number = b; known = k; text = t; done = done; read = r; fate = m })

    by_act : (ballot : ℕ) (text : List ℕ) (read : Option Act) → row.ballot ≡ pos ballot → is_ballot plan ballot ≡ true → ballot_text row ≡ Some text → act_in plan.version text ≡ read
        → option_map (λ (f : Fate). record { ballot = ballot; text = text; fate = f }) (option_and_then (act_fate plan) read) ≡ Some told → Tells plan row told
    by_act ballot text None b k t r e = cc
    by_act ballot text (Some done) b k t r e = by_fate ballot text done (act_fate plan done) b k t r refl e

    by_words : (ballot : ℕ) (text : Option (List ℕ)) → row.ballot ≡ pos ballot → is_ballot plan ballot ≡ true → ballot_text row ≡ text
        → option_and_then (text_told plan ballot) text ≡ Some told → Tells plan row told
    by_words ballot None b k t e = cc
    by_words ballot (Some text) b k t e = by_act ballot text (act_in plan.version text) b k t refl e

    by_ballot : (ballot : ℕ) (test : Bool) → row.ballot ≡ pos ballot → is_ballot plan ballot ≡ test
        → option_and_then (λ b. option_and_then (text_told plan b) (option_map (join_with_byte 32) (ballot_words row.fate b row.detail))) (cond test (Some ballot) None) ≡ Some told → Tells plan row told
    by_ballot ballot false b k e = cc
    by_ballot ballot true b k e = by_words ballot (option_map (join_with_byte 32) (ballot_words row.fate ballot row.detail)) b k (ap (λ (z : ℤ). option_and_then (λ n. option_map (join_with_byte 32) (ballot_words row.fate n row.detail)) (natural z)) b) e

    by_row : (number : ℤ) → row.ballot ≡ number
        → option_and_then (λ b. option_and_then (text_told plan b) (option_map (join_with_byte 32) (ballot_words row.fate b row.detail))) (ballot_number plan number) ≡ Some told → Tells plan row told
    by_row (pos ballot) b e = by_ballot ballot (is_ballot plan ballot) b refl e
    by_row (negsuc n) b e = cc

pub told_utf8 : (plan : Plan) (row : BallotRow) (told : BallotTold) → ballot_told plan row ≡ Some told → is_utf8 told.text ≡ true
told_utf8 plan row told e =
    let tells = told_is plan row told e in
    let spelled = acts_are_spelled plan.version told.text tells.done tells.read in
    ap is_utf8 spelled.1 ∙ act_utf8 plan.version tells.done spelled.0

pub ballot_good : (plan : Plan) (earlier : List BallotRow) (row : BallotRow) (told : BallotTold) → climbs ballot_before earlier row ≡ true → ballot_told plan row ≡ Some told → ballot_keeps plan (act_in plan.version) earlier row ≡ true
ballot_good plan earlier row told up e = let fit : row_fits plan (act_in plan.version) row ≡ true = sym (row_tells plan row) ∙ ap is_some e in rw (up, fit) refl

pub ballot_bad : (plan : Plan) (earlier : List BallotRow) (row : BallotRow) → climbs ballot_before earlier row ≡ true → ballot_told plan row ≡ None → ballot_keeps plan (act_in plan.version) earlier row ≡ false
ballot_bad plan earlier row up e = let fit : row_fits plan (act_in plan.version) row ≡ false = sym (row_tells plan row) ∙ ap is_some e in rw (up, fit) refl

pub told_within : (plan : Plan) (row : BallotRow) (told : BallotTold) → ballot_told plan row ≡ Some told → (1 ≤ told.ballot) × (told.ballot ≤ ballots_of plan)
told_within plan row told e = let k : is_ballot plan told.ballot ≡ true = (told_is plan row told e).known in (grind (arith, nat_tests, k), grind (arith, nat_tests, k))

-- STAGES

draw_act : (plan : Plan) (detail : List ℕ) (done : Act) → first_byte (act_text plan.version done) ≡ 100 → is_some (act_draw done) ≡ fits plan done
draw_act plan detail (act.Draw drawn) e = is_some-cond _ _
draw_act plan detail (act.Scan ballot marks) e = absurd (differ _ 115 (scan_first plan.version ballot marks) e (λ k. omega (arith, k)))
  where
    differ : (n k : ℕ) → n ≡ k → n ≡ 100 → (k ≡ 100 → ⊥) → ⊥
    differ n k f e h = h (sym f ∙ e)
draw_act plan detail (act.Spoil ballot) e = let k : 115 ≡ 100 = sym (spoil_first plan.version ballot) ∙ e in absurd (omega (arith, k))
draw_act plan detail (act.Audit ballot paper) e = let k : 97 ≡ 100 = sym (audit_first plan.version ballot paper) ∙ e in absurd (omega (arith, k))
draw_act plan detail act.Close e = let k : 99 ≡ 100 = sym (close_first plan.version) ∙ e in absurd (omega (arith, k))
draw_act plan detail (act.Claim ballot race code) e = let k : 99 ≡ 100 = sym (claim_first plan.version ballot race code) ∙ e in absurd (omega (arith, k))
draw_act plan detail (act.Void ballot) e = let k : 118 ≡ 100 = sym (void_first plan.version ballot) ∙ e in absurd (omega (arith, k))

drawn_tells : (plan : Plan) (detail : List ℕ) → is_some (text_drawn plan.version (draw_line detail)) ≡ option_map_or (fits plan) (act_in plan.version (draw_line detail)) false
drawn_tells plan detail = map_some _ _ ∙ by_act (act_in plan.version (draw_line detail)) refl
  where
    by_act : (read : Option Act) → act_in plan.version (draw_line detail) ≡ read → is_some (option_and_then act_draw read) ≡ option_map_or (fits plan) read false
    by_act None e = refl
    by_act (Some done) e = draw_act plan detail done (read_first plan.version (draw_line detail) done e)

two_not_one : (step : ℤ) → int_eq step (pos 2) ≡ true → int_eq step (pos 1) ≡ false
two_not_one step e = grind (arith, ints, e)

-- the second row fits exactly where it tells a draw
pub draw_tells : (plan : Plan) (row : StageRow) → is_some (draw_told plan.version row) ≡ (int_eq row.step (pos 2) && tells_fit plan (act_in plan.version) (Some (stage_text row)))
draw_tells plan row = by_step (int_eq row.step (pos 2)) refl
  where
    by_step : (two : Bool) → int_eq row.step (pos 2) ≡ two → is_some (cond two (text_drawn plan.version (draw_line row.detail)) None) ≡ (two && tells_fit plan (act_in plan.version) (Some (stage_text row)))
    by_step false e = refl
    by_step true e =
        let text : stage_text row ≡ draw_line row.detail = ap (λ b. cond b (codes "close") (draw_line row.detail)) (two_not_one row.step e) in
        drawn_tells plan row.detail ∙ ap (λ (t : List ℕ). tells_fit plan (act_in plan.version) (Some t)) (sym text)

-- what the second row tells
pub record TellsDraw (version : ℕ) (row : StageRow) (told : DrawTold) : Type 0 where
  pub text : stage_text row ≡ told.text
  pub done : Act
  pub read : act_in version told.text ≡ Some done
  pub drawn : act_draw done ≡ Some told.drawn

pub draw_is : (version : ℕ) (row : StageRow) (told : DrawTold) → draw_told version row ≡ Some told → TellsDraw version row told
draw_is version row told = by_step (int_eq row.step (pos 2)) refl
  where
    same : {A : Type 0} (a b : A) → Some a ≡ Some b → a ≡ b
    same a b e = cc

    by_draw : (done : Act) (made : Option Draw) → stage_text row ≡ draw_line row.detail → act_in version (draw_line row.detail) ≡ Some done → act_draw done ≡ made
        → option_map (λ (d : Draw). record { text = draw_line row.detail; drawn = d }) made ≡ Some told → TellsDraw version row told
    by_draw done None t r m e = cc
    by_draw done (Some d) t r m e =
        let is : record { text = draw_line row.detail; drawn = d } ≡ told = same _ _ e in
        subst (λ (x : DrawTold). TellsDraw version row x) is (record { text = t; done = done; read = r; drawn = m })

    by_act : (read : Option Act) → stage_text row ≡ draw_line row.detail → act_in version (draw_line row.detail) ≡ read
        → option_map (λ (d : Draw). record { text = draw_line row.detail; drawn = d }) (option_and_then act_draw read) ≡ Some told → TellsDraw version row told
    by_act None t r e = cc
    by_act (Some done) t r e = by_draw done (act_draw done) t r refl e

    by_step : (two : Bool) → int_eq row.step (pos 2) ≡ two → cond two (text_drawn version (draw_line row.detail)) None ≡ Some told → TellsDraw version row told
    by_step false s e = cc
    by_step true s e = by_act (act_in version (draw_line row.detail)) (ap (λ b. cond b (codes "close") (draw_line row.detail)) (two_not_one row.step s)) refl e

pub draw_utf8 : (version : ℕ) (row : StageRow) (told : DrawTold) → draw_told version row ≡ Some told → is_utf8 told.text ≡ true
draw_utf8 version row told e =
    let tells = draw_is version row told e in
    let spelled = acts_are_spelled version told.text tells.done tells.read in
    ap is_utf8 spelled.1 ∙ act_utf8 version tells.done spelled.0
