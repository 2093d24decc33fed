-- A row whose text is read tells just the act that is read.
use Rattle.std.proofs.Common.{◌≡◌, ℕ, ◌<◌, ◌==◌, ◌^◌, Bool, true, false, not, cond, if◌then◌else◌, List, [], ◌∷◌, ◌++◌, length, map, bytes_eq, Option, Some, None, refl, ap, sym, ◌∙◌}
use Rattle.std.specs.List.{join_with_byte, list_all}
use Rattle.std.specs.Option.{option_and_then, option_map, option_map_or}
use Rattle.std.specs.Ordering.{int_eq}
use Rattle.std.specs.Prelude.{pos, codes, ℤ, negsuc}
use Rattle.std.proofs.lemmas.Bool.{and_parts}
use Rattle.std.proofs.lemmas.List.Elements.{All-weaker}
use Rattle.std.proofs.lemmas.List.Sums.{list_all-from_AllPass}
use Rattle.std.proofs.lemmas.Slice.Eq.{bytes_eq-Decides}
use Rattle.std.proofs.lemmas.Option.{same_Some}
use Rattle.sg_lists.proofs.Lists.{cons_parts}
use Rattle.sg_lists.proofs.Options.{is_none-true}
use Rattle.sg_plan.specs.declared.plan.Draw.{Draw}
use Rattle.sg_plan.specs.declared.plan.Mark.{Mark}
use Rattle.sg_plan.specs.declared.plan.Plan.{Plan}
use Rattle.sg_lines.specs.Words.{HasNoSpace, decimal}
use Rattle.sg_lines.proofs.Numbers.{decimals_differ}
use Rattle.sg_lines.proofs.Spaces.{HasNoSpace-decimal}
use Rattle.sg_acts.specs.declared.asks.Act.{Act}
use Rattle.sg_acts.specs.declared.asks.Act.TheVariants as act
use Rattle.sg_acts.specs.declared.replies.FateWord.TheVariants as word
use Rattle.sg_acts.specs.declared.replies.Phase.TheVariants as phase
use Rattle.sg_keeper.specs.declared.rows.BallotRow.{BallotRow}
use Rattle.sg_keeper.specs.declared.rows.ChangeRow.TheVariants as change
use Rattle.sg_keeper.specs.declared.rows.StageRow.{StageRow}
use Rattle.sg_keeper.specs.declared.setup.Setup.{Setup}
use Rattle.sg_desks.specs.ActTexts.{act_text, codes_word, draw_word, mark_word}
use Rattle.sg_histories.specs.Answers.{audit_refusal, early_refusal, is_ballot}
use Rattle.sg_histories.specs.KeptRows.{row_of_act}
use Rattle.sg_histories.specs.Reading.{ReadsActs}
use Rattle.sg_histories.specs.ValidRows.{ballot_words, fits, natural, stage_text}
use Rattle.sg_histories.specs.inside.RowReading.{ReadsRows, SmallBallots}
use Rattle.sg_histories.proofs.Accepted.{early}
use Rattle.sg_histories.proofs.BackBallots.{scan_known}
use Rattle.sg_histories.proofs.BackTold.{no_detail, same_int, stage_back}
use Rattle.sg_histories.proofs.Fitting.{audit_fits}

-- the byte is no space
abbrev pub free : ℕ → Bool
free byte = not (byte == 32)

free_is : (byte : ℕ) → (byte == 32) ≡ false → free byte ≡ true
free_is byte e = rw e refl

pub no_spaces : (w : List ℕ) → HasNoSpace w → list_all free w ≡ true
no_spaces w h = list_all-from_AllPass free w (All-weaker (λ byte. (byte == 32) ≡ false) (λ byte. free byte ≡ true) free_is w h)

no_space_here : (c : ℕ) (xs : List ℕ) → list_all free (c ∷ xs) ≡ true → c ≡ 32 → ⊥
no_space_here c xs all e = let k : free 32 ≡ true = ap free (sym e) ∙ (and_parts (free c) (list_all free xs) all).0 in (cc)

pub split_two : (a b x y : List ℕ) → list_all free a ≡ true → list_all free b ≡ true → a ++ 32 ∷ x ≡ b ++ 32 ∷ y → (a ≡ b) × (x ≡ y)
split_two [] [] x y fa fb e = (refl, (cons_parts e).1)
split_two [] (d ∷ b) x y fa fb e = absurd (no_space_here d b fb (sym (cons_parts e).0))
split_two (c ∷ a) [] x y fa fb e = absurd (no_space_here c a fa (cons_parts e).0)
split_two (c ∷ a) (d ∷ b) x y fa fb e =
    let rest = split_two a b x y (and_parts (free c) (list_all free a) fa).1 (and_parts (free d) (list_all free b) fb).1 (cons_parts e).1 in
    (ap (λ (h : ℕ). h ∷ a) (cons_parts e).0 ∙ ap (λ (l : List ℕ). d ∷ l) rest.0, rest.1)

pub split_end : (a b y : List ℕ) → list_all free a ≡ true → a ≡ b ++ 32 ∷ y → ⊥
split_end [] [] y fa e = cc
split_end [] (d ∷ b) y fa e = cc
split_end (c ∷ a) [] y fa e = no_space_here c a fa (cons_parts e).0
split_end (c ∷ a) (d ∷ b) y fa e = split_end a b y (and_parts (free c) (list_all free a) fa).1 (cons_parts e).1

apart_words : (a b : List ℕ) → bytes_eq a b ≡ false → a ≡ b → ⊥
apart_words a b n e = let k : bytes_eq a b ≡ true = (bytes_eq-Decides a b).1 e in (cc)

-- THE FIRST WORD

-- the first word of an act, and what stands behind it
abbrev pub first_word : Act → List ℕ
first_word (act.Scan ballot marks) = codes "scan"
first_word (act.Spoil ballot) = codes "spoil"
first_word (act.Audit ballot paper) = codes "audit"
first_word act.Close = codes "close"
first_word (act.Draw drawn) = codes "draw"
first_word (act.Claim ballot race code) = codes "claim"
first_word (act.Void ballot) = codes "void"

abbrev pub behind : ℕ → Act → List ℕ
behind version (act.Scan ballot marks) = join_with_byte 32 (decimal ballot ∷ map mark_word marks)
behind version (act.Spoil ballot) = decimal ballot
behind version (act.Audit ballot paper) = join_with_byte 32 (decimal ballot ∷ map (codes_word version) paper)
behind version act.Close = []
behind version (act.Draw drawn) = draw_word drawn
behind version (act.Claim ballot race code) = []
behind version (act.Void ballot) = []

-- an act whose text begins with this word
first_is : (version : ℕ) (done : Act) (w r : List ℕ) → list_all free w ≡ true → act_text version done ≡ w ++ 32 ∷ r → first_word done ≡ w
unfolding act_text
first_is version (act.Scan ballot marks) w r f e = (split_two (codes "scan") w _ r refl f e).0
first_is version (act.Spoil ballot) w r f e = (split_two (codes "spoil") w _ r refl f e).0
first_is version (act.Audit ballot paper) w r f e = (split_two (codes "audit") w _ r refl f e).0
first_is version act.Close w r f e = absurd (split_end (codes "close") w r refl e)
first_is version (act.Draw drawn) w r f e = (split_two (codes "draw") w _ r refl f e).0
first_is version (act.Claim ballot race code) w r f e = (split_two (codes "claim") w _ r refl f e).0
first_is version (act.Void ballot) w r f e = (split_two (codes "void") w _ r refl f e).0

scan_rest : (version ballot : ℕ) (marks : List Mark) (r : List ℕ) → act_text version (act.Scan ballot marks) ≡ codes "scan" ++ 32 ∷ r → join_with_byte 32 (decimal ballot ∷ map mark_word marks) ≡ r
unfolding act_text
scan_rest version ballot marks r e = (split_two (codes "scan") (codes "scan") _ r refl refl e).1

spoil_rest : (version ballot : ℕ) (r : List ℕ) → act_text version (act.Spoil ballot) ≡ codes "spoil" ++ 32 ∷ r → decimal ballot ≡ r
unfolding act_text
spoil_rest version ballot r e = (split_two (codes "spoil") (codes "spoil") _ r refl refl e).1

audit_rest : (version ballot : ℕ) (paper : List (List ℕ)) (r : List ℕ) → act_text version (act.Audit ballot paper) ≡ codes "audit" ++ 32 ∷ r → join_with_byte 32 (decimal ballot ∷ map (codes_word version) paper) ≡ r
unfolding act_text
audit_rest version ballot paper r e = (split_two (codes "audit") (codes "audit") _ r refl refl e).1

draw_rest : (version : ℕ) (drawn : Draw) (r : List ℕ) → act_text version (act.Draw drawn) ≡ codes "draw" ++ 32 ∷ r → draw_word drawn ≡ r
unfolding act_text
draw_rest version drawn r e = (split_two (codes "draw") (codes "draw") _ r refl refl e).1

-- THE BALLOT AND THE DETAIL

plain : (n : ℕ) → n < 2 ^ 32 → list_all free (decimal n) ≡ true
plain n small = no_spaces (decimal n) (HasNoSpace-decimal n small)

-- a number and words behind it, against a number and a detail that has a byte
pub with_detail : (a b : ℕ) (ws : List (List ℕ)) (detail : List ℕ) → a < 2 ^ 32 → b < 2 ^ 32 → join_with_byte 32 (decimal a ∷ ws) ≡ decimal b ++ 32 ∷ detail → (a ≡ b) × (join_with_byte 32 ws ≡ detail)
with_detail a b [] detail sa sb e = absurd (split_end (decimal a) (decimal b) detail (plain a sa) e)
with_detail a b (w ∷ ws) detail sa sb e = (let s = split_two (decimal a) (decimal b) (join_with_byte 32 (w ∷ ws)) detail (plain a sa) (plain b sb) e in (decimals_differ a b sa sb s.0, s.1))

-- and against the number alone
pub without_detail : (a b : ℕ) (ws : List (List ℕ)) → a < 2 ^ 32 → b < 2 ^ 32 → join_with_byte 32 (decimal a ∷ ws) ≡ decimal b → (a ≡ b) × (ws ≡ [])
without_detail a b [] sa sb e = (decimals_differ a b sa sb e, refl)
without_detail a b (w ∷ ws) sa sb e = absurd (split_end (decimal b) (decimal a) (join_with_byte 32 (w ∷ ws)) (plain b sb) (sym e))

-- ROWS

ballot_back : (a b : ℤ) (c : List ℕ) (x y : ℤ) (z : List ℕ) → a ≡ x → b ≡ y → c ≡ z → ◌≡◌ {A = BallotRow} (record { ballot = a; fate = b; detail = c }) (record { ballot = x; fate = y; detail = z })
ballot_back a b c x y z e f g =
    ap (λ (v : ℤ). record { ballot = v; fate = b; detail = c }) e ∙ (ap (λ (v : ℤ). record { ballot = x; fate = v; detail = c }) f ∙ ap (λ (v : List ℕ). record { ballot = x; fate = y; detail = v }) g)

scan_back : (version a b : ℕ) (marks : List Mark) (detail : List ℕ) → a < 2 ^ 32 → b < 2 ^ 32
    → act_text version (act.Scan a marks) ≡ join_with_byte 32 (codes "scan" ∷ decimal b ∷ (if length detail == 0 then [] else detail ∷ [])) → (a ≡ b) × (join_with_byte 32 (map mark_word marks) ≡ detail)
scan_back version a b marks detail sa sb e = by_test (length detail == 0) refl e
  where
    by_test : (t : Bool) → (length detail == 0) ≡ t → act_text version (act.Scan a marks) ≡ join_with_byte 32 (codes "scan" ∷ decimal b ∷ cond t [] (detail ∷ [])) → (a ≡ b) × (join_with_byte 32 (map mark_word marks) ≡ detail)
    by_test true k f =
        let w = without_detail a b (map mark_word marks) sa sb (scan_rest version a marks (decimal b) f) in
        (w.0, ap (join_with_byte 32) w.1 ∙ sym (no_detail detail k))
    by_test false k f = with_detail a b (map mark_word marks) detail sa sb (scan_rest version a marks (decimal b ++ 32 ∷ detail) f)

no_text : (t : List ℕ) → ◌≡◌ {A = Option (List ℕ)} None (Some t) → ⊥
no_text t e = cc

scan_of_row : (setup : Setup) (b : ℕ) (row : BallotRow) (done : Act) → SmallBallots setup.plan → b < 2 ^ 32 → row.ballot ≡ pos b → row.fate ≡ pos 1 → fits setup.plan done ≡ true
    → act_text setup.plan.version done ≡ join_with_byte 32 (codes "scan" ∷ decimal b ∷ (if length row.detail == 0 then [] else row.detail ∷ []))
    → (first : List ℕ) → first ≡ first_word done → first ≡ codes "scan" → (kept : ℕ) → row_of_act setup.plan.version kept done ≡ change.Ballot row
scan_of_row setup b row (act.Scan a marks) small sb at one fit e first f w kept =
    let s = scan_back setup.plan.version a b marks row.detail (small a (scan_known setup.plan a marks fit)) sb e in
    ap (λ (r : BallotRow). change.Ballot r) (ballot_back (pos a) (pos 1) (join_with_byte 32 (map mark_word marks)) row.ballot row.fate row.detail (ap (λ n. pos n) s.0 ∙ sym at) (sym one) s.1)
scan_of_row setup b row (act.Spoil a) small sb at one fit e first f w kept = absurd (apart_words (codes "spoil") (codes "scan") refl (sym f ∙ w))
scan_of_row setup b row (act.Audit a paper) small sb at one fit e first f w kept = absurd (apart_words (codes "audit") (codes "scan") refl (sym f ∙ w))
scan_of_row setup b row act.Close small sb at one fit e first f w kept = absurd (apart_words (codes "close") (codes "scan") refl (sym f ∙ w))
scan_of_row setup b row (act.Draw drawn) small sb at one fit e first f w kept = absurd (apart_words (codes "draw") (codes "scan") refl (sym f ∙ w))
scan_of_row setup b row (act.Claim a race code) small sb at one fit e first f w kept = absurd (apart_words (codes "claim") (codes "scan") refl (sym f ∙ w))
scan_of_row setup b row (act.Void a) small sb at one fit e first f w kept = absurd (apart_words (codes "void") (codes "scan") refl (sym f ∙ w))

spoil_known : (plan : Plan) (ballot : ℕ) → fits plan (act.Spoil ballot) ≡ true → is_ballot plan ballot ≡ true
spoil_known plan ballot f = (early plan phase.Voting word.Unused ballot (is_none-true (early_refusal plan phase.Voting word.Unused ballot) f)).ballot_is

spoil_of_row : (setup : Setup) (b : ℕ) (row : BallotRow) (done : Act) → SmallBallots setup.plan → b < 2 ^ 32 → row.ballot ≡ pos b → row.fate ≡ pos 2 → row.detail ≡ [] → fits setup.plan done ≡ true
    → act_text setup.plan.version done ≡ join_with_byte 32 (codes "spoil" ∷ decimal b ∷ [])
    → (first : List ℕ) → first ≡ first_word done → first ≡ codes "spoil" → (kept : ℕ) → row_of_act setup.plan.version kept done ≡ change.Ballot row
spoil_of_row setup b row (act.Spoil a) small sb at two none fit e first f w kept =
    let same : a ≡ b = decimals_differ a b (small a (spoil_known setup.plan a fit)) sb (spoil_rest setup.plan.version a (decimal b) e) in
    ap (λ (r : BallotRow). change.Ballot r) (ballot_back (pos a) (pos 2) [] row.ballot row.fate row.detail (ap (λ n. pos n) same ∙ sym at) (sym two) (sym none))
spoil_of_row setup b row (act.Scan a marks) small sb at two none fit e first f w kept = absurd (apart_words (codes "scan") (codes "spoil") refl (sym f ∙ w))
spoil_of_row setup b row (act.Audit a paper) small sb at two none fit e first f w kept = absurd (apart_words (codes "audit") (codes "spoil") refl (sym f ∙ w))
spoil_of_row setup b row act.Close small sb at two none fit e first f w kept = absurd (apart_words (codes "close") (codes "spoil") refl (sym f ∙ w))
spoil_of_row setup b row (act.Draw drawn) small sb at two none fit e first f w kept = absurd (apart_words (codes "draw") (codes "spoil") refl (sym f ∙ w))
spoil_of_row setup b row (act.Claim a race code) small sb at two none fit e first f w kept = absurd (apart_words (codes "claim") (codes "spoil") refl (sym f ∙ w))
spoil_of_row setup b row (act.Void a) small sb at two none fit e first f w kept = absurd (apart_words (codes "void") (codes "spoil") refl (sym f ∙ w))

audit_of_row : (setup : Setup) (b : ℕ) (row : BallotRow) (done : Act) → SmallBallots setup.plan → b < 2 ^ 32 → row.ballot ≡ pos b → row.fate ≡ pos 3 → fits setup.plan done ≡ true
    → act_text setup.plan.version done ≡ join_with_byte 32 (codes "audit" ∷ decimal b ∷ row.detail ∷ [])
    → (first : List ℕ) → first ≡ first_word done → first ≡ codes "audit" → (kept : ℕ) → row_of_act setup.plan.version kept done ≡ change.Ballot row
audit_of_row setup b row (act.Audit a paper) small sb at three fit e first f w kept =
    let known = (audit_fits setup.plan phase.Voting word.Unused a paper (is_none-true (audit_refusal setup.plan phase.Voting word.Unused a paper) fit)).0 in
    let s = with_detail a b (map (codes_word setup.plan.version) paper) row.detail (small a known) sb (audit_rest setup.plan.version a paper (decimal b ++ 32 ∷ row.detail) e) in
    ap (λ (r : BallotRow). change.Ballot r) (ballot_back (pos a) (pos 3) (join_with_byte 32 (map (codes_word setup.plan.version) paper)) row.ballot row.fate row.detail (ap (λ n. pos n) s.0 ∙ sym at) (sym three) s.1)
audit_of_row setup b row (act.Scan a marks) small sb at three fit e first f w kept = absurd (apart_words (codes "scan") (codes "audit") refl (sym f ∙ w))
audit_of_row setup b row (act.Spoil a) small sb at three fit e first f w kept = absurd (apart_words (codes "spoil") (codes "audit") refl (sym f ∙ w))
audit_of_row setup b row act.Close small sb at three fit e first f w kept = absurd (apart_words (codes "close") (codes "audit") refl (sym f ∙ w))
audit_of_row setup b row (act.Draw drawn) small sb at three fit e first f w kept = absurd (apart_words (codes "draw") (codes "audit") refl (sym f ∙ w))
audit_of_row setup b row (act.Claim a race code) small sb at three fit e first f w kept = absurd (apart_words (codes "claim") (codes "audit") refl (sym f ∙ w))
audit_of_row setup b row (act.Void a) small sb at three fit e first f w kept = absurd (apart_words (codes "void") (codes "audit") refl (sym f ∙ w))

draw_of_row : (setup : Setup) (row : StageRow) (done : Act) → row.step ≡ pos 2 → act_text setup.plan.version done ≡ codes "draw" ++ 32 ∷ row.detail → (first : List ℕ) → first ≡ first_word done → first ≡ codes "draw"
    → (kept : ℕ) → row_of_act setup.plan.version kept done ≡ change.Stage row
draw_of_row setup row (act.Draw drawn) two e first f w kept =
    ap (λ (r : StageRow). change.Stage r) (stage_back (pos 2) (draw_word drawn) row.step row.detail (sym two) (draw_rest setup.plan.version drawn row.detail e))
draw_of_row setup row (act.Scan a marks) two e first f w kept = absurd (apart_words (codes "scan") (codes "draw") refl (sym f ∙ w))
draw_of_row setup row (act.Spoil a) two e first f w kept = absurd (apart_words (codes "spoil") (codes "draw") refl (sym f ∙ w))
draw_of_row setup row (act.Audit a paper) two e first f w kept = absurd (apart_words (codes "audit") (codes "draw") refl (sym f ∙ w))
draw_of_row setup row act.Close two e first f w kept = absurd (apart_words (codes "close") (codes "draw") refl (sym f ∙ w))
draw_of_row setup row (act.Claim a race code) two e first f w kept = absurd (apart_words (codes "claim") (codes "draw") refl (sym f ∙ w))
draw_of_row setup row (act.Void a) two e first f w kept = absurd (apart_words (codes "void") (codes "draw") refl (sym f ∙ w))

pub reads_rows : (setup : Setup) (read : List ℕ → Option Act) → ReadsActs setup read → SmallBallots setup.plan → ReadsRows setup read
reads_rows setup read reads small = record {
  ballots = λ row text done known is got fit kept. by_number row text done (row.ballot) refl known is ((reads.only text done got fit).1) fit kept;
  draws = λ row done two got fit kept. (
      let words : act_text setup.plan.version done ≡ codes "draw" ++ 32 ∷ row.detail
      = (reads.only (stage_text row) done got fit).1 ∙ ap (λ (z : ℤ). cond (int_eq z (pos 1)) (codes "close") (join_with_byte 32 (codes "draw" ∷ row.detail ∷ []))) two in
      draw_of_row setup row done two words (first_word done) refl (first_is setup.plan.version done (codes "draw") row.detail refl words) kept);
}
  where
    by_number : (row : BallotRow) (text : List ℕ) (done : Act) (z : ℤ) → row.ballot ≡ z → option_map_or (is_ballot setup.plan) (natural z) false ≡ true
        → option_and_then (λ ballot. option_map (join_with_byte 32) (ballot_words row.fate ballot row.detail)) (natural z) ≡ Some text
        → act_text setup.plan.version done ≡ text → fits setup.plan done ≡ true → (kept : ℕ) → row_of_act setup.plan.version kept done ≡ change.Ballot row
    by_number row text done (negsuc n) at known is words fit kept = cc
    by_number row text done (pos b) at known is words fit kept = by_scan (int_eq row.fate (pos 1)) refl is
      where
        sb : b < 2 ^ 32
        sb = small b known

        by_audit : (t : Bool) → int_eq row.fate (pos 3) ≡ t → option_map (join_with_byte 32) (cond t (Some (codes "audit" ∷ decimal b ∷ row.detail ∷ [])) None) ≡ Some text → row_of_act setup.plan.version kept done ≡ change.Ballot row
        by_audit false k e = absurd (no_text text e)
        by_audit true k e =
            let w : act_text setup.plan.version done ≡ join_with_byte 32 (codes "audit" ∷ decimal b ∷ row.detail ∷ []) = words ∙ sym (same_Some _ text e) in
            audit_of_row setup b row done small sb at (same_int row.fate 3 k) fit w (first_word done) refl (first_is setup.plan.version done (codes "audit") _ refl w) kept

        by_empty : (t : Bool) → (length row.detail == 0) ≡ t → int_eq row.fate (pos 2) ≡ true → option_map (join_with_byte 32) (cond t (Some (codes "spoil" ∷ decimal b ∷ [])) None) ≡ Some text → row_of_act setup.plan.version kept done ≡ change.Ballot row
        by_empty false l k e = absurd (no_text text e)
        by_empty true l k e =
            let w : act_text setup.plan.version done ≡ join_with_byte 32 (codes "spoil" ∷ decimal b ∷ []) = words ∙ sym (same_Some _ text e) in
            spoil_of_row setup b row done small sb at (same_int row.fate 2 k) (no_detail row.detail l) fit w (first_word done) refl (first_is setup.plan.version done (codes "spoil") _ refl w) kept

        by_spoil : (t : Bool) → int_eq row.fate (pos 2) ≡ t
            → option_map (join_with_byte 32) (cond t (cond (length row.detail == 0) (Some (codes "spoil" ∷ decimal b ∷ [])) None) (cond (int_eq row.fate (pos 3)) (Some (codes "audit" ∷ decimal b ∷ row.detail ∷ [])) None)) ≡ Some text
            → row_of_act setup.plan.version kept done ≡ change.Ballot row
        by_spoil true k e = by_empty (length row.detail == 0) refl k e
        by_spoil false k e = by_audit (int_eq row.fate (pos 3)) refl e

        by_scan : (t : Bool) → int_eq row.fate (pos 1) ≡ t
            → option_map (join_with_byte 32) (cond t (Some (codes "scan" ∷ decimal b ∷ cond (length row.detail == 0) [] (row.detail ∷ [])))
            (cond (int_eq row.fate (pos 2)) (cond (length row.detail == 0) (Some (codes "spoil" ∷ decimal b ∷ [])) None) (cond (int_eq row.fate (pos 3)) (Some (codes "audit" ∷ decimal b ∷ row.detail ∷ [])) None))) ≡ Some text
            → row_of_act setup.plan.version kept done ≡ change.Ballot row
        by_scan true k e =
            let w : act_text setup.plan.version done ≡ join_with_byte 32 (codes "scan" ∷ decimal b ∷ cond (length row.detail == 0) [] (row.detail ∷ [])) = words ∙ sym (same_Some _ text e) in
            scan_of_row setup b row done small sb at (same_int row.fate 1 k) fit w (first_word done) refl (first_is setup.plan.version done (codes "scan") _ refl w) kept
        by_scan false k e = by_spoil (int_eq row.fate (pos 2)) refl e
