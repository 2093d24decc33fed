-- The text of a sheet: each line of it is a line, and tells the codes that stand on it.
use Rattle.std.proofs.Common.{◌≡◌, ◌≢◌, ℕ, zero, suc, ◌+◌, ◌-◌, ◌/◌, ◌%◌, ◌^◌, ◌<◌, ◌≤◌, ◌==◌, ◌||◌, not, Bool, true, false, inl, inr, List, [], ◌∷◌, ◌++◌, All, codes, length, map, Option, Some, None, refl, sym, subst, ap, ◌∙◌, append_assoc, arith}
use Rattle.std.specs.List.{list_all, list_any}
use Rattle.std.specs.Option.{option_map_or}
use Rattle.std.specs.Prelude.{decimal, slice_get}
use Rattle.std.proofs.lemmas.Bool.{agree_below_at, and_parts, eq-eqb, eqb-true, or_cases, or_right, true≢false}
use Rattle.std.proofs.lemmas.List.{append_cancel_left}
use Rattle.std.proofs.lemmas.List.Elements.{All-head, All-tail}
use Rattle.std.proofs.lemmas.Option.{same_Some, slice_get_within}
use Rattle.sg_lists.proofs.Each.{EachOf, of-append, of-parts}
use Rattle.sg_lists.proofs.Lists.{append_parts, cons_parts}
use Rattle.sg_outside.proofs.LineLemmas.{HasNoFeed-append, IsLine-append}
use Rattle.sg_outside.specs.TextLines.{AreLines, HasNoFeed, IsLine}
use Rattle.sg_lines.proofs.Numbers.{decimal-digits_only}
use Rattle.sg_lines.proofs.Signs.{by_version, codes_differ, length-code_word}
use Rattle.sg_lines.specs.Words.{code_word, sign_of}
use Rattle.sg_plan.proofs.LimitLaws.{keeps_limits, passes_tests}
use Rattle.sg_plan.proofs.PlanLaws.{ballot_has-true, row_filled, rows_are_one}
use Rattle.sg_plan.specs.Laws.{InRow}
use Rattle.sg_plan.specs.Ballots.{ballot_has, ballot_styles, races_of_style, rows_of, style_has, style_of_ballot}
use Rattle.sg_plan.specs.Codes.{codes_of}
use Rattle.sg_plan.specs.Limits.{fault_of}
use Rattle.sg_plan.specs.declared.plan.Plan.{Plan}
use Rattle.sg_sheet.proofs.Listing.{place_style, sheet_printed, style_place}
use Rattle.sg_sheet.proofs.Styles.{has-in_plan}
use Rattle.sg_sheet.specs.Sheet.{Printed, SheetLine, ballot_text, code_words, codes_text, line_text, sheet_lines}
use Rattle.sg_sheet.specs.Sheet.SheetLine.{Ballot, Codes}
use Rattle.sg_sheet.specs.inside.Listed.{ballot_due, codes_due, due_from, line_due, sheet_due}
use Rattle.sg_sheet.specs.declared.due.Due.{Due}
use Rattle.sg_sheet.specs.declared.due.Due.TheVariants as line
use Rattle.sg_cleared.proofs.Rows.{AreBelow, styles_below}

-- BYTES WITHOUT A LINE FEED

-- a text that is known byte by byte
pub unfed_by : (text : List ℕ) → list_all (λ byte. not (byte == 10)) text ≡ true → HasNoFeed text
unfed_by [] all = tt
unfed_by (x ∷ xs) all =
    let parts = and_parts (not (x == 10)) (list_all (λ byte. not (byte == 10)) xs) all in
    ((λ same. no (x == 10) (eq-eqb x 10 same) parts.0), unfed_by xs parts.1)
  where
    no : (b : Bool) → b ≡ true → not b ≡ true → ⊥
    no true is other = cc
    no false is other = cc

digits_unfed : (digits : List ℕ) → All (λ byte. (48 ≤ byte) × (byte ≤ 57)) digits → HasNoFeed digits
digits_unfed [] all = tt
digits_unfed (x ∷ xs) all =
    let here = All-head (λ (byte : ℕ). (48 ≤ byte) × (byte ≤ 57)) x xs all in
    ((λ same. omega (arith, here.0, same)), digits_unfed xs (All-tail (λ (byte : ℕ). (48 ≤ byte) × (byte ≤ 57)) x xs all))

decimal_unfed : (n : ℕ) → n < 2 ^ 32 → HasNoFeed (decimal n)
decimal_unfed n small = digits_unfed (decimal n) (decimal-digits_only n small)

sign_unfed : (value : ℕ) → value < 32 → sign_of value ≢ 10
unfolding sign_of
sign_unfed value fits same =
    let other : (sign_of value == 10) ≡ false = agree_below_at (λ v. sign_of v == 10) (λ v. false) 32 value refl fits in
    true≢false (sym (eq-eqb (sign_of value) 10 same) ∙ other)

code_unfed : (version code : ℕ) → code < codes_of version → HasNoFeed (code_word version code)
unfolding code_word
code_unfed version code fits =
    by_version (λ v. HasNoFeed (code_word v code)) version code fits
    (λ small. ((λ e. omega (arith, e)), ((λ e. omega (arith, e)), ((λ e. omega (arith, e)), tt))))
    (λ small. (sign_unfed (code / 32 / 32) (omega (arith, small)), (sign_unfed (code / 32 % 32) (omega arith), (sign_unfed (code % 32) (omega arith), tt))))

words_unfed : (version : ℕ) (list : List ℕ) → All (λ code. code < codes_of version) list → HasNoFeed (code_words version list)
words_unfed version [] all = tt
words_unfed version (code ∷ list) all =
    HasNoFeed-append (32 ∷ code_word version code) (code_words version list)
    ((λ e. omega (arith, e)), code_unfed version code (All-head (λ (c : ℕ). c < codes_of version) code list all))
    (words_unfed version list (All-tail (λ (c : ℕ). c < codes_of version) code list all))

-- THE LINES ARE LINES

pub ballot_is_line : (ballot style : ℕ) → ballot < 2 ^ 32 → style < 2 ^ 32 → IsLine (ballot_text ballot style)
ballot_is_line ballot style a b =
    IsLine-append (codes "ballot ") (decimal ballot ++ (32 ∷ [] ++ (decimal style ++ 10 ∷ []))) (unfed_by (codes "ballot ") refl)
    (IsLine-append (decimal ballot) (32 ∷ [] ++ (decimal style ++ 10 ∷ [])) (decimal_unfed ballot a)
    (IsLine-append (32 ∷ []) (decimal style ++ 10 ∷ []) (unfed_by (32 ∷ []) refl) (IsLine-append (decimal style) (10 ∷ []) (decimal_unfed style b) refl)))

pub codes_is_line : (version race : ℕ) (list : List ℕ) → race < 2 ^ 32 → All (λ code. code < codes_of version) list → IsLine (codes_text version race list)
codes_is_line version race list a all =
    IsLine-append (codes "codes ") (decimal race ++ (code_words version list ++ 10 ∷ [])) (unfed_by (codes "codes ") refl)
    (IsLine-append (decimal race) (code_words version list ++ 10 ∷ []) (decimal_unfed race a) (IsLine-append (code_words version list) (10 ∷ []) (words_unfed version list all) refl))

-- THE CODES THAT A LINE TELLS

words_same : (version : ℕ) (a b : List ℕ) → All (λ code. code < codes_of version) a → All (λ code. code < codes_of version) b → code_words version a ++ 10 ∷ [] ≡ code_words version b ++ 10 ∷ [] → a ≡ b
words_same version [] [] all all' same = refl
words_same version [] (y ∷ b) all all' same = let no : 10 ≡ 32 = (cons_parts same).0 in absurd (omega (arith, no))
words_same version (x ∷ a) [] all all' same = let no : 32 ≡ 10 = (cons_parts same).0 in absurd (omega (arith, no))
words_same version (x ∷ a) (y ∷ b) all all' same =
    let P : ℕ → Type 0 = λ (c : ℕ). c < codes_of version in
    let below = All-head P x a all in
    let below' = All-head P y b all' in
    let parts =
    append_parts (32 ∷ code_word version x) (32 ∷ code_word version y) (code_words version a ++ 10 ∷ []) (code_words version b ++ 10 ∷ [])
    (omega (arith, length-code_word version x below, length-code_word version y below'))
    (sym (append_assoc (32 ∷ code_word version x) (code_words version a) (10 ∷ [])) ∙ (same ∙ append_assoc (32 ∷ code_word version y) (code_words version b) (10 ∷ []))) in
    let first : x ≡ y = codes_differ version x y below below' (cons_parts parts.0).1 in
    let rest : a ≡ b = words_same version a b (All-tail P x a all) (All-tail P y b all') parts.1 in
    ap (λ (c : ℕ). c ∷ a) first ∙ ap (λ (l : List ℕ). y ∷ l) rest

pub codes_same : (version race : ℕ) (a b : List ℕ) → All (λ code. code < codes_of version) a → All (λ code. code < codes_of version) b → codes_text version race a ≡ codes_text version race b → a ≡ b
codes_same version race a b all all' same =
    words_same version a b all all'
    (append_cancel_left (decimal race) (code_words version a ++ 10 ∷ []) (code_words version b ++ 10 ∷ [])
    (append_cancel_left (codes "codes ") (decimal race ++ (code_words version a ++ 10 ∷ [])) (decimal race ++ (code_words version b ++ 10 ∷ [])) same))

-- THE LINES THAT ARE DUE

-- a ballot and a style of 32 bits; or a ballot row of the plan
abbrev pub IsPlaced : Plan → Due → Type 0
IsPlaced plan (line.Ballot ballot style) = (ballot < 2 ^ 32) × (style < 2 ^ 32)
IsPlaced plan (line.Codes race row) = (race < length plan.races) × (row < rows_of plan race)

module _ (plan : Plan) (fine : fault_of plan ≡ None) where
  has_ballot : (ballot style race : ℕ) → style_of_ballot plan ballot ≡ Some style → style_has plan race style ≡ true → ballot_has plan ballot race ≡ true
  has_ballot ballot style race is has = ap (λ (o : Option ℕ). option_map_or (style_has plan race) o false) is ∙ has

  races_placed : (ballot style : ℕ) → style_of_ballot plan ballot ≡ Some style → (races : List ℕ) → ((race : ℕ) → list_any (λ r. r == race) races ≡ true → style_has plan race style ≡ true)
      → EachOf (IsPlaced plan) (map (codes_due plan ballot) races)
  races_placed ballot style is [] among = tt
  races_placed ballot style is (race ∷ races) among =
      let has = has_ballot ballot style race is (among race (ap (λ (b : Bool). b || list_any (λ r. r == race) races) (eq-eqb race race refl))) in
      ((has-in_plan plan ballot race fine has, (rows_are_one plan race).below ballot has), races_placed ballot style is races (λ r e. among r (or_right (race == r) (list_any (λ x. x == r) races) e)))

  due_placed : (ballot : ℕ) (styles : List ℕ) → AreBelow (length plan.styles) styles → ballot + length styles ≤ 20001
      → ((k style : ℕ) → slice_get styles k ≡ Some style → style_of_ballot plan (ballot + k) ≡ Some style) → EachOf (IsPlaced plan) (due_from plan ballot styles)
  due_placed ballot [] below few stands = tt
  due_placed ballot (style ∷ styles) below few stands =
      let most = (keeps_limits plan (passes_tests plan fine)).most_styles in
      let here : ballot + 0 ≡ ballot = omega arith in
      of-append (IsPlaced plan) (ballot_due plan ballot style) (due_from plan (ballot + 1) styles) (
        (omega (arith, few), omega (arith, below.0, most)),
        races_placed ballot style (ap (style_of_ballot plan) (sym here) ∙ stands 0 style refl) (races_of_style plan style) (λ race e. e),
      )
      (due_placed (ballot + 1) styles below.1 (omega (arith, few))
      (λ k s e. let next : ballot + suc k ≡ (ballot + 1) + k = omega arith in ap (style_of_ballot plan) (sym next) ∙ stands (suc k) s e))

  pub sheet_placed : EachOf (IsPlaced plan) (sheet_due plan)
  sheet_placed =
      let kept = keeps_limits plan (passes_tests plan fine) in
      due_placed 1 (ballot_styles plan.runs) (styles_below (length plan.styles) plan.runs kept.runs) (omega (arith, kept.most_ballots))
      (λ k style e. let turned : k + 1 ≡ 1 + k = omega arith in ap (style_of_ballot plan) (sym turned) ∙ place_style plan k style e)

-- EACH BALLOT ROW HAS A LINE

of_races : (P : Due → Type 0) (plan : Plan) (ballot race : ℕ) (races : List ℕ) → list_any (λ r. r == race) races ≡ true → EachOf P (map (codes_due plan ballot) races) → P (codes_due plan ballot race)
of_races P plan ballot race [] among all = cc
of_races P plan ballot race (r ∷ races) among all = elim (or_cases (r == race) (list_any (λ x. x == race) races) among) [
  | inl here ↦ subst (λ x. P (codes_due plan ballot x)) (eqb-true r race here) all.0
  | inr later ↦ of_races P plan ballot race races later all.1
]

of_ballot : (P : Due → Type 0) (plan : Plan) (ballot : ℕ) (styles : List ℕ) (k style : ℕ) → slice_get styles k ≡ Some style → EachOf P (due_from plan ballot styles) → EachOf P (ballot_due plan (ballot + k) style)
of_ballot P plan ballot [] k style is all = absurd (omega (arith, slice_get_within [] k style is))
of_ballot P plan ballot (s ∷ styles) zero style is all =
    let here : ballot ≡ ballot + 0 = omega arith in
    let same = same_Some s style is in
    subst (λ n. EachOf P (ballot_due plan n style)) here (subst (λ x. EachOf P (ballot_due plan ballot x)) same (of-parts P (ballot_due plan ballot s) (due_from plan (ballot + 1) styles) all).0)
of_ballot P plan ballot (s ∷ styles) (suc k) style is all =
    let next : (ballot + 1) + k ≡ ballot + suc k = omega arith in
    subst (λ n. EachOf P (ballot_due plan n style)) next (of_ballot P plan (ballot + 1) styles k style is (of-parts P (ballot_due plan ballot s) (due_from plan (ballot + 1) styles) all).1)

pub of_row : (P : Due → Type 0) (plan : Plan) (race row : ℕ) → row < rows_of plan race → EachOf P (sheet_due plan) → P (line.Codes race row)
of_row P plan race row below all = by_style (style_of_ballot plan found.ballot) refl
  where
    found : InRow plan race row
    found = row_filled plan race row below

    by_style : (o : Option ℕ) → style_of_ballot plan found.ballot ≡ o → P (line.Codes race row)
    by_style None e = absurd (true≢false (sym found.has ∙ ap (λ (o : Option ℕ). option_map_or (style_has plan race) o false) e))
    by_style (Some style) e =
        let first = (ballot_has-true plan found.ballot race found.has).first in
        let at : ℕ = found.ballot - 1 in
        let back : at + 1 ≡ found.ballot = omega (arith, first) in
        let turned : 1 + at ≡ found.ballot = omega (arith, first) in
        let stands : slice_get (ballot_styles plan.runs) at ≡ Some style = style_place plan at style (ap (style_of_ballot plan) back ∙ e) in
        let has : style_has plan race style ≡ true = sym (ap (λ (o : Option ℕ). option_map_or (style_has plan race) o false) e) ∙ found.has in
        let lines = subst (λ n. EachOf P (ballot_due plan n style)) turned (of_ballot P plan 1 (ballot_styles plan.runs) at style stands all) in
        subst (λ n. P (line.Codes race n)) found.is (of_races P plan found.ballot race (races_of_style plan style) has lines.1)

-- TWO SHEETS

-- these printings have the same codes in each ballot row
abbrev pub Agree : Plan → Printed → Printed → Type 0
Agree plan p q = (race row : ℕ) → race < length plan.races → row < rows_of plan race → p race row ≡ q race row

-- each code is one of the version
abbrev pub AreOfVersion : Plan → Printed → Type 0
AreOfVersion plan p = (race row : ℕ) → race < length plan.races → row < rows_of plan race → All (λ code. code < codes_of plan.version) (p race row)

same_due : (plan : Plan) (p q : Printed) → Agree plan p q → (due : List Due) → EachOf (IsPlaced plan) due → map (line_due p) due ≡ map (line_due q) due
same_due plan p q agree [] all = refl
same_due plan p q agree (line.Ballot ballot style ∷ due) all = ap (λ (l : List SheetLine). Ballot ballot style ∷ l) (same_due plan p q agree due all.1)
same_due plan p q agree (line.Codes race row ∷ due) all =
    ap (λ (list : List ℕ). Codes race list ∷ map (line_due p) due) (agree race row all.0.0 all.0.1) ∙ ap (λ (l : List SheetLine). Codes race (q race row) ∷ l) (same_due plan p q agree due all.1)

pub same_sheet : (plan : Plan) (p q : Printed) → fault_of plan ≡ None → Agree plan p q → sheet_lines plan p ≡ sheet_lines plan q
same_sheet plan p q fine agree = sym (sheet_printed plan p) ∙ (same_due plan p q agree (sheet_due plan) (sheet_placed plan fine) ∙ sheet_printed plan q)

due_are_lines : (plan : Plan) (p : Printed) → AreOfVersion plan p → length plan.races ≤ 32 → (due : List Due) → EachOf (IsPlaced plan) due → AreLines (map (line_text plan.version) (map (line_due p) due))
due_are_lines plan p are few [] all = tt
due_are_lines plan p are few (line.Ballot ballot style ∷ due) all = (ballot_is_line ballot style all.0.0 all.0.1, due_are_lines plan p are few due all.1)
due_are_lines plan p are few (line.Codes race row ∷ due) all =
    (codes_is_line plan.version race (p race row) (omega (arith, all.0.0, few)) (are race row all.0.0 all.0.1), due_are_lines plan p are few due all.1)

pub sheet_are_lines : (plan : Plan) (p : Printed) → fault_of plan ≡ None → AreOfVersion plan p → AreLines (map (line_text plan.version) (sheet_lines plan p))
sheet_are_lines plan p fine are =
    subst (λ (l : List SheetLine). AreLines (map (line_text plan.version) l)) (sheet_printed plan p)
    (due_are_lines plan p are (keeps_limits plan (passes_tests plan fine)).most_races (sheet_due plan) (sheet_placed plan fine))

-- a line is the same with both
abbrev SameText : Plan → Printed → Printed → Due → Type 0
SameText plan p q due = line_text plan.version (line_due p due) ≡ line_text plan.version (line_due q due)

due_told : (plan : Plan) (p q : Printed) (due : List Due) (more other : List (List ℕ)) → map (line_text plan.version) (map (line_due p) due) ++ more ≡ map (line_text plan.version) (map (line_due q) due) ++ other
    → EachOf (SameText plan p q) due × (more ≡ other)
due_told plan p q [] more other same = (tt, same)
due_told plan p q (one ∷ due) more other same =
    let rest = due_told plan p q due more other (cons_parts same).1 in
    (((cons_parts same).0, rest.0), rest.1)

-- lines that begin with two sheets: what follows is the same, and the codes
pub record SameSheets (plan : Plan) (p q : Printed) (more other : List (List ℕ)) : Type 0 where
  pub agree : Agree plan p q
  pub rest : more ≡ other

pub sheets_told : (plan : Plan) (p q : Printed) (more other : List (List ℕ)) → fault_of plan ≡ None → AreOfVersion plan p → AreOfVersion plan q
    → map (line_text plan.version) (sheet_lines plan p) ++ more ≡ map (line_text plan.version) (sheet_lines plan q) ++ other → SameSheets plan p q more other
sheets_told plan p q more other fine are are' same =
    let told =
    due_told plan p q (sheet_due plan) more other
    (ap (λ (l : List SheetLine). map (line_text plan.version) l ++ more) (sheet_printed plan p) ∙ (same ∙ ap (λ (l : List SheetLine). map (line_text plan.version) l ++ other) (sym (sheet_printed plan q)))) in
    record {
      agree = λ race row a b. codes_same plan.version race (p race row) (q race row) (are race row a b) (are' race row a b) (of_row (SameText plan p q) plan race row b told.0);
      rest = told.1;
    }
