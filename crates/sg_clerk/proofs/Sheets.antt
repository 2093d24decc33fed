-- How a sheet grows line by line.
use Rattle.std.proofs.Common.{◌≡◌, ℕ, ◌+◌, ◌-◌, ◌<◌, ◌≤◌, ◌==◌, Bool, true, false, cond, List, [], ◌∷◌, ◌++◌, drop, length, map, refl, sym, ap, subst, ◌∙◌, append_assoc, append-nil, arith}
use Rattle.std.specs.Prelude.{Option, None, Some, Result, Ok, Err, slice_get}
use Rattle.std.specs.Option.{option_map_or}
use Rattle.std.specs.Io.KnownBytes.{Appends}
use Rattle.std.proofs.lemmas.Bool.{ne_eqb}
use Rattle.std.proofs.lemmas.Grind.{flat_map-append}
use Rattle.std.proofs.lemmas.List.{drop_all}
use Rattle.std.proofs.lemmas.List.Concat.{flat_map-cons}
use Rattle.sg_lists.proofs.Lists.{drop_from_slice_get}
use Rattle.sg_lists.proofs.Tests.{list_any-slice_get}
use Rattle.sg_outside.specs.Streams.{AppendsFront, PutAppends}
use Rattle.sg_outside.proofs.StreamLemmas.{Appends-nil, Appends-trans, AppendsFront-more, AppendsFront-trans}
use Rattle.sg_plan.specs.Ballots.{ballot_has, ballot_styles, candidates_of, races_of_ballot, races_of_style, style_of_ballot}
use Rattle.sg_plan.specs.Limits.{fault_of}
use Rattle.sg_plan.proofs.FateLists.{has_among}
use Rattle.sg_tables.proofs.TableLaws.{code_laws}
use Rattle.sg_tables.specs.Tables.{code_beside, codes_of_row}
use Rattle.sg_plan.specs.declared.plan.Plan.{Plan}
use Rattle.sg_lines.specs.Words.{code_word}
use Rattle.sg_sheet.specs.Sheet.{ballot_lines, code_words, codes_line, line_text, lines_from, lines_text}
use Rattle.sg_clerk.specs.Sheet.{sheet_text}

-- WHAT WAS WRITTEN

-- all of a text but what is left of it was appended
pub record HasWritten (before now : Option (List ℕ)) (left all : List ℕ) : Type 0 where
  pub front : List ℕ
  pub rest : front ++ left ≡ all
  pub appended : Appends before now front

-- nothing was appended yet
pub none_written : (now : Option (List ℕ)) (left all : List ℕ) → left ≡ all → HasWritten now now left all
none_written now left all same = record { front = []; rest = same; appended = Appends-nil now }

-- one more piece was appended
pub one_written : (before now next : Option (List ℕ)) (piece left left' all : List ℕ) → left ≡ piece ++ left'
    → HasWritten before now left all → Appends now next piece → HasWritten before next left' all
one_written before now next piece left left' all parts has more = record {
  front = has.front ++ piece;
  rest = append_assoc has.front piece left' ∙ (ap (λ l. has.front ++ l) (sym parts) ∙ has.rest);
  appended = Appends-trans before now next has.front piece has.appended more;
}

-- all was appended
pub all_written : (before now : Option (List ℕ)) (left all : List ℕ) → left ≡ [] → HasWritten before now left all → Appends before now all
all_written before now left all none has =
    let P : List ℕ → Type 0 = λ text. Appends before now text in
    subst P (sym (append-nil has.front) ∙ (ap (λ l. has.front ++ l) (sym none) ∙ has.rest)) has.appended

-- a front of one more piece was appended
pub front_written : (before now next : Option (List ℕ)) (piece left left' all : List ℕ) → left ≡ piece ++ left'
    → HasWritten before now left all → AppendsFront now next piece → AppendsFront before next all
front_written before now next piece left left' all parts has more =
    let P : List ℕ → Type 0 = λ text. AppendsFront before next text in
    subst P (ap (λ l. has.front ++ l) (sym parts) ∙ has.rest)
    (AppendsFront-trans before now next has.front (piece ++ left') has.appended (AppendsFront-more now next piece left' more))

-- a piece, and then what is done with the next, is what is done with both
pub put_after : {T E : Type 0} (before now next : Option (List ℕ)) (result : Result T E) (bs cs : List ℕ)
    → Appends before now bs → PutAppends now next result cs → PutAppends before next result (bs ++ cs)
put_after before now next (Ok value) bs cs p q = Appends-trans before now next bs cs p q
put_after before now next (Err error) bs cs p q = AppendsFront-trans before now next bs cs p q

-- LISTS

-- a text grows by one more piece
pub line_step : (line line' piece left left' all : List ℕ) → line' ≡ line ++ piece → left ≡ piece ++ left' → line ++ left ≡ all → line' ++ left' ≡ all
line_step line line' piece left left' all grown parts is =
    ap (λ l. l ++ left') grown ∙ (append_assoc line piece left' ∙ (ap (λ l. line ++ l) (sym parts) ∙ is))

-- and is whole where nothing is left
pub line_end : (line left all : List ℕ) → left ≡ [] → line ++ left ≡ all → line ≡ all
line_end line left all none is = sym (append-nil line) ∙ (ap (λ l. line ++ l) (sym none) ∙ is)

-- the words of codes from one on
pub codes_at : (version : ℕ) (list : List ℕ) (at code : ℕ) → slice_get list at ≡ Some code
    → code_words version (drop at list) ≡ (32 ∷ code_word version code) ++ code_words version (drop (at + 1) list)
codes_at version list at code is = ap (code_words version) (drop_from_slice_get list at code is)

-- the words of a ballot row's codes from a candidate on
pub row_at : (plan : Plan) (seed : List ℕ) (race row candidate : ℕ) → fault_of plan ≡ None → race < length plan.races → candidate < candidates_of plan race
    → code_words plan.version (drop candidate (codes_of_row plan seed race row))
    ≡ (32 ∷ code_word plan.version (code_beside plan seed race row candidate)) ++ code_words plan.version (drop (candidate + 1) (codes_of_row plan seed race row))
row_at plan seed race row candidate fine within less =
    codes_at plan.version (codes_of_row plan seed race row) candidate (code_beside plan seed race row candidate) ((code_laws.differ plan seed race row fine within).listed candidate less)

-- the same, by numbers that are equal to the version and the code
pub row_next : (plan : Plan) (seed : List ℕ) (race row candidate version code : ℕ) → fault_of plan ≡ None → race < length plan.races → candidate < candidates_of plan race
    → version ≡ plan.version → code ≡ code_beside plan seed race row candidate
    → code_words plan.version (drop candidate (codes_of_row plan seed race row))
    ≡ (32 ∷ code_word version code) ++ code_words plan.version (drop (candidate + 1) (codes_of_row plan seed race row))
row_next plan seed race row candidate version code fine within less same_version same_code =
    let rest = code_words plan.version (drop (candidate + 1) (codes_of_row plan seed race row)) in
    row_at plan seed race row candidate fine within less
    ∙ (ap (λ v. (32 ∷ code_word v (code_beside plan seed race row candidate)) ++ rest) (sym same_version) ∙ ap (λ k. (32 ∷ code_word version k) ++ rest) (sym same_code))

-- none are left behind the last
pub row_over : (plan : Plan) (seed : List ℕ) (race row count : ℕ) → fault_of plan ≡ None → race < length plan.races → candidates_of plan race ≤ count
    → code_words plan.version (drop count (codes_of_row plan seed race row)) ≡ []
row_over plan seed race row count fine within past =
    let many = (code_laws.differ plan seed race row fine within).many in
    let short : length (codes_of_row plan seed race row) ≤ count = omega (arith, many, past) in
    ap (code_words plan.version) (drop_all count (codes_of_row plan seed race row) short)

pub has_listed : (plan : Plan) (ballot at race : ℕ) → slice_get (races_of_ballot plan ballot) at ≡ Some race → ballot_has plan ballot race ≡ true
has_listed plan ballot at race is = has_among plan ballot race ∙ list_any-slice_get (races_of_ballot plan ballot) at race is

-- the text of a ballot's races from one on
pub races_at : (plan : Plan) (seed : List ℕ) (ballot : ℕ) (races : List ℕ) (at race : ℕ) → slice_get races at ≡ Some race
    → lines_text plan.version (map (codes_line plan (codes_of_row plan seed) ballot) (drop at races))
    ≡ line_text plan.version (codes_line plan (codes_of_row plan seed) ballot race) ++ lines_text plan.version (map (codes_line plan (codes_of_row plan seed) ballot) (drop (at + 1) races))
races_at plan seed ballot races at race is =
    ap (λ l. lines_text plan.version (map (codes_line plan (codes_of_row plan seed) ballot) l)) (drop_from_slice_get races at race is)
    ∙ flat_map-cons (line_text plan.version) (codes_line plan (codes_of_row plan seed) ballot race) (map (codes_line plan (codes_of_row plan seed) ballot) (drop (at + 1) races))

abbrev IsNothing : Option ℕ → Type 0
IsNothing None = Unit {0}
IsNothing (Some x) = ⊥

-- the style of a ballot by its place
style_place : (plan : Plan) (at style : ℕ) → style_of_ballot plan (at + 1) ≡ Some style → slice_get (ballot_styles plan.runs) at ≡ Some style
style_place plan at style is =
    let same : (at + 1) - 1 ≡ at = omega arith in
    let other : ((at + 1) == 0) ≡ false = ne_eqb (at + 1) 0 (λ e. absurd (omega (arith, e))) in
    subst (λ n. slice_get (ballot_styles plan.runs) n ≡ Some style) same (pick ((at + 1) == 0) (slice_get (ballot_styles plan.runs) ((at + 1) - 1)) other is)
  where
    pick : (b : Bool) (x : Option ℕ) → b ≡ false → cond b None x ≡ Some style → x ≡ Some style
    pick true x e found = absurd (subst IsNothing found tt)
    pick false x e found = found

-- the text of all ballots is that from the first on
pub sheet_start : (plan : Plan) (seed : List ℕ) → lines_text plan.version (lines_from plan (codes_of_row plan seed) (0 + 1) (drop 0 (ballot_styles plan.runs))) ≡ sheet_text plan seed
unfolding sheet_text
sheet_start plan seed = refl

-- the races of a ballot of a style
pub style_races : (plan other : Plan) (ballot style : ℕ) (races : List ℕ) → other ≡ plan → races ≡ races_of_ballot other ballot → style_of_ballot plan ballot ≡ Some style
    → races ≡ races_of_style plan style
style_races plan other ballot style races same are is =
    are ∙ (ap (λ (p : Plan). races_of_ballot p ballot) same ∙ ap (λ s. option_map_or (races_of_style plan) s []) is)

-- the text of all ballots from one on
pub ballots_at : (plan : Plan) (seed : List ℕ) (at style : ℕ) → style_of_ballot plan (at + 1) ≡ Some style
    → lines_text plan.version (lines_from plan (codes_of_row plan seed) (at + 1) (drop at (ballot_styles plan.runs)))
    ≡ lines_text plan.version (ballot_lines plan (codes_of_row plan seed) (at + 1) style) ++ lines_text plan.version (lines_from plan (codes_of_row plan seed) (at + 1 + 1) (drop (at + 1) (ballot_styles plan.runs)))
ballots_at plan seed at style is =
    ap (λ l. lines_text plan.version (lines_from plan (codes_of_row plan seed) (at + 1) l)) (drop_from_slice_get (ballot_styles plan.runs) at style (style_place plan at style is))
    ∙ flat_map-append (line_text plan.version) (ballot_lines plan (codes_of_row plan seed) (at + 1) style) (lines_from plan (codes_of_row plan seed) (at + 1 + 1) (drop (at + 1) (ballot_styles plan.runs)))
