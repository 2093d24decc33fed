-- Each line that may be due is short, and ends in a line feed: so bytes with no line feed, as many as a line may have, are none.
use Rattle.std.proofs.Common.{◌≡◌, ℕ, ◌+◌, ◌*◌, ◌^◌, ◌<◌, ◌≤◌, nat_le, nat_lt, ◌&&◌, true, inl, inr, List, [], ◌∷◌, ◌++◌, All, codes, drop, length, map, replicate, take, None, refl, sym, subst, ap, ◌∙◌, take_all, arith}
use Rattle.std.specs.List.{join_with_byte}
use Rattle.std.specs.Prelude.{decimal}
use Rattle.std.proofs.lemmas.Bool.{and_parts, ltb-true}
use Rattle.std.proofs.lemmas.List.{length-append}
use Rattle.std.proofs.lemmas.List.Elements.{All-append, All-cons, All-drop, All-head, All-nil, All-replicate, All-tail}
use Rattle.sg_outside.specs.TextLines.{HasNoFeed}
use Rattle.sg_lines.proofs.Numbers.{length-decimal}
use Rattle.sg_lines.proofs.Signs.{length-code_word}
use Rattle.sg_lines.specs.Words.{code_word}
use Rattle.sg_plan.proofs.LimitLaws.{keeps_limits, passes_tests}
use Rattle.sg_plan.proofs.PlanLaws.{bounds}
use Rattle.sg_plan.specs.Ballots.{ballot_styles, races_of_style}
use Rattle.sg_plan.specs.Codes.{codes_of}
use Rattle.sg_plan.specs.Limits.{KeepsRun, fault_of, longest_line, rises}
use Rattle.sg_plan.specs.declared.plan.Plan.{Plan}
use Rattle.sg_plan.specs.declared.plan.Run.{Run}
use Rattle.sg_sheet.proofs.Styles.{style_rises}
use Rattle.sg_sheet.specs.Sheet.{ballot_text, code_words, codes_text}
use Rattle.sg_sheet.specs.inside.Listed.{ballot_due, codes_due, due_from, line_due, sheet_due}
use Rattle.sg_sheet.specs.declared.due.Due.{Due}
use Rattle.sg_sheet.specs.declared.due.Due.TheVariants as line
use Rattle.sg_forms.proofs.LineLaws.{lines_are_short}
use Rattle.sg_forms.specs.Said.Said.{Row}
use Rattle.sg_forms.specs.Spelling.{IsRow, row_words}
use Rattle.sg_forms.specs.declared.line.RowOpening.{RowOpening}
use Rattle.sg_parts.specs.Faults.{IsRowLine, IsSheetLine, blank}
use Rattle.sg_parts.specs.Given.{completion_line, opening_text}
use Rattle.sg_parts.specs.Reads.{HasRead}
use Rattle.sg_parts.specs.declared.reading.PartsReading.{PartsReading}
use Rattle.sg_parts.specs.inside.Taking.{IsOff}
use Rattle.sg_parts.proofs.Accepting.{good_plan}
use Rattle.sg_parts.proofs.RowLines.{row_cases}

-- A LINE FEED AT THE END

fed_end : (xs ys : List ℕ) → (HasNoFeed ys → ⊥) → HasNoFeed (xs ++ ys) → ⊥
fed_end [] ys fed none = fed none
fed_end (x ∷ xs) ys fed none = fed_end xs ys fed none.1

fed : HasNoFeed (10 ∷ []) → ⊥
fed none = none.0 refl

-- a short line with a line feed isn't what has none in its first bytes
not_short : (text other : List ℕ) → HasNoFeed (take longest_line text) → length other ≤ longest_line → (HasNoFeed other → ⊥) → text ≡ other → ⊥
not_short text other none short has is = has (subst HasNoFeed (ap (take longest_line) is ∙ take_all longest_line other short) none)

-- THE TEXTS

ballot_short : (ballot style : ℕ) → ballot < 2 ^ 32 → style < 2 ^ 32 → length (ballot_text ballot style) ≤ longest_line
ballot_short ballot style a b =
    omega (
      arith,
      length-decimal ballot a,
      length-decimal style b,
      length-append (codes "ballot ") (decimal ballot ++ (32 ∷ [] ++ (decimal style ++ 10 ∷ []))),
      length-append (decimal ballot) (32 ∷ [] ++ (decimal style ++ 10 ∷ [])),
      length-append (decimal style) (10 ∷ []),
    )

ballot_fed : (ballot style : ℕ) → HasNoFeed (ballot_text ballot style) → ⊥
ballot_fed ballot style =
    fed_end (codes "ballot ") (decimal ballot ++ (32 ∷ [] ++ (decimal style ++ 10 ∷ [])))
    (fed_end (decimal ballot) (32 ∷ [] ++ (decimal style ++ 10 ∷ [])) (fed_end (32 ∷ []) (decimal style ++ 10 ∷ []) (fed_end (decimal style) (10 ∷ []) fed)))

words_long : (version : ℕ) (list : List ℕ) → All (λ code. code < codes_of version) list → length (code_words version list) ≡ 4 * length list
words_long version [] all = refl
words_long version (code ∷ list) all =
    let here = length-code_word version code (All-head (λ (c : ℕ). c < codes_of version) code list all) in
    let rest = words_long version list (All-tail (λ (c : ℕ). c < codes_of version) code list all) in
    omega (arith, here, rest, length-append (32 ∷ code_word version code) (code_words version list))

codes_short : (version race : ℕ) (list : List ℕ) → race < 2 ^ 32 → length list ≤ 16 → All (λ code. code < codes_of version) list → length (codes_text version race list) ≤ longest_line
codes_short version race list a few all =
    omega (
      arith,
      few,
      length-decimal race a,
      words_long version list all,
      length-append (codes "codes ") (decimal race ++ (code_words version list ++ 10 ∷ [])),
      length-append (decimal race) (code_words version list ++ 10 ∷ []),
      length-append (code_words version list) (10 ∷ []),
    )

codes_fed : (version race : ℕ) (list : List ℕ) → HasNoFeed (codes_text version race list) → ⊥
codes_fed version race list =
    fed_end (codes "codes ") (decimal race ++ (code_words version list ++ 10 ∷ []))
    (fed_end (decimal race) (code_words version list ++ 10 ∷ []) (fed_end (code_words version list) (10 ∷ []) fed))

-- a row's line
not_row : (text : List ℕ) → HasNoFeed (take longest_line text) → IsRowLine text → ⊥
not_row text none is = elim (row_cases text is) [
  | inl empty ↦ not_short text (codes "none\n") none (omega arith) (fed_end (codes "none") (10 ∷ []) fed) empty
  | inr one ↦ not_opening one.0 one.1 one.2
]
  where
    not_opening : (opening : RowOpening) → IsRow opening → text ≡ opening_text opening → ⊥
    not_opening opening range same =
        not_short text (opening_text opening) none (lines_are_short 1 (Row opening) range) (fed_end (join_with_byte 32 (row_words opening)) (10 ∷ []) fed) same

-- THE LINES THAT ARE DUE

-- a ballot and a style, or a race, of 32 bits
abbrev IsSmall : Due → Type 0
IsSmall (line.Ballot ballot style) = (ballot < 2 ^ 32) × (style < 2 ^ 32)
IsSmall (line.Codes race row) = race < 2 ^ 32

styles_small : (end : ℕ) (runs : List Run) → All (KeepsRun end) runs → All (λ style. style < end) (ballot_styles runs)
styles_small end [] all = All-nil (λ (style : ℕ). style < end)
styles_small end (run ∷ runs) all =
    All-append (λ (style : ℕ). style < end) (replicate run.count run.style) (ballot_styles runs) (All-replicate (λ (style : ℕ). style < end) run.count run.style (All-head (KeepsRun end) run runs all).style)
    (styles_small end runs (All-tail (KeepsRun end) run runs all))

module _ (plan : Plan) (fine : fault_of plan ≡ None) where
  races_small : (ballot least end : ℕ) (races : List ℕ) → end ≤ 32 → rises least end races ≡ true → All IsSmall (map (codes_due plan ballot) races)
  races_small ballot least end [] few up = All-nil IsSmall
  races_small ballot least end (race ∷ races) few up =
      let parts = and_parts (nat_le least race && nat_lt race end) (rises (race + 1) end races) up in
      let below = ltb-true race end (and_parts (nat_le least race) (nat_lt race end) parts.0).1 in
      All-cons IsSmall (codes_due plan ballot race) (map (codes_due plan ballot) races) (omega (arith, below, few)) (races_small ballot (race + 1) end races few parts.1)

  from_small : (ballot end : ℕ) (styles : List ℕ) → end ≤ 32 → All (λ style. style < end) styles → ballot + length styles ≤ 20001 → All IsSmall (due_from plan ballot styles)
  from_small ballot end [] few below within = All-nil IsSmall
  from_small ballot end (style ∷ styles) few below within =
      All-append IsSmall (ballot_due plan ballot style) (due_from plan (ballot + 1) styles)
      (All-cons IsSmall (line.Ballot ballot style) (map (codes_due plan ballot) (races_of_style plan style)) (omega (arith, within), omega (arith, All-head (λ (s : ℕ). s < end) style styles below, few))
      (races_small ballot 0 (length plan.races) (races_of_style plan style) (keeps_limits plan (passes_tests plan fine)).most_races (style_rises plan style fine)))
      (from_small (ballot + 1) end styles few (All-tail (λ (s : ℕ). s < end) style styles below) (omega (arith, within)))

  due_small : All IsSmall (sheet_due plan)
  due_small =
      let kept = keeps_limits plan (passes_tests plan fine) in
      from_small 1 (length plan.styles) (ballot_styles plan.runs) kept.most_styles (styles_small (length plan.styles) plan.runs kept.runs) (omega (arith, kept.most_ballots))

  not_line : (one : Due) (text : List ℕ) → IsSmall one → HasNoFeed (take longest_line text) → IsSheetLine plan (line_due blank one) text → ⊥
  not_line (line.Ballot ballot style) text small none is = not_short text (ballot_text ballot style) none (ballot_short ballot style small.0 small.1) (ballot_fed ballot style) is
  not_line (line.Codes race row) text small none is =
      let few : length is.0 ≤ 16 = omega (arith, is.1.long, (bounds plan fine).few_candidates race) in
      not_short text (codes_text plan.version race is.0) none (codes_short plan.version race is.0 small few is.1.below) (codes_fed plan.version race is.0) is.2

-- so bytes with no line feed aren't the line that is due
pub no_line_off : (reading : PartsReading) (lines : List (List ℕ)) (text : List ℕ) → HasRead reading lines → HasNoFeed (take longest_line text) → IsOff reading text
no_line_off reading lines text has none = record {
  sheet = λ one left is. not_line reading.posted.plan fine one text (small one left is) none;
  word = λ all is. not_short text completion_line none (omega arith) (fed_end (codes "completion") (10 ∷ []) fed) is;
  row = λ more less. not_row text none;
}
  where
    fine : fault_of reading.posted.plan ≡ None
    fine = good_plan reading.posted has.of_record.accepted

    small : (one : Due) (left : List Due) → drop reading.taken reading.due ≡ one ∷ left → IsSmall one
    small one left is =
        All-head IsSmall one left
        (subst (All IsSmall) is (All-drop IsSmall reading.taken reading.due (subst (All IsSmall) (sym has.due_are) (due_small reading.posted.plan fine))))
