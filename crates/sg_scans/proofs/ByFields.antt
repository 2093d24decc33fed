-- A record's fields, and the scan that they are.
use Rattle.std.proofs.Common.{◌≡◌, ℕ, ◌==◌, Bool, true, false, cond, append-nil, List, [], ◌∷◌, ◌++◌, All, length, Option, Some, None, is_none, refl, sym, ap, ◌∙◌, subst, arith}
use Rattle.std.specs.Prelude.{IfOk, Result, Ok, Err, codes}
use Rattle.std.specs.Option.{option_map, option_and_then}
use Rattle.std.proofs.lemmas.Bool.{ne_eqb}
use Rattle.std.proofs.lemmas.List.Elements.{All-weaker}
use Rattle.std.proofs.lemmas.List.Splits.{slice_split_at, slice_split_none}
use Rattle.csv.specs.Records.{field_at}
use Rattle.sg_plan.specs.declared.plan.Mark.{Mark}
use Rattle.sg_plan.specs.declared.memory.NoMemory.{NoMemory}
use Rattle.sg_lines.specs.Words.{decimal_of}
use Rattle.sg_lines.proofs.Numbers.{decimals_are_spelled}
use Rattle.sg_forms.specs.Reading.{all_by, is_space, words_in}
use Rattle.sg_forms.proofs.WordKinds.{IsInk, literal_plain, number_kind}
use Rattle.sg_acts.specs.declared.asks.Act.{Act}
use Rattle.sg_acts.specs.declared.asks.Act.TheVariants as act
use Rattle.sg_acts.specs.declared.asks.Ask.{Ask}
use Rattle.sg_desks.specs.ActReading.{act_in, form_of, mark_of}
use Rattle.sg_scans.specs.Asked.{CanCome, EachCanCome}
use Rattle.sg_scans.specs.ScanLines.{ask_in, line_in, marks_in, scan_in, scan_line}
use Rattle.sg_scans.specs.inside.ByField.{ask_at, marks_behind, scan_text}
use Rattle.sg_scans.specs.declared.fields.ScanLine.{ScanLine}

-- THE TEXT OF A SCAN

not_space : (word : List ℕ) → All IsInk word → All (λ byte. is_space byte ≡ false) word
not_space word = All-weaker IsInk (λ byte. is_space byte ≡ false) (λ byte ink. ne_eqb byte 32 (λ space. omega (arith, ink, space))) word

-- the words of the marks
abbrev words_behind : List ℕ → List (List ℕ)
words_behind [] = []
words_behind (byte ∷ marks) = words_in (byte ∷ marks)

-- a word and the marks behind it, cut at their spaces
cut_marks : (word marks : List ℕ) → All (λ byte. is_space byte ≡ false) word → words_in (word ++ marks_behind marks) ≡ word ∷ words_behind marks
cut_marks word [] plain = ap words_in (append-nil word) ∙ slice_split_none is_space word plain
cut_marks word (byte ∷ marks) plain = slice_split_at is_space word 32 (byte ∷ marks) plain refl

cut_scan : (word marks : List ℕ) → All (λ byte. is_space byte ≡ false) word → words_in (scan_text word marks) ≡ codes "scan" ∷ word ∷ words_behind marks
cut_scan word marks plain =
    slice_split_at is_space (codes "scan") 32 (word ++ marks_behind marks) (not_space (codes "scan") (literal_plain (codes "scan") refl)) refl
    ∙ ap (λ l. codes "scan" ∷ l) (cut_marks word marks plain)

marks_are : (marks : List ℕ) → all_by mark_of (words_behind marks) ≡ marks_in marks
marks_are [] = refl
marks_are (byte ∷ marks) = some_bytes (length (byte ∷ marks) == 0) (ne_eqb (length (byte ∷ marks)) 0 (λ none. omega (arith, none)))
  where
    some_bytes : (b : Bool) → b ≡ false → all_by mark_of (words_in (byte ∷ marks)) ≡ cond b (Some []) (all_by mark_of (words_in (byte ∷ marks)))
    some_bytes true e = cc e
    some_bytes false e = refl

-- what is read from the text of a ballot and of marks is their scan
scan_is_read : (version : ℕ) (ballot marks : List ℕ) (number : ℕ) → decimal_of ballot ≡ Some number → act_in version (scan_text ballot marks) ≡ scan_in ballot marks
unfolding act_in
scan_is_read version ballot marks number e =
    let spelled = decimals_are_spelled ballot number e in
    let plain : All IsInk ballot = subst (λ (word : List ℕ). All IsInk word) (sym spelled.1) (number_kind.plain number spelled.0) in
    ap (form_of version) (cut_scan ballot marks (not_space ballot plain))
    ∙ ap (λ (found : Option (List Mark)). option_and_then (λ b. option_map (act.Scan b) found) (decimal_of ballot)) (marks_are marks)

-- where the ballot is a number
number_read : (version : ℕ) (ballot marks : List ℕ) → is_none (decimal_of ballot) ≡ false → act_in version (scan_text ballot marks) ≡ scan_in ballot marks
number_read version ballot marks some = by_number (decimal_of ballot) refl some
  where
    by_number : (o : Option ℕ) → decimal_of ballot ≡ o → is_none o ≡ false → act_in version (scan_text ballot marks) ≡ scan_in ballot marks
    by_number None is some = cc some
    by_number (Some number) is some = scan_is_read version ballot marks number is

pub scan_found : (version : ℕ) (ballot marks text : List ℕ) (result : Result (Option Act) NoMemory) → is_none (decimal_of ballot) ≡ false → text ≡ scan_text ballot marks
    → IfOk result (λ found. found ≡ act_in version text) → IfOk result (λ found. found ≡ scan_in ballot marks)
scan_found version ballot marks text (Ok found) some is read = read ∙ (ap (act_in version) is ∙ number_read version ballot marks some)
scan_found version ballot marks text (Err want) some is read = tt

-- FIELD BY FIELD

none_then : {A B : Type 0} (f : A → Option B) (o : Option A) → ((x : A) → f x ≡ None) → option_and_then f o ≡ None
none_then f None each = refl
none_then f (Some x) each = each x

-- a record is read field by field
ask_is_at : (fields : List (List ℕ)) → ask_at fields ≡ ask_in fields
unfolding field_at
ask_is_at [] = refl
ask_is_at (a ∷ []) = none_then _ (option_and_then (λ s. None) (decimal_of a)) (λ stamp. refl)
ask_is_at (a ∷ b ∷ []) = none_then _ _ (λ stamp. refl)
ask_is_at (a ∷ b ∷ c ∷ []) = none_then _ _ (λ stamp. refl)
ask_is_at (a ∷ b ∷ c ∷ d ∷ []) = none_then _ _ (λ stamp. refl)
ask_is_at (a ∷ b ∷ c ∷ d ∷ e ∷ []) = refl
ask_is_at (a ∷ b ∷ c ∷ d ∷ e ∷ f ∷ more) = refl

-- and so is what it is
pub line_is : (fields : List (List ℕ)) (found : Option Ask) → found ≡ ask_at fields → line_in found ≡ scan_line fields
unfolding scan_line
line_is fields found is = ap line_in (is ∙ ask_is_at fields)

-- ASKS THAT CAN COME

-- one more that can come
pub each_push : (lines new : List ScanLine) (line : ScanLine) → new ≡ lines ++ line ∷ [] → EachCanCome lines → CanCome line → EachCanCome new
each_push lines new line is each here = subst EachCanCome (sym is) (behind lines each)
  where
    behind : (others : List ScanLine) → EachCanCome others → EachCanCome (others ++ line ∷ [])
    behind [] each = (here, tt)
    behind (other ∷ others) each = (each.0, behind others each.1)
