-- The end of a tally.
use Rattle.std.proofs.Common.{◌≡◌, ℕ, ◌<◌, Bool, true, false, List, [], ◌∷◌, ◌++◌, length, map, Option, Some, None, subst, ap, ◌∙◌, append-nil}
use Rattle.std.specs.Prelude.{if◌then◌else◌}
use Rattle.sg_record.specs.Lines.{texts_in}
use Rattle.sg_record.specs.declared.record.Record.{Record}
use Rattle.sg_county.proofs.Going.{open_settled}
use Rattle.sg_county.proofs.LastEnd.{few_seals}
use Rattle.sg_county.proofs.PartLists.{AllParts, parts_more, parts_some}
use Rattle.sg_county.proofs.Settling.{lines_settled}
use Rattle.sg_county.specs.County.{IsCounty, IsFirstSettled, is_next, most_parts, onto_part, parts_of}
use Rattle.sg_county.specs.Tally.{AreKept, IsOver, IsRefusal, Judges, StandsFor, StandsForSome, is_open}
use Rattle.sg_county.specs.inside.Ending.{IsLast, IsSomeLast}
use Rattle.sg_county.specs.declared.tally.Tally.{Tally}
use Rattle.sg_county.specs.declared.verdict.CountyVerdict.{CountyVerdict}
use Rattle.sg_judge.specs.Pass.{is_open as is_fine_so_far}

-- WHERE THE ANSWER WAS SETTLED

judged_some : (tally : Tally) (lines : List (List ℕ)) (verdict : CountyVerdict) → tally.settled ≡ Some verdict → StandsFor tally lines → IsOver tally lines verdict
judged_some tally lines verdict e stands = subst (λ (o : Option CountyVerdict). Judges o tally lines) e stands.judges

pub settled_ends : (tally : Tally) (lines : List (List ℕ)) (verdict : CountyVerdict) → tally.settled ≡ Some verdict → StandsFor tally lines → IsCounty lines verdict
settled_ends tally lines verdict e stands = subst (λ (l : List (List ℕ)). IsCounty l verdict) (append-nil lines) ((judged_some tally lines verdict e stands).settled.stays [])

pub settled_stays : (tally : Tally) (lines more : List (List ℕ)) (verdict : CountyVerdict) → tally.settled ≡ Some verdict → StandsFor tally lines → IsCounty (lines ++ more) verdict
settled_stays tally lines more verdict e stands = (judged_some tally lines verdict e stands).settled.stays more

pub settled_refuses : (tally : Tally) (lines : List (List ℕ)) (verdict : CountyVerdict) → tally.settled ≡ Some verdict → StandsFor tally lines → IsRefusal verdict
settled_refuses tally lines verdict e stands = (judged_some tally lines verdict e stands).settled.refuses

-- WHERE IT WAS NOT

kept_none : (tally : Tally) (lines : List (List ℕ)) → tally.settled ≡ None → StandsFor tally lines → AreKept tally lines
kept_none tally lines e stands = subst (λ (o : Option CountyVerdict). Judges o tally lines) e stands.judges

last_is : (tally : Tally) (lines : List (List ℕ)) → (kept : AreKept tally lines) → IsLast tally.pass tally.kept kept.before kept.last
last_is tally lines kept = record { count = kept.are_parts.count; few = kept.are_parts.few; stands = kept.stands; keeps = kept.keeps }

-- the last part is in the pass
pub some_last : (tally : Tally) → tally.settled ≡ None → StandsForSome tally → IsSomeLast tally.pass tally.kept
some_last tally e some =
    let kept = kept_none tally some.0 e some.1 in
    (kept.before, kept.last, last_is tally some.0 kept)

-- and its end is the answer
pub last_answers : (tally : Tally) (lines : List (List ℕ)) (verdict : CountyVerdict) → tally.settled ≡ None → StandsFor tally lines
    → ((before : List Record) (last : List (List ℕ)) → IsLast tally.pass tally.kept before last → IsFirstSettled before (last ∷ []) verdict) → IsCounty lines verdict
last_answers tally lines verdict e stands ends =
    let kept = kept_none tally lines e stands in
    lines_settled lines kept.before kept.last [] verdict kept.are_parts.parts kept.are_parts.count (ends kept.before kept.last (last_is tally lines kept))

-- where a line was bad, the pass knows it
pub broken_pass : (tally : Tally) → tally.settled ≡ None → StandsForSome tally → is_open tally ≡ false → is_fine_so_far tally.pass ≡ false
broken_pass tally e some over = (kept_none tally some.0 e some.1).fine ∙ over

-- and its answer stays
pub last_stays : (tally : Tally) (lines more : List (List ℕ)) (verdict : CountyVerdict) → tally.settled ≡ None → StandsFor tally lines → is_open tally ≡ false
    → (is_fine_so_far tally.pass ≡ false → (before : List Record) (rest : AllParts) (last more : List (List ℕ)) → IsLast tally.pass tally.kept before last → IsFirstSettled before ((last ++ more) ∷ rest) verdict)
    → IsCounty (lines ++ more) verdict
last_stays tally lines more verdict e stands over stays =
    let kept = kept_none tally lines e stands in
    let some = parts_some more in
    lines_settled (lines ++ more) kept.before (kept.last ++ some.0) some.1 verdict (parts_more lines more (map texts_in kept.before) kept.last some.0 some.1 kept.are_parts.parts some.2) kept.are_parts.count
    (stays (kept.fine ∙ over) kept.before some.1 kept.last some.0 (last_is tally lines kept))

-- WHERE THE NEXT BYTES ARE NO LINE

pub open_last : (tally : Tally) → is_open tally ≡ true → StandsForSome tally → IsSomeLast tally.pass tally.kept
open_last tally still some = some_last tally (open_settled tally some.0 still some.1) some

pub few_parts : (tally : Tally) → is_open tally ≡ true → StandsForSome tally → length tally.kept.seals < most_parts
few_parts tally still some = few_seals tally.pass tally.kept (open_last tally still some)

pub open_pass : (tally : Tally) → is_open tally ≡ true → StandsForSome tally → is_fine_so_far tally.pass ≡ true
open_pass tally still some = (kept_none tally some.0 (open_settled tally some.0 still some.1) some.1).fine ∙ still

pub no_line_answers : (tally : Tally) (verdict : CountyVerdict) → is_open tally ≡ true → (lines more : List (List ℕ)) (text : List ℕ) → StandsFor tally lines → is_next text ≡ false
    → ((before : List Record) (rest : AllParts) (last more : List (List ℕ)) → IsLast tally.pass tally.kept before last → IsFirstSettled before ((last ++ text ∷ more) ∷ rest) verdict)
    → IsCounty (lines ++ text ∷ more) verdict
no_line_answers tally verdict still lines more text stands inner ends =
    let kept = kept_none tally lines (open_settled tally lines still stands) stands in
    let some = parts_some more in
    let next : parts_of (text ∷ more) ≡ (text ∷ some.0) ∷ some.1 = ap (λ (b : Bool). (if b then [] ∷ parts_of more else onto_part text (parts_of more))) inner ∙ ap (λ (p : AllParts). onto_part text p) some.2 in
    lines_settled (lines ++ text ∷ more) kept.before (kept.last ++ text ∷ some.0) some.1 verdict (parts_more lines (text ∷ more) (map texts_in kept.before) kept.last (text ∷ some.0) some.1 kept.are_parts.parts next) kept.are_parts.count
    (ends kept.before some.1 kept.last some.0 (last_is tally lines kept))
