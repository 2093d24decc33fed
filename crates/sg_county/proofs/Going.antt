-- A line `next`: the last part ends, and one more begins.
use Rattle.std.proofs.Common.{◌≡◌, ℕ, ◌+◌, ◌==◌, Bool, true, false, List, [], ◌∷◌, ◌++◌, length, map, Option, Some, None, refl, sym, subst, ap, ◌∙◌, append_assoc, arith}
use Rattle.std.specs.Prelude.{if◌then◌else◌}
use Rattle.std.proofs.lemmas.Bool.{eq-eqb, eqb-true, not-true}
use Rattle.std.proofs.lemmas.List.{length_push, map_push}
use Rattle.sg_record.specs.Laws.{AreLinesOf}
use Rattle.sg_record.specs.Lines.{texts_in}
use Rattle.sg_record.specs.declared.record.Record.{Record}
use Rattle.sg_check.proofs.OneMore.{fine-all, fine-empty}
use Rattle.sg_check.specs.Verdict.{IsVerdict}
use Rattle.sg_check.specs.declared.judged.Judged.{Judged}
use Rattle.sg_check.specs.declared.judged.Total.{Total}
use Rattle.sg_fronts.proofs.ByRecords.{least-good}
use Rattle.sg_fronts.specs.ByRecords.{totals_on}
use Rattle.sg_county.proofs.Closing.{closes, kept_count}
use Rattle.sg_county.proofs.One.{counts_settles}
use Rattle.sg_county.proofs.PartLists.{AllParts, parts_behind, parts_next, parts_some}
use Rattle.sg_county.proofs.Settling.{all_count, nothing_at, settles_lines, unsettled_at}
use Rattle.sg_county.proofs.Small.{fits_behind}
use Rattle.sg_county.proofs.SumLists.{sums_more}
use Rattle.sg_county.specs.County.{Counts, Settles, is_next, most_parts, parts_of}
use Rattle.sg_county.specs.Tally.{AreKept, IsRefusal, IsSettled, Judges, Says, StandsFor, is_more, is_open}
use Rattle.sg_county.specs.inside.Going.{added_by, closed, settled_by, step_behind}
use Rattle.sg_county.specs.inside.Keeping.{AreParts, Closes, Fits, IsFound, IsNoted, Keeps, close_of, more_sums}
use Rattle.sg_county.specs.declared.ending.Close.{Close}
use Rattle.sg_county.specs.declared.ending.Close.TheVariants as close
use Rattle.sg_county.specs.declared.ending.Found.{Found}
use Rattle.sg_county.specs.declared.kept.Kept.{Kept}
use Rattle.sg_county.specs.declared.tally.Tally.{Tally}
use Rattle.sg_county.specs.declared.verdict.CountyVerdict.{CountyVerdict}
use Rattle.sg_county.specs.declared.verdict.CountyVerdict.TheVariants.{Yes, No, Differs, Repeats, Parts}
use Rattle.sg_judge.specs.Pass.{StandsFor as HasTaken, is_open as is_fine_so_far}
use Rattle.sg_judge.specs.declared.pass.Pass.{Pass}
use Rattle.sg_judge.specs.declared.pass.Step.TheVariants.{More, Over}

-- A TALLY IN WHICH NOTHING IS SETTLED

open_not_over : (tally : Tally) → is_open tally ≡ true → tally.over ≡ false
open_not_over tally still = not-true tally.over still

none_settled : (settled : Option CountyVerdict) (tally : Tally) (lines : List (List ℕ)) → tally.over ≡ false → Judges settled tally lines → settled ≡ None
none_settled None tally lines off judges = refl
none_settled (Some verdict) tally lines off judges = let both : true ≡ false = sym judges.over ∙ off in absurd (let none : ⊥ = cc in none)

kept_judged : (settled : Option CountyVerdict) (tally : Tally) (lines : List (List ℕ)) → settled ≡ None → Judges settled tally lines → AreKept tally lines
kept_judged settled tally lines e judges = subst (λ (o : Option CountyVerdict). Judges o tally lines) e judges

pub open_settled : (tally : Tally) (lines : List (List ℕ)) → is_open tally ≡ true → StandsFor tally lines → tally.settled ≡ None
open_settled tally lines still stands = none_settled tally.settled tally lines (open_not_over tally still) stands.judges

pub open_kept : (tally : Tally) (lines : List (List ℕ)) → is_open tally ≡ true → StandsFor tally lines → AreKept tally lines
open_kept tally lines still stands = kept_judged tally.settled tally lines (open_settled tally lines still stands) stands.judges

refusal : (before : List Record) (part : List (List ℕ)) (verdict : CountyVerdict) → Settles before part verdict → IsRefusal verdict
refusal before part (Yes totals) settles = settles
refusal before part Parts settles = tt
refusal before part (No number line kind) settles = tt
refusal before part (Differs number) settles = tt
refusal before part (Repeats number other) settles = tt

number_off : (number : ℕ) → number ≡ most_parts → (number == most_parts) ≡ false → ⊥
number_off number is off = let both : true ≡ false = sym (eq-eqb number most_parts is) ∙ off in let none : ⊥ = cc in none

-- A PART ENDS

-- all is kept of one record more
keeps_more : (kept noted : Kept) (before : List Record) (posted : Record) (number : ℕ) (totals : List Total) → Keeps kept before → IsNoted kept noted before posted
    → number ≡ length before + 1 → totals ≡ totals_on posted
    → Keeps (record { races = noted.races; sums = more_sums number noted.sums totals; seals = noted.seals }) (before ++ posted ∷ [])
keeps_more kept noted before posted number totals keeps is number_is totals_are = record {
  races = is.races;
  sums = sums_more number before posted noted.sums totals number_is (is.sums ∙ keeps.sums) totals_are;
  seals = is.seals;
}

module _ (tally : Tally) (fresh : Pass) (noted : Kept) (found : Found) (answer : Judged) (line : List ℕ)
    (still : is_open tally ≡ true) (next : is_next line ≡ true) (fresh_stands : HasTaken fresh []) (fresh_open : is_fine_so_far fresh ≡ true)
    (counted : found.number ≡ length tally.kept.seals + 1)
    (finds : is_fine_so_far tally.pass ≡ true → (before : List Record) (part : List (List ℕ)) (posted : Record) → Keeps tally.kept before → HasTaken tally.pass part → AreLinesOf part posted → IsFound found before posted)
    (notes : is_fine_so_far tally.pass ≡ true → (before : List Record) (part : List (List ℕ)) (posted : Record) → Keeps tally.kept before → HasTaken tally.pass part → AreLinesOf part posted
    → IsNoted tally.kept noted before posted)
    (judges : (part : List (List ℕ)) → HasTaken tally.pass part → IsVerdict part answer)
    (lines : List (List ℕ)) (stands : StandsFor tally lines) where
  old : AreKept tally lines
  old = open_kept tally lines still stands

  unbroken : is_fine_so_far tally.pass ≡ true
  unbroken = old.fine ∙ still

  number_is : found.number ≡ length old.before + 1
  number_is = omega (arith, counted, kept_count tally.kept old.before old.keeps)

  is_noted : (posted : Record) → AreLinesOf old.last posted → IsNoted tally.kept noted old.before posted
  is_noted posted are = notes unbroken old.before old.last posted old.keeps old.stands are

  ends : Closes old.before old.last (close_of found answer)
  ends = closes found answer old.before old.last old.are_parts.few number_is (λ is_yes posted are. finds unbroken old.before old.last posted old.keeps old.stands are) (judges old.last old.stands)

  -- the part's totals may be added
  fits_at : (end : Close) → Closes old.before old.last end → Fits found.number noted.sums end
  fits_at (close.Counts totals) is =
      fits_behind found.number old.before old.last is.0 noted.sums totals number_is old.are_parts.count is.1 ((is_noted is.0 is.1.good.whole).sums ∙ old.keeps.sums) is.2
  fits_at (close.Settles verdict) is = tt

  pub next_fits : Fits found.number noted.sums (close_of found answer)
  next_fits = fits_at (close_of found answer) ends

  -- the tally in which the next part begins
  abbrev begun : Tally
  begun = record { pass = fresh; kept = noted; over = tally.over; settled = tally.settled }

  -- the parts with the next one
  ended : parts_of (lines ++ line ∷ []) ≡ (map texts_in old.before ++ old.last ∷ []) ++ [] ∷ []
  ended = parts_next lines line (map texts_in old.before) old.last next old.are_parts.parts

  -- and with what follows
  ended_on : (later : List (List ℕ)) → (first : List (List ℕ)) × (rest : AllParts) × (parts_of ((lines ++ line ∷ []) ++ later) ≡ (map texts_in old.before ++ old.last ∷ []) ++ first ∷ rest)
  ended_on later =
      let some = parts_some later in
      (some.0, some.1, parts_behind lines line later (map texts_in old.before) old.last some.0 some.1 next old.are_parts.parts some.2)

  -- the part that ended among the records
  among : (posted : Record) → Counts old.before old.last posted → map texts_in old.before ++ old.last ∷ [] ≡ map texts_in (old.before ++ posted ∷ [])
  among posted counts = ap (λ (l : List (List ℕ)). map texts_in old.before ++ l ∷ []) counts.good.whole.text ∙ sym (map_push texts_in old.before posted)

  next_are : (posted : Record) → Counts old.before old.last posted → parts_of (lines ++ line ∷ []) ≡ map texts_in (old.before ++ posted ∷ []) ++ [] ∷ []
  next_are posted counts = ended ∙ ap (λ (l : AllParts). l ++ [] ∷ []) (among posted counts)

  -- the part settles the answer
  settled_is : (verdict : CountyVerdict) → Settles old.before old.last verdict → IsSettled (lines ++ line ∷ []) verdict
  settled_is verdict settles = record {
    refuses = refusal old.before old.last verdict settles;
    stays = λ later.
        let on = ended_on later in
        settles_lines ((lines ++ line ∷ []) ++ later) old.before old.last (on.0 ∷ on.1) verdict
        (on.2 ∙ append_assoc (map texts_in old.before) (old.last ∷ []) (on.0 ∷ on.1)) old.are_parts.count settles;
    settles = λ unsettled.
        let nothing =
        nothing_at (lines ++ line ∷ []) old.before old.last ([] ∷ []) (ended ∙ append_assoc (map texts_in old.before) (old.last ∷ []) ([] ∷ [])) old.are_parts.count unsettled in
        counts_settles old.before old.last nothing.0 verdict nothing.1 settles;
  }

  -- the next part is one too many
  too_many : (posted : Record) → length (old.before ++ posted ∷ []) ≡ most_parts → Counts old.before old.last posted → IsSettled (lines ++ line ∷ []) Parts
  too_many posted full counts = record {
    refuses = tt;
    stays = λ later.
        let on = ended_on later in
        settles_lines ((lines ++ line ∷ []) ++ later) (old.before ++ posted ∷ []) on.0 on.1 Parts
        (on.2 ∙ ap (λ (l : AllParts). l ++ on.0 ∷ on.1) (among posted counts)) (all_count old.before old.last posted old.are_parts.count counts) full;
    settles = λ unsettled.
        let are = next_are posted counts in
        let few = (nothing_at (lines ++ line ∷ []) (old.before ++ posted ∷ []) [] [] are (all_count old.before old.last posted old.are_parts.count counts) unsettled).0 in
        omega (arith, few, full);
  }

  -- it is not
  next_parts : (posted : Record) → Counts old.before old.last posted → (length (old.before ++ posted ∷ []) ≡ most_parts → ⊥) → AreParts (lines ++ line ∷ []) (old.before ++ posted ∷ []) []
  next_parts posted counts room = record {
    parts = next_are posted counts;
    count = all_count old.before old.last posted old.are_parts.count counts;
    few = let few = old.are_parts.few in omega (arith, few, length_push old.before posted, room);
  }

  goes_on : (totals : List Total) (posted : Record) → Counts old.before old.last posted → totals ≡ totals_on posted → (length (old.before ++ posted ∷ []) ≡ most_parts → ⊥)
      → AreKept (added_by begun found.number totals) (lines ++ line ∷ [])
  goes_on totals posted counts totals_are room = record {
    before = old.before ++ posted ∷ [];
    last = [];
    are_parts = next_parts posted counts room;
    stands = fresh_stands;
    fine = fresh_open ∙ sym still;
    keeps = keeps_more tally.kept noted old.before posted found.number totals old.keeps (is_noted posted counts.good.whole) number_is totals_are;
  }

  counts_stand : (totals : List Total) (posted : Record) → Counts old.before old.last posted → totals ≡ totals_on posted → (full : Bool) → (found.number == most_parts) ≡ full
      → StandsFor (if full then settled_by (added_by begun found.number totals) Parts else added_by begun found.number totals) (lines ++ line ∷ [])
  counts_stand totals posted counts totals_are true e = record {
    judges = record {
      over = refl;
      settled = too_many posted (length_push old.before posted ∙ (sym number_is ∙ eqb-true found.number most_parts e)) counts;
    };
  }
  counts_stand totals posted counts totals_are false e = record {
    judges = subst (λ (o : Option CountyVerdict). Judges o (added_by begun found.number totals) (lines ++ line ∷ [])) (sym (open_settled tally lines still stands))
        (goes_on totals posted counts totals_are (λ full. number_off found.number (number_is ∙ (sym (length_push old.before posted) ∙ full)) e));
  }

  stands_at : (end : Close) → Closes old.before old.last end → StandsFor (closed begun found.number end) (lines ++ line ∷ [])
  stands_at (close.Settles verdict) is = record { judges = record { over = refl; settled = settled_is verdict is } }
  stands_at (close.Counts totals) is = counts_stand totals is.0 is.1 is.2 (found.number == most_parts) refl

  -- the tally stands for one line more
  pub next_stands : StandsFor (closed begun found.number (close_of found answer)) (lines ++ line ∷ [])
  next_stands = stands_at (close_of found answer) ends

  counts_say : (posted : Record) → Counts old.before old.last posted → (full : Bool) → (found.number == most_parts) ≡ full → Says (if full then Over else More) (lines ++ line ∷ [])
  counts_say posted counts true e = (Parts, too_many posted (length_push old.before posted ∙ (sym number_is ∙ eqb-true found.number most_parts e)) counts)
  counts_say posted counts false e =
      let are = next_parts posted counts (λ full. number_off found.number (number_is ∙ (sym (length_push old.before posted) ∙ full)) e) in
      unsettled_at (lines ++ line ∷ []) (old.before ++ posted ∷ []) [] are (are.few, least-good [] (fine-all [] fine-empty))

  says_at : (end : Close) → Closes old.before old.last end → Says (step_behind found.number end) (lines ++ line ∷ [])
  says_at (close.Settles verdict) is = (verdict, settled_is verdict is)
  says_at (close.Counts totals) is = counts_say is.0 is.1 (found.number == most_parts) refl

  -- and what is said is right
  pub next_says : Says (step_behind found.number (close_of found answer)) (lines ++ line ∷ [])
  next_says = says_at (close_of found answer) ends

-- it is said whether the tally is open still
pub next_open : (tally : Tally) (number : ℕ) (end : Close) → is_open tally ≡ true → is_open (closed tally number end) ≡ is_more (step_behind number end)
next_open tally number (close.Settles verdict) still = refl
next_open tally number (close.Counts totals) still = at_full (number == most_parts)
  where
    at_full : (full : Bool) → is_open (if full then settled_by (added_by tally number totals) Parts else added_by tally number totals) ≡ is_more (if full then Over else More)
    at_full true = refl
    at_full false = still
