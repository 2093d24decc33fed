-- The end of the last part.
use Rattle.std.proofs.Common.{◌≡◌, ℕ, ◌+◌, ◌<◌, inl, inr, Bool, true, false, List, [], ◌∷◌, ◌++◌, length, refl, arith}
use Rattle.sg_record.specs.Laws.{AreLinesOf}
use Rattle.sg_record.specs.declared.record.Record.{Record}
use Rattle.sg_check.specs.Verdict.{IsNo, IsVerdict}
use Rattle.sg_check.specs.declared.judged.Judged.{Judged}
use Rattle.sg_check.specs.declared.judged.Judged.TheVariants as judged
use Rattle.sg_check.specs.declared.judged.Total.{Total}
use Rattle.sg_fronts.proofs.ByRecords.{verdicts_say}
use Rattle.sg_fronts.specs.ByRecords.{Says}
use Rattle.sg_county.proofs.Closing.{IsYes, closes, kept_count}
use Rattle.sg_county.proofs.PartLists.{AllParts}
use Rattle.sg_county.proofs.Small.{fits_behind}
use Rattle.sg_county.proofs.SumLists.{sums_more}
use Rattle.sg_county.specs.County.{IsFirstSettled, Settles, most_parts}
use Rattle.sg_county.specs.Tally.{IsRefusal}
use Rattle.sg_county.specs.inside.Ending.{IsLast, IsSomeLast, answer_of}
use Rattle.sg_county.specs.inside.Keeping.{Closes, Fits, IsFound, Keeps, close_of}
use Rattle.sg_county.specs.declared.ending.Close.{Close}
use Rattle.sg_county.specs.declared.ending.Close.TheVariants as close
use Rattle.sg_county.specs.declared.ending.Found.{Found}
use Rattle.sg_county.specs.declared.kept.Kept.{Kept}
use Rattle.sg_county.specs.declared.verdict.CountyVerdict.{CountyVerdict}
use Rattle.sg_judge.specs.Pass.{StandsFor as HasTaken, is_open as is_fine_so_far}
use Rattle.sg_judge.specs.declared.pass.Pass.{Pass}

-- so many seals are kept at most
pub few_seals : (pass : Pass) (kept : Kept) → IsSomeLast pass kept → length kept.seals < most_parts
few_seals pass kept some =
    let few = some.2.few in
    omega (arith, few, kept_count kept some.0 some.2.keeps)

-- THE LAST PART ENDS

not_yes : (answer : Judged) → IsNo answer → IsYes answer → ⊥
not_yes (judged.Yes totals) is_no is_yes = is_no
not_yes (judged.No line kind) is_no is_yes = is_yes

module _ (pass : Pass) (kept : Kept) (found : Found) (answer : Judged) (number_is : found.number ≡ length kept.seals + 1)
    (finds : is_fine_so_far pass ≡ true → (before : List Record) (part : List (List ℕ)) (posted : Record) → Keeps kept before → HasTaken pass part → AreLinesOf part posted → IsFound found before posted)
    (judges : (part : List (List ℕ)) → HasTaken pass part → IsVerdict part answer)
    (refuses : is_fine_so_far pass ≡ false → IsNo answer)
    (before : List Record) (last : List (List ℕ)) (is : IsLast pass kept before last) where
  number_at : found.number ≡ length before + 1
  number_at = omega (arith, number_is, kept_count kept before is.keeps)

  found_at : IsYes answer → (posted : Record) → AreLinesOf last posted → IsFound found before posted
  found_at is_yes posted are = at_fine (is_fine_so_far pass) refl
    where
      at_fine : (b : Bool) → is_fine_so_far pass ≡ b → IsFound found before posted
      at_fine true e = finds e before last posted is.keeps is.stands are
      at_fine false e = absurd (not_yes answer (refuses e) is_yes)

  ends : Closes before last (close_of found answer)
  ends = closes found answer before last is.few number_at found_at (judges last is.stands)

  fits_at : (end : Close) → Closes before last end → Fits found.number kept.sums end
  fits_at (close.Counts totals) closed = fits_behind found.number before last closed.0 kept.sums totals number_at is.count closed.1 is.keeps.sums closed.2
  fits_at (close.Settles verdict) closed = tt

  -- its totals may be added
  pub last_fits : Fits found.number kept.sums (close_of found answer)
  last_fits = fits_at (close_of found answer) ends

  ends_at : (end : Close) → Closes before last end → IsFirstSettled before (last ∷ []) (answer_of found.number kept.sums end)
  ends_at (close.Counts totals) closed = inr (closed.0, closed.1, sums_more found.number before closed.0 kept.sums totals number_at is.keeps.sums closed.2)
  ends_at (close.Settles verdict) closed = inl closed

  -- it settles the answer, or all are summed
  pub last_ends : IsFirstSettled before (last ∷ []) (answer_of found.number kept.sums (close_of found answer))
  last_ends = ends_at (close_of found answer) ends

  bad_at : (a : Judged) (part : List (List ℕ)) (rest : AllParts) → IsNo a → IsVerdict part a → IsFirstSettled before (part ∷ rest) (answer_of found.number kept.sums (close_of found a))
  bad_at (judged.Yes totals) part rest is_no is_verdict = absurd is_no
  bad_at (judged.No line kind) part rest is_no is_verdict = inl (record { few = is.few; number_is = number_at }, (verdicts_say part (judged.No line kind)).0 is_verdict)

  -- where a line in it was bad, it settles the answer whatever follows
  pub last_stays : (rest : AllParts) (more : List (List ℕ)) → is_fine_so_far pass ≡ false → IsVerdict (last ++ more) answer
      → IsFirstSettled before ((last ++ more) ∷ rest) (answer_of found.number kept.sums (close_of found answer))
  last_stays rest more broken stays = bad_at answer (last ++ more) rest (refuses broken) stays

-- and the answer is not yes
pub last_refuses : (found : Found) (answer : Judged) (sums : List Total) → IsNo answer → IsRefusal (answer_of found.number sums (close_of found answer))
last_refuses found (judged.Yes totals) sums is_no = absurd is_no
last_refuses found (judged.No line kind) sums is_no = tt

-- THE NEXT BYTES ARE NO LINE

pub no_line_ends : (kept : Kept) (answer : CountyVerdict) (judged : Judged) (number : ℕ) → number ≡ length kept.seals + 1
    → ((before : List Record) (part : List (List ℕ)) → length before < most_parts → number ≡ length before + 1 → Says judged part → Settles before part answer)
    → (before : List Record) (rest : AllParts) (part : List (List ℕ)) → Keeps kept before → length before < most_parts → IsVerdict part judged → IsFirstSettled before (part ∷ rest) answer
no_line_ends kept answer judged number number_is settles before rest part keeps few bad =
    inl (settles before part few (omega (arith, number_is, kept_count kept before keeps)) ((verdicts_say part judged).0 bad))
