-- A line inside a part.
use Rattle.std.proofs.Common.{◌≡◌, ℕ, ◌+◌, true, false, not, List, [], ◌∷◌, ◌++◌, length, map, Option, Some, None, refl, sym, subst, ap, ◌∙◌}
use Rattle.std.proofs.Math.Bool.{not-not}
use Rattle.std.specs.Option.{is_none}
use Rattle.sg_check.proofs.Fine.{none_bad_are_fine}
use Rattle.sg_check.proofs.OneMore.{fine-all, verdict-more}
use Rattle.sg_fronts.proofs.ByRecords.{begun-least, least-good, verdicts_say}
use Rattle.sg_check.specs.declared.judged.Judged.TheVariants as judged
use Rattle.sg_record.specs.Lines.{texts_in}
use Rattle.sg_check.specs.Verdict.{IsFirstBad}
use Rattle.sg_check.specs.declared.judged.Kind.{Kind}
use Rattle.sg_county.proofs.Going.{open_kept, open_settled}
use Rattle.sg_county.proofs.PartLists.{parts_inner, parts_more, parts_some}
use Rattle.sg_county.proofs.Settling.{nothing_at, settles_lines, unsettled_at}
use Rattle.sg_county.specs.County.{is_next}
use Rattle.sg_county.specs.Tally.{AreKept, IsSettled, Judges, Says, StandsFor, is_more, is_open}
use Rattle.sg_county.specs.inside.Keeping.{AreParts}
use Rattle.sg_county.specs.declared.tally.Tally.{Tally}
use Rattle.sg_county.specs.declared.verdict.CountyVerdict.{CountyVerdict}
use Rattle.sg_county.specs.declared.verdict.CountyVerdict.TheVariants.{No}
use Rattle.sg_judge.specs.Pass.{Judges as PassJudges, SaysBehind, StandsFor as HasTaken, is_fine, is_open as is_fine_so_far}
use Rattle.sg_judge.specs.declared.pass.Pass.{Pass}
use Rattle.sg_judge.specs.declared.pass.Step.{Step}
use Rattle.sg_judge.specs.declared.pass.Step.TheVariants.{More, Over, Ready}

-- a pass that has found a bad line knows it
bad_known : (pass : Pass) (part : List (List ℕ)) → HasTaken pass part → is_fine_so_far pass ≡ false → (k : Kind) × IsFirstBad part pass.number k
bad_known pass part stands broken = known pass.broken refl
  where
    known : (o : Option Kind) → pass.broken ≡ o → (k : Kind) × IsFirstBad part pass.number k
    known (Some k) e = (k, subst (λ (o : Option Kind). PassJudges o pass.expect pass.sealer pass.ledger pass.number part) e stands.judges)
    known None e = let both : true ≡ false = sym (ap (λ (o : Option Kind). is_none o) e) ∙ broken in absurd (let none : ⊥ = cc in none)

module _ (tally : Tally) (pass : Pass) (step : Step) (line : List ℕ) (inner : is_next line ≡ false) (still : is_open tally ≡ true)
    (adds : (part : List (List ℕ)) → HasTaken tally.pass part → HasTaken pass (part ++ line ∷ []))
    (says : (part : List (List ℕ)) → HasTaken tally.pass part → SaysBehind step (part ++ line ∷ []))
    (open_still : is_fine_so_far pass ≡ is_fine step)
    (lines : List (List ℕ)) (stands : StandsFor tally lines) where
  old : AreKept tally lines
  old = open_kept tally lines still stands

  are_parts : AreParts (lines ++ line ∷ []) old.before (old.last ++ line ∷ [])
  are_parts = record {
    parts = parts_inner lines line (map texts_in old.before) old.last inner old.are_parts.parts;
    count = old.are_parts.count;
    few = old.are_parts.few;
  }

  abbrev gone_on : Tally
  gone_on = record { pass = pass; kept = tally.kept; over = not (is_fine step); settled = tally.settled }

  kept : AreKept gone_on (lines ++ line ∷ [])
  kept = record {
    before = old.before;
    last = old.last ++ line ∷ [];
    are_parts = are_parts;
    stands = adds old.last old.stands;
    fine = open_still ∙ sym (not-not (is_fine step));
    keeps = old.keeps;
  }

  -- the tally stands for one line more
  pub inner_stands : StandsFor gone_on (lines ++ line ∷ [])
  inner_stands = record { judges = subst (λ (o : Option CountyVerdict). Judges o gone_on (lines ++ line ∷ [])) (sym (open_settled tally lines still stands)) kept }

  -- a bad line settles the answer
  bad_settles : (number : ℕ) (k : Kind) → IsFirstBad (old.last ++ line ∷ []) number k → IsSettled (lines ++ line ∷ []) (No (length old.before + 1) number k)
  bad_settles number k bad = record {
    refuses = tt;
    stays = λ later.
        let some = parts_some later in
        settles_lines ((lines ++ line ∷ []) ++ later) old.before ((old.last ++ line ∷ []) ++ some.0) some.1 (No (length old.before + 1) number k)
        (parts_more (lines ++ line ∷ []) later (map texts_in old.before) (old.last ++ line ∷ []) some.0 some.1 are_parts.parts some.2) old.are_parts.count
        (record { few = old.are_parts.few; number_is = refl }, (verdicts_say ((old.last ++ line ∷ []) ++ some.0) (judged.No number k)).0 (verdict-more (old.last ++ line ∷ []) some.0 number k bad));
    settles = λ unsettled.
        let good = (nothing_at (lines ++ line ∷ []) old.before (old.last ++ line ∷ []) [] are_parts.parts old.are_parts.count unsettled).1 in
        let fine = none_bad_are_fine (old.last ++ line ∷ []) (begun-least (old.last ++ line ∷ []) good.posted good.begins ∙ good.none_bad) in
        let both : None ≡ Some k = sym (fine number) ∙ bad.broken in
        let none : ⊥ = cc in none;
  }

  said : (s : Step) → step ≡ s → Says s (lines ++ line ∷ [])
  said More e =
      let fine = subst (λ (s : Step). SaysBehind s (old.last ++ line ∷ [])) e (says old.last old.stands) in
      unsettled_at (lines ++ line ∷ []) old.before (old.last ++ line ∷ []) are_parts (old.are_parts.few, least-good (old.last ++ line ∷ []) (fine-all (old.last ++ line ∷ []) fine))
  said Ready e = subst (λ (s : Step). SaysBehind s (old.last ++ line ∷ [])) e (says old.last old.stands)
  said Over e =
      let known = bad_known pass (old.last ++ line ∷ []) (adds old.last old.stands) (open_still ∙ ap is_fine e) in
      (No (length old.before + 1) pass.number known.0, bad_settles pass.number known.0 known.1)

  -- and what is said is right
  pub inner_says : Says step (lines ++ line ∷ [])
  inner_says = said step refl

  open_at : (s : Step) → SaysBehind s (old.last ++ line ∷ []) → not (not (is_fine s)) ≡ is_more s
  open_at More said_is = refl
  open_at Ready said_is = absurd said_is
  open_at Over said_is = refl

  -- and it is said whether the tally is open still
  pub inner_open : not (not (is_fine step)) ≡ is_more step
  inner_open = open_at step (says old.last old.stands)

-- where more may come no line was bad
pub more_fine : (step : Step) → is_more step ≡ true → is_fine step ≡ true
more_fine More more = refl
more_fine Ready more = refl
more_fine Over more = more
