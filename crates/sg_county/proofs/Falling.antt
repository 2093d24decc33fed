-- How many lines a tally may still take: fewer with each.
use Rattle.std.proofs.Common.{◌≡◌, ℕ, ◌+◌, ◌-◌, ◌*◌, ◌<◌, ◌≤◌, ◌==◌, Bool, true, false, [], length, Option, sym, subst, ap, ◌∙◌, arith}
use Rattle.std.specs.Prelude.{if◌then◌else◌}
use Rattle.std.proofs.lemmas.Option.{same_Some}
use Rattle.sg_lists.proofs.Options.{is_none-true}
use Rattle.sg_grammar.proofs.Counting.{lines_left-most}
use Rattle.sg_grammar.proofs.Walking.{walk-empty}
use Rattle.sg_grammar.specs.Left.{lines_left}
use Rattle.sg_grammar.specs.Walk.{Next, Walked, start}
use Rattle.sg_check.specs.declared.judged.Kind.{Kind}
use Rattle.sg_judge.specs.Pass.{AreKept as PassKept, Judges as PassJudges, StandsFor as HasTaken, is_open as is_fine_so_far, left_in as lines_left_in}
use Rattle.sg_judge.specs.declared.pass.Pass.{Pass}
use Rattle.sg_county.specs.County.{most_parts}
use Rattle.sg_county.specs.Tally.{is_more, left_in}
use Rattle.sg_county.specs.inside.Going.{added_by, closed, settled_by, step_behind}
use Rattle.sg_county.specs.declared.ending.Close.{Close}
use Rattle.sg_county.specs.declared.ending.Close.TheVariants as close
use Rattle.sg_county.specs.declared.kept.Kept.{Kept}
use Rattle.sg_county.specs.declared.tally.Tally.{Tally}
use Rattle.sg_county.specs.declared.verdict.CountyVerdict.TheVariants.{Parts}

-- a pass over no lines may take as many as a part has
pub fresh_left : (pass : Pass) → HasTaken pass [] → is_fine_so_far pass ≡ true → lines_left_in pass ≤ 1200000
fresh_left pass stands fine =
    let kept : PassKept pass.expect pass.sealer pass.ledger pass.number [] =
    subst (λ (b : Option Kind). PassJudges b pass.expect pass.sealer pass.ledger pass.number []) (is_none-true pass.broken fine) stands.judges in
    let same : record { posted = []; next = start } ≡ record { posted = kept.stands.posted; next = pass.expect } =
    same_Some (record { posted = []; next = start }) (record { posted = kept.stands.posted; next = pass.expect }) (sym (walk-empty start) ∙ kept.stands.walks) in
    subst (λ (next : Next). lines_left next ≤ 1200000) (ap (λ (w : Walked). w.next) same) lines_left-most

-- one part more, with a pass over no lines
part_falls : (seals seals' left left' : ℕ) → seals' ≡ seals + 1 → seals < most_parts → left' ≤ 1200000 → (most_parts - seals') * 1200001 + left' < (most_parts - seals) * 1200001 + left
part_falls seals seals' left left' more few small =
    let one : most_parts - seals ≡ (most_parts - seals') + 1 = omega (arith, more, few) in
    let split : (most_parts - seals) * 1200001 ≡ (most_parts - seals') * 1200001 + 1200001 = omega (arith, one) in
    omega (arith, split, small)

pub next_falls : (tally : Tally) (fresh : Pass) (noted : Kept) (number : ℕ) (end : Close) → length noted.seals ≡ length tally.kept.seals + 1 → length tally.kept.seals < most_parts
    → HasTaken fresh [] → is_fine_so_far fresh ≡ true → is_more (step_behind number end) ≡ true
    → left_in (closed (record { pass = fresh; kept = noted; over = tally.over; settled = tally.settled }) number end) < left_in tally
next_falls tally fresh noted number (close.Settles verdict) count few stands fine more = let none : ⊥ = cc in absurd none
next_falls tally fresh noted number (close.Counts totals) count few stands fine more = at_full (number == most_parts)
  where
    begun : Tally
    begun = record { pass = fresh; kept = noted; over = tally.over; settled = tally.settled }

    at_full : (full : Bool) → left_in (if full then settled_by (added_by begun number totals) Parts else added_by begun number totals) < left_in tally
    at_full true = part_falls (length tally.kept.seals) (length noted.seals) (lines_left_in tally.pass) (lines_left_in fresh) count few (fresh_left fresh stands fine)
    at_full false = part_falls (length tally.kept.seals) (length noted.seals) (lines_left_in tally.pass) (lines_left_in fresh) count few (fresh_left fresh stands fine)

-- one line more
pub inner_falls : (tally new : Tally) → new.kept ≡ tally.kept → lines_left_in new.pass < lines_left_in tally.pass → left_in new < left_in tally
inner_falls tally new same falls = let seals = ap (λ (k : Kept). length k.seals) same in omega (arith, seals, falls)
