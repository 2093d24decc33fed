-- A part ends, and one more begins, or one too many.
use Rattle.std.proofs.Common.{◌<◌, ◌∷◌, ◌++◌, [], codes, refl, sym, subst, ap, ◌∙◌}
use Rattle.sg_county.proofs.Falling.{next_falls}
use Rattle.sg_county.proofs.Going.{next_fits, next_open, next_says, next_stands}
use Rattle.sg_county.proofs.TallyEnd.{few_parts}
use Rattle.sg_county.proofs.tally.Tally.next_part.Goals as goal
use Rattle.sg_county.specs.Tally.{Says, StandsFor, is_more, is_open, left_in}
use Rattle.sg_county.specs.inside.Going.{closed, step_behind}
use Rattle.sg_county.specs.inside.Keeping.{Fits}
use Rattle.sg_county.specs.declared.ending.Close.{Close}
use Rattle.sg_county.specs.declared.tally.Tally.{Tally}
use Rattle.sg_judge.specs.Pass.{StandsFor as HasTaken, is_open as is_fine_so_far}
use Rattle.sg_judge.specs.declared.pass.Pass.{Pass}
use Rattle.sg_judge.specs.declared.pass.Step.{Step}

pub note_part-requires : goal.note_part-requires
note_part-requires c = few_parts c.args.self.now c.requires.open c.requires.stands

pub close_part-requires : goal.close_part-requires
close_part-requires c =
    let fresh : Pass = c.end_and_replace-judged.new.pass in
    let fresh_stands : HasTaken fresh [] = subst (λ (p : Pass). HasTaken p []) (sym c.end_and_replace-judged.ensures.fresh) c.fresh_pass.ensures.stands in
    let fresh_open = ap is_fine_so_far c.end_and_replace-judged.ensures.fresh ∙ c.fresh_pass.ensures.open in
    record {
      fits = subst (λ (e : Close). Fits c.in_ok-found.found.number c.note_part.new.self.sums e) (sym c.end_of.ensures)
          (next_fits c.args.self.now fresh c.note_part.new.self c.in_ok-found.found c.end_and_replace-judged.result (codes "next\n") c.requires.open refl fresh_stands fresh_open
          c.in_ok-found.ensures.number c.in_ok-found.ensures.found c.in_ok-found.ensures.noted c.end_and_replace-judged.ensures.judges c.requires.stands.0 c.requires.stands.1);
    }

pub returns-clause-adds : goal.returns-clause-adds
returns-clause-adds c = λ lines line next stands.
    let fresh : Pass = c.end_and_replace-judged.new.pass in
    let begun : Tally = record { pass = fresh; kept = c.note_part.new.self; over = c.args.self.now.over; settled = c.args.self.now.settled } in
    let fresh_stands : HasTaken fresh [] = subst (λ (p : Pass). HasTaken p []) (sym c.end_and_replace-judged.ensures.fresh) c.fresh_pass.ensures.stands in
    let fresh_open = ap is_fine_so_far c.end_and_replace-judged.ensures.fresh ∙ c.fresh_pass.ensures.open in
    subst (λ (t : Tally). StandsFor t (lines ++ line ∷ [])) (sym (c.close_part.ensures.closed ∙ ap (λ (e : Close). closed begun c.in_ok-found.found.number e) c.end_of.ensures))
    (next_stands c.args.self.now fresh c.note_part.new.self c.in_ok-found.found c.end_and_replace-judged.result line c.requires.open next fresh_stands fresh_open
    c.in_ok-found.ensures.number c.in_ok-found.ensures.found c.in_ok-found.ensures.noted c.end_and_replace-judged.ensures.judges lines stands)

pub returns-clause-says : goal.returns-clause-says
returns-clause-says c = λ lines line next stands.
    let fresh : Pass = c.end_and_replace-judged.new.pass in
    let fresh_stands : HasTaken fresh [] = subst (λ (p : Pass). HasTaken p []) (sym c.end_and_replace-judged.ensures.fresh) c.fresh_pass.ensures.stands in
    let fresh_open = ap is_fine_so_far c.end_and_replace-judged.ensures.fresh ∙ c.fresh_pass.ensures.open in
    subst (λ (s : Step). Says s (lines ++ line ∷ [])) (sym (c.close_part.ensures.step ∙ ap (λ (e : Close). step_behind c.in_ok-found.found.number e) c.end_of.ensures))
    (next_says c.args.self.now fresh c.note_part.new.self c.in_ok-found.found c.end_and_replace-judged.result line c.requires.open next fresh_stands fresh_open
    c.in_ok-found.ensures.number c.in_ok-found.ensures.found c.in_ok-found.ensures.noted c.end_and_replace-judged.ensures.judges lines stands)

pub returns-clause-open : goal.returns-clause-open
returns-clause-open c =
    let begun : Tally = record { pass = c.end_and_replace-judged.new.pass; kept = c.note_part.new.self; over = c.args.self.now.over; settled = c.args.self.now.settled } in
    ap is_open c.close_part.ensures.closed ∙ (next_open begun c.in_ok-found.found.number c.end_of.result c.requires.open ∙ sym (ap is_more c.close_part.ensures.step))

pub returns-clause-falls : goal.returns-clause-falls
returns-clause-falls c = λ more.
    let fresh : Pass = c.end_and_replace-judged.new.pass in
    let fresh_stands : HasTaken fresh [] = subst (λ (p : Pass). HasTaken p []) (sym c.end_and_replace-judged.ensures.fresh) c.fresh_pass.ensures.stands in
    let fresh_open = ap is_fine_so_far c.end_and_replace-judged.ensures.fresh ∙ c.fresh_pass.ensures.open in
    subst (λ (t : Tally). left_in t < left_in c.args.self.now) (sym c.close_part.ensures.closed)
    (next_falls c.args.self.now fresh c.note_part.new.self c.in_ok-found.found.number c.end_of.result c.in_ok-found.ensures.count
    (few_parts c.args.self.now c.requires.open c.requires.stands)
    fresh_stands fresh_open (sym (ap is_more c.close_part.ensures.step) ∙ more))
