-- What the table says of the last part.
use Rattle.std.proofs.Common.{◌∷◌, ◌++◌, [], sym, subst, ap, ◌∙◌}
use Rattle.sg_county.proofs.LastEnd.{few_seals, last_ends, last_fits, last_refuses, last_stays}
use Rattle.sg_county.proofs.last.end_last.Goals as goal
use Rattle.sg_county.specs.County.{IsFirstSettled}
use Rattle.sg_county.specs.Tally.{IsRefusal}
use Rattle.sg_county.specs.inside.Ending.{answer_of}
use Rattle.sg_county.specs.inside.Keeping.{Fits}
use Rattle.sg_county.specs.declared.ending.Close.{Close}
use Rattle.sg_county.specs.declared.verdict.CountyVerdict.{CountyVerdict}

pub find-found-requires : goal.find-found-requires
find-found-requires c = few_seals c.args.pass c.args.kept c.requires

pub answer_at-requires : goal.answer_at-requires
answer_at-requires c =
    subst (λ (e : Close). Fits c.find-found.result.number c.args.kept.sums e) (sym c.end_of.ensures)
    (last_fits c.args.pass c.args.kept c.find-found.result c.end.result c.find-found.ensures.number c.find-found.ensures.is c.end.ensures.all c.end.ensures.no c.requires.0 c.requires.1 c.requires.2)

pub returns-clause-all : goal.returns-clause-all
returns-clause-all c = λ before last is.
    subst (λ (v : CountyVerdict). IsFirstSettled before (last ∷ []) v) (sym (c.answer_at.ensures ∙ ap (λ (e : Close). answer_of c.find-found.result.number c.args.kept.sums e) c.end_of.ensures))
    (last_ends c.args.pass c.args.kept c.find-found.result c.end.result c.find-found.ensures.number c.find-found.ensures.is c.end.ensures.all c.end.ensures.no before last is)

pub returns-clause-over : goal.returns-clause-over
returns-clause-over c = λ broken before rest last more is.
    subst (λ (v : CountyVerdict). IsFirstSettled before ((last ++ more) ∷ rest) v) (sym (c.answer_at.ensures ∙ ap (λ (e : Close). answer_of c.find-found.result.number c.args.kept.sums e) c.end_of.ensures))
    (last_stays c.args.pass c.args.kept c.find-found.result c.end.result c.find-found.ensures.number c.find-found.ensures.is c.end.ensures.all c.end.ensures.no before last is rest more broken
    (c.end.ensures.over broken last more is.stands))

pub returns-clause-refuses : goal.returns-clause-refuses
returns-clause-refuses c = λ broken.
    subst (λ (v : CountyVerdict). IsRefusal v) (sym (c.answer_at.ensures ∙ ap (λ (e : Close). answer_of c.find-found.result.number c.args.kept.sums e) c.end_of.ensures))
    (last_refuses c.find-found.result c.end.result c.args.kept.sums (c.end.ensures.no broken))
