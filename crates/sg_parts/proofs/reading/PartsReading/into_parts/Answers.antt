-- The rows are cut, and each of them is right or one isn't.
use Rattle.std.proofs.Common.{◌≡◌, IfErr, IfOk, List, Ok, Err, Result, ap, length, subst, sym, ◌∙◌}
use Rattle.sg_plan.specs.Ballots.{r_rows}
use Rattle.sg_plan.specs.declared.plan.Plan.{Plan}
use Rattle.sg_parts.proofs.Finding.{all_complete, all_taken}
use Rattle.sg_parts.proofs.Wholes.{rest_given, rows_off}
use Rattle.sg_parts.specs.declared.parts.RowGiven.{RowGiven}
use Rattle.sg_parts.specs.inside.Cutting.{AreCut}
use Rattle.sg_parts.proofs.reading.PartsReading.into_parts.Goals as goal

cut_is : (index plan : Plan) (from rows : List RowGiven) (cut : List (List (List RowGiven))) → index ≡ plan → from ≡ rows → AreCut index from cut → AreCut plan rows cut
cut_is index plan from rows cut same are is = subst (λ (p : Plan). AreCut p rows cut) same (subst (λ (r : List RowGiven). AreCut index r cut) are is)

pub cut_races-cut-requires : goal.cut_races-cut-requires
cut_races-cut-requires c = ap length c.as_slice.ensures ∙ ((all_taken c.args.self c.requires.some.0 c.requires.some.1 c.requires.whole.all).long ∙ sym (ap r_rows c.requires.some.1.index))

pub whole_parts-requires-clause-accepted : goal.whole_parts-requires-clause-accepted
whole_parts-requires-clause-accepted c = c.requires.some.1.of_record.accepted

pub whole_parts-requires-clause-index : goal.whole_parts-requires-clause-index
whole_parts-requires-clause-index c = c.requires.some.1.index

pub whole_parts-requires-clause-printed : goal.whole_parts-requires-clause-printed
whole_parts-requires-clause-printed c = (all_taken c.args.self c.requires.some.0 c.requires.some.1 c.requires.whole.all).sheet.printed

pub whole_parts-requires-clause-stands : goal.whole_parts-requires-clause-stands
whole_parts-requires-clause-stands c = c.requires.whole.stands

pub whole_parts-requires-clause-rows : goal.whole_parts-requires-clause-rows
whole_parts-requires-clause-rows c = (cut_is c.args.self.index c.args.self.posted.plan c.as_slice.result.now c.args.self.rows c.in-Ok.cut c.requires.some.1.index c.as_slice.ensures c.in-Ok.ensures).rows_fit

pub whole_parts-requires-clause-openings : goal.whole_parts-requires-clause-openings
whole_parts-requires-clause-openings c =
    let all = all_taken c.args.self c.requires.some.0 c.requires.some.1 c.requires.whole.all in
    let are = cut_is c.args.self.index c.args.self.posted.plan c.as_slice.result.now c.args.self.rows c.in-Ok.cut c.requires.some.1.index c.as_slice.ensures c.in-Ok.ensures in
    (all_complete c.args.self c.requires.some.0 c.requires.some.1 all c.in-Ok.cut are).openings

ok_as : {A E : Type 0} {P Q : A → Type 0} (result : Result A E) → IfOk result P → ((x : A) → P x → Q x) → IfOk result Q
ok_as (Ok x) is then = then x is
ok_as (Err e) is then = tt

err_as : {A E : Type 0} {P Q : E → Type 0} (result : Result A E) → IfErr result P → ((e : E) → P e → Q e) → IfErr result Q
err_as (Ok x) is then = tt
err_as (Err e) is then = then e is

pub returns-in-Ok-clause-parts : goal.returns-in-Ok-clause-parts
returns-in-Ok-clause-parts c =
    ok_as c.whole_parts.result c.whole_parts.ensures.ok
    (λ parts are lines has.
    let all = all_taken c.args.self lines has c.requires.whole.all in
    let cut = cut_is c.args.self.index c.args.self.posted.plan c.as_slice.result.now c.args.self.rows c.in-Ok.cut c.requires.some.1.index c.as_slice.ensures c.in-Ok.ensures in
    rest_given lines c.args.self.posted c.args.self.codes all.rest all.sheet c.in-Ok.cut parts (all_complete c.args.self lines has all c.in-Ok.cut cut) are)

pub returns-in-Ok-clause-fault : goal.returns-in-Ok-clause-fault
returns-in-Ok-clause-fault c =
    err_as c.whole_parts.result c.whole_parts.ensures.err
    (λ off is lines has.
    let all = all_taken c.args.self lines has c.requires.whole.all in
    let cut = cut_is c.args.self.index c.args.self.posted.plan c.as_slice.result.now c.args.self.rows c.in-Ok.cut c.requires.some.1.index c.as_slice.ensures c.in-Ok.ensures in
    rows_off lines c.args.self.posted c.args.self.codes all.rest all.sheet c.requires.whole.stands c.in-Ok.cut off (all_complete c.args.self lines has all c.in-Ok.cut cut) is)
