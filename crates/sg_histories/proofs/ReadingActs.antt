-- Acts are read from their texts just as the laws of rows take it, and so these laws hold of what rows open to.
use Rattle.std.proofs.Common.{◌≡◌, ℕ, ◌<◌, ◌≤◌, ◌^◌, nat_lt, true, ◌&&◌, List, [], ◌∷◌, None, sym, arith}
use Rattle.std.specs.List.{All, list_all}
use Rattle.std.proofs.lemmas.Bool.{and_parts}
use Rattle.std.proofs.lemmas.List.Elements.{All-cons, All-nil}
use Rattle.sg_lists.proofs.Options.{is_none-true}
use Rattle.sg_plan.specs.Ballots.{ballot_has, candidates_of}
use Rattle.sg_plan.specs.Codes.{codes_of}
use Rattle.sg_plan.specs.Limits.{fault_of}
use Rattle.sg_plan.specs.declared.plan.Draw.TheVariants as draw
use Rattle.sg_plan.specs.declared.plan.Mark.{Mark}
use Rattle.sg_plan.specs.declared.plan.Plan.{Plan}
use Rattle.sg_plan.proofs.PlanLaws.{bounds}
use Rattle.sg_forms.proofs.WordKinds.{bytes_everywhere, bytes_in_list}
use Rattle.sg_acts.specs.declared.asks.Act.{Act}
use Rattle.sg_acts.specs.declared.asks.Act.TheVariants as act
use Rattle.sg_acts.specs.declared.replies.FateWord.TheVariants as word
use Rattle.sg_acts.specs.declared.replies.Phase.TheVariants as phase
use Rattle.sg_desks.specs.ActTexts.{HasNumbers, IsMark}
use Rattle.sg_desks.proofs.ActsFound.{acts_are_spelled}
use Rattle.sg_desks.proofs.ActsRead.{acts_are_read}
use Rattle.sg_post.proofs.Claims.{has-within}
use Rattle.sg_histories.specs.Answers.{audit_refusal, early_refusal, is_ballot, scan_refusal}
use Rattle.sg_histories.specs.Lawful.{IsCounted}
use Rattle.sg_histories.specs.RowLaws.{ActInReadsActs}
use Rattle.sg_histories.specs.ValidRows.{fits}
use Rattle.sg_histories.proofs.Accepted.{early, first_none}
use Rattle.sg_histories.proofs.FewMarks.{few_marks, mark_small}
use Rattle.sg_histories.proofs.Fitting.{audit_fits}
use Rattle.sg_histories.proofs.FittingStories.{candidates_pass}
use Rattle.sg_histories.proofs.PlanRaces.{small_ballots}

-- NUMBERS

marks_small : (plan : Plan) (marks : List Mark) → fault_of plan ≡ None → list_all (λ mark. nat_lt mark.candidate (candidates_of plan mark.race)) marks ≡ true → All IsMark marks
marks_small plan [] kept all = All-nil IsMark
marks_small plan (mark ∷ marks) kept all =
    let parts = and_parts (nat_lt mark.candidate (candidates_of plan mark.race)) (list_all (λ m. nat_lt m.candidate (candidates_of plan m.race)) marks) all in
    let small = mark_small plan mark kept parts.0 in
    All-cons IsMark mark marks (below mark.race 32 small.0 (omega arith), below mark.candidate 16 small.1 (omega arith)) (marks_small plan marks kept parts.1)
  where
    below : (a b : ℕ) → a < b → b ≤ 32 → a < 2 ^ 32
    below a b h k = omega (arith, h, k)

-- the numbers of an act that fits are in the ranges of their types
pub numbers_fit : (plan : Plan) (done : Act) → fault_of plan ≡ None → IsCounted done → fits plan done ≡ true → HasNumbers done
numbers_fit plan (act.Scan ballot marks) kept counted f =
    let known = (early plan phase.Voting word.Unused ballot (first_none (early_refusal plan phase.Voting word.Unused ballot) _ (is_none-true (scan_refusal plan phase.Voting word.Unused ballot marks) f)).0).ballot_is in
    (small_ballots plan kept ballot known, marks_small plan marks kept (candidates_pass plan ballot marks f))
numbers_fit plan (act.Spoil ballot) kept counted f = small_ballots plan kept ballot (early plan phase.Voting word.Unused ballot (is_none-true (early_refusal plan phase.Voting word.Unused ballot) f)).ballot_is
numbers_fit plan (act.Audit ballot paper) kept counted f = small_ballots plan kept ballot (audit_fits plan phase.Voting word.Unused ballot paper (is_none-true (audit_refusal plan phase.Voting word.Unused ballot paper) f)).0
numbers_fit plan act.Close kept counted f = tt
numbers_fit plan (act.Draw draw.Full) kept counted f = tt
numbers_fit plan (act.Draw (draw.Public bytes)) kept counted f = bytes_in_list bytes counted
numbers_fit plan (act.Claim ballot race code) kept counted f =
    let parts = and_parts (is_ballot plan ballot) (ballot_has plan ballot race && nat_lt code (codes_of plan.version)) f in
    let has = (and_parts (ballot_has plan ballot race) (nat_lt code (codes_of plan.version)) parts.1).0 in
    let within = has-within plan ballot race kept has in
    let few = (bounds plan kept).few_races in
    (small_ballots plan kept ballot parts.0, omega (arith, within, few))
numbers_fit plan (act.Void ballot) kept counted f = small_ballots plan kept ballot f

-- an act that fits, with numbers in the ranges of their types, is counted
counted_fit : (plan : Plan) (done : Act) → fault_of plan ≡ None → HasNumbers done → fits plan done ≡ true → IsCounted done
counted_fit plan (act.Scan ballot marks) kept numbers f = (let few = few_marks plan ballot marks kept f in omega (arith, few))
counted_fit plan (act.Spoil ballot) kept numbers f = tt
counted_fit plan (act.Audit ballot paper) kept numbers f = tt
counted_fit plan act.Close kept numbers f = tt
counted_fit plan (act.Draw draw.Full) kept numbers f = tt
counted_fit plan (act.Draw (draw.Public bytes)) kept numbers f = bytes_everywhere bytes numbers
counted_fit plan (act.Claim ballot race code) kept numbers f = tt
counted_fit plan (act.Void ballot) kept numbers f = tt

pub act_in_reads_acts : ActInReadsActs
act_in_reads_acts setup kept = record {
  found = λ done is f. acts_are_read setup.plan.version done (record { numbers = numbers_fit setup.plan done kept is.counted f; codes = is.codes });
  only = λ text done e f.
      let said = acts_are_spelled setup.plan.version text done e in
      (record { codes = said.0.codes; counted = counted_fit setup.plan done kept said.0.numbers f }, sym said.1);
}
