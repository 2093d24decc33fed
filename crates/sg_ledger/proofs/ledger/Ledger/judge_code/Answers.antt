use Rattle.std.proofs.Common.{◌≡◌, ℕ, ◌+◌, ◌&&◌, nat_le, not, Option, None, get_or, ap, ap₂, ◌∙◌, arith}
use Rattle.sg_grammar.specs.Lines.{is_cast}
use Rattle.sg_check.specs.Facts.{code_commitment}
use Rattle.sg_check.specs.Kinds.{code_opening, opens_digest}
use Rattle.sg_commit.specs.declared.CommitKind.TheVariants as commit
use Rattle.sg_commit.specs.declared.Digest.{Digest}
use Rattle.sg_ledger.proofs.Judged.{rule_judged}
use Rattle.sg_ledger.proofs.Places.{entry_place-end}
use Rattle.sg_plan.proofs.PlanLaws.{bounds, entry_tells}
use Rattle.sg_plan.specs.Ballots.{candidates_of, entry_at, entry_place}
use Rattle.sg_ledger.proofs.ledger.Ledger.judge_code.Goals as goal

pub overflow_add-own : goal.overflow_add-own
overflow_add-own c =
    let plan = c.args.self.now.book in
    omega (
      arith,
      c.entry_place-at.ensures.place,
      c.requires.placed.4,
      (bounds plan c.plan.ensures.good).few_all_entries,
      entry_place-end plan c.args.race (c.first_entry-first.result + candidates_of plan c.args.race) c.requires.placed.0 c.first_entry-first.ensures.within,
    )

pub overflow_add-first : goal.overflow_add-first
overflow_add-first c =
    let plan = c.args.self.now.book in
    omega (arith, c.requires.placed.4, c.first_entry-first.ensures.within, (bounds plan c.plan.ensures.good).few_entries c.args.race c.requires.placed.0)

pub is_code_bad-opening-requires-clause-at : goal.is_code_bad-opening-requires-clause-at
is_code_bad-opening-requires-clause-at c =
    let plan = c.args.self.now.book in
    omega (
      arith,
      c.entry_place-at.ensures.place,
      c.requires.placed.4,
      c.requires.sized.codes,
      entry_place-end plan c.args.race (c.first_entry-first.result + candidates_of plan c.args.race) c.requires.placed.0 c.first_entry-first.ensures.within,
    )

pub is_code_bad-opening-requires-clause-race : goal.is_code_bad-opening-requires-clause-race
is_code_bad-opening-requires-clause-race c = omega (arith, c.requires.placed.0, (bounds c.args.self.now.book c.plan.ensures.good).few_races)

pub are_against-against-requires-clause-few : goal.are_against-against-requires-clause-few
are_against-against-requires-clause-few c =
    let plan = c.args.self.now.book in
    omega (
      arith,
      c.entry_place-at.ensures.place,
      c.candidates-candidates.ensures,
      (bounds plan c.plan.ensures.good).few_all_entries,
      entry_place-end plan c.args.race (c.first_entry-first.result + candidates_of plan c.args.race) c.requires.placed.0 c.first_entry-first.ensures.within,
    )

pub are_against-against-requires-clause-within : goal.are_against-against-requires-clause-within
are_against-against-requires-clause-within c =
    let plan = c.args.self.now.book in
    omega (
      arith,
      c.entry_place-at.ensures.place,
      c.candidates-candidates.ensures,
      c.requires.sized.known,
      entry_place-end plan c.args.race (c.first_entry-first.result + candidates_of plan c.args.race) c.requires.placed.0 c.first_entry-first.ensures.within,
    )

pub returns : goal.returns
returns c = λ lines tells.
    let plan = c.args.self.now.book in
    let race = c.args.race in
    let kept = c.args.self.now.codes in
    let in_plan = c.requires.placed in
    let few = bounds plan c.plan.ensures.good in
    let place = c.entry_place-at.result in
    let entry = entry_at plan race c.args.ballot c.args.column in
    let entry_is : c.first_entry-first.result + c.args.column ≡ entry = omega (arith, c.first_entry-first.ensures.first) in
    let place_is : place + c.args.column ≡ entry_place plan race entry = omega (arith, c.entry_place-at.ensures.place, c.first_entry-first.ensures.first) in
    let digest_is : get_or c.args.self.now.commitments.codes (place + c.args.column) None ≡ code_commitment race entry lines =
    rw place_is (tells.commitments.codes race entry in_plan.0 (entry_tells plan race c.args.ballot c.args.column in_plan.3 in_plan.4).below) in
    let opening = c.is_code_bad-opening.ensures
    ∙ ap₂ (λ (d : Option Digest) (e : ℕ). not (opens_digest d commit.Q race 0 e (code_opening c.args.code.now))) digest_is entry_is in
    let found = rw c.candidates-candidates.ensures at c.are_against-against.ensures.some in
    let none = rw c.candidates-candidates.ensures at c.are_against-against.ensures.none in
    let rule = rule_judged plan kept.known kept.marks lines c.args.block c.args.ballot race c.args.column c.args.code.now place c.has_enough-many.result c.are_against-against.result
    in_plan.0 in_plan.3 (omega (arith, few.few_votes race, few.few_candidates race)) tells.placed tells.codes.known tells.codes.marks
    (c.entry_place-at.ensures.place ∙ ap (λ (e : ℕ). entry_place plan race e) c.first_entry-first.ensures.first)
    (c.has_enough-many.ensures ∙ ap (λ (v : ℕ). is_cast c.args.block && nat_le v (get_or kept.marks place 0)) c.votes.ensures) found none in
    rw (opening, rule, c.is_answer_wrong-dispute.ensures lines tells) at c.kind_of_code.ensures
