use Rattle.std.proofs.Common.{◌≡◌, ◌+◌, List, ℕ, ap, ap₂, sym, get_or, length, ◌∙◌, arith}
use Rattle.std.proofs.lemmas.Nat.{mul-le}
use Rattle.std.proofs.lemmas.Option.{get_or_from_slice_get}
use Rattle.sg_plan.proofs.IndexLists.{ballot_tells, ballots_to-more, few_ballots_to}
use Rattle.sg_plan.proofs.PlanLaws.{bounds}
use Rattle.sg_plan.specs.inside.Index.{ballots_to}
use Rattle.sg_plan.proofs.index_reads.ballot_in.Goals as goal

pub overflow_add-at : goal.overflow_add-at
overflow_add-at c =
    let plan = c.args.plan.now in
    let few = bounds plan c.requires.good in
    omega (
      arith,
      c.first_of-first.ensures,
      ballots_to-more plan c.args.race (length plan.races) c.requires.race,
      few_ballots_to plan (length plan.races) 20000 few.few_ballots few.few_rows,
      mul-le (length plan.races) 20000 32 20000 few.few_races (omega arith),
      c.requires.row,
    )

pub get-requires : goal.get-requires
get-requires c =
    let plan = c.args.plan.now in
    omega (
      arith,
      c.first_of-first.ensures,
      ap (λ (l : List ℕ). length l) c.requires.ballots,
      ballots_to-more plan c.args.race (length plan.races) c.requires.race,
      c.requires.row,
    )

pub returns : goal.returns
returns c =
    let plan = c.args.plan.now in
    let tells = ballot_tells plan (length plan.races) c.args.race c.args.row c.requires.race c.requires.row in
    let is : c.from.result ≡ get_or (ballots_to plan (length plan.races)) (length (ballots_to plan c.args.race) + c.args.row) 0
    = c.from.ensures
    ∙ (sym (get_or_from_slice_get c.args.ballots.now (c.first_of-first.result + c.args.row) c.get.result.now 0 c.get.ensures.item)
    ∙ ap₂ (λ (l : List ℕ) (n : ℕ). get_or l (n + c.args.row) 0) c.requires.ballots c.first_of-first.ensures) in
    record {
      has = rw is tells.has;
      row = rw is tells.row_is;
      first = rw is tells.first;
      last = rw is tells.last;
    }
