use Rattle.std.proofs.Common.{◌≤◌, ◌+◌, ◌*◌, List, ℕ, ap, ap₂, sym, get_or, length, ◌∙◌, arith}
use Rattle.std.proofs.lemmas.Nat.{mul-add-lt, mul-le}
use Rattle.std.proofs.lemmas.Option.{get_or_from_slice_get}
use Rattle.sg_plan.proofs.IndexLists.{count_to-at, few_runs_of, length-counts_to}
use Rattle.sg_plan.proofs.PlanLaws.{bounds}
use Rattle.sg_plan.proofs.index_reads.count_of.Goals as goal

pub overflow_mul-at : goal.overflow_mul-at
overflow_mul-at c =
    let plan = c.args.plan.now in
    let few : c.len.result ≤ 20000 = omega (arith, c.len.ensures, few_runs_of plan c.requires.good) in
    let race : c.args.race ≤ 32 = omega (arith, c.requires.race, (bounds plan c.requires.good).few_races) in
    omega (arith, mul-le c.args.race c.len.result 32 20000 race few)

pub overflow_add-at : goal.overflow_add-at
overflow_add-at c =
    let plan = c.args.plan.now in
    let few : c.len.result ≤ 20000 = omega (arith, c.len.ensures, few_runs_of plan c.requires.good) in
    let race : c.args.race ≤ 32 = omega (arith, c.requires.race, (bounds plan c.requires.good).few_races) in
    omega (arith, mul-le c.args.race c.len.result 32 20000 race few, c.requires.number, few_runs_of plan c.requires.good)

pub get-requires : goal.get-requires
get-requires c =
    let plan = c.args.plan.now in
    omega (
      arith,
      ap (λ (n : ℕ). c.args.race * n) c.len.ensures,
      ap (λ (l : List ℕ). length l) c.requires.counts,
      length-counts_to plan (length plan.races),
      mul-add-lt c.args.race (length plan.runs) c.args.number (length plan.races) c.requires.race c.requires.number,
    )

pub returns : goal.returns
returns c =
    let plan = c.args.plan.now in
    c.from.ensures
    ∙ (sym (get_or_from_slice_get c.args.counts.now (c.args.race * c.len.result + c.args.number) c.get.result.now 0 c.get.ensures.item)
    ∙ (ap₂ (λ (l : List ℕ) (n : ℕ). get_or l (c.args.race * n + c.args.number) 0) c.requires.counts c.len.ensures
    ∙ count_to-at plan (length plan.races) c.args.race c.args.number c.requires.race c.requires.number))
