use Rattle.std.proofs.Common.{◌-◌, ◌≤◌, ap, length, ne_eqb, sym, arith}
use Rattle.std.proofs.lemmas.Option.{slice_get_past}
use Rattle.sg_plan.proofs.IndexLists.{length-numbers}
use Rattle.sg_plan.specs.Ballots.{ballot_styles}
use Rattle.sg_plan.proofs.run_numbers.RunNumbers.style_at.Goals as goal

pub returns-then-ballot-len : goal.returns-then-ballot-len
returns-then-ballot-len c =
    let past : length (ballot_styles c.args.runs.now) ≤ c.args.ballot - 1
    = omega (arith, c.len.ensures, ap length c.self.view_is, ap length c.requires.numbers, length-numbers 0 c.args.runs.now, c.if-ballot-eq0.false, c.if-ballot-len.true) in
    rw (ne_eqb c.args.ballot 0 c.if-ballot-eq0.false) (sym (slice_get_past (ballot_styles c.args.runs.now) (c.args.ballot - 1) past))

pub style_of-requires-clause-last : goal.style_of-requires-clause-last
style_of-requires-clause-last c =
    omega (arith, c.len.ensures, ap length c.self.view_is, ap length c.requires.numbers, length-numbers 0 c.args.runs.now, c.if-ballot-len.false)
