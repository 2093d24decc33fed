-- No code before this one is the code.
use Rattle.std.proofs.Common.{◌≡◌, ◌==◌, true, false, ◌||◌, ◌+◌, drop, arith, ap, sym, ◌∙◌}
use Rattle.std.proofs.lemmas.Bool.{eq-eqb, ne_eqb}
use Rattle.sg_tables.specs.Posts.{has_code}
use Rattle.sg_tables.specs.Tables.{code_beside, codes_of_row}
use Rattle.sg_tables.proofs.Filtered.{code-end, code-here}
use Rattle.sg_tables.proofs.TableLaws.{codes_differ}
use Rattle.sg_tables.proofs.table_set.Tables.prints_code.Goals as goal

pub returns-then-code : goal.returns-then-code
returns-then-code c =
    let plan = c.args.self.now.plan in
    let seed = c.args.self.now.seed in
    let at = c.loop-candidate.candidate in
    let beside = code_beside plan seed c.args.race c.args.ballot_row at in
    let codes = codes_of_row plan seed c.args.race c.args.ballot_row in
    let differ = codes_differ plan seed c.args.race c.args.ballot_row c.lists.ensures.limits c.requires.race in
    let here = code-here codes at beside c.args.code (differ.listed at (omega (arith, c.loop-candidate-test.true, c.lists.ensures.lists.candidates))) in
    let is : (beside == c.args.code) ≡ true = eq-eqb beside c.args.code (sym c.code.ensures.value ∙ c.if-code.true) in
    sym (sym c.loop-candidate.invariant ∙ here ∙ ap (λ b. b || has_code (drop (at + 1) codes) c.args.code) is)

pub loop-candidate-preserved : goal.loop-candidate-preserved
loop-candidate-preserved c =
    let plan = c.args.self.now.plan in
    let seed = c.args.self.now.seed in
    let at = c.loop-candidate.candidate in
    let beside = code_beside plan seed c.args.race c.args.ballot_row at in
    let codes = codes_of_row plan seed c.args.race c.args.ballot_row in
    let differ = codes_differ plan seed c.args.race c.args.ballot_row c.lists.ensures.limits c.requires.race in
    let here = code-here codes at beside c.args.code (differ.listed at (omega (arith, c.loop-candidate-test.true, c.lists.ensures.lists.candidates))) in
    let is : (beside == c.args.code) ≡ false = ne_eqb beside c.args.code (λ same. c.if-code.false (c.code.ensures.value ∙ same)) in
    sym (here ∙ ap (λ b. b || has_code (drop (at + 1) codes) c.args.code) is) ∙ c.loop-candidate.invariant

pub returns : goal.returns
returns c =
    let plan = c.args.self.now.plan in
    let seed = c.args.self.now.seed in
    let codes = codes_of_row plan seed c.args.race c.args.ballot_row in
    let differ = codes_differ plan seed c.args.race c.args.ballot_row c.lists.ensures.limits c.requires.race in
    sym (sym c.loop-candidate.invariant
    ∙ code-end codes c.loop-candidate.candidate c.args.code (omega (arith, differ.many, c.loop-candidate-test.false, c.lists.ensures.lists.candidates)))
