-- No column before this one posts the code.
use Rattle.std.proofs.Common.{◌≡◌, ℕ, arith, ap, sym, ◌∙◌}
use Rattle.sg_lists.proofs.Lists.{map-map}
use Rattle.sg_plan.specs.Ballots.{candidates_of}
use Rattle.sg_tables.specs.Posts.{column_marked, has_code, marked_columns, posted_codes, row_entry}
use Rattle.sg_tables.specs.Tables.{code_of_entry}
use Rattle.sg_tables.proofs.Filtered.{has_upto, upto-found, upto-none, upto-step}
use Rattle.sg_tables.proofs.table_set.Tables.posts_code.Goals as goal

pub loop-column-init : goal.loop-column-init
loop-column-init c =
    let plan = c.args.self.now.plan in
    let seed = c.args.self.now.seed in
    upto-none (λ (column : ℕ). code_of_entry plan seed c.args.race (row_entry plan c.args.race c.args.ballot_row column))
    (column_marked plan seed c.args.race c.args.ballot_row c.args.fate.now) c.args.code

pub returns-then-column_posts : goal.returns-then-column_posts
unfolding posted_codes
returns-then-column_posts c =
    let plan = c.args.self.now.plan in
    let seed = c.args.self.now.seed in
    let code = λ (column : ℕ). code_of_entry plan seed c.args.race (row_entry plan c.args.race c.args.ballot_row column) in
    let marked = column_marked plan seed c.args.race c.args.ballot_row c.args.fate.now in
    sym (ap (λ l. has_code l c.args.code) (map-map (code_of_entry plan seed c.args.race) (row_entry plan c.args.race c.args.ballot_row) (marked_columns plan seed c.args.race c.args.ballot_row c.args.fate.now))
    ∙ upto-found code marked c.args.code c.loop-column.column (candidates_of plan c.args.race) (omega (arith, c.loop-column-test.true, c.lists.ensures.lists.candidates))
    (sym c.column_posts.ensures ∙ c.if-column_posts.true))

pub loop-column-preserved : goal.loop-column-preserved
loop-column-preserved c =
    let plan = c.args.self.now.plan in
    let seed = c.args.self.now.seed in
    upto-step (λ (column : ℕ). code_of_entry plan seed c.args.race (row_entry plan c.args.race c.args.ballot_row column))
    (column_marked plan seed c.args.race c.args.ballot_row c.args.fate.now) c.args.code c.loop-column.column c.loop-column.invariant
    (sym c.column_posts.ensures ∙ c.if-column_posts.false)

pub returns : goal.returns
unfolding posted_codes
returns c =
    let plan = c.args.self.now.plan in
    let seed = c.args.self.now.seed in
    let code = λ (column : ℕ). code_of_entry plan seed c.args.race (row_entry plan c.args.race c.args.ballot_row column) in
    let marked = column_marked plan seed c.args.race c.args.ballot_row c.args.fate.now in
    let all : c.loop-column.column ≡ candidates_of plan c.args.race = omega (arith, c.loop-column-test.false, c.loop-column.auto.column-end, c.lists.ensures.lists.candidates) in
    sym (ap (λ l. has_code l c.args.code) (map-map (code_of_entry plan seed c.args.race) (row_entry plan c.args.race c.args.ballot_row) (marked_columns plan seed c.args.race c.args.ballot_row c.args.fate.now))
    ∙ ap (has_upto code marked c.args.code) (sym all)
    ∙ c.loop-column.invariant)
