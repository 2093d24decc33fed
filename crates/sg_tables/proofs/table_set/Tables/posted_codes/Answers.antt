-- Each turn adds the code of the next column, where it is marked.
use Rattle.std.proofs.Common.{◌≡◌, ℕ, map, arith, ap, sym, ◌∙◌}
use Rattle.std.specs.List.{filter}
use Rattle.sg_lists.proofs.Lists.{map-map}
use Rattle.sg_plan.specs.Ballots.{candidates_of}
use Rattle.sg_streams.specs.Numbers.{numbers_below}
use Rattle.sg_tables.specs.Posts.{column_marked, marked_columns, posted_codes, row_entry}
use Rattle.sg_tables.specs.Tables.{code_of_entry}
use Rattle.sg_tables.proofs.Filtered.{passing-more, passing-none, passing-same}
use Rattle.sg_tables.proofs.table_set.Tables.posted_codes.Goals as goal

pub loop-column-init : goal.loop-column-init
loop-column-init c =
    let plan = c.args.self.now.plan in
    let seed = c.args.self.now.seed in
    c.new-codes.ensures
    ∙ sym (passing-none (λ (column : ℕ). code_of_entry plan seed c.args.race (row_entry plan c.args.race c.args.ballot_row column))
    (column_marked plan seed c.args.race c.args.ballot_row c.args.fate.now))

pub loop-column-preserved-then-not-column_marked : goal.loop-column-preserved-then-not-column_marked
loop-column-preserved-then-not-column_marked c =
    let plan = c.args.self.now.plan in
    let seed = c.args.self.now.seed in
    passing-same (λ (column : ℕ). code_of_entry plan seed c.args.race (row_entry plan c.args.race c.args.ballot_row column))
    (column_marked plan seed c.args.race c.args.ballot_row c.args.fate.now) c.loop-column.column c.loop-column.codes
    (sym c.column_marked.ensures ∙ c.if-not-column_marked.true) c.loop-column.invariant

pub loop-column-preserved : goal.loop-column-preserved
loop-column-preserved c =
    let plan = c.args.self.now.plan in
    let seed = c.args.self.now.seed in
    passing-more (λ (column : ℕ). code_of_entry plan seed c.args.race (row_entry plan c.args.race c.args.ballot_row column))
    (column_marked plan seed c.args.race c.args.ballot_row c.args.fate.now) c.loop-column.column c.loop-column.codes c.push.new.self c.entry_code.result
    (sym c.column_marked.ensures ∙ c.if-not-column_marked.false) c.loop-column.invariant
    (c.entry_code.ensures.value ∙ ap (code_of_entry plan seed c.args.race) c.row_entry.ensures.value) c.in_ok-push.ensures.ok

pub returns : goal.returns
unfolding posted_codes
returns c =
    let plan = c.args.self.now.plan in
    let seed = c.args.self.now.seed in
    let code = λ (column : ℕ). code_of_entry plan seed c.args.race (row_entry plan c.args.race c.args.ballot_row column) in
    let all : c.loop-column.column ≡ candidates_of plan c.args.race = omega (arith, c.loop-column-test.false, c.loop-column.auto.column-end, c.lists.ensures.lists.candidates) in
    c.loop-column.invariant
    ∙ ap (λ n. map code (filter (column_marked plan seed c.args.race c.args.ballot_row c.args.fate.now) (numbers_below n))) all
    ∙ sym (map-map (code_of_entry plan seed c.args.race) (row_entry plan c.args.race c.args.ballot_row) (marked_columns plan seed c.args.race c.args.ballot_row c.args.fate.now))
