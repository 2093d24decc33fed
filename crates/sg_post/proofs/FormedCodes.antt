-- The codes that an office posts are those of the columns, and of the version.
use Rattle.std.proofs.Common.{◌≡◌, ℕ, zero, suc, ◌+◌, ◌/◌, ◌<◌, ◌≤◌, ◌==◌, true, ◌&&◌, List, [], ◌∷◌, ◌++◌, All, length, take, drop, map, None, refl, sym, ap, ◌∙◌, arith}
use Rattle.std.proofs.Math.Seq.{drop-append_seam, take-append_seam}
use Rattle.std.proofs.lemmas.Bool.{and_from, eq-eqb, lt-ltb}
use Rattle.std.proofs.lemmas.List.Elements.{All-head, All-tail}
use Rattle.std.specs.List.{flat_map, range_with_len}
use Rattle.sg_plan.proofs.LimitLaws.{keeps_limits, passes_tests}
use Rattle.sg_plan.proofs.PlanLaws.{bounds}
use Rattle.sg_plan.specs.Ballots.{candidates_of, entry_at, races_of_ballot, style_of_ballot}
use Rattle.sg_plan.specs.Codes.{is_code}
use Rattle.sg_plan.specs.Limits.{fault_of}
use Rattle.sg_plan.specs.declared.plan.Plan.{Plan}
use Rattle.sg_streams.specs.Numbers.{numbers_below}
use Rattle.sg_tables.proofs.Lists.{length-map_below}
use Rattle.sg_tables.proofs.TableLaws.{code_laws, opening_laws}
use Rattle.sg_tables.proofs.Values.{code_beside-below, shown_by-below}
use Rattle.sg_tables.specs.Tables.{code_beside, shown_by}
use Rattle.sg_grammar.proofs.Making.{candidates_within}
use Rattle.sg_record.proofs.BlockLines.{ballot-each}
use Rattle.sg_record.proofs.Limits.{ballot_two}
use Rattle.sg_record.specs.Formed.{are_columns, each_passes, has_columns}
use Rattle.sg_post.specs.Posted.{audited_codes, audited_race_codes, code_in_row, code_line_of, race_codes_of}
use Rattle.sg_post.proofs.Numbered.{flat-numbers}

pub code-below : (plan : Plan) (seed : List ℕ) (ballot race column : ℕ) → fault_of plan ≡ None → race < length plan.races → is_code plan (code_line_of plan seed ballot race column).code ≡ true
unfolding code_in_row
code-below plan seed ballot race column fine within =
    let entry : ℕ = entry_at plan race ballot column in
    let sizes = bounds plan fine in
    let some : 0 < candidates_of plan race = omega (arith, sizes.two_candidates race within) in
    let is = opening_laws.code plan seed race entry ∙ code_laws.beside plan seed race entry in
    let below = code_beside-below plan seed race (entry / candidates_of plan race) (shown_by plan seed race entry) (keeps_limits plan (passes_tests plan fine)).version (sizes.few_candidates race) (shown_by-below plan seed race entry some) in
    ap (is_code plan) is ∙ lt-ltb (code_beside plan seed race (entry / candidates_of plan race) (shown_by plan seed race entry)) _ below

-- a code for each column of a race
columns-pass : (plan : Plan) (seed : List ℕ) (ballot race at count : ℕ) → fault_of plan ≡ None → race < length plan.races
    → each_passes (λ column code. (code.race == race && code.column == column) && is_code plan code.code) at (map (code_line_of plan seed ballot race) (range_with_len at count)) ≡ true
unfolding code_in_row
columns-pass plan seed ballot race at zero fine within = refl
columns-pass plan seed ballot race at (suc count) fine within =
    rw (eq-eqb race race refl, eq-eqb at at refl)
    (and_from (is_code plan (code_line_of plan seed ballot race at).code) _ (code-below plan seed ballot race at fine within) (columns-pass plan seed ballot race (at + 1) count fine within))

pub race-columns : (plan : Plan) (seed : List ℕ) (ballot race : ℕ) → fault_of plan ≡ None → race < length plan.races → has_columns plan race (race_codes_of plan seed ballot race) ≡ true
unfolding numbers_below
race-columns plan seed ballot race fine within =
    and_from (length (race_codes_of plan seed ballot race) == candidates_of plan race) _
    (eq-eqb (length (race_codes_of plan seed ballot race)) (candidates_of plan race) (length-map_below (code_line_of plan seed ballot race) (candidates_of plan race)))
    (columns-pass plan seed ballot race 0 (candidates_of plan race) fine within)

-- and of races, one after another
races-columns : (plan : Plan) (seed : List ℕ) (ballot : ℕ) (races : List ℕ) → fault_of plan ≡ None → All (λ race. 2 ≤ candidates_of plan race) races
    → are_columns plan races (flat_map (race_codes_of plan seed ballot) races) ≡ true
races-columns plan seed ballot [] fine two = refl
races-columns plan seed ballot (race ∷ races) fine two =
    let some = All-head (λ r. 2 ≤ candidates_of plan r) race races two in
    let codes = race_codes_of plan seed ballot race in
    let others = flat_map (race_codes_of plan seed ballot) races in
    let many : length codes ≡ candidates_of plan race = length-map_below (code_line_of plan seed ballot race) (candidates_of plan race) in
    let front : take (candidates_of plan race) (codes ++ others) ≡ codes = ap (λ n. take n (codes ++ others)) (sym many) ∙ take-append_seam codes others in
    let back : drop (candidates_of plan race) (codes ++ others) ≡ others = ap (λ n. drop n (codes ++ others)) (sym many) ∙ drop-append_seam codes others in
    rw (front, back)
    (and_from (has_columns plan race codes) (are_columns plan races others) (race-columns plan seed ballot race fine (candidates_within plan race (omega (arith, some))))
    (races-columns plan seed ballot races fine (All-tail (λ r. 2 ≤ candidates_of plan r) race races two)))

pub audited-columns : (plan : Plan) (seed : List ℕ) (ballot : ℕ) → fault_of plan ≡ None → are_columns plan (races_of_ballot plan ballot) (audited_codes plan seed ballot) ≡ true
unfolding audited_codes
audited-columns plan seed ballot fine =
    rw (flat-numbers (audited_race_codes plan seed ballot) (length plan.races), ballot-each plan ballot (race_codes_of plan seed ballot) fine)
    (races-columns plan seed ballot (races_of_ballot plan ballot) fine (ballot_two plan fine (style_of_ballot plan ballot)))
