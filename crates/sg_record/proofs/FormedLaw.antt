-- The lines of each formed record, one after another in their places.
use Rattle.std.proofs.Common.{◌≡◌, ℕ, ◌+◌, true, List, [], ◌∷◌, ◌++◌, length, sym, subst, ap, ◌∙◌, map, arith, ◌≤◌, nat_lt, ◌&&◌, None, refl, append_assoc, is_some}
use Rattle.std.proofs.lemmas.List.{append_assoc}
use Rattle.std.specs.List.{flat_map, list_all}
use Rattle.sg_commit.specs.declared.Digest.{Digest}
use Rattle.sg_forms.specs.Said.{Said}
use Rattle.sg_forms.specs.Said.Said.{Seal, Code}
use Rattle.sg_forms.specs.Spelling.{IsInRange}
use Rattle.sg_grammar.specs.Walk.{Next, behind, start, is_later, take_line}
use Rattle.sg_record.proofs.BytesWalk.{AreIn-from_All}
use Rattle.sg_record.proofs.Filling.{AreIn, AreIn-parts, FillsAs, as-fills}
use Rattle.sg_record.proofs.FormedParts.{HasForm, IsFormed, commits_of, form-from, results_of}
use Rattle.sg_record.proofs.SaidWalk.{Goes, goes-results, opens, run_state}
use Rattle.sg_record.proofs.SectionLines.{commits-spells, lines_of_commits, lines_of_results, lines_of_tallies, places_of_commits, places_of_results, places_of_tallies, results-spells}
use Rattle.sg_plan.specs.Fates.{paper_fits}
use Rattle.sg_record.specs.Formed.{is_formed, are_blocks, are_cast, are_columns, has_columns, is_dispute, is_fate}
use Rattle.sg_record.specs.Laws.{HasWords}
use Rattle.sg_record.specs.Lines.{lines_in, plan_lines}
use Rattle.sg_record.specs.declared.record.Record.{Record}
use Rattle.sg_grammar.specs.Due.{commits, results, due_audit, race_codes}
use Rattle.sg_grammar.specs.Placed.{Placed}
use Rattle.sg_grammar.specs.Placed.Placed.{OfPlan, SealAt}
use Rattle.sg_record.proofs.Placing.{GoesAs, as-goes, goes_as-append, goes_as-commits, goes_as-due, goes_as-plan, goes_as-results}
use Rattle.sg_record.specs.Places.{behind_record, places_in}
use Rattle.sg_record.specs.Tree.{as_line, as_place, block_tree, commit_tree, dispute_tree, draw_leaf, indexed, opening_tree, race_code_commit_tree, race_row_commit_tree, race_row_tree, result_tree, seal_tree, cast_leaf, code_leaf, fate_tree}
use Rattle.sg_grammar.specs.declared.state.Part.TheVariants as part
use Rattle.std.proofs.lemmas.Bool.{and_parts, lt-ltb, not-true}
use Rattle.sg_plan.specs.Ballots.{ballot_has, races_of_ballot}
use Rattle.sg_plan.specs.Limits.{fault_of, most_claims}
use Rattle.sg_plan.specs.declared.plan.Plan.{Plan}
use Rattle.sg_grammar.specs.declared.state.Block.TheVariants as block
use Rattle.sg_record.proofs.BlockLines.{audit_lines, audit_places, columns-spells, due_audit-spells}
use Rattle.sg_record.proofs.CastLines.{cast-other, cast-taken, cast_of, first_cast}
use Rattle.sg_plan.specs.Codes.{is_code}
use Rattle.sg_record.specs.declared.record.BallotBlock.{BallotBlock}
use Rattle.sg_record.specs.declared.record.BlockFate.{BlockFate}
use Rattle.sg_record.specs.declared.record.BlockFate.TheVariants as fate
use Rattle.sg_record.specs.declared.record.CastLine.{CastLine}
use Rattle.sg_record.specs.declared.record.DisputeBlock.{DisputeBlock}

-- CAST BALLOTS

-- behind the block of a cast ballot what may follow any block may follow
goes_as-open : (plan : Plan) (ballot race column : ℕ) (lines : List Said) (places : List Placed) (end : Next) → opens lines ≡ true
    → GoesAs (behind plan [] (part.Ballots ballot)) lines places end → GoesAs (behind plan [] (part.Cast ballot race column)) lines places end
unfolding take_line
goes_as-open plan ballot race column [] places end is_open goes = cc
goes_as-open plan ballot race column (said ∷ lines) [] end is_open goes = absurd goes
goes_as-open plan ballot race column (said ∷ lines) (placed ∷ places) end is_open goes =
    (goes.0, cast-other plan ballot race column said (not-true (is_some (cast_of said)) is_open) ∙ goes.1, goes.2)

-- lines that go on behind a block of a ballot
abbrev pub GoesBehind : Plan → ℕ → List Said → List Placed → Next → Type 0
GoesBehind plan last lines places end = (opens lines ≡ true) × GoesAs (behind plan [] (part.Ballots last)) lines places end

cast-as : (plan : Plan) (ballot race column : ℕ) (lines : List CastLine) (rest : List Said) (others : List Placed) (end : Next) → are_cast plan ballot race column lines ≡ true
    → GoesBehind plan ballot rest others end
    → GoesAs (behind plan [] (part.Cast ballot race column)) (map (cast_leaf as_line ballot) lines ++ rest) (map (cast_leaf as_place ballot) lines ++ others) end
unfolding take_line
cast-as plan ballot race column [] rest others end pass goes = goes_as-open plan ballot race column rest others end goes.0 goes.1
cast-as plan ballot race column (line ∷ lines) rest others end pass goes =
    let first = first_cast plan ballot race column line lines pass in (
      behind plan [] (part.Cast ballot first.next.0 first.next.1),
      cast-taken plan ballot race column line first.next first.stands,
      cast-as plan ballot first.next.0 first.next.1 lines rest others end first.others goes,
    )

-- ALL BLOCKS

fate-as : (plan : Plan) (last ballot : ℕ) (what : BlockFate) (rest : List Said) (others : List Placed) (end : Next) → fault_of plan ≡ None → is_later plan last ballot ≡ true → is_fate plan ballot what ≡ true
    → GoesBehind plan ballot rest others end → GoesBehind plan last (fate_tree as_line plan ballot what ++ rest) (fate_tree as_place plan ballot what ++ others) end
unfolding take_line
fate-as plan last ballot (fate.Cast lines) rest others end fine later passes goes =
    (refl, (behind plan [] (part.Cast ballot 0 0), rw later refl, cast-as plan ballot 0 0 lines rest others end passes goes))
fate-as plan last ballot fate.Spoiled rest others end fine later passes goes = (refl, (behind plan [] (part.Ballots ballot), rw later refl, goes.1))
fate-as plan last ballot (fate.Audited papers codes) rest others end fine later passes goes =
    let parts = and_parts (paper_fits plan (races_of_ballot plan ballot) papers) (are_columns plan (races_of_ballot plan ballot) codes) passes in (
      refl,
      (
        behind plan (due_audit plan ballot) (part.Ballots ballot),
        rw later refl,
        goes_as-due plan (due_audit plan ballot) (part.Ballots ballot) (audit_lines plan ballot (papers, codes)) rest (audit_places plan ballot (papers, codes)) others end
            ((due_audit-spells plan ballot fine).out (papers, codes) (parts.0, parts.1)) goes.1,
      ),
    )
fate-as plan last ballot fate.Voided rest others end fine later passes goes = (refl, (behind plan [] (part.Ballots ballot), rw (passes, later) refl, goes.1))

pub blocks-as : (plan : Plan) (last : ℕ) (blocks : List BallotBlock) (rest : List Said) (others : List Placed) (end : Next) → fault_of plan ≡ None → are_blocks plan last blocks ≡ true
    → ((ballot : ℕ) → GoesBehind plan ballot rest others end)
    → GoesBehind plan last (flat_map (block_tree as_line plan) blocks ++ rest) (flat_map (block_tree as_place plan) blocks ++ others) end
blocks-as plan last [] rest others end fine pass goes = goes last
blocks-as plan last (one ∷ blocks) rest others end fine pass goes =
    let parts = and_parts (is_later plan last one.ballot && is_fate plan one.ballot one.fate) (are_blocks plan one.ballot blocks) pass in
    let first = and_parts (is_later plan last one.ballot) (is_fate plan one.ballot one.fate) parts.0 in
    rw (append_assoc (block_tree as_line plan one) (flat_map (block_tree as_line plan) blocks) rest, append_assoc (block_tree as_place plan one) (flat_map (block_tree as_place plan) blocks) others)
    (fate-as plan last one.ballot one.fate (flat_map (block_tree as_line plan) blocks ++ rest) (flat_map (block_tree as_place plan) blocks ++ others) end fine first.0 first.1
    (blocks-as plan one.ballot blocks rest others end fine parts.1 goes))

-- DISPUTES

pub disputes-as : (plan : Plan) (count : ℕ) (disputes : List DisputeBlock) → list_all (is_dispute plan) disputes ≡ true → count + length disputes ≤ most_claims
    → GoesAs (behind plan [] (part.Disputes count)) (flat_map (dispute_tree as_line) disputes) (flat_map (dispute_tree as_place) disputes) (behind plan [] (part.Disputes (count + length disputes)))
unfolding take_line
disputes-as plan count [] pass few =
    let same : count ≡ count + 0 = omega arith in
    ap (λ n. behind plan [] (part.Disputes n)) same
disputes-as plan count (one ∷ disputes) pass few =
    let parts = and_parts (is_dispute plan one) (list_all (is_dispute plan) disputes) pass in
    let sides = and_parts ((nat_lt one.race (length plan.races) && ballot_has plan one.ballot one.race) && is_code plan one.code)
    (has_columns plan one.race one.codes) parts.0 in
    let tests = and_parts (nat_lt one.race (length plan.races) && ballot_has plan one.ballot one.race) (is_code plan one.code) sides.0 in
    let less : nat_lt count most_claims ≡ true = lt-ltb count most_claims (omega arith) in
    let rest = disputes-as plan (count + 1) disputes parts.1 (omega arith) in
    let sum : (count + 1) + length disputes ≡ count + length (one ∷ disputes) = omega arith in
    let end : Next = behind plan [] (part.Disputes (count + length (one ∷ disputes))) in (
      behind plan (race_codes plan block.Dispute one.ballot one.race) (part.Disputes (count + 1)),
      rw (less, tests.0) refl,
      goes_as-due plan (race_codes plan block.Dispute one.ballot one.race) (part.Disputes (count + 1)) (map Code one.codes) (flat_map (dispute_tree as_line) disputes)
          (map (code_leaf as_place block.Dispute one.ballot) one.codes) (flat_map (dispute_tree as_place) disputes) end
          ((columns-spells plan block.Dispute one.ballot one.race).out one.codes sides.1)
          (subst (λ (n : ℕ). GoesAs (behind plan [] (part.Disputes (count + 1))) (flat_map (dispute_tree as_line) disputes) (flat_map (dispute_tree as_place) disputes) (behind plan [] (part.Disputes n))) sum rest),
    )

-- THE SECTIONS OF A RECORD WITH THREE SEALS

-- a seal stands behind its section, or before the next one
sections-are : {A : Type 0} (tallies : List A) (seal : A) (openings rest : List A) → (tallies ++ seal ∷ []) ++ (openings ++ rest) ≡ (tallies ++ (seal ∷ openings)) ++ rest
sections-are tallies seal openings rest = append_assoc tallies (seal ∷ []) (openings ++ rest) ∙ sym (append_assoc tallies (seal ∷ openings) rest)

-- the results and the openings, whatever follows
pub result_lines-are : (posted : Record) (first second third : Digest) (rest : List Said) → posted.seals ≡ first ∷ second ∷ third ∷ []
    → result_tree as_line posted ++ (opening_tree as_line posted ++ rest) ≡ lines_of_results posted.plan (results_of posted second third) ++ rest
result_lines-are posted first second third rest seals =
    rw seals (sections-are (lines_of_tallies posted.plan (posted.flags, (posted.places, posted.totals))) (Seal 2 second) (draw_leaf as_line posted.draw ∷ (indexed (race_row_tree as_line) 0 posted.rows ++ Seal 3 third ∷ [])) rest)

-- THE WALK

-- the lines behind the commitments, and their places
abbrev pub later_lines : Record → Digest → Digest → List Said
later_lines posted second third = flat_map (block_tree as_line posted.plan) posted.ballots ++ (lines_of_results posted.plan (results_of posted second third) ++ flat_map (dispute_tree as_line) posted.disputes)

abbrev pub later_places : Record → Digest → Digest → List Placed
later_places posted second third = flat_map (block_tree as_place posted.plan) posted.ballots ++ (places_of_results posted.plan (results_of posted second third) ++ flat_map (dispute_tree as_place) posted.disputes)

-- the lines of a record with these seals
pub lines_in-are : (posted : Record) (first second third : Digest) → posted.seals ≡ first ∷ second ∷ third ∷ []
    → lines_in posted ≡ plan_lines posted.plan ++ (lines_of_commits (commits_of posted first) ++ later_lines posted second third)
lines_in-are posted first second third seals =
    ap (λ l. plan_lines posted.plan ++ (commit_tree as_line posted ++ (flat_map (block_tree as_line posted.plan) posted.ballots ++ l))) (result_lines-are posted first second third (flat_map (dispute_tree as_line) posted.disputes) seals)
    ∙ ap (λ l. plan_lines posted.plan ++ ((indexed (race_code_commit_tree as_line) 0 posted.code_commits ++ (indexed (race_row_commit_tree as_line) 0 posted.row_commits ++ seal_tree as_line 1 l)) ++ later_lines posted second third)) seals

-- the lines of a formed record behind the plan, one after another in their places
pub formed_behind : (posted : Record) (first second third : Digest) → IsFormed posted first second third
    → GoesAs (behind posted.plan (commits posted.plan) (part.Ballots 0)) (lines_of_commits (commits_of posted first) ++ later_lines posted second third)
    (places_of_commits (commits_of posted first) ++ later_places posted second third) (behind_record posted)
formed_behind posted first second third is =
    let end : Next = behind_record posted in
    let disputes : List Said = flat_map (dispute_tree as_line) posted.disputes in
    let dispute_ps : List Placed = flat_map (dispute_tree as_place) posted.disputes in
    let ends : List Said = lines_of_results posted.plan (results_of posted second third) in
    let end_ps : List Placed = places_of_results posted.plan (results_of posted second third) in
    let many : 0 + length posted.disputes ≡ length posted.disputes = omega arith in
    let claimed : GoesAs (behind posted.plan [] (part.Disputes 0)) disputes dispute_ps end
    = subst (λ (n : ℕ). GoesAs (behind posted.plan [] (part.Disputes 0)) disputes dispute_ps (behind posted.plan [] (part.Disputes n))) many
    (disputes-as posted.plan 0 posted.disputes is.disputes (omega (arith, is.few))) in
    let filled : FillsAs (results posted.plan) ends end_ps = (results-spells posted.plan.version posted.plan).out (results_of posted second third) is.results in
    let resulted : (ballot : ℕ) → GoesBehind posted.plan ballot (ends ++ disputes) (end_ps ++ dispute_ps) end
    = λ ballot. (
      (goes-results posted.plan ballot ends disputes end (as-fills (results posted.plan) ends end_ps filled) (as-goes (behind posted.plan [] (part.Disputes 0)) end disputes dispute_ps claimed)).0,
      goes_as-results posted.plan ballot ends disputes end_ps dispute_ps end filled claimed,
    ) in
    goes_as-due posted.plan (commits posted.plan) (part.Ballots 0) (lines_of_commits (commits_of posted first)) (later_lines posted second third)
    (places_of_commits (commits_of posted first)) (later_places posted second third) end ((commits-spells posted.plan.version posted.plan).out (commits_of posted first) is.commits)
    (blocks-as posted.plan 0 posted.ballots (ends ++ disputes) (end_ps ++ dispute_ps) end is.fine is.blocks resulted).1

-- and all of its lines
pub formed_goes-as : (posted : Record) (first second third : Digest) → IsFormed posted first second third → GoesAs start (lines_in posted) (places_in posted) (behind_record posted)
unfolding places_in
formed_goes-as posted first second third is =
    let lines : List Said = lines_of_commits (commits_of posted first) in
    let places : List Placed = places_of_commits (commits_of posted first) in
    let counts : List Placed = places_of_tallies posted.plan (posted.flags, (posted.places, posted.totals)) in
    subst (λ (l : List Said). GoesAs start l (places_in posted) (behind_record posted)) (sym (lines_in-are posted first second third is.seals))
    (rw (
      is.seals,
      sections-are counts (SealAt 2 second) (draw_leaf as_place posted.draw ∷ (indexed (race_row_tree as_place) 0 posted.rows ++ SealAt 3 third ∷ [])) (flat_map (dispute_tree as_place) posted.disputes),
    )
    (goes_as-append start (run_state posted.plan) (behind_record posted) (plan_lines posted.plan) (lines ++ later_lines posted second third) (map OfPlan (plan_lines posted.plan))
    (places ++ later_places posted second third) (goes_as-plan posted.plan is.fine)
    (goes_as-commits posted.plan lines (later_lines posted second third) places (later_places posted second third) (behind_record posted)
    ((commits-spells posted.plan.version posted.plan).out (commits_of posted first) is.commits) (formed_behind posted first second third is))))

pub formed_goes : (posted : Record) (first second third : Digest) → IsFormed posted first second third → Goes start (lines_in posted) (behind_record posted)
formed_goes posted first second third is = as-goes start (behind_record posted) (lines_in posted) (places_in posted) (formed_goes-as posted first second third is)

-- the words of the draw line are of their kinds
draw_in : (posted : Record) → AreIn posted.plan.version (lines_in posted) → IsInRange posted.plan.version (draw_leaf as_line posted.draw)
draw_in posted all =
    let version : ℕ = posted.plan.version in
    let disputes : List Said = flat_map (dispute_tree as_line) posted.disputes in
    let openings : List Said = opening_tree as_line posted ++ disputes in
    let blocks : List Said = flat_map (block_tree as_line posted.plan) posted.ballots in
    let behind_plan = (AreIn-parts version (plan_lines posted.plan) (commit_tree as_line posted ++ (blocks ++ (result_tree as_line posted ++ openings))) all).1 in
    let behind_commits = (AreIn-parts version (commit_tree as_line posted) (blocks ++ (result_tree as_line posted ++ openings)) behind_plan).1 in
    let behind_blocks = (AreIn-parts version blocks (result_tree as_line posted ++ openings) behind_commits).1 in
    (AreIn-parts version (result_tree as_line posted) openings behind_blocks).1.0

pub has_form : (posted : Record) → HasWords posted → is_formed posted ≡ true → HasForm posted
has_form posted words formed = form-from posted formed (draw_in posted (AreIn-from_All posted.plan.version (lines_in posted) words))
