-- A record, put together line by line behind the plan.
use Rattle.std.proofs.Common.{◌≡◌, ℕ, ◌-◌, ◌<◌, List, [], ◌∷◌, ◌++◌, length, replicate, Some, refl, sym, subst, ap, ◌∙◌, arith, ◌==◌, nat_lt, Bool, true, false, ◌&&◌, map, None}
use Rattle.std.specs.Option.{option_map_or}
use Rattle.sg_lines.specs.Words.{encode_lower}
use Rattle.sg_plan.specs.declared.plan.Draw.{Draw}
use Rattle.sg_plan.specs.declared.plan.Draw.TheVariants as drawn
use Rattle.sg_plan.specs.declared.plan.Plan.{Plan}
use Rattle.sg_forms.proofs.Drawn.{spelled_are_public}
use Rattle.sg_forms.proofs.WordKinds.{bytes_everywhere}
use Rattle.sg_forms.specs.Reading.{bytes_of_digits}
use Rattle.sg_forms.specs.Said.{Said}
use Rattle.sg_forms.specs.Said.Said.{Seal, Code}
use Rattle.sg_grammar.specs.Due.{commits, each, race_code_commits, race_results, race_row_commits, race_rows, results, code_line, due_audit, race_codes}
use Rattle.sg_grammar.specs.Placed.{Placed}
use Rattle.sg_grammar.specs.Walk.{Next, Taken, behind, body_line, take_line, took, is_later}
use Rattle.sg_grammar.specs.declared.state.Head.TheVariants as head
use Rattle.sg_grammar.specs.declared.state.Part.TheVariants as part
use Rattle.sg_grammar.specs.declared.state.Slot.{Slot}
use Rattle.sg_grammar.specs.declared.state.Slot.TheVariants as slot
use Rattle.sg_record.proofs.Filling.{Fills, FillsAs, filled, passed}
use Rattle.sg_record.proofs.GatheredLists.{code_commits-put, put, put-append, put-one, put_line, row_commits-put, rows-put, tallies-put, with_code_commits, with_row_commits, with_rows}
use Rattle.sg_record.proofs.Placing.{GoesAs, whole-step}
use Rattle.sg_record.proofs.SaidWalk.{commits-some, fitting, run-other, run_state}
use Rattle.sg_record.proofs.SectionLines.{AreCommits, AreResults, Commits, IsDraw, Results, code_commits-spells, digits_one, lines_of_commits, lines_of_results, lines_of_tallies, row_commits-spells, rows-spells, tallies-spells}
use Rattle.sg_record.specs.inside.Gathering.{added, blank, no_digest, sealed, dispute_with, last_with, with_cast, with_code, with_paper}
use Rattle.sg_record.specs.Tree.{as_line, draw_leaf, indexed, race_code_commit_tree, race_row_commit_tree, race_row_tree, as_place, block_tree, cast_leaf, cast_place, cast_said, code_leaf, dispute_tree, fate_tree}
use Rattle.sg_record.specs.declared.record.Record.{Record}
use Rattle.std.proofs.lemmas.Bool.{and_from, and_parts, eq-eqb}
use Rattle.std.proofs.lemmas.List.{append-nil, append_assoc}
use Rattle.std.proofs.lemmas.List.Folds.{list_all-append}
use Rattle.std.specs.List.{flat_map, list_all}
use Rattle.sg_plan.specs.Ballots.{ballot_has, candidates_of, races_of_ballot}
use Rattle.sg_plan.specs.Limits.{fault_of}
use Rattle.sg_forms.specs.declared.line.CodeLine.{CodeLine}
use Rattle.sg_grammar.specs.Placed.Placed.{CodeAt}
use Rattle.sg_grammar.specs.declared.state.Block.TheVariants as block
use Rattle.sg_record.proofs.CastLines.{line-added}
use Rattle.sg_record.proofs.BlockLines.{audit-due, audit_codes, audit_lines, audit_places, columns-spells, due_audit-spells, numbered-all, paper_slots, papers-spells, races-spells}
use Rattle.sg_plan.specs.Codes.{is_code}
use Rattle.sg_plan.specs.Fates.{paper_fits}
use Rattle.sg_record.specs.Formed.{are_blocks, are_columns, has_columns, is_dispute, is_fate}
use Rattle.sg_record.specs.inside.Parts.{paper_lines}
use Rattle.sg_record.specs.declared.record.BallotBlock.{BallotBlock}
use Rattle.sg_record.specs.declared.record.BlockFate.{BlockFate}
use Rattle.sg_record.specs.declared.record.BlockFate.TheVariants as fate
use Rattle.sg_record.specs.declared.record.CastLine.{CastLine}
use Rattle.sg_record.specs.declared.record.DisputeBlock.{DisputeBlock}

-- the lines, taken one after another, lead from one state to another, and make one record of another
abbrev pub Gathers : Next → Record → List Said → Next → Record → Type 0
Gathers next made [] end final = (next ≡ end) × (made ≡ final)
Gathers next made (said ∷ lines) end final =
    (taken : Taken) × (take_line next said ≡ Some taken) × Gathers taken.next (added taken.next.plan made taken.placed said) lines end final

-- a record with the lines, each in its place
abbrev pub made_of : Plan → List Said → List Placed → Record → Record
made_of plan [] places made = made
made_of plan (said ∷ lines) [] made = made
made_of plan (said ∷ lines) (placed ∷ places) made = made_of plan lines places (added plan made placed said)

-- lines behind the plan, in their places, make the record with them
pub as-gathers : (plan : Plan) (next end : Next) (lines : List Said) (places : List Placed) (made : Record) → next.plan ≡ plan → next.head ≡ head.Whole → GoesAs next lines places end
    → Gathers next made lines end (made_of plan lines places made)
as-gathers plan next end [] [] made same whole goes = (goes, refl)
as-gathers plan next end [] (p ∷ ps) made same whole goes = absurd goes
as-gathers plan next end (s ∷ ls) [] made same whole goes = absurd goes
as-gathers plan next end (s ∷ ls) (p ∷ ps) made same whole goes =
    let is = whole-step next s (took p goes.0) whole goes.1 in
    let stays : goes.0.plan ≡ plan = is.0 ∙ same in (
      took p goes.0,
      goes.1,
      subst (λ (q : Plan). Gathers goes.0 (added q made p s) ls end (made_of plan ls ps (added plan made p s))) (sym stays) (as-gathers plan goes.0 end ls ps (added plan made p s) stays is.1 goes.2),
    )

-- lines that fill what is due
pub made_of-due : (plan : Plan) (due : List Slot) (lines rest : List Said) (places others : List Placed) (made : Record) → FillsAs due lines places
    → made_of plan (lines ++ rest) (places ++ others) made ≡ made_of plan rest others (put plan due lines made)
unfolding put
made_of-due plan [] [] rest [] others made fills = refl
made_of-due plan [] [] rest (p ∷ ps) others made fills = absurd fills
made_of-due plan [] (s ∷ ls) rest ps others made fills = absurd fills
made_of-due plan (d ∷ due) [] rest ps others made fills = absurd fills
made_of-due plan (d ∷ due) (s ∷ ls) rest [] others made fills = absurd fills
made_of-due plan (d ∷ due) (s ∷ ls) rest (p ∷ ps) others made fills =
    let same : put_line plan d s made ≡ added plan made p s = ap (λ o. option_map_or (λ placed. added plan made placed s) o made) fills.0 in
    made_of-due plan due ls rest ps others (added plan made p s) fills.1 ∙ ap (λ (r : Record). made_of plan rest others (put plan due ls r)) (sym same)

-- COMMITMENTS

-- lists of so many empty ones
abbrev shape : Plan → ℕ → ℕ → Record
shape plan races instances = record (blank plan) {
  code_commits = replicate races [];
  row_commits = replicate races (replicate instances []);
  flags = replicate races (replicate instances []);
  places = replicate races [];
  totals = replicate races [];
  rows = replicate races (replicate instances []);
}

-- the record without a line behind the plan, with its numbers as each section's lines are counted
abbrev pub bare : Plan → Record
bare plan = shape plan (length plan.races - 0) (plan.instances - 0)

pub blank-bare : (plan : Plan) → blank plan ≡ bare plan
blank-bare plan =
    let races : length plan.races ≡ length plan.races - 0 = omega arith in
    let instances : plan.instances ≡ plan.instances - 0 = omega arith in
    ap (λ n. shape plan n plan.instances) races ∙ ap (λ n. shape plan (length plan.races - 0) n) instances

-- with the commitments and their seal
abbrev pub committed : Plan → Commits → Record
committed plan c = record (bare plan) { code_commits = c.0; row_commits = c.1.0; seals = c.1.1 ∷ no_digest ∷ no_digest ∷ [] }

pub commits-put : (version : ℕ) (plan : Plan) (c : Commits) → AreCommits plan c → put plan (commits plan) (lines_of_commits c) (bare plan) ≡ committed plan c
commits-put version plan c are =
    put-append plan (each (race_code_commits plan) 0 (length plan.races)) (each (race_row_commits plan) 0 (length plan.races) ++ slot.Seal 1 ∷ [])
    (indexed (race_code_commit_tree as_line) 0 c.0) (indexed (race_row_commit_tree as_line) 0 c.1.0 ++ Seal 1 c.1.1 ∷ []) (bare plan) (filled (code_commits-spells version plan) c.0 are.0)
    ∙ (ap (put plan (each (race_row_commits plan) 0 (length plan.races) ++ slot.Seal 1 ∷ []) (indexed (race_row_commit_tree as_line) 0 c.1.0 ++ Seal 1 c.1.1 ∷ []))
    (code_commits-put version plan (bare plan) c.0 are.0)
    ∙ (put-append plan (each (race_row_commits plan) 0 (length plan.races)) (slot.Seal 1 ∷ []) (indexed (race_row_commit_tree as_line) 0 c.1.0) (Seal 1 c.1.1 ∷ [])
    (with_code_commits (bare plan) c.0) (filled (row_commits-spells version plan) c.1.0 are.1.0)
    ∙ (ap (put plan (slot.Seal 1 ∷ []) (Seal 1 c.1.1 ∷ [])) (row_commits-put version plan (with_code_commits (bare plan) c.0) c.1.0 are.1.0)
    ∙ put-one plan (slot.Seal 1) (Seal 1 c.1.1) (with_row_commits (with_code_commits (bare plan) c.0) c.1.0))))

-- the commitments, behind the plan
pub gathers-commits : (plan : Plan) (made : Record) (lines rest : List Said) (end : Next) (final : Record)
    → Fills (commits plan) lines → Gathers (behind plan (commits plan) (part.Ballots 0)) made (lines ++ rest) end final → Gathers (run_state plan) made (lines ++ rest) end final
unfolding take_line
gathers-commits plan made lines rest end final fills goes = from (commits plan) lines refl (commits-some plan) fills goes
  where
    from : (slots : List Slot) (front : List Said) → commits plan ≡ slots → 0 < length slots → Fills slots front
        → Gathers (behind plan slots (part.Ballots 0)) made (front ++ rest) end final → Gathers (run_state plan) made (front ++ rest) end final
    from [] front are some filled on = absurd (omega arith)
    from (first ∷ due) [] are some filled on = absurd filled
    from (first ∷ due) (said ∷ front) are some filled on =
        (on.0, run-other plan said (fitting first said filled.0).no_run ∙ (ap (λ l. body_line plan l (part.Ballots 0) said) are ∙ on.1), on.2)

-- RESULTS

draw-put : (version : ℕ) (plan : Plan) (draw : Draw) (made : Record) → IsDraw version draw → put_line plan slot.Draw (draw_leaf as_line draw) made ≡ record made { draw = draw }
draw-put version plan drawn.Full made is = refl
draw-put version plan (drawn.Public bytes) made is =
    let spelled : List ℕ = is.1.0 in
    let same : bytes ≡ spelled = digits_one bytes spelled is.1.2 is.1.1 in
    let public : bytes_of_digits (encode_lower bytes) ≡ bytes = spelled_are_public (encode_lower bytes) spelled (bytes_everywhere spelled is.1.2) is.1.1 ∙ sym same in
    ap (λ (b : List ℕ). let it : Record = record made { draw = drawn.Public b } in it) public

-- with the results, the draw and the openings
abbrev pub resulted : Record → Results → Record
resulted made r = record made {
  flags = r.0.0;
  places = r.0.1.0;
  totals = r.0.1.1;
  seals = sealed (sealed made.seals 2 r.1.0) 3 r.1.1.1.1;
  draw = r.1.1.0;
  rows = r.1.1.1.0;
}

-- without them
abbrev pub unresulted : Plan → Record → Record
unresulted plan made = record made { flags = (bare plan).flags; places = (bare plan).places; totals = (bare plan).totals; rows = (bare plan).rows }

pub results-put : (version : ℕ) (plan : Plan) (r : Results) (made : Record) → AreResults version plan r → put plan (results plan) (lines_of_results plan r) (unresulted plan made) ≡ resulted made r
unfolding put
results-put version plan r made are =
    let tallied : Record = record made { flags = r.0.0; places = r.0.1.0; totals = r.0.1.1; rows = (bare plan).rows } in
    let closed : Record = record tallied { seals = sealed made.seals 2 r.1.0 } in
    let opened : Record = record closed { draw = r.1.1.0 } in
    put-append plan (each (race_results plan) 0 (length plan.races)) (slot.Seal 2 ∷ slot.Draw ∷ (each (race_rows plan) 0 (length plan.races) ++ slot.Seal 3 ∷ []))
    (lines_of_tallies plan r.0) (Seal 2 r.1.0 ∷ draw_leaf as_line r.1.1.0 ∷ (indexed (race_row_tree as_line) 0 r.1.1.1.0 ++ Seal 3 r.1.1.1.1 ∷ [])) (unresulted plan made) (filled (tallies-spells version plan) r.0 are.0)
    ∙ (ap (put plan (slot.Seal 2 ∷ slot.Draw ∷ (each (race_rows plan) 0 (length plan.races) ++ slot.Seal 3 ∷ [])) (Seal 2 r.1.0 ∷ draw_leaf as_line r.1.1.0 ∷ (indexed (race_row_tree as_line) 0 r.1.1.1.0 ++ Seal 3 r.1.1.1.1 ∷ [])))
    (tallies-put version plan (record made { rows = (bare plan).rows }) r.0 are.0)
    ∙ (ap (put plan (each (race_rows plan) 0 (length plan.races) ++ slot.Seal 3 ∷ []) (indexed (race_row_tree as_line) 0 r.1.1.1.0 ++ Seal 3 r.1.1.1.1 ∷ []))
    (draw-put version plan r.1.1.0 closed are.1.1.0)
    ∙ (put-append plan (each (race_rows plan) 0 (length plan.races)) (slot.Seal 3 ∷ []) (indexed (race_row_tree as_line) 0 r.1.1.1.0) (Seal 3 r.1.1.1.1 ∷ []) opened (filled (rows-spells version plan) r.1.1.1.0 are.1.1.1.0)
    ∙ (ap (put plan (slot.Seal 3 ∷ []) (Seal 3 r.1.1.1.1 ∷ [])) (rows-put version plan opened r.1.1.1.0 are.1.1.1.0)
    ∙ put-one plan (slot.Seal 3) (Seal 3 r.1.1.1.1) (with_rows opened r.1.1.1.0)))))

-- THE LAST BLOCK

-- the record with a block of this ballot behind the others
abbrev pub with_block : Record → ℕ → BlockFate → Record
with_block made ballot what = record made { ballots = made.ballots ++ record { ballot = ballot; fate = what } ∷ [] }

last-with : (change : BlockFate → BlockFate) (blocks : List BallotBlock) (ballot : ℕ) (what : BlockFate)
    → last_with change (blocks ++ record { ballot = ballot; fate = what } ∷ []) ≡ blocks ++ record { ballot = ballot; fate = change what } ∷ []
last-with change [] ballot what = refl
last-with change (first ∷ []) ballot what = refl
last-with change (first ∷ second ∷ blocks) ballot what = ap (λ l. first ∷ l) (last-with change (second ∷ blocks) ballot what)

-- a change of the last block
changed : (made : Record) (ballot : ℕ) (what : BlockFate) (change : BlockFate → BlockFate)
    → record made { ballots = last_with change (with_block made ballot what).ballots } ≡ with_block made ballot (change what)
changed made ballot what change = ap (λ (l : List BallotBlock). let it : Record = record made { ballots = l } in it) (last-with change made.ballots ballot what)

-- CAST BALLOTS

-- one more line
cast-added : (plan : Plan) (ballot : ℕ) (made : Record) (before : List CastLine) (line : CastLine)
    → added plan (with_block made ballot (fate.Cast before)) (cast_place ballot line) (cast_said line) ≡ with_block made ballot (fate.Cast (before ++ line ∷ []))
cast-added plan ballot made before line =
    line-added plan ballot (with_block made ballot (fate.Cast before)) line (cast_said line) ∙ changed made ballot (fate.Cast before) (with_cast line)

cast-made : (plan : Plan) (ballot : ℕ) (made : Record) (before lines : List CastLine) (rest : List Said) (others : List Placed)
    → made_of plan (map (cast_leaf as_line ballot) lines ++ rest) (map (cast_leaf as_place ballot) lines ++ others) (with_block made ballot (fate.Cast before))
    ≡ made_of plan rest others (with_block made ballot (fate.Cast (before ++ lines)))
cast-made plan ballot made before [] rest others = ap (λ l. made_of plan rest others (with_block made ballot (fate.Cast l))) (sym (append-nil before))
cast-made plan ballot made before (line ∷ lines) rest others =
    ap (made_of plan (map (cast_leaf as_line ballot) lines ++ rest) (map (cast_leaf as_place ballot) lines ++ others)) (cast-added plan ballot made before line)
    ∙ (cast-made plan ballot made (before ++ line ∷ []) lines rest others
    ∙ ap (λ l. made_of plan rest others (with_block made ballot (fate.Cast l))) (append_assoc before (line ∷ []) lines))

-- AUDITED BALLOTS

papers-put : (plan : Plan) (ballot : ℕ) (made : Record) (races : List ℕ) (papers before : List (List ℕ)) (codes : List CodeLine) → paper_fits plan races papers ≡ true
    → put plan (paper_slots plan ballot races) (paper_lines races papers) (with_block made ballot (fate.Audited before codes)) ≡ with_block made ballot (fate.Audited (before ++ papers) codes)
unfolding put paper_slots
papers-put plan ballot made [] [] before codes passes = ap (λ l. with_block made ballot (fate.Audited l codes)) (sym (append-nil before))
papers-put plan ballot made [] (list ∷ papers) before codes passes = cc
papers-put plan ballot made (race ∷ races) [] before codes passes = cc
papers-put plan ballot made (race ∷ races) (list ∷ papers) before codes passes =
    let parts = and_parts (length list == candidates_of plan race && list_all (is_code plan) list) (paper_fits plan races papers) passes in
    let tests = and_parts (length list == candidates_of plan race) (list_all (is_code plan) list) parts.0 in
    rw (eq-eqb race race refl, tests.0)
    (ap (put plan (paper_slots plan ballot races) (paper_lines races papers)) (changed made ballot (fate.Audited before codes) (with_paper list))
    ∙ (papers-put plan ballot made races papers (before ++ list ∷ []) codes parts.1 ∙ ap (λ l. with_block made ballot (fate.Audited l codes)) (append_assoc before (list ∷ []) papers)))

-- a code in a ballot's block
abbrev is_ballot_code : Slot → Bool
is_ballot_code (slot.Code block.Audited ballot race column) = true
is_ballot_code due = false

-- a code in the block of a dispute
abbrev is_dispute_code : Slot → Bool
is_dispute_code (slot.Code block.Dispute ballot race column) = true
is_dispute_code due = false

codes-put : (plan : Plan) (ballot : ℕ) (made : Record) (due : List Slot) (codes before : List CodeLine) (papers : List (List ℕ)) → list_all is_ballot_code due ≡ true → Fills due (map Code codes)
    → put plan due (map Code codes) (with_block made ballot (fate.Audited papers before)) ≡ with_block made ballot (fate.Audited papers (before ++ codes))
unfolding put
codes-put plan ballot made [] [] before papers are fills = ap (λ l. with_block made ballot (fate.Audited papers l)) (sym (append-nil before))
codes-put plan ballot made [] (code ∷ codes) before papers are fills = absurd fills
codes-put plan ballot made (first ∷ due) [] before papers are fills = absurd fills
codes-put plan ballot made (slot.Code block.Audited of race column ∷ due) (code ∷ codes) before papers are fills =
    rw (passed (code.race == race && code.column == column) (CodeAt block.Audited of race column code) fills.0)
    (ap (put plan due (map Code codes)) (changed made ballot (fate.Audited papers before) (with_code code))
    ∙ (codes-put plan ballot made due codes (before ++ code ∷ []) papers are fills.1 ∙ ap (λ l. with_block made ballot (fate.Audited papers l)) (append_assoc before (code ∷ []) codes)))
codes-put plan ballot made (slot.Code block.Dispute of race column ∷ due) (code ∷ codes) before papers are fills = cc
codes-put plan ballot made (slot.Code block.Cast of race column ∷ due) (code ∷ codes) before papers are fills = cc
codes-put plan ballot made (first ∷ due) (code ∷ codes) before papers are fills = cc

audit_codes-are : (plan : Plan) (ballot : ℕ) (races : List ℕ) → list_all is_ballot_code (flat_map (race_codes plan block.Audited ballot) races) ≡ true
audit_codes-are plan ballot [] = refl
audit_codes-are plan ballot (race ∷ races) =
    list_all-append is_ballot_code (race_codes plan block.Audited ballot race) (flat_map (race_codes plan block.Audited ballot) races)
    ∙ and_from (list_all is_ballot_code (race_codes plan block.Audited ballot race)) _
    (numbered-all is_ballot_code (code_line block.Audited ballot race) 0 (candidates_of plan race - 0) (λ column. refl)) (audit_codes-are plan ballot races)

-- the papers and codes of an audited ballot
due_audit-put : (plan : Plan) (ballot : ℕ) (made : Record) (papers : List (List ℕ)) (codes : List CodeLine) → fault_of plan ≡ None
    → paper_fits plan (races_of_ballot plan ballot) papers ≡ true → are_columns plan (races_of_ballot plan ballot) codes ≡ true
    → put plan (due_audit plan ballot) (paper_lines (races_of_ballot plan ballot) papers ++ map Code codes) (with_block made ballot (fate.Audited [] [])) ≡ with_block made ballot (fate.Audited papers codes)
due_audit-put plan ballot made papers codes fine papers_are codes_are =
    let last : List Slot = audit_codes plan ballot in
    let races : List ℕ = races_of_ballot plan ballot in
    ap (λ l. put plan l (paper_lines races papers ++ map Code codes) (with_block made ballot (fate.Audited [] []))) (audit-due plan ballot fine)
    ∙ (put-append plan (paper_slots plan ballot races) last (paper_lines races papers) (map Code codes) (with_block made ballot (fate.Audited [] [])) (filled (papers-spells plan ballot races) papers papers_are)
    ∙ (ap (put plan last (map Code codes)) (papers-put plan ballot made races papers [] [] papers_are)
    ∙ codes-put plan ballot made last codes [] papers (audit_codes-are plan ballot races) (filled (races-spells plan block.Audited ballot races) codes codes_are)))

-- BLOCKS

fate-made : (plan : Plan) (ballot : ℕ) (what : BlockFate) (made : Record) (rest : List Said) (others : List Placed) → fault_of plan ≡ None → is_fate plan ballot what ≡ true
    → made_of plan (fate_tree as_line plan ballot what ++ rest) (fate_tree as_place plan ballot what ++ others) made ≡ made_of plan rest others (with_block made ballot what)
fate-made plan ballot (fate.Cast lines) made rest others fine passes = cast-made plan ballot made [] lines rest others
fate-made plan ballot fate.Spoiled made rest others fine passes = refl
fate-made plan ballot (fate.Audited papers codes) made rest others fine passes =
    let parts = and_parts (paper_fits plan (races_of_ballot plan ballot) papers) (are_columns plan (races_of_ballot plan ballot) codes) passes in
    made_of-due plan (due_audit plan ballot) (audit_lines plan ballot (papers, codes)) rest (audit_places plan ballot (papers, codes)) others (with_block made ballot (fate.Audited [] []))
    ((due_audit-spells plan ballot fine).out (papers, codes) (parts.0, parts.1))
    ∙ ap (made_of plan rest others) (due_audit-put plan ballot made papers codes fine parts.0 parts.1)
fate-made plan ballot fate.Voided made rest others fine passes = refl

pub blocks-made : (plan : Plan) (last : ℕ) (blocks : List BallotBlock) (made : Record) (rest : List Said) (others : List Placed) → fault_of plan ≡ None → are_blocks plan last blocks ≡ true
    → made_of plan (flat_map (block_tree as_line plan) blocks ++ rest) (flat_map (block_tree as_place plan) blocks ++ others) made ≡ made_of plan rest others (record made { ballots = made.ballots ++ blocks })
blocks-made plan last [] made rest others fine pass = ap (λ (l : List BallotBlock). made_of plan rest others (record made { ballots = l })) (sym (append-nil made.ballots))
blocks-made plan last (one ∷ blocks) made rest others fine pass =
    let parts = and_parts (is_later plan last one.ballot && is_fate plan one.ballot one.fate) (are_blocks plan one.ballot blocks) pass in
    let first = and_parts (is_later plan last one.ballot) (is_fate plan one.ballot one.fate) parts.0 in
    rw (append_assoc (block_tree as_line plan one) (flat_map (block_tree as_line plan) blocks) rest, append_assoc (block_tree as_place plan one) (flat_map (block_tree as_place plan) blocks) others)
    (fate-made plan one.ballot one.fate made (flat_map (block_tree as_line plan) blocks ++ rest) (flat_map (block_tree as_place plan) blocks ++ others) fine first.1
    ∙ (blocks-made plan one.ballot blocks (with_block made one.ballot one.fate) rest others fine parts.1
    ∙ ap (λ (l : List BallotBlock). made_of plan rest others (record made { ballots = l })) (append_assoc made.ballots (one ∷ []) blocks)))

-- DISPUTES

-- the record with a dispute behind the others
abbrev with_dispute : Record → DisputeBlock → List CodeLine → Record
with_dispute made one codes = record made { disputes = made.disputes ++ record one { codes = codes } ∷ [] }

dispute-with : (code : CodeLine) (blocks : List DisputeBlock) (one : DisputeBlock) → dispute_with code (blocks ++ one ∷ []) ≡ blocks ++ record one { codes = one.codes ++ code ∷ [] } ∷ []
dispute-with code [] one = refl
dispute-with code (first ∷ []) one = refl
dispute-with code (first ∷ second ∷ blocks) one = ap (λ l. first ∷ l) (dispute-with code (second ∷ blocks) one)

dispute_codes-put : (plan : Plan) (made : Record) (one : DisputeBlock) (due : List Slot) (codes before : List CodeLine) → list_all is_dispute_code due ≡ true → Fills due (map Code codes)
    → put plan due (map Code codes) (with_dispute made one before) ≡ with_dispute made one (before ++ codes)
unfolding put
dispute_codes-put plan made one [] [] before are fills = ap (with_dispute made one) (sym (append-nil before))
dispute_codes-put plan made one [] (code ∷ codes) before are fills = absurd fills
dispute_codes-put plan made one (first ∷ due) [] before are fills = absurd fills
dispute_codes-put plan made one (slot.Code block.Dispute ballot race column ∷ due) (code ∷ codes) before are fills =
    rw (passed (code.race == race && code.column == column) (CodeAt block.Dispute ballot race column code) fills.0)
    (ap (put plan due (map Code codes)) (ap (λ (l : List DisputeBlock). let it : Record = record made { disputes = l } in it) (dispute-with code made.disputes (record one { codes = before })))
    ∙ (dispute_codes-put plan made one due codes (before ++ code ∷ []) are fills.1 ∙ ap (with_dispute made one) (append_assoc before (code ∷ []) codes)))
dispute_codes-put plan made one (slot.Code block.Audited ballot race column ∷ due) (code ∷ codes) before are fills = cc
dispute_codes-put plan made one (slot.Code block.Cast ballot race column ∷ due) (code ∷ codes) before are fills = cc
dispute_codes-put plan made one (first ∷ due) (code ∷ codes) before are fills = cc

pub disputes-made : (plan : Plan) (disputes : List DisputeBlock) (made : Record) → list_all (is_dispute plan) disputes ≡ true
    → made_of plan (flat_map (dispute_tree as_line) disputes) (flat_map (dispute_tree as_place) disputes) made ≡ record made { disputes = made.disputes ++ disputes }
disputes-made plan [] made pass = ap (λ (l : List DisputeBlock). let it : Record = record made { disputes = l } in it) (sym (append-nil made.disputes))
disputes-made plan (one ∷ disputes) made pass =
    let parts = and_parts (is_dispute plan one) (list_all (is_dispute plan) disputes) pass in
    let sides = and_parts ((nat_lt one.race (length plan.races) && ballot_has plan one.ballot one.race) && is_code plan one.code)
    (has_columns plan one.race one.codes) parts.0 in
    let due : List Slot = race_codes plan block.Dispute one.ballot one.race in
    let spells = columns-spells plan block.Dispute one.ballot one.race in
    made_of-due plan due (map Code one.codes) (flat_map (dispute_tree as_line) disputes) (map (code_leaf as_place block.Dispute one.ballot) one.codes) (flat_map (dispute_tree as_place) disputes) (with_dispute made one [])
    (spells.out one.codes sides.1)
    ∙ (ap (made_of plan (flat_map (dispute_tree as_line) disputes) (flat_map (dispute_tree as_place) disputes))
    (dispute_codes-put plan made one due one.codes [] (numbered-all is_dispute_code (code_line block.Dispute one.ballot one.race) 0 (candidates_of plan one.race - 0) (λ column. refl)) (filled spells one.codes sides.1))
    ∙ (disputes-made plan disputes (with_dispute made one one.codes) parts.1
    ∙ ap (λ (l : List DisputeBlock). let it : Record = record made { disputes = l } in it) (append_assoc made.disputes (one ∷ []) disputes)))
