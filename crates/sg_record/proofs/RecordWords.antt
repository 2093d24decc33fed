-- The words of each line of a formed record are of their kinds, where its numbers are of their types.
use Rattle.std.proofs.Common.{◌≡◌, ℕ, zero, suc, ◌+◌, ◌-◌, ◌*◌, ◌<◌, ◌≤◌, ◌==◌, nat_lt, nat_le, Bool, true, ◌&&◌, List, [], ◌∷◌, ◌++◌, All, length, get_or, map, take, drop, slice_index_or, None, refl, subst, arith}
use Rattle.std.proofs.lemmas.Bool.{and_parts, eqb-true, leb-true, ltb-true}
use Rattle.std.proofs.lemmas.List.{length-append, length-drop, length-replicate, length-take}
use Rattle.std.proofs.lemmas.List.Elements.{All-cons, All-head, All-nil, All-tail}
use Rattle.std.specs.List.{flat_map, list_all}
use Rattle.std.specs.Prelude.{replicate}
use Rattle.sg_commit.specs.declared.Digest.{Digest}
use Rattle.sg_plan.proofs.PlanLaws.{ballot_has-true, bounds}
use Rattle.sg_plan.specs.Ballots.{ballot_has, ballot_styles, ballots_of, candidates_of, entries_of, races_of_ballot, style_of_ballot}
use Rattle.sg_plan.specs.Codes.{codes_of, is_code}
use Rattle.sg_plan.specs.Limits.{KeepsLimits, KeepsRace, KeepsRun, KeepsStyle, fault_of}
use Rattle.sg_plan.specs.Names.{IsName}
use Rattle.sg_plan.specs.declared.plan.Draw.{Draw}
use Rattle.sg_plan.specs.declared.plan.Draw.TheVariants as drawn
use Rattle.sg_plan.specs.declared.plan.Plan.{Plan}
use Rattle.sg_plan.specs.declared.plan.Race.{Race}
use Rattle.sg_plan.specs.declared.plan.Run.{Run}
use Rattle.sg_plan.specs.declared.plan.Style.{Style}
use Rattle.sg_forms.specs.Said.{Said}
use Rattle.sg_forms.specs.Said.Said.{Cand, Code, Flags, Places, Seal}
use Rattle.sg_forms.specs.Spelling.{AreFewBits, IsCode, IsInRange, IsNumber, IsRow}
use Rattle.sg_forms.specs.declared.line.CodeLine.{CodeLine}
use Rattle.sg_forms.specs.declared.line.RowOpening.{RowOpening}
use Rattle.sg_grammar.specs.Due.{each, lines_for, numbered}
use Rattle.sg_grammar.specs.Walk.{is_later}
use Rattle.sg_record.proofs.BitLines.{few_bits, on_line}
use Rattle.sg_record.proofs.BytesWalk.{All-from_AreIn}
use Rattle.sg_grammar.proofs.Making.{candidates_within}
use Rattle.sg_record.proofs.CastLines.{cast-in_range, first_cast}
use Rattle.sg_record.proofs.Marks.{IsOfRaces, codes-own, race_codes-own}
use Rattle.sg_record.proofs.Filling.{AreIn, AreIn-append, Each}
use Rattle.sg_record.proofs.FormedLists.{formed_parts}
use Rattle.sg_record.proofs.FormedParts.{form-from}
use Rattle.sg_record.proofs.Limits.{ballot_two, limits_of, styles_of}
use Rattle.sg_record.proofs.EachItem.{Each-get}
use Rattle.sg_record.proofs.SectionLines.{HasFlags, HasTotals, HasEntries, HasRows}
use Rattle.sg_record.proofs.SlotLines.{Any, Counts}
use Rattle.sg_plan.specs.Fates.{paper_fits}
use Rattle.sg_record.specs.Formed.{are_blocks, are_cast, are_columns, has_columns, is_dispute, is_draw, is_fate, is_formed}
use Rattle.sg_record.specs.Laws.{TypedHaveWords}
use Rattle.sg_record.specs.Lines.{lines_in, plan_lines, race_lines, run_line, style_line}
use Rattle.sg_record.specs.Tree.{as_line, block_tree, cast_said, code_commit_leaf, commit_tree, dispute_tree, draw_leaf, fate_tree, flag_tree, indexed, instance_row_commit_tree, instance_row_tree, opening_tree, place_tree, race_code_commit_tree, race_results_tree, race_row_commit_tree, race_row_tree, result_tree, row_commit_leaf, row_leaf, signs_on, total_leaf}
use Rattle.sg_record.specs.Typed.{AreDigests, AreDrawn, BlockHasKeys, DisputeHasKeys, HasCastKey, HasKey, HaveKeys, IsDigest, IsTyped}
use Rattle.sg_record.specs.inside.Parts.{StyleFits, paper_lines}
use Rattle.sg_record.specs.declared.record.BallotBlock.{BallotBlock}
use Rattle.sg_record.specs.declared.record.BlockFate.{BlockFate}
use Rattle.sg_record.specs.declared.record.BlockFate.TheVariants as fate
use Rattle.sg_record.specs.declared.record.CastLine.{CastLine}
use Rattle.sg_record.specs.declared.record.DisputeBlock.{DisputeBlock}
use Rattle.sg_record.specs.declared.record.Record.{Record}
use Rattle.sg_record.specs.declared.record.RowCommit.{RowCommit as RowDigests}

-- THE PLAN

cands-in : (version : ℕ) (names : List (List ℕ)) → All IsName names → AreIn version (map Cand names)
cands-in version [] all = tt
cands-in version (name ∷ names) all = (All-head IsName name names all, cands-in version names (All-tail IsName name names all))

races-in : (version : ℕ) (races : List Race) → All KeepsRace races → AreIn version (flat_map race_lines races)
races-in version [] all = tt
races-in version (race ∷ races) all =
    let keeps = All-head KeepsRace race races all in
    AreIn-append version (race_lines race) (flat_map race_lines races)
    ((keeps.name, omega (arith, keeps.most_candidates), omega (arith, keeps.most_candidates, keeps.most_votes)), cands-in version race.candidates keeps.candidates)
    (races-in version races (All-tail KeepsRace race races all))

numbers-few : (count : ℕ) (numbers : List ℕ) → count ≤ 32 → All (λ n. n < count) numbers → All IsNumber numbers
numbers-few count numbers few all = λ k d within. omega (arith, few, all k d within)

styles-in : (version count : ℕ) (styles : List Style) → count ≤ 32 → All (KeepsStyle count) styles → All StyleFits styles → AreIn version (map style_line styles)
styles-in version count [] few all fit = tt
styles-in version count (style ∷ styles) few all fit =
    let keeps = All-head (KeepsStyle count) style styles all in
    let fits = All-head StyleFits style styles fit in
    ((keeps.name, numbers-few count style.races few keeps.races, fits.some, fits.most), styles-in version count styles few (All-tail (KeepsStyle count) style styles all) (All-tail StyleFits style styles fit))

runs-in : (version count : ℕ) (runs : List Run) → count ≤ 32 → length (ballot_styles runs) ≤ 20000 → All (KeepsRun count) runs → AreIn version (map run_line runs)
runs-in version count [] few most all = tt
runs-in version count (run ∷ runs) few most all =
    let keeps = All-head (KeepsRun count) run runs all in
    let sum = length-append (replicate run.count run.style) (ballot_styles runs) in
    let first : length (replicate run.count run.style) ≡ run.count = length-replicate run.count run.style in
    ((omega (arith, few, keeps.style), omega (arith, most, sum, first)), runs-in version count runs few (omega (arith, most, sum)) (All-tail (KeepsRun count) run runs all))

-- the words of the lines of a plan without a fault
pub plan-in : (plan : Plan) → fault_of plan ≡ None → AreIn plan.version (plan_lines plan)
plan-in plan fine =
    let keeps : KeepsLimits plan = limits_of plan fine in (
      keeps.version,
      (
        keeps.name,
        (
          omega (arith, keeps.most_instances),
          AreIn-append plan.version (flat_map race_lines plan.races) (map style_line plan.styles ++ map run_line plan.runs) (races-in plan.version plan.races keeps.races)
              (AreIn-append plan.version (map style_line plan.styles) (map run_line plan.runs)
              (styles-in plan.version (length plan.races) plan.styles keeps.most_races keeps.styles (styles_of plan fine))
              (runs-in plan.version (length plan.styles) plan.runs keeps.most_styles keeps.most_ballots keeps.runs)),
        ),
      ),
    )

-- LINES THAT ARE PUT TOGETHER BY NUMBER

numbered-in : (version : ℕ) (f : ℕ → List Said) (at count : ℕ) → ((k : ℕ) → at ≤ k → k < at + count → AreIn version (f k)) → AreIn version (numbered f at count)
unfolding numbered
numbered-in version f at zero all = tt
numbered-in version f at (suc count) all =
    AreIn-append version (f at) (numbered f (at + 1) count) (all at (omega arith) (omega arith)) (numbered-in version f (at + 1) count (λ k a b. all k (omega (arith, a)) (omega (arith, b))))

-- the lines of items each of which passes twice: by itself, and with its number
items-in : {A : Type 0} (version : ℕ) (P : A → Type 0) (Q : ℕ → A → Type 0) (g : ℕ → A → List Said) (at count : ℕ) (xs : List A)
    → ((k : ℕ) (x : A) → k < at + count → P x → Q k x → AreIn version (g k x)) → All P xs → Each Q at count xs → AreIn version (indexed g at xs)
unfolding indexed
items-in version P Q g at zero [] here all passes = tt
items-in version P Q g at zero (x ∷ xs) here all passes = absurd passes
items-in version P Q g at (suc count) [] here all passes = absurd passes
items-in version P Q g at (suc count) (x ∷ xs) here all passes =
    AreIn-append version (g at x) (indexed g (at + 1) xs) (here at x (omega arith) (All-head P x xs all) passes.0)
    (items-in version P Q g (at + 1) count xs (λ k y b p q. here k y (omega (arith, b)) p q) (All-tail P x xs all) passes.1)

-- any items are of no kind
any-all : {A : Type 0} (xs : List A) → All (λ (x : A). Any x) xs
any-all xs = λ k d within. tt

-- SECTION 1

seal-in : (version number : ℕ) (digest : Digest) → number < 4 → IsDigest digest → AreIn version (Seal number digest ∷ [])
seal-in version number digest few is = ((omega (arith, few), is), tt)

code_commits-in : (plan : Plan) (lists : List (List Digest)) → fault_of plan ≡ None → All (All IsDigest) lists → HasEntries plan lists → AreIn plan.version (indexed (race_code_commit_tree as_line) 0 lists)
code_commits-in plan lists fine all has =
    items-in plan.version (All IsDigest) (λ (race : ℕ). Each (λ (entry : ℕ) (x : Digest). Any x) 0 (entries_of plan race - 0)) (race_code_commit_tree as_line) 0 (length plan.races - 0) lists
    (λ race digests within typed each_of. items-in plan.version IsDigest (λ (entry : ℕ) (x : Digest). Any x) (code_commit_leaf as_line race) 0 (entries_of plan race - 0) digests
    (λ entry digest below is any. ((omega (arith, within, (bounds plan fine).few_races), is), tt)) typed each_of) all has

row_commits-in : (plan : Plan) (lists : List (List (List RowDigests))) → fault_of plan ≡ None → All (All (All AreDigests)) lists → HasRows plan lists
    → AreIn plan.version (indexed (race_row_commit_tree as_line) 0 lists)
row_commits-in plan lists fine all has =
    items-in plan.version (All (All AreDigests)) (λ (race : ℕ). Each (λ (instance : ℕ). Each (λ (row : ℕ) (x : RowDigests). Any x) 0 (entries_of plan race - 0)) 0 (plan.instances - 0))
    (race_row_commit_tree as_line) 0 (length plan.races - 0) lists
    (λ race instances within typed here. items-in plan.version (All AreDigests) (λ (instance : ℕ). Each (λ (row : ℕ) (x : RowDigests). Any x) 0 (entries_of plan race - 0))
    (instance_row_commit_tree as_line race) 0 (plan.instances - 0) instances
    (λ instance rows inside digests each_of. items-in plan.version AreDigests (λ (row : ℕ) (x : RowDigests). Any x) (row_commit_leaf as_line race instance) 0 (entries_of plan race - 0) rows
    (λ row commit below are any. ((omega (arith, within, (bounds plan fine).few_races), omega (arith, inside, (bounds plan fine).few_instances), are.0, are.1), tt)) digests each_of) typed here) all has

-- SECTION 2: CODES

-- the code may stand in a line
abbrev IsIn : ℕ → CodeLine → Type 0
IsIn version code = IsInRange version (Code code)

codes-in : (version : ℕ) (codes : List CodeLine) → All (IsIn version) codes → AreIn version (map Code codes)
codes-in version [] all = tt
codes-in version (code ∷ codes) all = (All-head (IsIn version) code codes all, codes-in version codes (All-tail (IsIn version) code codes all))

-- a code of a column of the race
code-in : (plan : Plan) (code : CodeLine) → fault_of plan ≡ None → code.race < length plan.races → code.column < candidates_of plan code.race → is_code plan code.code ≡ true → HasKey code
    → IsIn plan.version code
code-in plan code fine within below is key =
    let sizes = bounds plan fine in
    (omega (arith, within, sizes.few_races), omega (arith, below, sizes.few_candidates code.race), key, ltb-true code.code (codes_of plan.version) is)

own-in : (plan : Plan) (races : List ℕ) (codes : List CodeLine) → fault_of plan ≡ None → All (IsOfRaces plan races) codes → All HasKey codes → All (IsIn plan.version) codes
own-in plan races codes fine own keys = λ k d within.
    let it = own k d within in
    code-in plan (get_or codes k d) fine (candidates_within plan (get_or codes k d).race (omega (arith, it.column))) it.column it.is (keys k d within)

-- SECTION 2: BLOCKS

cast-in : (plan : Plan) (ballot race column : ℕ) (lines : List CastLine) → fault_of plan ≡ None → are_cast plan ballot race column lines ≡ true → All HasCastKey lines
    → AreIn plan.version (map cast_said lines)
cast-in plan ballot race column [] fine pass keys = tt
cast-in plan ballot race column (line ∷ lines) fine pass keys =
    let first = first_cast plan ballot race column line lines pass in (
      cast-in_range plan ballot race column line first.next fine first.stands (All-head HasCastKey line lines keys),
      cast-in plan ballot first.next.0 first.next.1 lines fine first.others (All-tail HasCastKey line lines keys),
    )

papers-in : (plan : Plan) (races : List ℕ) (papers : List (List ℕ)) → fault_of plan ≡ None → All (λ race. 2 ≤ candidates_of plan race) races → paper_fits plan races papers ≡ true
    → AreIn plan.version (paper_lines races papers)
papers-in plan [] papers fine two are = tt
papers-in plan (race ∷ races) [] fine two are = cc
papers-in plan (race ∷ races) (list ∷ papers) fine two are =
    let parts = and_parts (length list == candidates_of plan race && list_all (is_code plan) list) (paper_fits plan races papers) are in
    let tests = and_parts (length list == candidates_of plan race) (list_all (is_code plan) list) parts.0 in
    let many : length list ≡ candidates_of plan race = eqb-true (length list) (candidates_of plan race) tests.0 in
    let some : 2 ≤ candidates_of plan race = All-head (λ r. 2 ≤ candidates_of plan r) race races two in
    let within = candidates_within plan race (omega (arith, some)) in
    let sizes = bounds plan fine in (
      (omega (arith, within, sizes.few_races), all_codes list tests.1, omega (arith, many, some), omega (arith, many, sizes.few_candidates race)),
      papers-in plan races papers fine (All-tail (λ r. 2 ≤ candidates_of plan r) race races two) parts.1,
    )
  where
    all_codes : (codes : List ℕ) → list_all (is_code plan) codes ≡ true → All (IsCode plan.version) codes
    all_codes [] e = All-nil (IsCode plan.version)
    all_codes (code ∷ codes) e =
        let parts = and_parts (is_code plan code) (list_all (is_code plan) codes) e in
        All-cons (IsCode plan.version) code codes (ltb-true code (codes_of plan.version) parts.0) (all_codes codes parts.1)

fate-in : (plan : Plan) (ballot : ℕ) (what : BlockFate) → fault_of plan ≡ None → ballot ≤ ballots_of plan → is_fate plan ballot what ≡ true → HaveKeys what → AreIn plan.version (fate_tree as_line plan ballot what)
fate-in plan ballot (fate.Cast lines) fine last passes keys = (omega (arith, last, (bounds plan fine).few_ballots), cast-in plan ballot 0 0 lines fine passes keys)
fate-in plan ballot fate.Spoiled fine last passes keys = (omega (arith, last, (bounds plan fine).few_ballots), tt)
fate-in plan ballot (fate.Audited papers codes) fine last passes keys =
    let parts = and_parts (paper_fits plan (races_of_ballot plan ballot) papers) (are_columns plan (races_of_ballot plan ballot) codes) passes in (
      omega (arith, last, (bounds plan fine).few_ballots),
      AreIn-append plan.version (paper_lines (races_of_ballot plan ballot) papers) (map Code codes)
          (papers-in plan (races_of_ballot plan ballot) papers fine (ballot_two plan fine (style_of_ballot plan ballot)) parts.0)
          (codes-in plan.version codes (own-in plan (races_of_ballot plan ballot) codes fine (codes-own plan (races_of_ballot plan ballot) codes parts.1) keys)),
    )
fate-in plan ballot fate.Voided fine last passes keys = (omega (arith, last, (bounds plan fine).few_ballots), tt)

blocks-in : (plan : Plan) (last : ℕ) (blocks : List BallotBlock) → fault_of plan ≡ None → are_blocks plan last blocks ≡ true → All BlockHasKeys blocks → AreIn plan.version (flat_map (block_tree as_line plan) blocks)
blocks-in plan last [] fine pass keys = tt
blocks-in plan last (one ∷ blocks) fine pass keys =
    let parts = and_parts (is_later plan last one.ballot && is_fate plan one.ballot one.fate) (are_blocks plan one.ballot blocks) pass in
    let first = and_parts (is_later plan last one.ballot) (is_fate plan one.ballot one.fate) parts.0 in
    let most = leb-true one.ballot (ballots_of plan) (and_parts (nat_lt last one.ballot) (nat_le one.ballot (ballots_of plan)) first.0).1 in
    AreIn-append plan.version (block_tree as_line plan one) (flat_map (block_tree as_line plan) blocks) (fate-in plan one.ballot one.fate fine most first.1 (All-head BlockHasKeys one blocks keys))
    (blocks-in plan one.ballot blocks fine parts.1 (All-tail BlockHasKeys one blocks keys))

-- SECTION 2: THE RESULTS

signs-in : (bits : List Bool) (line : ℕ) → line < lines_for (length bits) → AreFewBits (signs_on bits line)
signs-in bits line within =
    let some = on_line line (length bits) within in
    let long = length-take 64 (drop (64 * line) bits) in
    let left = length-drop (64 * line) bits in
    few_bits (take 64 (drop (64 * line) bits)) (omega (arith, some, long, left)) (omega (arith, long))

race_results-in : (plan : Plan) (race : ℕ) (flags : List (List Bool)) (places : List Bool) (totals : List ℕ) → fault_of plan ≡ None → race < length plan.races → HasFlags plan race flags
    → HasTotals plan race totals → All IsNumber totals
    → AreIn plan.version (indexed (flag_tree as_line race) 0 flags ++ (place_tree as_line race places ++ indexed (total_leaf as_line race) 0 totals))
race_results-in plan race flags places totals fine within has_flags has_totals numbers =
    let sizes = bounds plan fine in
    let small : IsNumber race = omega (arith, within, sizes.few_races) in
    AreIn-append plan.version (indexed (flag_tree as_line race) 0 flags) (place_tree as_line race places ++ indexed (total_leaf as_line race) 0 totals)
    (items-in plan.version (λ (bits : List Bool). Any bits) (λ (instance : ℕ). Counts (entries_of plan race)) (flag_tree as_line race) 0 (plan.instances - 0) flags
    (λ instance bits inside any many. numbered-in plan.version (λ line. Flags race instance (signs_on bits line) ∷ []) 0 (lines_for (length bits) - 0)
    (λ line a b. ((small, omega (arith, inside, sizes.few_instances), signs-in bits line (omega (arith, b))), tt))) (any-all flags) has_flags)
    (AreIn-append plan.version (place_tree as_line race places) (indexed (total_leaf as_line race) 0 totals)
    (numbered-in plan.version (λ line. Places race (signs_on places line) ∷ []) 0 (lines_for (length places) - 0) (λ line a b. ((small, signs-in places line (omega (arith, b))), tt)))
    (items-in plan.version IsNumber (λ (candidate : ℕ) (x : ℕ). Any x) (total_leaf as_line race) 0 (candidates_of plan race - 0) totals
    (λ candidate count inside number any. ((small, omega (arith, inside, sizes.few_candidates race), number), tt)) numbers has_totals))

-- SECTION 3

rows-in : (plan : Plan) (lists : List (List (List RowOpening))) → All (All (All IsRow)) lists → HasRows plan lists → AreIn plan.version (indexed (race_row_tree as_line) 0 lists)
rows-in plan lists all has =
    items-in plan.version (All (All IsRow)) (λ (race : ℕ). Each (λ (instance : ℕ). Each (λ (row : ℕ) (x : RowOpening). Any x) 0 (entries_of plan race - 0)) 0 (plan.instances - 0))
    (race_row_tree as_line) 0 (length plan.races - 0) lists
    (λ race instances within typed here. items-in plan.version (All IsRow) (λ (instance : ℕ). Each (λ (row : ℕ) (x : RowOpening). Any x) 0 (entries_of plan race - 0))
    (instance_row_tree as_line race) 0 (plan.instances - 0) instances
    (λ instance rows inside openings each_of. items-in plan.version IsRow (λ (row : ℕ) (x : RowOpening). Any x) (row_leaf as_line race instance) 0 (entries_of plan race - 0) rows
    (λ row opening below is any. (is, tt)) openings each_of) typed here) all has

draw-in : (version : ℕ) (draw : Draw) → is_draw draw ≡ true → AreDrawn draw → IsInRange version (draw_leaf as_line draw)
draw-in version drawn.Full is are = tt
draw-in version (drawn.Public bytes) is are =
    let parts = and_parts (nat_le 1 (length bytes)) (nat_le (length bytes) 4096) is in
    (bytes, refl, are, leb-true 1 (length bytes) parts.0, leb-true (length bytes) 4096 parts.1)

-- SECTION 4

disputes-in : (plan : Plan) (disputes : List DisputeBlock) → fault_of plan ≡ None → list_all (is_dispute plan) disputes ≡ true → All DisputeHasKeys disputes
    → AreIn plan.version (flat_map (dispute_tree as_line) disputes)
disputes-in plan [] fine pass keys = tt
disputes-in plan (one ∷ disputes) fine pass keys =
    let parts = and_parts (is_dispute plan one) (list_all (is_dispute plan) disputes) pass in
    let sides = and_parts ((nat_lt one.race (length plan.races) && ballot_has plan one.ballot one.race) && is_code plan one.code)
    (has_columns plan one.race one.codes) parts.0 in
    let tests = and_parts (nat_lt one.race (length plan.races) && ballot_has plan one.ballot one.race) (is_code plan one.code) sides.0 in
    let names = and_parts (nat_lt one.race (length plan.races)) (ballot_has plan one.ballot one.race) tests.0 in
    let within = ltb-true one.race (length plan.races) names.0 in
    let last = (ballot_has-true plan one.ballot one.race names.1).last in
    let sizes = bounds plan fine in
    AreIn-append plan.version (dispute_tree as_line one) (flat_map (dispute_tree as_line) disputes) (
      (omega (arith, last, sizes.few_ballots), omega (arith, within, sizes.few_races), ltb-true one.code (codes_of plan.version) tests.1),
      codes-in plan.version one.codes (own-in plan (one.race ∷ []) one.codes fine (race_codes-own plan one.race [] one.codes sides.1) (All-head DisputeHasKeys one disputes keys)),
    )
    (disputes-in plan disputes fine parts.1 (All-tail DisputeHasKeys one disputes keys))

-- THE WHOLE

three_typed : (first second third : Digest) → All IsDigest (first ∷ second ∷ third ∷ []) → IsDigest first × IsDigest second × IsDigest third
three_typed first second third all =
    let behind = All-tail IsDigest first (second ∷ third ∷ []) all in
    (All-head IsDigest first (second ∷ third ∷ []) all, All-head IsDigest second (third ∷ []) behind, All-head IsDigest third [] (All-tail IsDigest second (third ∷ []) behind))

pub record-in : (posted : Record) → IsTyped posted → is_formed posted ≡ true → AreIn posted.plan.version (lines_in posted)
record-in posted typed formed =
    let plan : Plan = posted.plan in
    let version : ℕ = posted.plan.version in
    let draw = draw-in posted.plan.version posted.draw (formed_parts posted formed).draw typed.draw in
    let form = form-from posted formed draw in
    let is = form.is in
    let fine = is.fine in
    let seals = three_typed form.first form.second form.third (subst (λ (l : List Digest). All IsDigest l) is.seals typed.seals) in
    let blocks : List Said = flat_map (block_tree as_line posted.plan) posted.ballots in
    let disputes : List Said = flat_map (dispute_tree as_line) posted.disputes in
    let commits : AreIn version (commit_tree as_line posted)
    = rw is.seals
    (AreIn-append version (indexed (race_code_commit_tree as_line) 0 posted.code_commits) (indexed (race_row_commit_tree as_line) 0 posted.row_commits ++ Seal 1 form.first ∷ [])
    (code_commits-in plan posted.code_commits fine typed.code_commits is.commits.0)
    (AreIn-append version (indexed (race_row_commit_tree as_line) 0 posted.row_commits) (Seal 1 form.first ∷ []) (row_commits-in plan posted.row_commits fine typed.row_commits is.commits.1.0)
    (seal-in version 1 form.first (omega arith) seals.0))) in
    let results : AreIn version (result_tree as_line posted)
    = rw is.seals
    (AreIn-append version (each (race_results_tree as_line posted) 0 (length posted.plan.races)) (Seal 2 form.second ∷ [])
    (numbered-in version (race_results_tree as_line posted) 0 (length posted.plan.races - 0)
    (λ race a b.
    let within : race < length posted.plan.races - 0 = omega (arith, b) in
    race_results-in plan race (slice_index_or posted.flags race []) (slice_index_or posted.places race []) (slice_index_or posted.totals race []) fine (omega (arith, b))
    (Each-get (HasFlags plan) (length posted.plan.races - 0) race posted.flags [] is.results.0.0 within)
    (Each-get (HasTotals plan) (length posted.plan.races - 0) race posted.totals [] is.results.0.1.1 within)
    (numbers_at race posted.totals typed.totals)))
    (seal-in version 2 form.second (omega arith) seals.1)) in
    let openings : AreIn version (opening_tree as_line posted)
    = rw is.seals (
      draw,
      AreIn-append version (indexed (race_row_tree as_line) 0 posted.rows) (Seal 3 form.third ∷ []) (rows-in plan posted.rows typed.rows is.results.1.1.1.0) (seal-in version 3 form.third (omega arith) seals.2),
    ) in
    AreIn-append version (plan_lines posted.plan) (commit_tree as_line posted ++ (blocks ++ (result_tree as_line posted ++ (opening_tree as_line posted ++ disputes)))) (plan-in plan fine)
    (AreIn-append version (commit_tree as_line posted) (blocks ++ (result_tree as_line posted ++ (opening_tree as_line posted ++ disputes))) commits
    (AreIn-append version blocks (result_tree as_line posted ++ (opening_tree as_line posted ++ disputes)) (blocks-in plan 0 posted.ballots fine is.blocks typed.ballots)
    (AreIn-append version (result_tree as_line posted) (opening_tree as_line posted ++ disputes) results
    (AreIn-append version (opening_tree as_line posted) disputes openings (disputes-in plan posted.disputes fine is.disputes typed.disputes)))))
  where
    numbers_at : (race : ℕ) (lists : List (List ℕ)) → All (All IsNumber) lists → All IsNumber (slice_index_or lists race [])
    numbers_at race [] all = All-nil IsNumber
    numbers_at zero (list ∷ lists) all = All-head (All IsNumber) list lists all
    numbers_at (suc race) (list ∷ lists) all = numbers_at race lists (All-tail (All IsNumber) list lists all)

pub typed_have_words : TypedHaveWords
typed_have_words posted typed formed = All-from_AreIn posted.plan.version (lines_in posted) (record-in posted typed formed)
