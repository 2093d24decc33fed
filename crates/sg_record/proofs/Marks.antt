-- What the tests of a record's blocks say of their codes and papers.
use Rattle.std.proofs.Common.{◌≡◌, ℕ, ◌<◌, ◌≤◌, ◌==◌, ◌&&◌, true, List, [], ◌∷◌, ◌++◌, length, nat_lt, nat_le, get_or, All, None, refl, sym, arith, ◌+◌, take, drop, subst}
use Rattle.std.proofs.lemmas.Bool.{and_parts, eqb-true, leb-true, ltb-true, true≢false, eq-eqb, or_left, or_right}
use Rattle.std.proofs.lemmas.List.Sums.{AllPass-from_list_all}
use Rattle.std.proofs.lemmas.List.Elements.{All-cons, All-head, All-nil, All-tail, All-append}
use Rattle.std.specs.List.{list_all, list_any}
use Rattle.sg_plan.specs.Ballots.{ballot_has, ballots_of, candidates_of, races_of_ballot, style_of_ballot}
use Rattle.sg_plan.specs.Codes.{codes_of, is_code}
use Rattle.sg_plan.specs.Limits.{fault_of}
use Rattle.sg_plan.specs.declared.plan.Plan.{Plan}
use Rattle.sg_forms.specs.declared.line.CodeLine.{CodeLine}
use Rattle.sg_forms.specs.Said.Said.{Code, Paper}
use Rattle.sg_forms.specs.Spelling.{FitsForm, IsCode}
use Rattle.sg_grammar.specs.Walk.{is_later}
use Rattle.sg_record.proofs.CastLines.{first_cast}
use Rattle.sg_record.proofs.Limits.{ballot_two, few_candidates}
use Rattle.sg_plan.specs.Fates.{paper_fits}
use Rattle.sg_record.specs.Formed.{are_blocks, are_cast, are_columns, has_columns, is_dispute, is_fate}
use Rattle.sg_record.specs.Tree.{cast_said}
use Rattle.sg_record.specs.declared.record.BallotBlock.{BallotBlock}
use Rattle.sg_record.specs.declared.record.BlockFate.TheVariants as fate
use Rattle.sg_record.specs.declared.record.CastLine.{CastLine}
use Rattle.sg_record.specs.declared.record.DisputeBlock.{DisputeBlock}
use Rattle.sg_record.specs.Writing.{HaveCodes}
use Rattle.sg_record.specs.inside.Parts.{ArePapers, HaveClaims, HaveFates, paper_lines}
use Rattle.std.proofs.lemmas.List.{drop_more, take-append-drop}
use Rattle.sg_record.proofs.FormedLists.{each_passes-at}

-- the code is of a column of one of these races
pub record IsOfRaces (plan : Plan) (races : List ℕ) (code : CodeLine) : Type 0 where
  pub race : list_any (λ carried. carried == code.race) races ≡ true
  pub column : code.column < candidates_of plan code.race
  pub is : is_code plan code.code ≡ true

pub race_codes-own : (plan : Plan) (race : ℕ) (races : List ℕ) (codes : List CodeLine) → has_columns plan race codes ≡ true → All (IsOfRaces plan (race ∷ races)) codes
race_codes-own plan race races codes passes = λ k d within.
    let parts = and_parts (length codes == candidates_of plan race) _ passes in
    let many = eqb-true (length codes) (candidates_of plan race) parts.0 in
    let test = λ (column : ℕ) (code : CodeLine). (code.race == race && code.column == column) && is_code plan code.code in
    let code = get_or codes k d in
    let is = and_parts (code.race == race && code.column == 0 + k) (is_code plan code.code) (each_passes-at test 0 codes parts.1 k d within) in
    let names = and_parts (code.race == race) (code.column == 0 + k) is.0 in
    let in_race = eqb-true code.race race names.0 in
    let in_column = eqb-true code.column (0 + k) names.1 in
    record {
      race = or_left (race == code.race) (list_any (λ carried. carried == code.race) races) (eq-eqb race code.race (sym in_race));
      column = subst (λ (r : ℕ). code.column < candidates_of plan r) (sym in_race) (omega (arith, in_column, many));
      is = is.1;
    }

pub codes-own : (plan : Plan) (races : List ℕ) (codes : List CodeLine) → are_columns plan races codes ≡ true → All (IsOfRaces plan races) codes
codes-own plan [] [] passes = All-nil (IsOfRaces plan [])
codes-own plan [] (code ∷ codes) passes = absurd (omega (arith, eqb-true (length (code ∷ codes)) 0 passes))
codes-own plan (race ∷ races) codes passes =
    let count = candidates_of plan race in
    let parts = and_parts (has_columns plan race (take count codes)) (are_columns plan races (drop count codes)) passes in
    let others = codes-own plan races (drop count codes) parts.1 in
    subst (All (IsOfRaces plan (race ∷ races))) (take-append-drop count codes)
    (All-append (IsOfRaces plan (race ∷ races)) (take count codes) (drop count codes) (race_codes-own plan race races (take count codes) parts.0) (λ k d within.
    let it = others k d within in
    record { race = or_right (race == (get_or (drop count codes) k d).race) _ it.race; column = it.column; is = it.is }))

-- FROM THE TESTS

pub code_passes : (plan : Plan) (code : ℕ) → is_code plan code ≡ true → IsCode plan.version code
code_passes plan code e = ltb-true code (codes_of plan.version) e

-- the lines of a cast ballot fit
pub cast_have : (plan : Plan) (ballot race column : ℕ) (lines : List CastLine) → are_cast plan ballot race column lines ≡ true → All (λ (line : CastLine). FitsForm plan.version (cast_said line)) lines
cast_have plan ballot race column [] pass = All-nil (λ (line : CastLine). FitsForm plan.version (cast_said line))
cast_have plan ballot race column (line ∷ lines) pass =
    let first = first_cast plan ballot race column line lines pass in
    All-cons (λ (l : CastLine). FitsForm plan.version (cast_said l)) line lines first.code (cast_have plan ballot first.next.0 first.next.1 lines first.others)

-- and those of codes of the version
pub codes_fit : (version : ℕ) (codes : List CodeLine) → HaveCodes version codes → All (λ (code : CodeLine). FitsForm version (Code code)) codes
codes_fit version [] have = All-nil (λ (code : CodeLine). FitsForm version (Code code))
codes_fit version (code ∷ codes) have = All-cons (λ (c : CodeLine). FitsForm version (Code c)) code codes have.0 (codes_fit version codes have.1)

-- codes of columns are of the version
pub own_codes : (plan : Plan) (races : List ℕ) (codes : List CodeLine) → All (IsOfRaces plan races) codes → HaveCodes plan.version codes
own_codes plan races [] own = tt
own_codes plan races (code ∷ codes) own =
    (code_passes plan code.code (All-head (IsOfRaces plan races) code codes own).is, own_codes plan races codes (All-tail (IsOfRaces plan races) code codes own))

-- PAPERS

-- the line of the next of them, and those of the others
pub papers_step : (races : List ℕ) (papers : List (List ℕ)) (at : ℕ) (list : List ℕ) → at < length races → drop at papers ≡ list ∷ drop (at + 1) papers
    → paper_lines (drop at races) (drop at papers) ≡ (Paper (get_or races at 0) list ∷ []) ++ paper_lines (drop (at + 1) races) (drop (at + 1) papers)
papers_step races papers at list more split = rw (drop_more races at 0 more, split) refl

-- the next of the papers, and the others
pub first_paper : (version : ℕ) (races : List ℕ) (papers : List (List ℕ)) (at : ℕ) (list : List ℕ) → at < length races → drop at papers ≡ list ∷ drop (at + 1) papers
    → ArePapers version (drop at races) (drop at papers) → ArePapers version (get_or races at 0 ∷ drop (at + 1) races) (list ∷ drop (at + 1) papers)
first_paper version races papers at list more split are = rw (drop_more races at 0 more, split) at are

-- each of the codes of a list that passes
pub codes_pass : (plan : Plan) (list : List ℕ) → list_all (is_code plan) list ≡ true → All (IsCode plan.version) list
codes_pass plan list e = λ k d within. code_passes plan (get_or list k d) (AllPass-from_list_all (is_code plan) list e k d within)

-- what the papers of an audited ballot are
pub record Papers (plan : Plan) (races : List ℕ) (papers : List (List ℕ)) : Type 0 where
  pub len : length papers ≡ length races
  pub each : ArePapers plan.version races papers

pub papers_pass : (plan : Plan) (races : List ℕ) (papers : List (List ℕ)) → ((race : ℕ) → candidates_of plan race ≤ 16) → All (λ race. 2 ≤ candidates_of plan race) races → paper_fits plan races papers ≡ true
    → Papers plan races papers
papers_pass plan [] [] most some e = record { len = refl; each = tt }
papers_pass plan [] (list ∷ papers) most some e = absurd (true≢false (sym e))
papers_pass plan (race ∷ races) [] most some e = absurd (true≢false (sym e))
papers_pass plan (race ∷ races) (list ∷ papers) most some e =
    let whole = and_parts (length list == candidates_of plan race && list_all (is_code plan) list) (paper_fits plan races papers) e in
    let here = and_parts (length list == candidates_of plan race) (list_all (is_code plan) list) whole.0 in
    let count = eqb-true (length list) (candidates_of plan race) here.0 in
    let first = All-head (λ r. 2 ≤ candidates_of plan r) race races some in
    let rest = papers_pass plan races papers most (All-tail (λ r. 2 ≤ candidates_of plan r) race races some) whole.1 in
    record {
      len = omega (arith, rest.len);
      each = (codes_pass plan list here.1, omega (arith, count, first), omega (arith, count, most race), rest.each);
    }

-- an audited ballot's
pub audit_papers : (plan : Plan) (ballot : ℕ) (papers : List (List ℕ)) (codes : List CodeLine) → fault_of plan ≡ None → is_fate plan ballot (fate.Audited papers codes) ≡ true
    → Papers plan (races_of_ballot plan ballot) papers
audit_papers plan ballot papers codes fine e =
    papers_pass plan (races_of_ballot plan ballot) papers (λ race. few_candidates plan race fine) (ballot_two plan fine (style_of_ballot plan ballot)) (and_parts _ _ e).0

-- and its codes
pub audit_have : (plan : Plan) (ballot : ℕ) (papers : List (List ℕ)) (codes : List CodeLine) → is_fate plan ballot (fate.Audited papers codes) ≡ true → HaveCodes plan.version codes
audit_have plan ballot papers codes e =
    own_codes plan (races_of_ballot plan ballot) codes
    (codes-own plan (races_of_ballot plan ballot) codes (and_parts (paper_fits plan (races_of_ballot plan ballot) papers) (are_columns plan (races_of_ballot plan ballot) codes) e).1)

-- BLOCKS

-- the first of the blocks, and the others
pub first_fate : (plan : Plan) (last : ℕ) (xs : List BallotBlock) (one : BallotBlock) (blocks : List BallotBlock) → xs ≡ one ∷ blocks → HaveFates plan last xs → HaveFates plan last (one ∷ blocks)
first_fate plan last xs one blocks e have = rw e at have

pub blocks_pass : (plan : Plan) (last : ℕ) (blocks : List BallotBlock) → are_blocks plan last blocks ≡ true → HaveFates plan last blocks
blocks_pass plan last [] e = tt
blocks_pass plan last (one ∷ blocks) e =
    let whole = and_parts (is_later plan last one.ballot && is_fate plan one.ballot one.fate) (are_blocks plan one.ballot blocks) e in
    let here = and_parts (is_later plan last one.ballot) (is_fate plan one.ballot one.fate) whole.0 in
    let later = and_parts (nat_lt last one.ballot) (nat_le one.ballot (ballots_of plan)) here.0 in
    let above = ltb-true last one.ballot later.0 in
    (above, leb-true one.ballot (ballots_of plan) later.1, here.1, blocks_pass plan one.ballot blocks whole.1)

-- blocks behind a ballot are behind those before it
pub fates_behind : (plan : Plan) (least last : ℕ) (blocks : List BallotBlock) → least ≤ last → HaveFates plan last blocks → HaveFates plan least blocks
fates_behind plan least last [] before have = tt
fates_behind plan least last (one ∷ blocks) before have = (omega (arith, before, have.0), have.1, have.2, have.3)

-- DISPUTES

-- the first of the claims, and the others
pub first_claim : (version : ℕ) (xs : List DisputeBlock) (one : DisputeBlock) (disputes : List DisputeBlock) → xs ≡ one ∷ disputes → HaveClaims version xs → HaveClaims version (one ∷ disputes)
first_claim version xs one disputes e have = rw e at have

pub claims_pass : (plan : Plan) (disputes : List DisputeBlock) → list_all (is_dispute plan) disputes ≡ true → HaveClaims plan.version disputes
claims_pass plan [] e = tt
claims_pass plan (one ∷ disputes) e =
    let whole = and_parts (is_dispute plan one) (list_all (is_dispute plan) disputes) e in
    let claim = (nat_lt one.race (length plan.races) && ballot_has plan one.ballot one.race) && is_code plan one.code in
    let here = and_parts claim (has_columns plan one.race one.codes) whole.0 in
    let code = and_parts (nat_lt one.race (length plan.races) && ballot_has plan one.ballot one.race) (is_code plan one.code) here.0 in
    (code_passes plan one.code code.1, own_codes plan (one.race ∷ []) one.codes (race_codes-own plan one.race [] one.codes here.1), claims_pass plan disputes whole.1)
