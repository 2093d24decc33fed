-- The lines as they are written are those of the record.
use Rattle.std.proofs.Common.{◌≡◌, ℕ, ◌<◌, ◌==◌, Bool, true, false, cond, List, [], ◌∷◌, ◌++◌, length, map, get_or, refl, sym, ap, ◌∙◌, append-nil}
use Rattle.std.specs.List.{flat_map}
use Rattle.std.proofs.lemmas.List.{map-append}
use Rattle.std.proofs.lemmas.List.Folds.{flat_map-map}
use Rattle.sg_lists.proofs.Lists.{flat_map-same, map-flat_map, map-map, map-single}
use Rattle.sg_plan.specs.Ballots.{ballot_has, ballot_row, candidates_of, entries_of, races_of_ballot}
use Rattle.sg_plan.specs.Fates.{fate_fits}
use Rattle.sg_plan.specs.declared.plan.Draw.{Draw}
use Rattle.sg_plan.specs.declared.plan.Fate.{Fate}
use Rattle.sg_plan.specs.declared.plan.Fate.TheVariants as fate
use Rattle.sg_plan.specs.declared.plan.Mark.{Mark}
use Rattle.sg_plan.specs.declared.plan.Plan.{Plan}
use Rattle.sg_streams.specs.Numbers.{numbers_below}
use Rattle.sg_tables.proofs.Lists.{get_or-map_below}
use Rattle.sg_tables.specs.Posts.{column_marked, marked_columns}
use Rattle.sg_forms.specs.Said.{Said}
use Rattle.sg_forms.specs.Said.Said.{Audited, Cast, Code, Dispute, Spoiled, Voided}
use Rattle.sg_grammar.specs.Due.{each}
use Rattle.sg_record.specs.Tree.{as_line, block_tree, cast_leaf, code_commit_leaf, dispute_tree, fate_tree, instance_row_commit_tree, instance_row_tree, race_code_commit_tree, row_commit_leaf, row_leaf}
use Rattle.sg_record.specs.declared.record.BlockFate.TheVariants as block
use Rattle.sg_record.specs.declared.record.CastLine.{CastLine}
use Rattle.sg_record.specs.declared.record.CastLine.TheVariants as cast
use Rattle.sg_record.specs.inside.Parts.{paper_lines}
use Rattle.sg_post.specs.Marks.{is_audit_fate}
use Rattle.sg_post.specs.Posted.{audited_codes, audited_race_codes, by_entry, by_row, cast_lines, code_commit_of, code_in_row, dispute_of, marked_codes, opened_row, race_cast_lines, race_codes_of, race_notes, row_commit_of, told_blocks}
use Rattle.sg_post.specs.inside.Lines.{audited_block, audited_race, cast_block, cast_race, claim_lines, fate_race, instance_openings, instance_row_commits, marked_code, marked_row_codes, note_lines, race_commits, row_code, row_codes, told_lines}
use Rattle.sg_post.specs.declared.story.Claimed.{Claimed}
use Rattle.sg_post.specs.declared.story.Told.{Told}
use Rattle.sg_post.proofs.Claims.{detail-of, lacks-marks}
use Rattle.sg_post.proofs.Made.{race-list}
use Rattle.sg_post.proofs.Notes.{notes-none}
use Rattle.sg_post.proofs.Numbered.{each-no, flat-numbers, flat-twice, indexed-numbers, map-passing}

-- COMMITMENTS

pub codes-are : (plan : Plan) (seed : List ℕ) (race : ℕ) → race < length plan.races
    → race_code_commit_tree as_line race (get_or (by_entry plan (code_commit_of plan seed)) race []) ≡ race_commits plan seed race
codes-are plan seed race within =
    ap (race_code_commit_tree as_line race) (race-list plan (code_commit_of plan seed) race within) ∙ indexed-numbers (code_commit_leaf as_line race) (code_commit_of plan seed race) (entries_of plan race)

-- the rows of an instance
instance-list : {A : Type 0} (plan : Plan) (value : ℕ → ℕ → ℕ → A) (race instance : ℕ) → race < length plan.races → instance < plan.instances
    → get_or (get_or (by_row plan value) race []) instance [] ≡ map (value race instance) (numbers_below (entries_of plan race))
instance-list {A} plan value race instance within less =
    let list : ℕ → ℕ → List A = λ r i. map (value r i) (numbers_below (entries_of plan r)) in
    ap (λ (l : List (List A)). get_or l instance []) (get_or-map_below (λ r. map (list r) (numbers_below plan.instances)) (length plan.races) race [] within)
    ∙ get_or-map_below (list race) plan.instances instance [] less

pub commits-are : (plan : Plan) (seed : List ℕ) (race instance : ℕ) → race < length plan.races → instance < plan.instances
    → instance_row_commit_tree as_line race instance (get_or (get_or (by_row plan (row_commit_of plan seed)) race []) instance []) ≡ instance_row_commits plan seed race instance
commits-are plan seed race instance within less =
    ap (instance_row_commit_tree as_line race instance) (instance-list plan (row_commit_of plan seed) race instance within less)
    ∙ indexed-numbers (row_commit_leaf as_line race instance) (row_commit_of plan seed race instance) (entries_of plan race)

-- BALLOTS

-- the codes that are marked in a race
marked-are : (plan : Plan) (seed : List ℕ) (ballot : ℕ) (what : Fate) (race : ℕ)
    → map Code (marked_codes plan seed ballot what race) ≡ marked_row_codes plan seed race (ballot_row plan race ballot) what
marked-are plan seed ballot what race =
    let row = ballot_row plan race ballot in
    map-map Code (code_in_row plan seed race row) (marked_columns plan seed race row what)
    ∙ map-passing (λ column. Code (code_in_row plan seed race row column)) (column_marked plan seed race row what) (numbers_below (candidates_of plan race))
    ∙ flat-numbers (marked_code plan seed race row what) (candidates_of plan race)

-- what is posted in a race
cast_race-is : (plan : Plan) (seed : List ℕ) (ballot : ℕ) (what : Fate) (race : ℕ)
    → map (cast_leaf as_line ballot) (race_cast_lines plan seed ballot what race) ≡ cast_race plan seed ballot what race
cast_race-is plan seed ballot what race =
    let line : CastLine → Said = cast_leaf as_line ballot in
    let codes = marked_codes plan seed ballot what race in
    map-append line (map cast.Code codes) (race_notes plan ballot what race)
    ∙ ap (λ l. l ++ map line (race_notes plan ballot what race)) (map-map line cast.Code codes ∙ marked-are plan seed ballot what race)

-- and race by race
cast_races-are : (plan : Plan) (seed : List ℕ) (ballot : ℕ) (what : Fate) → map (cast_leaf as_line ballot) (cast_lines plan seed ballot what) ≡ each (cast_race plan seed ballot what) 0 (length plan.races)
unfolding cast_lines
cast_races-are plan seed ballot what =
    map-flat_map (cast_leaf as_line ballot) (race_cast_lines plan seed ballot what) (numbers_below (length plan.races))
    ∙ flat_map-same (λ race. map (cast_leaf as_line ballot) (race_cast_lines plan seed ballot what race)) (cast_race plan seed ballot what) (numbers_below (length plan.races)) (cast_race-is plan seed ballot what)
    ∙ flat-numbers (cast_race plan seed ballot what) (length plan.races)

pub cast-is : (plan : Plan) (seed : List ℕ) (told : Told) (marks : List Mark) → told.fate ≡ fate.Cast marks
    → told_lines plan seed told ≡ cast_block plan seed told.ballot told.fate
unfolding told_lines
cast-is plan seed told marks is =
    let what : Fate = fate.Cast marks in
    ap (λ (f : Fate). flat_map (block_tree as_line plan) (told_blocks plan seed (record told { fate = f }))) is
    ∙ append-nil (Cast told.ballot ∷ map (cast_leaf as_line told.ballot) (cast_lines plan seed told.ballot what))
    ∙ ap (λ l. Cast told.ballot ∷ l) (cast_races-are plan seed told.ballot what)
    ∙ ap (λ (f : Fate). cast_block plan seed told.ballot f) (sym is)

-- the codes of a ballot row
pub row_codes-are : (plan : Plan) (seed : List ℕ) (ballot race : ℕ) → map Code (race_codes_of plan seed ballot race) ≡ row_codes plan seed race (ballot_row plan race ballot)
row_codes-are plan seed ballot race =
    let row = ballot_row plan race ballot in
    map-map Code (code_in_row plan seed race row) (numbers_below (candidates_of plan race))
    ∙ map-single (λ column. Code (code_in_row plan seed race row column)) (numbers_below (candidates_of plan race))
    ∙ flat-numbers (row_code plan seed race row) (candidates_of plan race)

audited-codes : (plan : Plan) (seed : List ℕ) (ballot : ℕ) → map Code (audited_codes plan seed ballot) ≡ each (audited_race plan seed ballot) 0 (length plan.races)
unfolding audited_codes
audited-codes plan seed ballot =
    map-flat_map Code (audited_race_codes plan seed ballot) (numbers_below (length plan.races)) ∙ flat-numbers (audited_race plan seed ballot) (length plan.races)

pub audited-is : (plan : Plan) (seed : List ℕ) (told : Told) (paper : List (List ℕ)) → told.fate ≡ fate.Audited paper
    → told_lines plan seed told ≡ audited_block plan seed told.ballot told.fate paper
unfolding told_lines
audited-is plan seed told paper is =
    ap (λ (f : Fate). flat_map (block_tree as_line plan) (told_blocks plan seed (record told { fate = f }))) is
    ∙ append-nil _
    ∙ ap (λ l. Audited told.ballot ∷ (paper_lines (races_of_ballot plan told.ballot) paper ++ l)) (audited-codes plan seed told.ballot)
    ∙ ap (λ (f : Fate). audited_block plan seed told.ballot f paper) (sym is)

-- a race that the ballot does not have
cast_race-none : (plan : Plan) (seed : List ℕ) (ballot race : ℕ) (what : Fate) → fate_fits plan ballot what ≡ true → race < length plan.races → ballot_has plan ballot race ≡ false
    → cast_race plan seed ballot what race ≡ []
cast_race-none plan seed ballot race what fit within lacks =
    let row = ballot_row plan race ballot in
    let fits = detail-of plan ballot what fit in
    ap (λ l. l ++ note_lines plan ballot what race)
    (each-no (marked_code plan seed race row what) (candidates_of plan race) (λ column. ap (λ (b : Bool). cond b (row_code plan seed race row column) []) (lacks-marks plan ballot race what fits lacks _)))
    ∙ ap (map (cast_leaf as_line ballot)) (notes-none plan ballot race what fits within lacks)

pub race-none : (plan : Plan) (seed : List ℕ) (ballot race : ℕ) (what : Fate) → fate_fits plan ballot what ≡ true → race < length plan.races → ballot_has plan ballot race ≡ false
    → fate_race plan seed ballot what race ≡ []
race-none plan seed ballot race what fit within lacks = at (is_audit_fate what)
  where
    at : (b : Bool) → cond b (audited_race plan seed ballot race) (cast_race plan seed ballot what race) ≡ []
    at true = ap (λ (has : Bool). map Code (cond has (race_codes_of plan seed ballot race) [])) lacks
    at false = cast_race-none plan seed ballot race what fit within lacks

pub ballots-are : (plan : Plan) (seed : List ℕ) (fates : List Told) → flat_map (block_tree as_line plan) (flat_map (told_blocks plan seed) fates) ≡ flat_map (told_lines plan seed) fates
unfolding told_lines
ballots-are plan seed fates = flat-twice (block_tree as_line plan) (told_blocks plan seed) fates

-- OPENINGS

pub openings-are : (plan : Plan) (seed : List ℕ) (fates : List Told) (draw : Draw) (race instance : ℕ) → race < length plan.races → instance < plan.instances
    → instance_row_tree as_line race instance (get_or (get_or (by_row plan (opened_row plan seed fates draw)) race []) instance []) ≡ instance_openings plan seed fates draw race instance
openings-are plan seed fates draw race instance within less =
    ap (instance_row_tree as_line race instance) (instance-list plan (opened_row plan seed fates draw) race instance within less)
    ∙ indexed-numbers (row_leaf as_line race instance) (opened_row plan seed fates draw race instance) (entries_of plan race)

-- CLAIMS

pub claims-are : (plan : Plan) (seed : List ℕ) (claims : List Claimed) → flat_map (dispute_tree as_line) (map (dispute_of plan seed) claims) ≡ flat_map (claim_lines plan seed) claims
claims-are plan seed claims =
    flat_map-map (dispute_tree as_line) (dispute_of plan seed) claims
    ∙ flat_map-same (λ claimed. dispute_tree as_line (dispute_of plan seed claimed)) (claim_lines plan seed) claims
    (λ claimed. ap (λ l. Dispute claimed.ballot claimed.race claimed.code claimed.word ∷ l) (row_codes-are plan seed claimed.ballot claimed.race))

-- OTHER BALLOTS

pub unused-is : (plan : Plan) (seed : List ℕ) (told : Told) → told.fate ≡ fate.Unused → told_lines plan seed told ≡ []
unfolding told_lines
unused-is plan seed told is = ap (λ (f : Fate). flat_map (block_tree as_line plan) (told_blocks plan seed (record told { fate = f }))) is

pub spoiled-is : (plan : Plan) (seed : List ℕ) (told : Told) → told.fate ≡ fate.Spoiled → told_lines plan seed told ≡ Spoiled told.ballot ∷ []
unfolding told_lines
spoiled-is plan seed told is = ap (λ (f : Fate). flat_map (block_tree as_line plan) (told_blocks plan seed (record told { fate = f }))) is

pub voided-is : (plan : Plan) (seed : List ℕ) (told : Told) → told.fate ≡ fate.Voided → told_lines plan seed told ≡ cond (plan.version == 2) (Voided told.ballot ∷ []) (Spoiled told.ballot ∷ [])
unfolding told_lines
voided-is plan seed told is =
    ap (λ (f : Fate). flat_map (block_tree as_line plan) (told_blocks plan seed (record told { fate = f }))) is ∙ at (plan.version == 2)
  where
    at : (b : Bool) → fate_tree as_line plan told.ballot (cond b block.Voided block.Spoiled) ++ [] ≡ cond b (Voided told.ballot ∷ []) (Spoiled told.ballot ∷ [])
    at true = refl
    at false = refl
