-- A property of each line of a record, section by section.
use Rattle.std.proofs.Common.{◌≡◌, ℕ, ◌-◌, ◌<◌, Bool, List, [], ◌∷◌, ◌++◌, length, map, drop, take, Some, arith}
use Rattle.std.specs.List.{flat_map, zip}
use Rattle.std.specs.Prelude.{slice_get, slice_index_or}
use Rattle.sg_lists.proofs.Each.{EachOf, of-all, of-append, of-every, of-map}
use Rattle.sg_grammar.proofs.Lists.{of-numbered}
use Rattle.sg_commit.specs.declared.Digest.{Digest}
use Rattle.sg_plan.specs.Ballots.{races_of_ballot}
use Rattle.sg_plan.specs.declared.plan.ClaimWord.{ClaimWord}
use Rattle.sg_plan.specs.declared.plan.Draw.{Draw}
use Rattle.sg_plan.specs.declared.plan.Draw.TheVariants as drawn
use Rattle.sg_plan.specs.declared.plan.Plan.{Plan}
use Rattle.sg_forms.specs.Said.{Said}
use Rattle.sg_forms.specs.declared.line.CodeLine.{CodeLine}
use Rattle.sg_forms.specs.declared.line.RowOpening.{RowOpening}
use Rattle.sg_grammar.specs.Due.{lines_for}
use Rattle.sg_grammar.specs.Placed.{Placed}
use Rattle.sg_grammar.specs.Placed.Placed.{Begun, CodeAt, CodeCommitAt, Disputed, DrawnFull, DrawnPublic, FlagsAt, OfPlan, PaperAt, PlacesAt, RowAt, RowCommitAt, SealAt, TotalAt}
use Rattle.sg_grammar.specs.declared.state.Block.TheVariants as block
use Rattle.sg_record.specs.Lines.{plan_lines}
use Rattle.sg_record.specs.Tree.{as_place, block_tree, cast_leaf, cast_place, code_commit_leaf, code_leaf, commit_tree, dispute_tree, draw_leaf, fate_tree, flag_leaf, flag_tree, indexed, opening_tree, paper_tree, place_leaf, place_tree, race_code_commit_tree, race_results_tree, race_row_commit_tree, race_row_tree, result_tree, row_commit_leaf, row_leaf, seal_tree, total_leaf}
use Rattle.sg_record.specs.declared.record.BallotBlock.{BallotBlock}
use Rattle.sg_record.specs.declared.record.BlockFate.{BlockFate}
use Rattle.sg_record.specs.declared.record.BlockFate.TheVariants as fate
use Rattle.sg_record.specs.declared.record.CastLine.{CastLine}
use Rattle.sg_record.specs.declared.record.DisputeBlock.{DisputeBlock}
use Rattle.sg_record.specs.declared.record.Record.{Record}
use Rattle.sg_facts.specs.Items.{row_in}
use Rattle.sg_facts.proofs.Finding.{of-each, of-entries, of-flat_map, of-items, of-rows}

module _ (P : Placed → Type 0) where
  pub plan-of : (plan : Plan) → ((said : Said) → P (OfPlan said)) → EachOf P (map OfPlan (plan_lines plan))
  plan-of plan holds = of-all P OfPlan (plan_lines plan) holds

  pub seals-of : (number : ℕ) (seals : List Digest) → ((digest : Digest) → P (SealAt number digest)) → EachOf P (seal_tree as_place number seals)
  seals-of number seals holds = of-all P (SealAt number) (take 1 (drop (number - 1) seals)) holds

  pub codes-of : (posted : Record) → ((race entry : ℕ) (digest : Digest) → P (CodeCommitAt race entry digest)) → EachOf P (indexed (race_code_commit_tree as_place) 0 posted.code_commits)
  codes-of posted code = of-entries P (code_commit_leaf as_place) posted.code_commits (λ race entry digest is. (code race entry digest, tt))

  pub row_commits-of : (posted : Record) → ((race instance row : ℕ) (left right : Digest) → P (RowCommitAt race instance row left right)) → EachOf P (indexed (race_row_commit_tree as_place) 0 posted.row_commits)
  row_commits-of posted row = of-rows P (row_commit_leaf as_place) posted.row_commits (λ race instance number commit is. (row race instance number commit.left commit.right, tt))

  pub commits-of : (posted : Record) → ((race entry : ℕ) (digest : Digest) → P (CodeCommitAt race entry digest))
      → ((race instance row : ℕ) (left right : Digest) → P (RowCommitAt race instance row left right)) → ((digest : Digest) → P (SealAt 1 digest)) → EachOf P (commit_tree as_place posted)
  commits-of posted code row seal =
      of-append P (indexed (race_code_commit_tree as_place) 0 posted.code_commits) (indexed (race_row_commit_tree as_place) 0 posted.row_commits ++ seal_tree as_place 1 posted.seals)
      (codes-of posted code)
      (of-append P (indexed (race_row_commit_tree as_place) 0 posted.row_commits) (seal_tree as_place 1 posted.seals) (row_commits-of posted row) (seals-of 1 posted.seals seal))

  -- what holds of the lines that a block shows
  abbrev pub HasLines : Plan → ℕ → BlockFate → Type 0
  HasLines plan ballot (fate.Cast lines) = EachOf (λ (line : CastLine). P (cast_place ballot line)) lines
  HasLines plan ballot (fate.Audited papers codes) = EachOf P (paper_tree as_place ballot (races_of_ballot plan ballot) papers) × EachOf (λ (code : CodeLine). P (code_leaf as_place block.Audited ballot code)) codes
  HasLines plan ballot other = Unit {0}

  pub papers-of : ((ballot race : ℕ) (list : List ℕ) → P (PaperAt ballot race list)) → (ballot : ℕ) (races : List ℕ) (papers : List (List ℕ)) → EachOf P (paper_tree as_place ballot races papers)
  papers-of paper ballot races papers = of-all P (λ (one : ℕ × List ℕ). PaperAt ballot one.0 one.1) (zip races papers) (λ one. paper ballot one.0 one.1)

  module _ (begun : (ballot : ℕ) → P (Begun ballot)) where
    fate-of : (plan : Plan) (ballot : ℕ) (what : BlockFate) → HasLines plan ballot what → EachOf P (fate_tree as_place plan ballot what)
    fate-of plan ballot (fate.Cast lines) all = (begun ballot, of-map P (cast_leaf as_place ballot) lines all)
    fate-of plan ballot (fate.Audited papers codes) all =
        (begun ballot, of-append P (paper_tree as_place ballot (races_of_ballot plan ballot) papers) (map (code_leaf as_place block.Audited ballot) codes) all.0 (of-map P (code_leaf as_place block.Audited ballot) codes all.1))
    fate-of plan ballot other all = (begun ballot, tt)

    pub blocks-of : (plan : Plan) (blocks : List BallotBlock) → EachOf (λ (one : BallotBlock). HasLines plan one.ballot one.fate) blocks → EachOf P (flat_map (block_tree as_place plan) blocks)
    blocks-of plan [] all = tt
    blocks-of plan (one ∷ blocks) all = of-append P (block_tree as_place plan one) (flat_map (block_tree as_place plan) blocks) (fate-of plan one.ballot one.fate all.0) (blocks-of plan blocks all.1)

    pub ballots-of : ((ballot : ℕ) (line : CastLine) → P (cast_place ballot line)) → ((ballot race : ℕ) (list : List ℕ) → P (PaperAt ballot race list)) → ((ballot : ℕ) (code : CodeLine) → P (code_leaf as_place block.Audited ballot code))
        → (plan : Plan) (blocks : List BallotBlock) → EachOf P (flat_map (block_tree as_place plan) blocks)
    ballots-of cast paper audited plan blocks = blocks-of plan blocks (of-every (λ (one : BallotBlock). HasLines plan one.ballot one.fate) blocks (λ one. of-lines one.ballot one.fate))
      where
        of-lines : (ballot : ℕ) (what : BlockFate) → HasLines plan ballot what
        of-lines ballot (fate.Cast lines) = of-every (λ (line : CastLine). P (cast_place ballot line)) lines (cast ballot)
        of-lines ballot (fate.Audited papers codes) =
            (papers-of paper ballot (races_of_ballot plan ballot) papers, of-every (λ (code : CodeLine). P (code_leaf as_place block.Audited ballot code)) codes (audited ballot))
        of-lines ballot other = tt

  pub race_flags-of : (race : ℕ) (flags : List (List Bool)) → ((instance from : ℕ) (bits : List ℕ) → P (FlagsAt race instance from bits)) → EachOf P (indexed (flag_tree as_place race) 0 flags)
  race_flags-of race flags holds = of-items P (flag_tree as_place race) flags (λ instance bits is. of-each P (flag_leaf as_place race instance bits) 0 (lines_for (length bits)) (λ line. (holds instance _ _, tt)))

  pub race_sets-of : (race : ℕ) (bits : List Bool) → ((from : ℕ) (signs : List ℕ) → P (PlacesAt race from signs)) → EachOf P (place_tree as_place race bits)
  race_sets-of race bits holds = of-each P (place_leaf as_place race bits) 0 (lines_for (length bits)) (λ line. (holds _ _, tt))

  pub race_totals-of : (race : ℕ) (counts : List ℕ) → ((candidate count : ℕ) → slice_get counts candidate ≡ Some count → P (TotalAt race candidate count)) → EachOf P (indexed (total_leaf as_place race) 0 counts)
  race_totals-of race counts holds = of-items P (total_leaf as_place race) counts (λ candidate count is. (holds candidate count is, tt))

  pub race_results-of : (posted : Record) (race : ℕ) → ((instance from : ℕ) (bits : List ℕ) → P (FlagsAt race instance from bits)) → ((from : ℕ) (bits : List ℕ) → P (PlacesAt race from bits))
      → ((candidate count : ℕ) → slice_get (slice_index_or posted.totals race []) candidate ≡ Some count → P (TotalAt race candidate count)) → EachOf P (race_results_tree as_place posted race)
  race_results-of posted race flags places totals =
      of-append P (indexed (flag_tree as_place race) 0 (slice_index_or posted.flags race [])) (place_tree as_place race (slice_index_or posted.places race []) ++ indexed (total_leaf as_place race) 0 (slice_index_or posted.totals race []))
      (race_flags-of race (slice_index_or posted.flags race []) flags)
      (of-append P (place_tree as_place race (slice_index_or posted.places race [])) (indexed (total_leaf as_place race) 0 (slice_index_or posted.totals race []))
      (race_sets-of race (slice_index_or posted.places race []) places) (race_totals-of race (slice_index_or posted.totals race []) totals))

  pub results-of : (posted : Record) → ((race instance from : ℕ) (bits : List ℕ) → P (FlagsAt race instance from bits)) → ((race from : ℕ) (bits : List ℕ) → P (PlacesAt race from bits))
      → ((race candidate count : ℕ) → race < length posted.plan.races → slice_get (slice_index_or posted.totals race []) candidate ≡ Some count → P (TotalAt race candidate count)) → ((digest : Digest) → P (SealAt 2 digest))
      → EachOf P (result_tree as_place posted)
  results-of posted flags places totals seal =
      of-append P _ (seal_tree as_place 2 posted.seals)
      (of-numbered P (race_results_tree as_place posted) 0 (length posted.plan.races - 0) (λ race a b. race_results-of posted race (flags race) (places race) (λ candidate count is. totals race candidate count (omega (arith, b)) is)))
      (seals-of 2 posted.seals seal)

  pub draw-of : (draw : Draw) → P DrawnFull → ((digits : List ℕ) → P (DrawnPublic digits)) → P (draw_leaf as_place draw)
  draw-of drawn.Full full public = full
  draw-of (drawn.Public bytes) full public = public _

  pub rows-of : (posted : Record) → ((race instance row : ℕ) (opening : RowOpening) → row_in posted.rows race instance row ≡ Some opening → P (RowAt race instance row opening)) → EachOf P (indexed (race_row_tree as_place) 0 posted.rows)
  rows-of posted row = of-rows P (row_leaf as_place) posted.rows (λ race instance number opening is. (row race instance number opening is, tt))

  pub openings-of : (posted : Record) → P DrawnFull → ((digits : List ℕ) → P (DrawnPublic digits))
      → ((race instance row : ℕ) (opening : RowOpening) → row_in posted.rows race instance row ≡ Some opening → P (RowAt race instance row opening)) → ((digest : Digest) → P (SealAt 3 digest)) → EachOf P (opening_tree as_place posted)
  openings-of posted full public row seal = (
    draw-of posted.draw full public,
    of-append P (indexed (race_row_tree as_place) 0 posted.rows) (seal_tree as_place 3 posted.seals) (rows-of posted row) (seals-of 3 posted.seals seal),
  )

  pub disputes-of : (blocks : List DisputeBlock) → ((ballot race code : ℕ) (word : ClaimWord) → P (Disputed ballot race code word))
      → ((ballot race column : ℕ) (code : CodeLine) → P (CodeAt block.Dispute ballot race column code)) → EachOf P (flat_map (dispute_tree as_place) blocks)
  disputes-of blocks disputed coded =
      of-flat_map P (dispute_tree as_place) blocks (λ one. (disputed one.ballot one.race one.code one.word, of-all P (code_leaf as_place block.Dispute one.ballot) one.codes (λ code. coded one.ballot code.race code.column code)))
