-- What a posted record says at each coordinate, and on each line: what the tables and the fates of the ballots say.
use Rattle.std.proofs.Common.{◌≡◌, ℕ, ◌<◌, ◌==◌, nat_lt, Bool, true, false, ◌&&◌, cond, List, [], ◌∷◌, length, map, Some, None, refl, sym, ap, ◌∙◌, arith}
use Rattle.std.specs.List.{flat_map, list_all}
use Rattle.std.specs.Option.{option_and_then, option_map}
use Rattle.std.specs.Prelude.{slice_get, slice_index_or}
use Rattle.std.proofs.lemmas.Bool.{and_parts}
use Rattle.std.proofs.lemmas.Option.{same_Some, slice_get_within}
use Rattle.sg_lists.proofs.Each.{EachOf, of-append, of-flat, of-map}
use Rattle.sg_lists.proofs.Options.{option_and_then-some}
use Rattle.sg_plan.specs.Ballots.{ballot_has, candidates_of, entries_of, races_of_ballot}
use Rattle.sg_plan.specs.Codes.{is_code}
use Rattle.sg_plan.specs.Fates.{fate_fits, mark_fits, marks_differ}
use Rattle.sg_plan.specs.Limits.{fault_of}
use Rattle.sg_plan.specs.declared.plan.ClaimWord.{ClaimWord}
use Rattle.sg_plan.specs.declared.plan.Draw.{Draw}
use Rattle.sg_plan.specs.declared.plan.Fate.{Fate}
use Rattle.sg_plan.specs.declared.plan.Fate.TheVariants as fate
use Rattle.sg_plan.specs.declared.plan.Mark.{Mark}
use Rattle.sg_plan.specs.declared.plan.Plan.{Plan}
use Rattle.sg_plan.specs.declared.plan.Side.{Side}
use Rattle.sg_streams.specs.Numbers.{numbers_below}
use Rattle.sg_tables.proofs.Lists.{get_or-map_below, length-map_below, slice_get-map_below}
use Rattle.sg_forms.specs.declared.line.CodeLine.{CodeLine}
use Rattle.sg_grammar.specs.Placed.{Placed}
use Rattle.sg_grammar.specs.Placed.Placed.{CodeAt, Disputed, RowAt, TotalAt}
use Rattle.sg_grammar.specs.declared.state.Block.{Block}
use Rattle.sg_grammar.specs.declared.state.Block.TheVariants as block
use Rattle.sg_record.specs.Places.{places_in}
use Rattle.sg_record.specs.Tree.{as_place, cast_place, code_leaf, dispute_tree, paper_tree}
use Rattle.sg_record.specs.declared.record.BallotBlock.{BallotBlock}
use Rattle.sg_record.specs.declared.record.BlockFate.{BlockFate}
use Rattle.sg_record.specs.declared.record.BlockFate.TheVariants as blocked
use Rattle.sg_record.specs.declared.record.CastLine.{CastLine}
use Rattle.sg_record.specs.declared.record.CastLine.TheVariants as cast
use Rattle.sg_record.specs.declared.record.Record.{Record}
use Rattle.sg_check.specs.Completions.{IsHalfOf}
use Rattle.sg_check.specs.Facts.{code_commitment, is_flagged, is_marked as posted_marked, is_set as posted_set, half_commitment}
use Rattle.sg_post.proofs.Notes.{IsNote, note_race}
use Rattle.sg_post.proofs.OwnCodes.{HoldsOfOwn, audited_codes-of, cast_lines-of, race_codes-of}
use Rattle.sg_post.proofs.StoryFits.{fits-later, fits_ballot}
use Rattle.sg_post.specs.Fits.{claim_fits, fates_fit}
use Rattle.sg_post.specs.Marks.{flag_of, is_entry_marked, is_place_set, total_of}
use Rattle.sg_post.specs.Posted.{by_row, code_commit_of, code_in_row, code_line_of, dispute_of, fate_blocks, opened_row, posted_record, race_codes_of, row_commit_of, told_blocks}
use Rattle.sg_post.specs.declared.story.Claimed.{Claimed}
use Rattle.sg_post.specs.declared.story.Told.{Told}
use Rattle.sg_facts.proofs.Facts.{are_listed, code_commitment_is}
use Rattle.sg_facts.proofs.Rising.{is_plain, lines-of}
use Rattle.sg_facts.proofs.Sections.{HasLines, blocks-of, papers-of}
use Rattle.sg_facts.specs.Items.{item_in, row_in}
use Rattle.sg_facts.specs.Listed.{AreListed, digest_on}
use Rattle.sg_accepted.proofs.Codes.{codes-marked}

-- ITEMS THAT ARE MADE NUMBER BY NUMBER

pub row_get : {A : Type 0} (plan : Plan) (v : ℕ → ℕ → ℕ → A) (race instance number : ℕ) → IsHalfOf plan race instance number → row_in (by_row plan v) race instance number ≡ Some (v race instance number)
row_get {A} plan v race instance number within =
    let rows : ℕ → ℕ → List A = λ r i. map (v r i) (numbers_below (entries_of plan r)) in
    let instances : ℕ → List (List A) = λ r. map (rows r) (numbers_below plan.instances) in
    ap (option_and_then (λ (lists : List (List A)). item_in lists instance number)) (slice_get-map_below instances (length plan.races) race within.0)
    ∙ (ap (option_and_then (λ (items : List A). slice_get items number)) (slice_get-map_below (rows race) plan.instances instance within.1)
    ∙ slice_get-map_below (v race instance) (entries_of plan race) number within.2)

pub item_get : {A : Type 0} (count : ℕ) (many : ℕ → ℕ) (v : ℕ → ℕ → A) (race number : ℕ) → race < count → number < many race
    → item_in (map (λ r. map (v r) (numbers_below (many r))) (numbers_below count)) race number ≡ Some (v race number)
item_get {A} count many v race number in_race within =
    ap (option_and_then (λ (items : List A). slice_get items number)) (slice_get-map_below (λ r. map (v r) (numbers_below (many r))) count race in_race)
    ∙ slice_get-map_below (v race) (many race) number within

-- an item that stands there has such a number
below_is : {A : Type 0} (f : ℕ → A) (count k : ℕ) (x : A) → slice_get (map f (numbers_below count)) k ≡ Some x → (k < count) × (x ≡ f k)
below_is f count k x there =
    let long = length-map_below f count in
    let inside = slice_get_within (map f (numbers_below count)) k x there in
    let less : k < count = omega (arith, long, inside) in
    (less, same_Some x (f k) (sym there ∙ slice_get-map_below f count k less))

row_is : {A : Type 0} (plan : Plan) (v : ℕ → ℕ → ℕ → A) (race instance number : ℕ) (x : A) → row_in (by_row plan v) race instance number ≡ Some x → IsHalfOf plan race instance number × (x ≡ v race instance number)
row_is {A} plan v race instance number x there =
    let rows : ℕ → ℕ → List A = λ r i. map (v r i) (numbers_below (entries_of plan r)) in
    let instances : ℕ → List (List A) = λ r. map (rows r) (numbers_below plan.instances) in
    let a = option_and_then-some (λ (lists : List (List A)). item_in lists instance number) (slice_get (by_row plan v) race) x there in
    let b = option_and_then-some (λ (items : List A). slice_get items number) (slice_get a.0 instance) x a.2 in
    let in_race = below_is instances (length plan.races) race a.0 a.1 in
    let in_instance = below_is (rows race) plan.instances instance b.0 (ap (λ (l : List (List A)). slice_get l instance) (sym in_race.1) ∙ b.1) in
    let in_row = below_is (v race instance) (entries_of plan race) number x (ap (λ (l : List A). slice_get l number) (sym in_instance.1) ∙ b.2) in
    ((in_race.0, in_instance.0, in_row.0), in_row.1)

-- LINES

pub of-both : {A : Type 0} (P Q : A → Type 0) (xs : List A) → EachOf P xs → EachOf Q xs → EachOf (λ (x : A). P x × Q x) xs
of-both P Q [] here there = tt
of-both P Q (x ∷ xs) here there = ((here.0, there.0), of-both P Q xs here.1 there.1)

-- each ballot's fate fits it
pub fits-each : (plan : Plan) (last : ℕ) (fates : List Told) → fates_fit plan last fates ≡ true → EachOf (λ (told : Told). fits_ballot plan told.ballot told.fate) fates
fits-each plan last [] fit = tt
fits-each plan last (told ∷ fates) fit =
    let parts = and_parts (nat_lt last told.ballot && fate_fits plan told.ballot told.fate) (fates_fit plan told.ballot fates) fit in
    ((fits-later plan last told.ballot told.fate parts.0).1, fits-each plan told.ballot fates parts.1)

-- the lines of a ballot's block have the property
abbrev pub HasBlock : (Placed → Type 0) → Plan → BallotBlock → Type 0
HasBlock P plan one = HasLines P plan one.ballot one.fate

-- a property of the codes that the tables give a ballot
module _ (P : Placed → Type 0) (plan : Plan) (seed : List ℕ) (fine : fault_of plan ≡ None) (own : (kind : Block) (ballot : ℕ) → HoldsOfOwn (λ (code : CodeLine). P (code_leaf as_place kind ballot code)) plan seed ballot) where
  -- the block of a ballot, where its notes of races and its paper have the property too
  pub told-lines : (ballot : ℕ) (what : Fate) → fits_ballot plan ballot what → ((race : ℕ) (line : CastLine) → race < length plan.races → IsNote plan ballot race what line → P (cast_place ballot line))
      → ((paper : List (List ℕ)) → what ≡ fate.Audited paper → EachOf P (paper_tree as_place ballot (races_of_ballot plan ballot) paper))
      → EachOf (HasBlock P plan) (map (λ (w : BlockFate). let one : BallotBlock = record { ballot = ballot; fate = w } in one) (fate_blocks plan seed ballot what))
  told-lines ballot fate.Unused fit noted paper = tt
  told-lines ballot (fate.Cast marks) fit noted paper =
      let fits = (and_parts (list_all (mark_fits plan (races_of_ballot plan ballot)) marks) (marks_differ marks) fit).0 in
      (cast_lines-of (λ (line : CastLine). P (cast_place ballot line)) plan seed marks ballot (own block.Cast ballot) noted fits, tt)
  told-lines ballot fate.Spoiled fit noted paper = (tt, tt)
  told-lines ballot (fate.Audited list) fit noted paper =
      ((paper list refl, audited_codes-of (λ (code : CodeLine). P (code_leaf as_place block.Audited ballot code)) plan seed ballot fine (own block.Audited ballot)), tt)
  told-lines ballot fate.Voided fit noted paper = at_version (plan.version == 2)
    where
      at_version : (b : Bool) → EachOf (HasBlock P plan) (record { ballot = ballot; fate = cond b blocked.Voided blocked.Spoiled } ∷ [])
      at_version true = (tt, tt)
      at_version false = (tt, tt)

  -- the lines of all disputes
  pub claims-of : ((ballot race code : ℕ) (word : ClaimWord) → P (Disputed ballot race code word)) → (claims : List Claimed) → list_all (claim_fits plan) claims ≡ true
      → EachOf P (flat_map (dispute_tree as_place) (map (dispute_of plan seed) claims))
  claims-of disputed [] fit = tt
  claims-of disputed (claimed ∷ claims) fit =
      let parts = and_parts (claim_fits plan claimed) (list_all (claim_fits plan) claims) fit in
      let has = (and_parts (ballot_has plan claimed.ballot claimed.race) (is_code plan claimed.code) parts.0).0 in
      of-append P (dispute_tree as_place (dispute_of plan seed claimed)) (flat_map (dispute_tree as_place) (map (dispute_of plan seed) claims)) (
        disputed claimed.ballot claimed.race claimed.code claimed.word,
        of-map P (code_leaf as_place block.Dispute claimed.ballot) (race_codes_of plan seed claimed.ballot claimed.race)
            (race_codes-of (λ (code : CodeLine). P (code_leaf as_place block.Dispute claimed.ballot code)) plan seed claimed.ballot claimed.race fine (own block.Dispute claimed.ballot) has),
      )
      (claims-of disputed claims parts.1)

-- the line says what the tables and the fates say
abbrev pub SaysRight : Plan → List ℕ → List Told → Draw → Placed → Type 0
SaysRight plan seed fates draw (CodeAt kind ballot race column code) =
    (race < length plan.races) × (ballot_has plan ballot race ≡ true) × (column < candidates_of plan race) × (code ≡ code_line_of plan seed ballot race column)
SaysRight plan seed fates draw (TotalAt race candidate count) = (race < length plan.races) × (candidate < candidates_of plan race) × (count ≡ total_of plan seed fates race candidate)
SaysRight plan seed fates draw (RowAt race instance number opening) = IsHalfOf plan race instance number × (opening ≡ opened_row plan seed fates draw race instance number)
SaysRight plan seed fates draw line = Unit {0}

module _ (plan : Plan) (seed : List ℕ) (fates : List Told) (draw : Draw) where
  own : (kind : Block) (ballot : ℕ) → HoldsOfOwn (λ (code : CodeLine). SaysRight plan seed fates draw (code_leaf as_place kind ballot code)) plan seed ballot
  unfolding code_in_row
  own kind ballot = λ race column has within below. (within, has, below, refl)

  plain-right : (line : Placed) → is_plain line ≡ true → SaysRight plan seed fates draw line
  plain-right (CodeAt kind ballot race column code) is = cc
  plain-right (TotalAt race candidate count) is = cc
  plain-right (RowAt race instance number opening) is = cc
  plain-right line is = tt

  note-right : (ballot race : ℕ) (line : CastLine) → note_race line ≡ Some race → SaysRight plan seed fates draw (cast_place ballot line)
  note-right ballot race (cast.Code code) of = cc
  note-right ballot race line of = tt

  total-right : (race candidate count : ℕ) → race < length plan.races
      → slice_get (slice_index_or (map (λ r. map (total_of plan seed fates r) (numbers_below (candidates_of plan r))) (numbers_below (length plan.races))) race []) candidate ≡ Some count
      → SaysRight plan seed fates draw (TotalAt race candidate count)
  total-right race candidate count within there =
      let list = get_or-map_below (λ r. map (total_of plan seed fates r) (numbers_below (candidates_of plan r))) (length plan.races) race [] within in
      let is = below_is (total_of plan seed fates race) (candidates_of plan race) candidate count (ap (λ (l : List ℕ). slice_get l candidate) (sym list) ∙ there) in
      (within, is.0, is.1)

  -- each line of the record does
  pub all-right : (claims : List Claimed) → fault_of plan ≡ None → fates_fit plan 0 fates ≡ true → list_all (claim_fits plan) claims ≡ true
      → EachOf (SaysRight plan seed fates draw) (places_in (posted_record plan seed fates draw claims))
  all-right claims fine fit claimed =
      let P : Placed → Type 0 = SaysRight plan seed fates draw in
      lines-of P (posted_record plan seed fates draw claims) plain-right
      (blocks-of P (λ ballot. tt) plan (flat_map (told_blocks plan seed) fates)
      (of-flat (HasBlock P plan) (λ (told : Told). fits_ballot plan told.ballot told.fate) (told_blocks plan seed) fates
      (λ told fits. told-lines P plan seed fine own told.ballot told.fate fits (λ race line within note. note-right told.ballot race line note.of)
      (λ paper is. papers-of P (λ ballot race list. tt) told.ballot (races_of_ballot plan told.ballot) paper)) (fits-each plan 0 fates fit))) total-right
      (λ race instance number opening there. row_is plan (opened_row plan seed fates draw) race instance number opening there)
      (claims-of P plan seed fine own (λ ballot race code word. tt) claims claimed)

-- COORDINATES

module _ (plan : Plan) (seed : List ℕ) (fates : List Told) (draw : Draw) (claims : List Claimed) where
  abbrev posted : Record
  posted = posted_record plan seed fates draw claims

  abbrev lines : List Placed
  lines = places_in posted

  listed : AreListed posted
  listed = are_listed posted

  pub committed_code : (race entry : ℕ) → race < length plan.races → entry < entries_of plan race → code_commitment race entry lines ≡ Some (code_commit_of plan seed race entry)
  committed_code race entry in_race within = code_commitment_is posted race entry ∙ item_get (length plan.races) (entries_of plan) (code_commit_of plan seed) race entry in_race within

  pub committed_half : (on : Side) (race instance number : ℕ) → IsHalfOf plan race instance number → half_commitment lines on race instance number ≡ Some (digest_on on (row_commit_of plan seed race instance number))
  committed_half on race instance number within =
      listed.commitment on race instance number ∙ ap (option_map (digest_on on)) (row_get plan (row_commit_of plan seed) race instance number within)

  pub flag_is : (race instance number : ℕ) → IsHalfOf plan race instance number → is_flagged race instance number lines ≡ flag_of plan seed fates race instance number
  flag_is race instance number within =
      listed.flag race instance number (flag_of plan seed fates race instance number) within.0 (row_get plan (flag_of plan seed fates) race instance number within)

  pub set_is : (race place : ℕ) → race < length plan.races → place < entries_of plan race → posted_set race place lines ≡ is_place_set plan seed fates race place
  set_is race place in_race within =
      listed.place race place (is_place_set plan seed fates race place) in_race (item_get (length plan.races) (entries_of plan) (is_place_set plan seed fates) race place in_race within)

  pub marked_is : fault_of plan ≡ None → fates_fit plan 0 fates ≡ true → (race entry : ℕ) → race < length plan.races → posted_marked plan race entry lines ≡ is_entry_marked plan seed fates race entry
  marked_is fine fit race entry in_race = codes-marked plan seed fates draw claims fine fit race entry in_race
