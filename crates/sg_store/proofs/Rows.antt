-- What the statements that add and select rows mean.
use Rattle.std.proofs.Common.{◌≡◌, ℕ, pos, negsuc, List, [], ◌∷◌, length, map, codes, false, None, refl}
use Rattle.sqlite.specs.declared.types.Value.TheVariants.{Null, Int}
use Rattle.sqlite.specs.Term.{Term, lit, col}
use Rattle.sqlite.specs.Query.{Query, inner, end}
use Rattle.sqlite.specs.Source.TheVariants.{Values}
use Rattle.sqlite.specs.Command.TheVariants.{Insert, Select}
use Rattle.sqlite.specs.Collation.TheVariants.{Binary}
use Rattle.sqlite_tied.specs.Compute.{everything}
use Rattle.sqlite.specs.Listing.{understood, reads_listing}
use Rattle.sg_store.specs.Tables.{schema_of}
use Rattle.sg_store.proofs.Meaning.{Means}

-- the text adds a row with these values to the table at this place
abbrev pub Inserts : List ℕ → ℕ → List Term → Type 0
Inserts text at terms = Means (schema_of 6) text (Insert at (Values terms (length terms)))

-- the text shows these columns of all rows, and reads no list of the tables
pub record Selects (text : List ℕ) (query : Query) (names : List (List ℕ)) : Type 0 where
  pub means : Means (schema_of 6) text (Select (record { lets = []; body = query }) names)
  pub unlisted : reads_listing (schema_of 6) text ≡ false

-- all rows of a tree in the order of these columns
abbrev pub all_by : ℕ → List Term → List Term → Query
all_by tree columns keys =
    record { from = inner tree end; filter = []; group = None; project = columns; distinct = false; collations = []; order = map (λ key. (key, record { collation = Binary; descending = false })) keys; limit = lit (Int (negsuc 0)); offset = lit (Int (pos 0)) }

-- the same, in the order of the rowids
abbrev pub by_key : ℕ → List Term → Query
by_key tree columns = all_by tree columns (col 1 0 ∷ [])

abbrev pub insert_setup : List ℕ
insert_setup = codes "INSERT INTO setup (id, body) VALUES (1, ?1)"

abbrev pub setup_terms : List Term
setup_terms = lit (Int (pos 1)) ∷ lit Null ∷ col 0 0 ∷ []

pub setup_inserts : Inserts insert_setup 0 setup_terms
unfolding understood everything
setup_inserts = record { is = refl; plain = (refl, refl) }

abbrev pub select_setup : List ℕ
select_setup = codes "SELECT id, body FROM setup ORDER BY id"

abbrev pub setup_columns : List Term
setup_columns = col 1 0 ∷ col 1 2 ∷ []

pub setup_selects : Selects select_setup (by_key 0 setup_columns) (codes "id" ∷ codes "body" ∷ [])
unfolding understood everything
setup_selects = record { means = record { is = refl; plain = (refl, refl) }; unlisted = refl }

abbrev pub insert_ballot : List ℕ
insert_ballot = codes "INSERT INTO ballot (number, fate, detail) VALUES (?1, ?2, ?3)"

abbrev pub ballot_terms : List Term
ballot_terms = col 0 0 ∷ lit Null ∷ col 0 1 ∷ col 0 2 ∷ []

pub ballot_inserts : Inserts insert_ballot 1 ballot_terms
unfolding understood everything
ballot_inserts = record { is = refl; plain = (refl, refl) }

abbrev pub select_ballot : List ℕ
select_ballot = codes "SELECT number, fate, detail FROM ballot ORDER BY number"

abbrev pub ballot_columns : List Term
ballot_columns = col 1 0 ∷ col 1 2 ∷ col 1 3 ∷ []

pub ballot_selects : Selects select_ballot (by_key 1 ballot_columns) (codes "number" ∷ codes "fate" ∷ codes "detail" ∷ [])
unfolding understood everything
ballot_selects = record { means = record { is = refl; plain = (refl, refl) }; unlisted = refl }

abbrev pub insert_stage : List ℕ
insert_stage = codes "INSERT INTO stage (step, detail) VALUES (?1, ?2)"

abbrev pub stage_terms : List Term
stage_terms = col 0 0 ∷ lit Null ∷ col 0 1 ∷ []

pub stage_inserts : Inserts insert_stage 2 stage_terms
unfolding understood everything
stage_inserts = record { is = refl; plain = (refl, refl) }

abbrev pub select_stage : List ℕ
select_stage = codes "SELECT step, detail FROM stage ORDER BY step"

abbrev pub stage_columns : List Term
stage_columns = col 1 0 ∷ col 1 2 ∷ []

pub stage_selects : Selects select_stage (by_key 2 stage_columns) (codes "step" ∷ codes "detail" ∷ [])
unfolding understood everything
stage_selects = record { means = record { is = refl; plain = (refl, refl) }; unlisted = refl }

abbrev pub insert_claim : List ℕ
insert_claim = codes "INSERT INTO claim (number, ballot, race, code) VALUES (?1, ?2, ?3, ?4)"

abbrev pub claim_terms : List Term
claim_terms = col 0 0 ∷ lit Null ∷ col 0 1 ∷ col 0 2 ∷ col 0 3 ∷ []

pub claim_inserts : Inserts insert_claim 3 claim_terms
unfolding understood everything
claim_inserts = record { is = refl; plain = (refl, refl) }

abbrev pub select_claim : List ℕ
select_claim = codes "SELECT number, ballot, race, code FROM claim ORDER BY number"

abbrev pub claim_columns : List Term
claim_columns = col 1 0 ∷ col 1 2 ∷ col 1 3 ∷ col 1 4 ∷ []

pub claim_selects : Selects select_claim (by_key 3 claim_columns) (codes "number" ∷ codes "ballot" ∷ codes "race" ∷ codes "code" ∷ [])
unfolding understood everything
claim_selects = record { means = record { is = refl; plain = (refl, refl) }; unlisted = refl }

abbrev pub insert_done : List ℕ
insert_done = codes "INSERT INTO done (station, number, act) VALUES (?1, ?2, ?3)"

abbrev pub done_terms : List Term
done_terms = lit Null ∷ col 0 0 ∷ col 0 1 ∷ col 0 2 ∷ []

pub done_inserts : Inserts insert_done 4 done_terms
unfolding understood everything
done_inserts = record { is = refl; plain = (refl, refl) }

abbrev pub select_done : List ℕ
select_done = codes "SELECT station, number, act FROM done ORDER BY station, number"

abbrev pub done_columns : List Term
done_columns = col 1 1 ∷ col 1 2 ∷ col 1 3 ∷ []

abbrev pub done_keys : List Term
done_keys = col 1 1 ∷ col 1 2 ∷ []

pub done_selects : Selects select_done (all_by 4 done_columns done_keys) (codes "station" ∷ codes "number" ∷ codes "act" ∷ [])
unfolding understood everything
done_selects = record { means = record { is = refl; plain = (refl, refl) }; unlisted = refl }

abbrev pub insert_voided : List ℕ
insert_voided = codes "INSERT INTO voided (number) VALUES (?1)"

abbrev pub voided_terms : List Term
voided_terms = col 0 0 ∷ lit Null ∷ []

pub voided_inserts : Inserts insert_voided 5 voided_terms
unfolding understood everything
voided_inserts = record { is = refl; plain = (refl, refl) }

abbrev pub select_voided : List ℕ
select_voided = codes "SELECT number FROM voided ORDER BY number"

abbrev pub voided_columns : List Term
voided_columns = col 1 0 ∷ []

pub voided_selects : Selects select_voided (by_key 6 voided_columns) (codes "number" ∷ [])
unfolding understood everything
voided_selects = record { means = record { is = refl; plain = (refl, refl) }; unlisted = refl }
