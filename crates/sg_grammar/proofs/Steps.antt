-- From slot to slot: behind each line that is due stands the next one.
use Rattle.std.proofs.Common.{◌≡◌, ℕ, ◌+◌, ◌-◌, ◌<◌, ◌≤◌, true, false, cond, List, [], ◌∷◌, ◌++◌, length, refl, sym, ap, ◌∙◌, append_assoc, arith}
use Rattle.std.proofs.lemmas.List.{append-nil}
use Rattle.sg_plan.proofs.PlanLaws.{ballot_has-true}
use Rattle.sg_plan.specs.Ballots.{ballot_has, candidates_of, entries_of}
use Rattle.sg_plan.specs.declared.plan.Plan.{Plan}
use Rattle.sg_grammar.specs.Due.{numbered, code_line, race_codes, ballot_paper, ballot_codes, code_commit, race_code_commits, row_commit, instance_row_commits, race_row_commits, lines_for, bits_on, due_flags, instance_flags, due_places, due_totals, race_results, row_opening, instance_rows, race_rows}
use Rattle.sg_grammar.specs.Slots.{code_commits_from, row_commits_from, codes_from, papers_from, results_from, totals_from, places_from, rows_from, rest_of, rest_of_codes, HasNoEntries}
use Rattle.sg_grammar.specs.Coordinates.{IsRaceOf, LacksRaces}
use Rattle.sg_grammar.specs.declared.state.Block.{Block}
use Rattle.sg_grammar.specs.declared.state.Block.TheVariants as block
use Rattle.sg_grammar.specs.declared.state.Slot.{Slot}
use Rattle.sg_grammar.specs.declared.state.Slot.TheVariants as slot
use Rattle.sg_grammar.proofs.Each.{each-none, each-first, each-over, each-enter, each-enter_two, each-skip}

-- RACES AND ENTRIES

-- the races from `from` on are those from `to` on, where none between has a line
pub each-races : {A : Type 0} (f : ℕ → List A) (plan : Plan) (from to : ℕ) (rest : List A) → from ≤ to → to ≤ length plan.races → HasNoEntries plan from to → ((race : ℕ) → entries_of plan race ≡ 0 → f race ≡ []) → numbered f from (length plan.races - from) ++ rest ≡ numbered f to (length plan.races - to) ++ rest
each-races f plan from to rest a b none empty = ap (λ l. l ++ rest) (each-skip f from (to - from) to (length plan.races) (omega arith) b (λ race l u. empty race (none.none race l u)))

-- nothing is left of the races from `from` on, where none of them has a line
pub each-no_races : {A : Type 0} (f : ℕ → List A) (plan : Plan) (from : ℕ) (rest : List A) → from ≤ length plan.races → HasNoEntries plan from (length plan.races) → ((race : ℕ) → entries_of plan race ≡ 0 → f race ≡ []) → numbered f from (length plan.races - from) ++ rest ≡ rest
each-no_races f plan from rest a none empty = each-races f plan from (length plan.races) rest a (omega arith) none empty ∙ each-over f (length plan.races) (length plan.races) rest (omega arith)

-- a race with no entry has none of the lines that there are for each entry
pub no_lines : {A : Type 0} (f : ℕ → List A) (plan : Plan) (race : ℕ) → entries_of plan race ≡ 0 → numbered f 0 (entries_of plan race - 0) ≡ []
no_lines f plan race e = each-none f 0 (entries_of plan race) (omega arith)

-- lists that are empty, one after another
pub each-nothing : {A : Type 0} (f : ℕ → List A) (count : ℕ) → ((k : ℕ) → f k ≡ []) → numbered f 0 (count - 0) ≡ []
each-nothing f count empty = each-skip f 0 count count count (omega arith) (omega arith) (λ k a b. empty k) ∙ each-none f count count (omega arith)

-- SECTION 1: THE COMMITMENTS

pub code_commits_first : (plan : Plan) (from race : ℕ) → from ≤ race → race < length plan.races → 0 < entries_of plan race → HasNoEntries plan from race → code_commits_from plan from ≡ slot.CodeCommit race 0 ∷ rest_of plan (slot.CodeCommit race 0)
code_commits_first plan from race a b c none =
    each-races (race_code_commits plan) plan from race (row_commits_from plan 0) a (omega arith) none (λ r e. no_lines (code_commit r) plan r e)
    ∙ each-enter_two (race_code_commits plan) (code_commit race) race (length plan.races) 0 (entries_of plan race) (slot.CodeCommit race 0) [] (row_commits_from plan 0) b c refl refl

pub code_commits_none : (plan : Plan) (from : ℕ) → from ≤ length plan.races → HasNoEntries plan from (length plan.races) → code_commits_from plan from ≡ row_commits_from plan 0
code_commits_none plan from a none = each-no_races (race_code_commits plan) plan from (row_commits_from plan 0) a none (λ r e. no_lines (code_commit r) plan r e)

pub code_commit_next : (plan : Plan) (race entry : ℕ) → entry + 1 < entries_of plan race → rest_of plan (slot.CodeCommit race entry) ≡ slot.CodeCommit race (entry + 1) ∷ rest_of plan (slot.CodeCommit race (entry + 1))
code_commit_next plan race entry a = each-enter (code_commit race) (entry + 1) (entries_of plan race) (slot.CodeCommit race (entry + 1)) [] (code_commits_from plan (race + 1)) a refl

pub code_commit_last : (plan : Plan) (race entry : ℕ) → entries_of plan race ≤ entry + 1 → rest_of plan (slot.CodeCommit race entry) ≡ code_commits_from plan (race + 1)
code_commit_last plan race entry a = each-over (code_commit race) (entry + 1) (entries_of plan race) (code_commits_from plan (race + 1)) a

-- a race with no entry has no commitment of a row
pub no_row_commits : (plan : Plan) (race : ℕ) → entries_of plan race ≡ 0 → race_row_commits plan race ≡ []
no_row_commits plan race e = each-nothing (instance_row_commits plan race) plan.instances (λ i. no_lines (row_commit race i) plan race e)

-- the commitments of a race's rows from an instance on
pub instance_row_commits_first : (plan : Plan) (race instance : ℕ) (rest : List Slot) → instance < plan.instances → 0 < entries_of plan race → numbered (instance_row_commits plan race) instance (plan.instances - instance) ++ rest ≡ slot.RowCommit race instance 0 ∷ (numbered (row_commit race instance) 1 (entries_of plan race - 1) ++ (numbered (instance_row_commits plan race) (instance + 1) (plan.instances - (instance + 1)) ++ rest))
instance_row_commits_first plan race instance rest a b = each-enter_two (instance_row_commits plan race) (row_commit race instance) instance plan.instances 0 (entries_of plan race) (slot.RowCommit race instance 0) [] rest a b refl refl

pub row_commits_first : (plan : Plan) (from race : ℕ) → from ≤ race → race < length plan.races → 0 < plan.instances → 0 < entries_of plan race → HasNoEntries plan from race → row_commits_from plan from ≡ slot.RowCommit race 0 0 ∷ rest_of plan (slot.RowCommit race 0 0)
row_commits_first plan from race a b c d none =
    each-races (race_row_commits plan) plan from race (slot.Seal 1 ∷ []) a (omega arith) none (no_row_commits plan)
    ∙ (rw (each-first (race_row_commits plan) race (length plan.races) b, append_assoc) (instance_row_commits_first plan race 0 (row_commits_from plan (race + 1)) c d))

pub row_commits_none : (plan : Plan) (from : ℕ) → from ≤ length plan.races → HasNoEntries plan from (length plan.races) → row_commits_from plan from ≡ slot.Seal 1 ∷ []
row_commits_none plan from a none = each-no_races (race_row_commits plan) plan from (slot.Seal 1 ∷ []) a none (no_row_commits plan)

pub row_commit_next : (plan : Plan) (race instance row : ℕ) → row + 1 < entries_of plan race → rest_of plan (slot.RowCommit race instance row) ≡ slot.RowCommit race instance (row + 1) ∷ rest_of plan (slot.RowCommit race instance (row + 1))
row_commit_next plan race instance row a = each-enter (row_commit race instance) (row + 1) (entries_of plan race) (slot.RowCommit race instance (row + 1)) [] (numbered (instance_row_commits plan race) (instance + 1) (plan.instances - (instance + 1)) ++ row_commits_from plan (race + 1)) a refl

pub row_commit_instance : (plan : Plan) (race instance row : ℕ) → entries_of plan race ≤ row + 1 → 0 < entries_of plan race → instance + 1 < plan.instances → rest_of plan (slot.RowCommit race instance row) ≡ slot.RowCommit race (instance + 1) 0 ∷ rest_of plan (slot.RowCommit race (instance + 1) 0)
row_commit_instance plan race instance row a b c =
    each-over (row_commit race instance) (row + 1) (entries_of plan race) (numbered (instance_row_commits plan race) (instance + 1) (plan.instances - (instance + 1)) ++ row_commits_from plan (race + 1)) a
    ∙ instance_row_commits_first plan race (instance + 1) (row_commits_from plan (race + 1)) c b

pub row_commit_last : (plan : Plan) (race instance row : ℕ) → entries_of plan race ≤ row + 1 → plan.instances ≤ instance + 1 → rest_of plan (slot.RowCommit race instance row) ≡ row_commits_from plan (race + 1)
row_commit_last plan race instance row a b =
    each-over (row_commit race instance) (row + 1) (entries_of plan race) (numbered (instance_row_commits plan race) (instance + 1) (plan.instances - (instance + 1)) ++ row_commits_from plan (race + 1)) a
    ∙ each-over (instance_row_commits plan race) (instance + 1) plan.instances (row_commits_from plan (race + 1)) b

pub ruleset commit_steps = (code_commits_first, code_commits_none, code_commit_next, code_commit_last, row_commits_first, row_commits_none, row_commit_next, row_commit_instance, row_commit_last)

-- SECTION 2: THE BLOCK OF AN AUDITED BALLOT, AND OF A DISPUTE

-- a ballot that has a race is one of the plan
pub race_of_ballot : (plan : Plan) (ballot race : ℕ) → race < length plan.races → ballot_has plan ballot race ≡ true → IsRaceOf plan ballot race
race_of_ballot plan ballot race a has = let of = ballot_has-true plan ballot race has in (a, of.first, of.last, has)

-- the races from `from` on are those from `to` on, where the ballot has none between
pub each-lacking : (f : ℕ → List Slot) (plan : Plan) (ballot from to : ℕ) → from ≤ to → to ≤ length plan.races → LacksRaces plan ballot from to → ((race : ℕ) → ballot_has plan ballot race ≡ false → f race ≡ []) → numbered f from (length plan.races - from) ≡ numbered f to (length plan.races - to)
each-lacking f plan ballot from to a b none empty = each-skip f from (to - from) to (length plan.races) (omega arith) b (λ race l u. empty race (none.none race l u))

pub no_codes : (plan : Plan) (ballot race : ℕ) → ballot_has plan ballot race ≡ false → ballot_codes plan ballot race ≡ []
no_codes plan ballot race e = ap (λ b. cond b (race_codes plan block.Audited ballot race) []) e

pub codes_first : (plan : Plan) (ballot from race : ℕ) → from ≤ race → race < length plan.races → ballot_has plan ballot race ≡ true → 0 < candidates_of plan race → LacksRaces plan ballot from race → codes_from plan ballot from ≡ slot.Code block.Audited ballot race 0 ∷ rest_of plan (slot.Code block.Audited ballot race 0)
codes_first plan ballot from race a b has c none =
    each-lacking (ballot_codes plan ballot) plan ballot from race a (omega arith) none (no_codes plan ballot)
    ∙ each-first (ballot_codes plan ballot) race (length plan.races) b
    ∙ ap (λ b. cond b (race_codes plan block.Audited ballot race) [] ++ codes_from plan ballot (race + 1)) has
    ∙ each-enter (code_line block.Audited ballot race) 0 (candidates_of plan race) (slot.Code block.Audited ballot race 0) [] (codes_from plan ballot (race + 1)) c refl

pub codes_none : (plan : Plan) (ballot from : ℕ) → from ≤ length plan.races → LacksRaces plan ballot from (length plan.races) → codes_from plan ballot from ≡ []
codes_none plan ballot from a none =
    each-lacking (ballot_codes plan ballot) plan ballot from (length plan.races) a (omega arith) none (no_codes plan ballot)
    ∙ each-none (ballot_codes plan ballot) (length plan.races) (length plan.races) (omega arith)

pub no_paper : (plan : Plan) (ballot race : ℕ) → ballot_has plan ballot race ≡ false → ballot_paper plan ballot race ≡ []
no_paper plan ballot race e = ap (λ b. cond b (slot.Paper ballot race (candidates_of plan race) ∷ []) []) e

pub one_paper : (plan : Plan) (ballot race : ℕ) → ballot_has plan ballot race ≡ true → ballot_paper plan ballot race ≡ slot.Paper ballot race (candidates_of plan race) ∷ []
one_paper plan ballot race e = ap (λ b. cond b (slot.Paper ballot race (candidates_of plan race) ∷ []) []) e

pub papers_first : (plan : Plan) (ballot from race : ℕ) → from ≤ race → race < length plan.races → ballot_has plan ballot race ≡ true → LacksRaces plan ballot from race → papers_from plan ballot from ≡ slot.Paper ballot race (candidates_of plan race) ∷ rest_of plan (slot.Paper ballot race 0)
papers_first plan ballot from race a b has none =
    ap (λ l. l ++ codes_from plan ballot 0) (each-lacking (ballot_paper plan ballot) plan ballot from race a (omega arith) none (no_paper plan ballot))
    ∙ each-enter (ballot_paper plan ballot) race (length plan.races) (slot.Paper ballot race (candidates_of plan race)) [] (codes_from plan ballot 0) b (one_paper plan ballot race has)

pub papers_none : (plan : Plan) (ballot from : ℕ) → from ≤ length plan.races → LacksRaces plan ballot from (length plan.races) → papers_from plan ballot from ≡ codes_from plan ballot 0
papers_none plan ballot from a none =
    ap (λ l. l ++ codes_from plan ballot 0) (each-lacking (ballot_paper plan ballot) plan ballot from (length plan.races) a (omega arith) none (no_paper plan ballot))
    ∙ each-over (ballot_paper plan ballot) (length plan.races) (length plan.races) (codes_from plan ballot 0) (omega arith)

pub code_next : (plan : Plan) (kind : Block) (ballot race column : ℕ) → column + 1 < candidates_of plan race → rest_of plan (slot.Code kind ballot race column) ≡ slot.Code kind ballot race (column + 1) ∷ rest_of plan (slot.Code kind ballot race (column + 1))
code_next plan kind ballot race column a = each-enter (code_line kind ballot race) (column + 1) (candidates_of plan race) (slot.Code kind ballot race (column + 1)) [] (rest_of_codes plan kind ballot race) a refl

pub code_last : (plan : Plan) (kind : Block) (ballot race column : ℕ) → candidates_of plan race ≤ column + 1 → rest_of plan (slot.Code kind ballot race column) ≡ rest_of_codes plan kind ballot race
code_last plan kind ballot race column a = each-over (code_line kind ballot race) (column + 1) (candidates_of plan race) (rest_of_codes plan kind ballot race) a

pub dispute_first : (plan : Plan) (ballot race : ℕ) → 0 < candidates_of plan race → race_codes plan block.Dispute ballot race ≡ slot.Code block.Dispute ballot race 0 ∷ rest_of plan (slot.Code block.Dispute ballot race 0)
dispute_first plan ballot race a =
    sym (append-nil (race_codes plan block.Dispute ballot race))
    ∙ each-enter (code_line block.Dispute ballot race) 0 (candidates_of plan race) (slot.Code block.Dispute ballot race 0) [] [] a refl

pub ruleset audit_steps = (race_of_ballot, codes_first, codes_none, papers_first, papers_none, code_next, code_last, dispute_first)

-- SECTION 2: THE RESULTS

-- a race with no entry has no line of flags
pub no_flags : (plan : Plan) (race : ℕ) → entries_of plan race ≡ 0 → numbered (instance_flags plan race) 0 (plan.instances - 0) ≡ []
no_flags plan race e = each-nothing (instance_flags plan race) plan.instances (λ i. each-none (due_flags plan race i) 0 (lines_for (entries_of plan race)) (rw e (omega arith)))

-- the flags of a race from an instance on
pub instance_flags_first : (plan : Plan) (race instance : ℕ) (rest : List Slot) → instance < plan.instances → 0 < lines_for (entries_of plan race) → numbered (instance_flags plan race) instance (plan.instances - instance) ++ rest ≡ slot.Flags race instance 0 (bits_on (entries_of plan race) 0) ∷ (numbered (due_flags plan race instance) 1 (lines_for (entries_of plan race) - 1) ++ (numbered (instance_flags plan race) (instance + 1) (plan.instances - (instance + 1)) ++ rest))
instance_flags_first plan race instance rest a b = each-enter_two (instance_flags plan race) (due_flags plan race instance) instance plan.instances 0 (lines_for (entries_of plan race)) (slot.Flags race instance 0 (bits_on (entries_of plan race) 0)) [] rest a b refl refl

-- the places and totals of a race: the first total
pub totals_first : (plan : Plan) (race : ℕ) → 0 < candidates_of plan race → totals_from plan race ≡ slot.Total race 0 ∷ rest_of plan (slot.Total race 0)
totals_first plan race a = each-enter (due_totals race) 0 (candidates_of plan race) (slot.Total race 0) [] (results_from plan (race + 1)) a refl

pub places_first : (plan : Plan) (race : ℕ) → 0 < lines_for (entries_of plan race) → places_from plan race ≡ slot.Places race 0 (bits_on (entries_of plan race) 0) ∷ rest_of plan (slot.Places race 0 0)
places_first plan race a = each-enter (due_places plan race) 0 (lines_for (entries_of plan race)) (slot.Places race 0 (bits_on (entries_of plan race) 0)) [] (totals_from plan race) a refl

-- the results of a race, part after part
pub results_parts : (plan : Plan) (race : ℕ) → race < length plan.races → results_from plan race ≡ numbered (instance_flags plan race) 0 (plan.instances - 0) ++ places_from plan race
results_parts plan race a = rw (each-first (race_results plan) race (length plan.races) a, append_assoc, append_assoc, append_assoc) refl

pub results_first : (plan : Plan) (race : ℕ) → race < length plan.races → 0 < plan.instances → 0 < lines_for (entries_of plan race) → results_from plan race ≡ slot.Flags race 0 0 (bits_on (entries_of plan race) 0) ∷ rest_of plan (slot.Flags race 0 0 0)
results_first plan race a b c = results_parts plan race a ∙ instance_flags_first plan race 0 (places_from plan race) b c

pub results_no_entries : (plan : Plan) (race : ℕ) → race < length plan.races → entries_of plan race ≡ 0 → 0 < candidates_of plan race → results_from plan race ≡ slot.Total race 0 ∷ rest_of plan (slot.Total race 0)
results_no_entries plan race a e c =
    results_parts plan race a
    ∙ ap (λ l. l ++ places_from plan race) (no_flags plan race e)
    ∙ each-over (due_places plan race) 0 (lines_for (entries_of plan race)) (totals_from plan race) (rw e (omega arith))
    ∙ totals_first plan race c

pub results_end : (plan : Plan) (race : ℕ) → length plan.races ≤ race → results_from plan race ≡ slot.Seal 2 ∷ rest_of plan (slot.Seal 2)
results_end plan race a = each-over (race_results plan) race (length plan.races) (slot.Seal 2 ∷ slot.Draw ∷ rows_from plan 0) a

pub flags_line : (plan : Plan) (race instance line : ℕ) → line + 1 < lines_for (entries_of plan race) → rest_of plan (slot.Flags race instance line 0) ≡ slot.Flags race instance (line + 1) (bits_on (entries_of plan race) (line + 1)) ∷ rest_of plan (slot.Flags race instance (line + 1) 0)
flags_line plan race instance line a = each-enter (due_flags plan race instance) (line + 1) (lines_for (entries_of plan race)) (slot.Flags race instance (line + 1) (bits_on (entries_of plan race) (line + 1))) [] (numbered (instance_flags plan race) (instance + 1) (plan.instances - (instance + 1)) ++ places_from plan race) a refl

pub flags_instance : (plan : Plan) (race instance line : ℕ) → lines_for (entries_of plan race) ≤ line + 1 → 0 < lines_for (entries_of plan race) → instance + 1 < plan.instances → rest_of plan (slot.Flags race instance line 0) ≡ slot.Flags race (instance + 1) 0 (bits_on (entries_of plan race) 0) ∷ rest_of plan (slot.Flags race (instance + 1) 0 0)
flags_instance plan race instance line a b c =
    each-over (due_flags plan race instance) (line + 1) (lines_for (entries_of plan race)) (numbered (instance_flags plan race) (instance + 1) (plan.instances - (instance + 1)) ++ places_from plan race) a
    ∙ instance_flags_first plan race (instance + 1) (places_from plan race) c b

pub flags_last : (plan : Plan) (race instance line : ℕ) → lines_for (entries_of plan race) ≤ line + 1 → 0 < lines_for (entries_of plan race) → plan.instances ≤ instance + 1 → rest_of plan (slot.Flags race instance line 0) ≡ slot.Places race 0 (bits_on (entries_of plan race) 0) ∷ rest_of plan (slot.Places race 0 0)
flags_last plan race instance line a b c =
    each-over (due_flags plan race instance) (line + 1) (lines_for (entries_of plan race)) (numbered (instance_flags plan race) (instance + 1) (plan.instances - (instance + 1)) ++ places_from plan race) a
    ∙ each-over (instance_flags plan race) (instance + 1) plan.instances (places_from plan race) c
    ∙ places_first plan race b

pub places_line : (plan : Plan) (race line : ℕ) → line + 1 < lines_for (entries_of plan race) → rest_of plan (slot.Places race line 0) ≡ slot.Places race (line + 1) (bits_on (entries_of plan race) (line + 1)) ∷ rest_of plan (slot.Places race (line + 1) 0)
places_line plan race line a = each-enter (due_places plan race) (line + 1) (lines_for (entries_of plan race)) (slot.Places race (line + 1) (bits_on (entries_of plan race) (line + 1))) [] (totals_from plan race) a refl

pub places_last : (plan : Plan) (race line : ℕ) → lines_for (entries_of plan race) ≤ line + 1 → 0 < candidates_of plan race → rest_of plan (slot.Places race line 0) ≡ slot.Total race 0 ∷ rest_of plan (slot.Total race 0)
places_last plan race line a b =
    each-over (due_places plan race) (line + 1) (lines_for (entries_of plan race)) (totals_from plan race) a
    ∙ totals_first plan race b

pub total_next : (plan : Plan) (race candidate : ℕ) → candidate + 1 < candidates_of plan race → rest_of plan (slot.Total race candidate) ≡ slot.Total race (candidate + 1) ∷ rest_of plan (slot.Total race (candidate + 1))
total_next plan race candidate a = each-enter (due_totals race) (candidate + 1) (candidates_of plan race) (slot.Total race (candidate + 1)) [] (results_from plan (race + 1)) a refl

pub total_last : (plan : Plan) (race candidate : ℕ) → candidates_of plan race ≤ candidate + 1 → rest_of plan (slot.Total race candidate) ≡ results_from plan (race + 1)
total_last plan race candidate a = each-over (due_totals race) (candidate + 1) (candidates_of plan race) (results_from plan (race + 1)) a

pub ruleset result_steps = (results_first, results_no_entries, results_end, flags_line, flags_instance, flags_last, places_line, places_last, total_next, total_last)

-- SECTION 3: THE OPENINGS

-- a race with no entry has no row
pub no_rows : (plan : Plan) (race : ℕ) → entries_of plan race ≡ 0 → race_rows plan race ≡ []
no_rows plan race e = each-nothing (instance_rows plan race) plan.instances (λ i. no_lines (row_opening race i) plan race e)

-- the rows of a race from an instance on
pub instance_rows_first : (plan : Plan) (race instance : ℕ) (rest : List Slot) → instance < plan.instances → 0 < entries_of plan race → numbered (instance_rows plan race) instance (plan.instances - instance) ++ rest ≡ slot.Row race instance 0 ∷ (numbered (row_opening race instance) 1 (entries_of plan race - 1) ++ (numbered (instance_rows plan race) (instance + 1) (plan.instances - (instance + 1)) ++ rest))
instance_rows_first plan race instance rest a b = each-enter_two (instance_rows plan race) (row_opening race instance) instance plan.instances 0 (entries_of plan race) (slot.Row race instance 0) [] rest a b refl refl

pub rows_first : (plan : Plan) (from race : ℕ) → from ≤ race → race < length plan.races → 0 < plan.instances → 0 < entries_of plan race → HasNoEntries plan from race → rows_from plan from ≡ slot.Row race 0 0 ∷ rest_of plan (slot.Row race 0 0)
rows_first plan from race a b c d none =
    each-races (race_rows plan) plan from race (slot.Seal 3 ∷ []) a (omega arith) none (no_rows plan)
    ∙ (rw (each-first (race_rows plan) race (length plan.races) b, append_assoc) (instance_rows_first plan race 0 (rows_from plan (race + 1)) c d))

pub rows_none : (plan : Plan) (from : ℕ) → from ≤ length plan.races → HasNoEntries plan from (length plan.races) → rows_from plan from ≡ slot.Seal 3 ∷ []
rows_none plan from a none = each-no_races (race_rows plan) plan from (slot.Seal 3 ∷ []) a none (no_rows plan)

pub row_next : (plan : Plan) (race instance row : ℕ) → row + 1 < entries_of plan race → rest_of plan (slot.Row race instance row) ≡ slot.Row race instance (row + 1) ∷ rest_of plan (slot.Row race instance (row + 1))
row_next plan race instance row a = each-enter (row_opening race instance) (row + 1) (entries_of plan race) (slot.Row race instance (row + 1)) [] (numbered (instance_rows plan race) (instance + 1) (plan.instances - (instance + 1)) ++ rows_from plan (race + 1)) a refl

pub row_instance : (plan : Plan) (race instance row : ℕ) → entries_of plan race ≤ row + 1 → 0 < entries_of plan race → instance + 1 < plan.instances → rest_of plan (slot.Row race instance row) ≡ slot.Row race (instance + 1) 0 ∷ rest_of plan (slot.Row race (instance + 1) 0)
row_instance plan race instance row a b c =
    each-over (row_opening race instance) (row + 1) (entries_of plan race) (numbered (instance_rows plan race) (instance + 1) (plan.instances - (instance + 1)) ++ rows_from plan (race + 1)) a
    ∙ instance_rows_first plan race (instance + 1) (rows_from plan (race + 1)) c b

pub row_last : (plan : Plan) (race instance row : ℕ) → entries_of plan race ≤ row + 1 → plan.instances ≤ instance + 1 → rest_of plan (slot.Row race instance row) ≡ rows_from plan (race + 1)
row_last plan race instance row a b =
    each-over (row_opening race instance) (row + 1) (entries_of plan race) (numbered (instance_rows plan race) (instance + 1) (plan.instances - (instance + 1)) ++ rows_from plan (race + 1)) a
    ∙ each-over (instance_rows plan race) (instance + 1) plan.instances (rows_from plan (race + 1)) b

pub ruleset row_steps = (rows_first, rows_none, row_next, row_instance, row_last)
