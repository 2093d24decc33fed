-- What a cast ballot marks, and the answers to claims.
use Rattle.std.proofs.Common.{◌≡◌, ℕ, ◌==◌, Bool, false, ◌||◌, cond, List, [], ◌∷◌, map, filter, refl, sym, ap, ◌∙◌}
use Rattle.std.specs.List.{list_any}
use Rattle.sg_plan.specs.Ballots.{ballot_row, candidates_of, entry_at}
use Rattle.sg_plan.specs.Fates.{has_mark}
use Rattle.sg_plan.specs.declared.plan.ClaimWord.TheVariants as answer
use Rattle.sg_plan.specs.declared.plan.Fate.{Fate}
use Rattle.sg_plan.specs.declared.plan.Fate.TheVariants as fate
use Rattle.sg_plan.specs.declared.plan.Mark.{Mark}
use Rattle.sg_plan.specs.declared.plan.Plan.{Plan}
use Rattle.sg_streams.specs.Numbers.{numbers_below}
use Rattle.sg_tables.proofs.TableLaws.{opening_laws}
use Rattle.sg_tables.specs.Posts.{has_code, marked_columns, posted_codes, right_word, row_entry}
use Rattle.sg_tables.specs.Tables.{code_of_entry, codes_of_row, shown_by}
use Rattle.sg_forms.specs.declared.line.CodeLine.{CodeLine}
use Rattle.sg_post.specs.Posted.{code_in_row, code_line_of, marked_codes}

-- the ballot has a mark beside the candidate that the column shows
abbrev pub shows_mark : Plan → List ℕ → List Mark → ℕ → ℕ → ℕ → Bool
shows_mark plan seed marks ballot race column = has_mark marks race (shown_by plan seed race (entry_at plan race ballot column))

-- the ballot posts the code in the race
abbrev pub posts_code : Plan → List ℕ → ℕ → ℕ → ℕ → Fate → Bool
posts_code plan seed ballot race code (fate.Cast marks) = list_any (λ (line : CodeLine). line.code == code) (marked_codes plan seed ballot (fate.Cast marks) race)
posts_code plan seed ballot race code fate.Unused = false
posts_code plan seed ballot race code fate.Spoiled = false
posts_code plan seed ballot race code (fate.Audited paper) = false
posts_code plan seed ballot race code fate.Voided = false

filter-never : (xs : List ℕ) → filter (λ x. false) xs ≡ []
filter-never [] = refl
filter-never (x ∷ xs) = filter-never xs

-- the code of a line is that of its entry
line-code : (plan : Plan) (seed : List ℕ) (ballot race column : ℕ) → (code_line_of plan seed ballot race column).code ≡ code_of_entry plan seed race (entry_at plan race ballot column)
unfolding code_in_row
line-code plan seed ballot race column = opening_laws.code plan seed race (entry_at plan race ballot column)

columns-same : (plan : Plan) (seed : List ℕ) (ballot race code : ℕ) (columns : List ℕ)
    → has_code (map (code_of_entry plan seed race) (map (row_entry plan race (ballot_row plan race ballot)) columns)) code ≡ list_any (λ (line : CodeLine). line.code == code) (map (code_line_of plan seed ballot race) columns)
columns-same plan seed ballot race code [] = refl
columns-same plan seed ballot race code (column ∷ columns) =
    ap (λ (c : ℕ). (c == code) || has_code (map (code_of_entry plan seed race) (map (row_entry plan race (ballot_row plan race ballot)) columns)) code) (sym (line-code plan seed ballot race column))
    ∙ ap (λ (b : Bool). ((code_line_of plan seed ballot race column).code == code) || b) (columns-same plan seed ballot race code columns)

posts-same : (plan : Plan) (seed : List ℕ) (ballot race code : ℕ) (what : Fate) → has_code (posted_codes plan seed race (ballot_row plan race ballot) what) code ≡ posts_code plan seed ballot race code what
unfolding posted_codes
posts-same plan seed ballot race code (fate.Cast marks) = columns-same plan seed ballot race code (marked_columns plan seed race (ballot_row plan race ballot) (fate.Cast marks))
posts-same plan seed ballot race code fate.Unused = ap (λ (l : List ℕ). has_code (map (code_of_entry plan seed race) (map (row_entry plan race (ballot_row plan race ballot)) l)) code) (filter-never (numbers_below (candidates_of plan race)))
posts-same plan seed ballot race code fate.Spoiled = ap (λ (l : List ℕ). has_code (map (code_of_entry plan seed race) (map (row_entry plan race (ballot_row plan race ballot)) l)) code) (filter-never (numbers_below (candidates_of plan race)))
posts-same plan seed ballot race code (fate.Audited paper) = ap (λ (l : List ℕ). has_code (map (code_of_entry plan seed race) (map (row_entry plan race (ballot_row plan race ballot)) l)) code) (filter-never (numbers_below (candidates_of plan race)))
posts-same plan seed ballot race code fate.Voided = ap (λ (l : List ℕ). has_code (map (code_of_entry plan seed race) (map (row_entry plan race (ballot_row plan race ballot)) l)) code) (filter-never (numbers_below (candidates_of plan race)))

-- the right answer by these codes
pub right-same : (plan : Plan) (seed : List ℕ) (ballot race code : ℕ) (what : Fate)
    → right_word plan seed race (ballot_row plan race ballot) what code
    ≡ cond (posts_code plan seed ballot race code what) answer.Posted (cond (has_code (codes_of_row plan seed race (ballot_row plan race ballot)) code) answer.Unposted answer.Absent)
unfolding right_word
right-same plan seed ballot race code what =
    ap (λ (b : Bool). cond b answer.Posted (cond (has_code (codes_of_row plan seed race (ballot_row plan race ballot)) code) answer.Unposted answer.Absent)) (posts-same plan seed ballot race code what)
