-- What is judged at each line, kind by kind, against the lines before it (this project's rules for the record).
-- Each test is true where the line is bad. What is judged of pairs of lines is judged at the later one.
use Rattle.std.specs.Prelude.{ℕ, ◌+◌, ◌/◌, ◌%◌, ◌==◌, nat_le, nat_lt, if◌then◌else◌, Bool, true, false, ◌&&◌, ◌||◌, not, List, [], ◌∷◌, ◌++◌, find, Option, is_some, count_by, bytes_eq, codes}
use Rattle.std.specs.List.{list_any}
use Rattle.std.specs.Option.{option_map_or}
use Rattle.sha2.specs.Sha256.{sha256}
use Rattle.sg_commit.specs.Commitments.{commit_input}
use Rattle.sg_commit.specs.declared.CommitKind.{CommitKind}
use Rattle.sg_commit.specs.declared.CommitKind.TheVariants as commit
use Rattle.sg_commit.specs.declared.Digest.{Digest}
use Rattle.sg_commit.specs.declared.Opening.{Opening}
use Rattle.sg_forms.specs.declared.line.CodeLine.{CodeLine}
use Rattle.sg_forms.specs.declared.line.RowOpening.{RowOpening}
use Rattle.sg_forms.specs.declared.line.RowOpening.TheVariants as opened
use Rattle.sg_plan.specs.Ballots.{candidates_of, entries_of, entry_at, votes_of}
use Rattle.sg_plan.specs.declared.plan.ClaimWord.{ClaimWord}
use Rattle.sg_plan.specs.declared.plan.ClaimWord.TheVariants as answer
use Rattle.sg_plan.specs.declared.plan.Plan.{Plan}
use Rattle.sg_plan.specs.declared.plan.Side.{Side}
use Rattle.sg_plan.specs.declared.plan.Side.TheVariants as side
use Rattle.sg_streams.specs.CoinSides.{coin_of, coin_seed}
use Rattle.sg_grammar.specs.Lines.{is_cast, is_dispute, placed_of}
use Rattle.sg_grammar.specs.Placed.{Placed}
use Rattle.sg_grammar.specs.Placed.Placed.{CodeAt, OverAt, PaperAt, SealAt, TotalAt, RowAt}
use Rattle.sg_grammar.specs.Walk.{Posted}
use Rattle.sg_check.specs.Facts.{DisputedCode, of_side, code_commitment, half_commitment, is_marked, marks_ballot, marks_code, audited_code, audited_entries, is_audited, paper_code, is_flagged, is_set, votes_for, opened_on, opens_pointer, is_both, both_rows, is_full_draw, public_bytes, last_claim, shows_disputed}
use Rattle.sg_check.specs.declared.judged.Kind.{Kind}
use Rattle.sg_check.specs.declared.judged.Kind.TheVariants as kind

-- the bytes of the lines, one after another
abbrev pub posted_bytes : List Posted → List ℕ
posted_bytes [] = []
posted_bytes (line ∷ lines) = line.bytes ++ posted_bytes lines

-- the digest of the seal is not SHA-256 of these bytes
abbrev pub bad_seal : List ℕ → Placed → Bool
bad_seal bytes (SealAt number digest) = not (bytes_eq digest.0 (sha256 bytes))
bad_seal bytes line = false

-- WHAT A ROW OPENS

-- the row opens a pointer that passes the test of its side
abbrev pub any_opened : (Side → Opening → Bool) → RowOpening → Bool
any_opened test opening = option_map_or (test side.Left) (opened_on side.Left opening) false || option_map_or (test side.Right) (opened_on side.Right opening) false

-- the row is opened on both sides, or on this one
abbrev pub is_on_side : Side → RowOpening → Bool
is_on_side on opening = is_some (opened_on on opening)

-- the entry that a left pointer leads to is marked, or the place that a right pointer leads to is set
abbrev pub is_counted : Plan → List Placed → Side → ℕ → ℕ → Bool
is_counted plan lines on race pointer = of_side on (is_marked plan race pointer lines) (is_set race pointer lines)

-- one is true, and the other is not
abbrev pub differ : Bool → Bool → Bool
differ true b = not b
differ false b = b

-- COMMITMENTS

-- the commitment is there, and this opens it
abbrev pub opens_digest : Option Digest → CommitKind → ℕ → ℕ → ℕ → Opening → Bool
opens_digest digest kind race instance place opening = option_map_or (λ d. bytes_eq d.0 (sha256 (commit_input kind race instance place opening))) digest false

-- the opening of a code line
abbrev pub code_opening : CodeLine → Opening
code_opening code = record { key = code.key; value = code.code }

-- the kind of the commitment of a half
abbrev pub half_kind : Side → CommitKind
half_kind on = of_side on commit.L commit.R

-- PATHS

-- the line is a row of the race that is opened on both sides, with pointers below n: it leads the entry to another place,
-- or another entry of its ballot to the same candidate
abbrev pub clashes_with : Plan → ℕ → ℕ → ℕ → Placed → Bool
clashes_with plan race entry place (RowAt of instance number (opened.Both left right)) =
    of == race && ((nat_lt left.value (entries_of plan race) && nat_lt right.value (entries_of plan race))
    && (if left.value == entry then not (right.value == place) else (left.value / candidates_of plan race == entry / candidates_of plan race && right.value % candidates_of plan race == place % candidates_of plan race)))
clashes_with plan race entry place line = false

-- AUDITED BALLOTS

-- the row is opened on both sides and its entry is of no audited ballot, or on the left side and it is of one
abbrev pub wrong_audit : Plan → List Placed → ℕ → RowOpening → Bool
wrong_audit plan before race opening = option_map_or (λ left. nat_lt left.value (entries_of plan race) && differ (is_both opening) (is_audited plan race left.value before)) (opened_on side.Left opening) false

-- the last row of its instance, where the instance has more or fewer rows opened on both sides than the race has
-- entries of audited ballots
abbrev pub wrong_number : Plan → List Placed → ℕ → ℕ → ℕ → RowOpening → Bool
wrong_number plan before race instance number opening =
    number + 1 == entries_of plan race && not (both_rows race instance before + (if is_both opening then 1 else 0) == audited_entries race before)

-- this value is there
abbrev pub is_there : Option ℕ → ℕ → Bool
is_there found value = option_map_or (λ f. f == value) found false

-- the entry is of an audited ballot, whose paper has another code than the entry's beside the candidate of the place
abbrev pub wrong_paper : Plan → List Placed → ℕ → RowOpening → Bool
wrong_paper plan before race (opened.Both left right) =
    (nat_lt left.value (entries_of plan race) && nat_lt right.value (entries_of plan race))
    && option_map_or (λ code. not (is_there (paper_code plan race (left.value / candidates_of plan race) (right.value % candidates_of plan race) before) code)) (audited_code plan race left.value before) false
wrong_paper plan before race opening = false

-- CODES

-- the line shows a code of the ballot in the race: another column's and the same code, or this column's and another code
abbrev pub shows_against : ℕ → ℕ → ℕ → ℕ → Placed → Bool
shows_against ballot race column code (CodeAt block of in_race at shown) = (of == ballot && in_race == race) && (if at == column then not (shown.code == code) else shown.code == code)
shows_against ballot race column code line = false

-- two of the codes are the same
abbrev pub has_repeat : List ℕ → Bool
has_repeat [] = false
has_repeat (code ∷ list) = list_any (λ other. other == code) list || has_repeat list

-- CLAIMS

-- the answer is right of a code that is so: a mark's code is `posted`, another that the block shows `unposted`
abbrev pub is_right : ClaimWord → Bool → Bool → Bool
is_right answer.Posted marked shown = marked
is_right answer.Unposted marked shown = not marked && shown
is_right answer.Absent marked shown = not marked && not shown

-- the answer is wrong, where this code is the last that the block shows
abbrev pub wrong_answer : List Placed → ℕ → ℕ → ℕ → DisputedCode → Bool
wrong_answer before ballot race last claim = not (is_right claim.answer (list_any (marks_code ballot race claim.code) before) (list_any (shows_disputed claim.code) claim.behind || last == claim.code))

-- EACH KIND

-- the line in its place is bad in this kind, against the lines before it; form is judged by the grammar, and seals by
-- the bytes
abbrev pub bad_placed : Kind → Plan → List Placed → Placed → Bool
-- opening: what is opened opens its commitment
bad_placed kind.Opening plan before (CodeAt block ballot race column code) = not (opens_digest (code_commitment race (entry_at plan race ballot column) before) commit.Q race 0 (entry_at plan race ballot column) (code_opening code))
bad_placed kind.Opening plan before (RowAt race instance number opening) = any_opened (λ on o. not (opens_digest (half_commitment before on race instance number) (half_kind on) race instance number o)) opening
-- side: where all is drawn, both sides of a row are opened; where public bytes are, both sides or the coin's
bad_placed kind.Side plan before (RowAt race instance number opening) = (is_full_draw before && not (is_both opening)) || option_map_or (λ public. not (is_on_side (coin_of (coin_seed public) race instance number) opening)) (public_bytes before) false
-- pointer: an opened pointer is below n, and no earlier row of the instance opens it on that side
bad_placed kind.Pointer plan before (RowAt race instance number opening) = any_opened (λ on o. nat_le (entries_of plan race) o.value || list_any (opens_pointer on race instance o.value) before) opening
-- flag: a row is flagged exactly where its left pointer's entry is marked, and exactly where its right pointer's
-- place is set
bad_placed kind.Flag plan before (RowAt race instance number opening) = any_opened (λ on o. nat_lt o.value (entries_of plan race) && differ (is_flagged race instance number before) (is_counted plan before on race o.value)) opening
-- path: in all instances an entry has one place, and different entries of a ballot lead to different candidates
bad_placed kind.Path plan before (RowAt race instance number (opened.Both left right)) = (nat_lt left.value (entries_of plan race) && nat_lt right.value (entries_of plan race)) && list_any (clashes_with plan race left.value right.value) before
-- total: the number of set places of the candidate
bad_placed kind.Total plan before (TotalAt race candidate count) = not (count == votes_for plan race candidate before)
-- print: where public bytes are drawn, a row is opened on both sides exactly where its entry is of an audited ballot;
-- and where it is of one, the paper has the entry's code beside the candidate to which the row leads
bad_placed kind.Print plan before (RowAt race instance number opening) =
    (is_some (public_bytes before) && (wrong_audit plan before race opening || wrong_number plan before race instance number opening))
    || wrong_paper plan before race opening
-- rule: a ballot has at most W marks in a race, and none where the race is over on it; its entries in a race have
-- different codes, and an entry has one code; the codes of a paper are different
bad_placed kind.Rule plan before (CodeAt block ballot race column code) = (is_cast block && nat_le (votes_of plan race) (count_by (marks_ballot ballot race) before)) || list_any (shows_against ballot race column code.code) before
bad_placed kind.Rule plan before (OverAt ballot race) = list_any (marks_ballot ballot race) before
bad_placed kind.Rule plan before (PaperAt ballot race list) = has_repeat list
-- dispute: the answer to a claim is `posted` where the code is that of a mark, else `unposted` where it is one of the
-- ballot's codes in the race, which the block shows, and else `absent`
bad_placed kind.Dispute plan before (CodeAt block ballot race column code) =
    (is_dispute block && column + 1 == candidates_of plan race) && option_map_or (wrong_answer before ballot race code.code) (last_claim before) false
bad_placed other plan before line = false

-- the same of lines with their bytes
abbrev pub is_bad : Kind → Plan → List Posted → Posted → Bool
is_bad kind.Seal plan before line = bad_seal (posted_bytes before) line.line
is_bad k plan before line = bad_placed k plan (placed_of before) line.line

-- the kind's word in a report
abbrev pub kind_word : Kind → List ℕ
kind_word kind.Form = codes "form"
kind_word kind.Seal = codes "seal"
kind_word kind.Opening = codes "opening"
kind_word kind.Side = codes "side"
kind_word kind.Pointer = codes "pointer"
kind_word kind.Flag = codes "flag"
kind_word kind.Path = codes "path"
kind_word kind.Total = codes "total"
kind_word kind.Print = codes "print"
kind_word kind.Rule = codes "rule"
kind_word kind.Dispute = codes "dispute"

-- all kinds, in their order
abbrev pub kinds : List Kind
kinds = kind.Form ∷ kind.Seal ∷ kind.Opening ∷ kind.Side ∷ kind.Pointer ∷ kind.Flag ∷ kind.Path ∷ kind.Total ∷ kind.Print ∷ kind.Rule ∷ kind.Dispute ∷ []

-- the first kind in which the line in its place is bad
abbrev pub first_bad : Plan → List Placed → Placed → Option Kind
first_bad plan before line = find (λ k. bad_placed k plan before line) kinds
