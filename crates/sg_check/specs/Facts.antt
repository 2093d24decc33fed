-- What the lines of a record say: facts about coordinates, over the lines in their places
-- (this project's rules for the record).
use Rattle.std.specs.Prelude.{ℕ, ◌+◌, ◌-◌, ◌%◌, ◌==◌, nat_le, if◌then◌else◌, Bool, false, true, ◌&&◌, List, [], ◌∷◌, slice_get, Option, Some, None, is_some, count_by, sum_by}
use Rattle.std.specs.List.{list_any}
use Rattle.std.specs.Option.{option_map, option_map_or}
use Rattle.sg_commit.specs.declared.Digest.{Digest}
use Rattle.sg_commit.specs.declared.Opening.{Opening}
use Rattle.sg_forms.specs.Reading.{bytes_of_digits}
use Rattle.sg_forms.specs.declared.line.RowOpening.{RowOpening}
use Rattle.sg_forms.specs.declared.line.RowOpening.TheVariants as opened
use Rattle.sg_plan.specs.Ballots.{ballot_row, candidates_of, entry_at}
use Rattle.sg_plan.specs.declared.plan.ClaimWord.{ClaimWord}
use Rattle.sg_plan.specs.declared.plan.Plan.{Plan}
use Rattle.sg_plan.specs.declared.plan.Side.{Side}
use Rattle.sg_plan.specs.declared.plan.Side.TheVariants as side
use Rattle.sg_grammar.specs.Lines.{is_audit, is_cast, is_dispute}
use Rattle.sg_grammar.specs.Placed.{Placed}
use Rattle.sg_grammar.specs.Placed.Placed.{CodeCommitAt, RowCommitAt, CodeAt, PaperAt, FlagsAt, PlacesAt, DrawnFull, DrawnPublic, RowAt, Disputed}

-- the first value that a line gives
abbrev pub first_given : {A B : Type 0} → (A → Option B) → List A → Option B
first_given given [] = None
first_given given (line ∷ lines) = option_map_or Some (given line) (first_given given lines)

-- COMMITMENTS

-- the line commits to the code of this entry
abbrev pub commits_code : ℕ → ℕ → Placed → Option Digest
commits_code race entry (CodeCommitAt of at digest) = (if of == race && at == entry then Some digest else None)
commits_code race entry line = None

-- the commitment of an entry's code
abbrev pub code_commitment : ℕ → ℕ → List Placed → Option Digest
code_commitment race entry lines = first_given (commits_code race entry) lines

-- of what is given of both sides, that of this side
abbrev pub of_side : {A : Type 0} → Side → A → A → A
of_side side.Left left right = left
of_side side.Right left right = right

-- the line commits to this half: to the pointer of this row on this side
abbrev pub commits_half : Side → ℕ → ℕ → ℕ → Placed → Option Digest
commits_half on race instance row (RowCommitAt of within at left right) = (if (of == race && within == instance) && at == row then Some (of_side on left right) else None)
commits_half on race instance row line = None

-- the commitment of a half
abbrev pub half_commitment : List Placed → Side → ℕ → ℕ → ℕ → Option Digest
half_commitment lines on race instance row = first_given (commits_half on race instance row) lines

-- CODES AND MARKS

-- the line shows the code of this entry: the entry's code is known
abbrev pub shows_code : Plan → ℕ → ℕ → Placed → Option ℕ
shows_code plan race entry (CodeAt block ballot of column code) = (if of == race && entry_at plan of ballot column == entry then Some code.code else None)
shows_code plan race entry line = None

-- the code that is known of an entry: the first that is shown
abbrev pub known_code : Plan → ℕ → ℕ → List Placed → Option ℕ
known_code plan race entry lines = first_given (shows_code plan race entry) lines

-- the line marks this entry: it shows its code in the block of a cast ballot
abbrev pub marks_entry : Plan → ℕ → ℕ → Placed → Bool
marks_entry plan race entry (CodeAt block ballot of column code) = is_cast block && (of == race && entry_at plan of ballot column == entry)
marks_entry plan race entry line = false

abbrev pub is_marked : Plan → ℕ → ℕ → List Placed → Bool
is_marked plan race entry lines = list_any (marks_entry plan race entry) lines

-- the line is a mark of this ballot in the race
abbrev pub marks_ballot : ℕ → ℕ → Placed → Bool
marks_ballot ballot race (CodeAt block of in_race column code) = is_cast block && (of == ballot && in_race == race)
marks_ballot ballot race line = false

-- AUDITED BALLOTS

-- the line shows the code of this entry in the block of an audited ballot
abbrev pub audits_entry : Plan → ℕ → ℕ → Placed → Option ℕ
audits_entry plan race entry (CodeAt block ballot of column code) = (if is_audit block && (of == race && entry_at plan of ballot column == entry) then Some code.code else None)
audits_entry plan race entry line = None

-- the code that an audited ballot shows of the entry: there is one exactly where the entry is of an audited ballot
abbrev pub audited_code : Plan → ℕ → ℕ → List Placed → Option ℕ
audited_code plan race entry lines = first_given (audits_entry plan race entry) lines

abbrev pub is_audited : Plan → ℕ → ℕ → List Placed → Bool
is_audited plan race entry lines = is_some (audited_code plan race entry lines)

-- the line shows an entry of the race in the block of an audited ballot
abbrev pub audits_race : ℕ → Placed → Bool
audits_race race (CodeAt block ballot of column code) = is_audit block && of == race
audits_race race line = false

-- how many entries of audited ballots the race has: each is shown once in its ballot's block
abbrev pub audited_entries : ℕ → List Placed → ℕ
audited_entries race lines = count_by (audits_race race) lines

-- the line shows what the paper of this ballot row has beside the candidate
abbrev pub shows_paper : Plan → ℕ → ℕ → ℕ → Placed → Option ℕ
shows_paper plan race row candidate (PaperAt ballot of list) = (if of == race && ballot_row plan of ballot == row then slice_get list candidate else None)
shows_paper plan race row candidate line = None

-- the code that was read from the paper of this ballot row beside the candidate
abbrev pub paper_code : Plan → ℕ → ℕ → ℕ → List Placed → Option ℕ
paper_code plan race row candidate lines = first_given (shows_paper plan race row candidate) lines

-- FLAGS, PLACES AND TOTALS

-- the bit at a place of a line of bits is a 1
abbrev pub bit_at : List ℕ → ℕ → Bool
bit_at bits at = option_map_or (λ bit. bit == 0x31) (slice_get bits at) false

-- the line flags this row
abbrev pub flags_row : ℕ → ℕ → ℕ → Placed → Bool
flags_row race instance number (FlagsAt of within from bits) = (of == race && within == instance) && (nat_le from number && bit_at bits (number - from))
flags_row race instance number line = false

abbrev pub is_flagged : ℕ → ℕ → ℕ → List Placed → Bool
is_flagged race instance number lines = list_any (flags_row race instance number) lines

-- the line sets this place
abbrev pub sets_place : ℕ → ℕ → Placed → Bool
sets_place race place (PlacesAt of from bits) = of == race && (nat_le from place && bit_at bits (place - from))
sets_place race place line = false

abbrev pub is_set : ℕ → ℕ → List Placed → Bool
is_set race place lines = list_any (sets_place race place) lines

-- how many bits are a 1 at a place of the candidate, where the first is at this place and the race has so many candidates
abbrev pub votes_in : ℕ → ℕ → ℕ → List ℕ → ℕ
votes_in candidates candidate place [] = 0
votes_in candidates candidate place (bit ∷ bits) = (if bit == 0x31 && place % candidates == candidate then 1 else 0) + votes_in candidates candidate (place + 1) bits

-- how many places of the candidate the line sets
abbrev pub votes_on : Plan → ℕ → ℕ → Placed → ℕ
votes_on plan race candidate (PlacesAt of from bits) = (if of == race then votes_in (candidates_of plan race) candidate from bits else 0)
votes_on plan race candidate line = 0

-- how many places of the candidate are set
abbrev pub votes_for : Plan → ℕ → ℕ → List Placed → ℕ
votes_for plan race candidate lines = sum_by (votes_on plan race candidate) lines

-- ROWS

-- the pointer that is opened on a side
abbrev pub opened_on : Side → RowOpening → Option Opening
opened_on on (opened.Both left right) = Some (of_side on left right)
opened_on side.Left (opened.Left opening) = Some opening
opened_on side.Right (opened.Right opening) = Some opening
opened_on on opening = None

-- the opening is of this pointer
abbrev pub points_to : ℕ → Option Opening → Bool
points_to pointer opening = option_map_or (λ o. o.value == pointer) opening false

-- the line is a row of the instance that opens this pointer on the side
abbrev pub opens_pointer : Side → ℕ → ℕ → ℕ → Placed → Bool
opens_pointer on race instance pointer (RowAt of within number opening) = (of == race && within == instance) && points_to pointer (opened_on on opening)
opens_pointer on race instance pointer line = false

-- the row is opened on both sides
abbrev pub is_both : RowOpening → Bool
is_both (opened.Both left right) = true
is_both opening = false

-- the line is a row of the instance that is opened on both sides
abbrev pub opens_both : ℕ → ℕ → Placed → Bool
opens_both race instance (RowAt of within number opening) = (of == race && within == instance) && is_both opening
opens_both race instance line = false

-- how many rows of the instance are opened on both sides
abbrev pub both_rows : ℕ → ℕ → List Placed → ℕ
both_rows race instance lines = count_by (opens_both race instance) lines

-- THE DRAW

-- the line says that each row is opened on both sides
abbrev pub draws_full : Placed → Bool
draws_full DrawnFull = true
draws_full line = false

abbrev pub is_full_draw : List Placed → Bool
is_full_draw lines = list_any draws_full lines

-- the line has these digits of the public bytes
abbrev pub draws_digits : Placed → Option (List ℕ)
draws_digits (DrawnPublic digits) = Some digits
draws_digits line = None

-- the public bytes, where they were drawn
abbrev pub public_bytes : List Placed → Option (List ℕ)
public_bytes lines = option_map bytes_of_digits (first_given draws_digits lines)

-- DISPUTES

-- a claim that is under dispute: the code that is claimed, the office's answer, and the lines behind that one
pub record DisputedCode : Type 0 where
  pub code : ℕ
  pub answer : ClaimWord
  pub behind : List Placed

-- the last of the claims
abbrev pub last_claim : List Placed → Option DisputedCode
last_claim [] = None
last_claim (Disputed ballot race code word ∷ lines) = option_map_or Some (last_claim lines) (Some (record { code = code; answer = word; behind = lines }))
last_claim (line ∷ lines) = last_claim lines

-- the line marks an entry of this ballot in the race, and shows this code of it
abbrev pub marks_code : ℕ → ℕ → ℕ → Placed → Bool
marks_code ballot race code (CodeAt block of in_race column shown) = (is_cast block && (of == ballot && in_race == race)) && shown.code == code
marks_code ballot race code line = false

-- the line shows this code in the block of a dispute
abbrev pub shows_disputed : ℕ → Placed → Bool
shows_disputed code (CodeAt block ballot race column shown) = is_dispute block && shown.code == code
shows_disputed code line = false
