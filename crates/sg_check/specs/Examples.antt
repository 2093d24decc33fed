-- Each kind at work on a small record: lines behind some others, and which of them are bad. An example says nothing that the
-- definitions don't; it shows that they say what they should (this project's rules for the record).
use Rattle.std.specs.Prelude.{◌≡◌, ◌≢◌, ℕ, Bool, true, false, List, [], ◌∷◌, ◌++◌, map, codes, Some, None}
use Rattle.sha2.specs.Sha256.{sha256}
use Rattle.sg_commit.specs.Commitments.{commit_input}
use Rattle.sg_commit.specs.declared.CommitKind.TheVariants as commit
use Rattle.sg_commit.specs.declared.Digest.{Digest}
use Rattle.sg_commit.specs.declared.Key.{Key}
use Rattle.sg_commit.specs.declared.Opening.{Opening}
use Rattle.sg_forms.specs.Reading.{bytes_of_digits}
use Rattle.sg_forms.specs.declared.line.RowOpening.TheVariants as opened
use Rattle.sg_plan.specs.declared.plan.ClaimWord.{ClaimWord}
use Rattle.sg_plan.specs.declared.plan.ClaimWord.TheVariants as answer
use Rattle.sg_plan.specs.declared.plan.Plan.{Plan}
use Rattle.sg_plan.specs.declared.plan.Side.TheVariants as side
use Rattle.sg_streams.specs.CoinSides.{coin_of, coin_seed}
use Rattle.sg_grammar.specs.Placed.{Placed}
use Rattle.sg_grammar.specs.Placed.Placed.{CodeAt, CodeCommitAt, Disputed, DrawnFull, DrawnPublic, FlagsAt, OverAt, PaperAt, PlacesAt, RowAt, RowCommitAt, SealAt, TotalAt}
use Rattle.sg_grammar.specs.Walk.{Posted}
use Rattle.sg_grammar.specs.declared.state.Block.{Block}
use Rattle.sg_grammar.specs.declared.state.Block.TheVariants as block
use Rattle.sg_check.specs.Kinds.{bad_placed, first_bad, is_bad}
use Rattle.sg_check.specs.Verdict.{IsVerdict, breaks}
use Rattle.sg_check.specs.declared.judged.Judged.TheVariants as judged
use Rattle.sg_check.specs.declared.judged.Kind.{Kind}
use Rattle.sg_check.specs.declared.judged.Kind.TheVariants as kind

-- THE RECORD

-- two ballots, two instances, and one race of two candidates in which a voter has one vote: entries 0 and 1 are of ballot 1,
-- and entries 2 and 3 of ballot 2; places 0 and 2 are candidate 0's, and places 1 and 3 candidate 1's
abbrev pub small : Plan
small = record {
  version = 1;
  name = 69 ∷ [];
  instances = 2;
  races = record { name = 77 ∷ []; candidates = (65 ∷ []) ∷ (66 ∷ []) ∷ []; votes = 1 } ∷ [];
  styles = record { name = 83 ∷ []; races = 0 ∷ [] } ∷ [];
  runs = record { style = 0; count = 2 } ∷ [];
}

abbrev pub opening : Key → ℕ → Opening
opening key value = record { key = key; value = value }

-- a code in a column of a ballot's block
abbrev pub code_in : Key → Block → ℕ → ℕ → ℕ → Placed
code_in key kind ballot column code = CodeAt kind ballot 0 column (record { race = 0; column = column; key = key; code = code })

-- a row of an instance, opened on the left side, on the right one, or on both
abbrev pub left_row : Key → ℕ → ℕ → ℕ → Placed
left_row key instance row left = RowAt 0 instance row (opened.Left (opening key left))

abbrev pub right_row : Key → ℕ → ℕ → ℕ → Placed
right_row key instance row right = RowAt 0 instance row (opened.Right (opening key right))

abbrev pub both_row : Key → ℕ → ℕ → ℕ → ℕ → Placed
both_row key instance row left right = RowAt 0 instance row (opened.Both (opening key left) (opening key right))

-- a 1 and three times a 0
abbrev pub first_bit : List ℕ
first_bit = 0x31 ∷ 0x30 ∷ 0x30 ∷ 0x30 ∷ []

-- ballot 1 is cast, with a mark of entry 0, whose code is 100; ballot 2 is audited: its codes are 300 and 400, and its paper
-- has 400 beside candidate 0 and 300 beside candidate 1; row 0 of instance 0 is flagged, and place 0 is set
abbrev pub voted : Key → List Placed
voted key =
    code_in key block.Cast 1 0 100
    ∷ PaperAt 2 0 (400 ∷ 300 ∷ [])
    ∷ code_in key block.Audited 2 0 300
    ∷ code_in key block.Audited 2 1 400
    ∷ FlagsAt 0 0 0 first_bit
    ∷ PlacesAt 0 0 first_bit
    ∷ []

-- which of the lines are bad in the kind, each judged behind the same others
abbrev pub bad_among : Kind → List Placed → List Placed → List Bool
bad_among k before lines = map (bad_placed k small before) lines

-- FORM

pub record IsFormShown : Type 0 where
  -- the first line of a record
  pub first : breaks kind.Form (codes "scantegrity2 1\n" ∷ []) ≡ false
  -- has one spelling
  pub zero : breaks kind.Form (codes "scantegrity2 01\n" ∷ []) ≡ true
  -- and ends in a line feed
  pub unended : breaks kind.Form (codes "scantegrity2 1" ∷ []) ≡ true
  -- a line that may not stand behind it
  pub early : breaks kind.Form (codes "scantegrity2 1\n" ∷ codes "cast 1\n" ∷ []) ≡ true
  -- where nothing is posted, the first line is missing
  pub nothing : IsVerdict [] (judged.No 1 kind.Form)

-- SEAL

-- two lines of these bytes, whatever they are
abbrev pub sealed : Placed → List Posted
sealed line = record { bytes = 1 ∷ 2 ∷ []; line = line } ∷ record { bytes = 3 ∷ []; line = line } ∷ []

abbrev pub is_bad_seal : Placed → Digest → Bool
is_bad_seal line digest = is_bad kind.Seal small (sealed line) (record { bytes = []; line = SealAt 1 digest })

-- the seal behind them
pub record IsSealShown (line : Placed) (digest : Digest) : Type 0 where
  pub good : digest.0 ≡ sha256 (1 ∷ 2 ∷ 3 ∷ []) → is_bad_seal line digest ≡ false
  pub bad : digest.0 ≢ sha256 (1 ∷ 2 ∷ 3 ∷ []) → is_bad_seal line digest ≡ true

-- OPENING

-- the code 100 of entry 0, behind these lines
abbrev pub is_bad_code : Key → List Placed → Bool
is_bad_code key before = bad_placed kind.Opening small before (code_in key block.Cast 1 0 100)

-- the pointer 2 on the left side of row 1, behind these lines
abbrev pub is_bad_left : Key → List Placed → Bool
is_bad_left key before = bad_placed kind.Opening small before (left_row key 0 1 2)

pub record IsOpeningShown (key : Key) (digest other : Digest) : Type 0 where
  -- the commitment of the entry
  pub code : digest.0 ≡ sha256 (commit_input commit.Q 0 0 0 (opening key 100)) → is_bad_code key (CodeCommitAt 0 0 digest ∷ []) ≡ false
  pub other_code : digest.0 ≢ sha256 (commit_input commit.Q 0 0 0 (opening key 100)) → is_bad_code key (CodeCommitAt 0 0 digest ∷ []) ≡ true
  -- that of another entry, or none
  pub other_entry : is_bad_code key (CodeCommitAt 0 1 digest ∷ []) ≡ true
  pub no_entry : is_bad_code key [] ≡ true
  -- the left commitment of the row
  pub left : digest.0 ≡ sha256 (commit_input commit.L 0 0 1 (opening key 2)) → is_bad_left key (RowCommitAt 0 0 1 digest other ∷ []) ≡ false
  pub other_left : digest.0 ≢ sha256 (commit_input commit.L 0 0 1 (opening key 2)) → is_bad_left key (RowCommitAt 0 0 1 digest other ∷ []) ≡ true
  -- that of another row, of another instance, or none
  pub other_row : is_bad_left key (RowCommitAt 0 0 2 digest other ∷ []) ≡ true
  pub other_instance : is_bad_left key (RowCommitAt 0 1 1 digest other ∷ []) ≡ true
  pub no_row : is_bad_left key [] ≡ true

-- SIDE

-- row 1 of instance 0 on the left side, on the right one and on both, behind these lines
abbrev pub bad_sides : Key → List Placed → List Bool
bad_sides key before = bad_among kind.Side before (left_row key 0 1 2 ∷ right_row key 0 1 2 ∷ both_row key 0 1 2 2 ∷ [])

pub record IsSideShown (key : Key) (digits : List ℕ) : Type 0 where
  -- where all is drawn
  pub full : bad_sides key (DrawnFull ∷ []) ≡ true ∷ true ∷ false ∷ []
  -- where these are the public bytes, and their coin for the row says left, or right
  pub left : coin_of (coin_seed (bytes_of_digits digits)) 0 0 1 ≡ side.Left → bad_sides key (DrawnPublic digits ∷ []) ≡ false ∷ true ∷ false ∷ []
  pub right : coin_of (coin_seed (bytes_of_digits digits)) 0 0 1 ≡ side.Right → bad_sides key (DrawnPublic digits ∷ []) ≡ true ∷ false ∷ false ∷ []

-- THE OTHER KINDS

-- the draw by public bytes, behind the ballots
abbrev pub drawn : Key → List Placed
drawn key = voted key ++ DrawnPublic [] ∷ []

-- a claim of ballot 1, its answer, and the first of the ballot's two codes
abbrev pub claimed : Key → ℕ → ClaimWord → List Placed
claimed key code word = voted key ++ Disputed 1 0 code word ∷ code_in key block.Dispute 1 0 100 ∷ []

-- the second of them, which is 200: the answer is wrong
abbrev pub is_answer_bad : Key → ℕ → ClaimWord → Bool
is_answer_bad key code word = bad_placed kind.Dispute small (claimed key code word) (code_in key block.Dispute 1 1 200)

-- each time, what is judged of some lines in a kind, and what it must be: true where the line is bad
abbrev pub examples : Key → List (List Bool × List Bool)
examples key =
    -- pointer 4 is n; pointer 2 stands once more on the left side of the instance, but not on its right, nor in the other
    (bad_among kind.Pointer (left_row key 0 0 2 ∷ []) (left_row key 0 1 3 ∷ left_row key 0 1 4 ∷ right_row key 0 1 4 ∷ left_row key 0 1 2 ∷ right_row key 0 1 2 ∷ left_row key 1 1 2 ∷ []), false ∷ true ∷ true ∷ true ∷ false ∷ false ∷ [])
    -- entry 0 alone is marked, place 0 alone is set, and row 0 of instance 0 alone is flagged
    ∷ (bad_among kind.Flag (voted key) (left_row key 0 0 0 ∷ left_row key 0 0 1 ∷ left_row key 0 1 0 ∷ left_row key 0 1 2 ∷ left_row key 1 0 0 ∷ []), false ∷ true ∷ true ∷ false ∷ true ∷ [])
    ∷ (bad_among kind.Flag (voted key) (right_row key 0 0 0 ∷ right_row key 0 0 1 ∷ right_row key 0 1 0 ∷ right_row key 0 1 1 ∷ both_row key 0 0 0 0 ∷ both_row key 0 0 0 1 ∷ []), false ∷ true ∷ true ∷ false ∷ false ∷ true ∷ [])
    -- entry 0 leads to place 0, so in the other instance too, and entry 1 of its ballot to a place of candidate 1
    ∷ (bad_among kind.Path (both_row key 0 0 0 0 ∷ []) (both_row key 1 0 0 0 ∷ both_row key 1 0 0 2 ∷ both_row key 0 1 1 1 ∷ both_row key 0 1 1 2 ∷ both_row key 0 1 2 2 ∷ left_row key 1 0 0 ∷ []), false ∷ true ∷ false ∷ true ∷ false ∷ false ∷ [])
    -- candidate 0 has one set place, and candidate 1 none
    ∷ (bad_among kind.Total (voted key) (TotalAt 0 0 1 ∷ TotalAt 0 0 0 ∷ TotalAt 0 0 2 ∷ TotalAt 0 1 0 ∷ TotalAt 0 1 1 ∷ []), false ∷ true ∷ true ∷ false ∷ true ∷ [])
    -- entry 2 is audited and its code stands beside candidate 1, entry 0 is not audited
    ∷ (bad_among kind.Print (drawn key) (both_row key 0 0 2 3 ∷ both_row key 0 0 2 2 ∷ left_row key 0 0 2 ∷ both_row key 0 0 0 0 ∷ left_row key 0 0 0 ∷ right_row key 0 0 0 ∷ []), false ∷ true ∷ true ∷ true ∷ false ∷ false ∷ [])
    -- row 3 is the last, and two entries are audited: two rows are opened on both sides
    ∷ (bad_among kind.Print (drawn key ++ both_row key 0 1 2 3 ∷ []) (both_row key 0 3 3 2 ∷ right_row key 0 3 1 ∷ right_row key 0 2 1 ∷ []), false ∷ true ∷ false ∷ [])
    -- where all is drawn, each row is opened on both sides, and the papers alone are compared
    ∷ (bad_among kind.Print (voted key ++ DrawnFull ∷ []) (both_row key 0 0 0 0 ∷ both_row key 0 3 2 3 ∷ both_row key 0 3 2 2 ∷ []), false ∷ false ∷ true ∷ [])
    -- ballot 1 has its one mark already; in a dispute it shows its codes again, different ones; a paper's are different too
    ∷ (bad_among kind.Rule (voted key) (code_in key block.Cast 1 1 200 ∷ code_in key block.Dispute 1 0 100 ∷ code_in key block.Dispute 1 0 101 ∷ code_in key block.Dispute 1 1 200 ∷ code_in key block.Dispute 1 1 100 ∷ []), true ∷ false ∷ true ∷ false ∷ true ∷ [])
    ∷ (bad_among kind.Rule (voted key) (OverAt 1 0 ∷ OverAt 2 0 ∷ PaperAt 2 0 (300 ∷ 300 ∷ []) ∷ PaperAt 2 0 (300 ∷ 400 ∷ []) ∷ []), true ∷ false ∷ true ∷ false ∷ [])
    -- code 100 is that of the mark
    ∷ (is_answer_bad key 100 answer.Posted ∷ is_answer_bad key 100 answer.Unposted ∷ is_answer_bad key 100 answer.Absent ∷ [], false ∷ true ∷ true ∷ [])
    -- code 200 is another one of the ballot
    ∷ (is_answer_bad key 200 answer.Posted ∷ is_answer_bad key 200 answer.Unposted ∷ is_answer_bad key 200 answer.Absent ∷ [], true ∷ false ∷ true ∷ [])
    -- code 300 is none of them
    ∷ (is_answer_bad key 300 answer.Posted ∷ is_answer_bad key 300 answer.Unposted ∷ is_answer_bad key 300 answer.Absent ∷ [], true ∷ true ∷ false ∷ [])
    ∷ []

pub record AreOthersShown (key : Key) : Type 0 where
  pub each : map (λ e. e.0) (examples key) ≡ map (λ e. e.1) (examples key)
  -- a line that is bad in several kinds is named by the first of them
  pub several : first_bad small (drawn key) (both_row key 0 1 4 0) ≡ Some kind.Opening
  pub several_late : map (λ k. bad_placed k small (drawn key) (both_row key 0 1 4 0)) (kind.Pointer ∷ kind.Flag ∷ []) ≡ true ∷ true ∷ []
  pub one : first_bad small (voted key) (TotalAt 0 0 2) ≡ Some kind.Total
  pub none : first_bad small (voted key) (TotalAt 0 0 1) ≡ None

-- ALL KINDS

pub record AreKindsShown : Type 0 where
  pub form : IsFormShown
  pub seal : (line : Placed) (digest : Digest) → IsSealShown line digest
  pub opening : (key : Key) (digest other : Digest) → IsOpeningShown key digest other
  pub side : (key : Key) (digits : List ℕ) → IsSideShown key digits
  pub others : (key : Key) → AreOthersShown key
