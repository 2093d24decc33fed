-- What one more line in its place makes of each table, over plain lists.
use Rattle.std.specs.Prelude.{ℕ, nat_lt, ◌==◌, if◌then◌else◌, Bool, true, false, ◌&&◌, ◌||◌, List, ◌++◌, slice_set, Option, Some}
use Rattle.std.specs.Option.{option_map, option_map_or, option_or}
use Rattle.sg_grammar.specs.Lines.{is_audit, is_cast, is_dispute}
use Rattle.sg_check.specs.Facts.{is_both, opened_on}
use Rattle.sg_check.specs.Verdict.{total_on}
use Rattle.sg_commit.specs.declared.Digest.{Digest}
use Rattle.sg_commit.specs.declared.Opening.{Opening}
use Rattle.sg_forms.specs.Reading.{bytes_of_digits}
use Rattle.sg_forms.specs.declared.line.RowOpening.{RowOpening}
use Rattle.sg_forms.specs.declared.line.RowOpening.TheVariants as row
use Rattle.sg_ledger.specs.inside.Tables.{most_marks, with_bits, with_first, with_firsts, with_one_more, with_votes}
use Rattle.sg_ledger.specs.Tells.{candidate_place, instance_place}
use Rattle.sg_ledger.specs.declared.claims.Claimed.{Claimed}
use Rattle.sg_ledger.specs.declared.ledger.Ledger.{Ledger}
use Rattle.sg_plan.specs.declared.plan.Side.TheVariants as side
use Rattle.sg_plan.specs.Ballots.{candidates_of, entries_of, entry_at, entry_place, row_place}
use Rattle.sg_plan.specs.declared.plan.Plan.{Plan}
use Rattle.sg_streams.specs.CoinSides.{coin_seed}
use Rattle.sg_grammar.specs.Placed.{Placed}
use Rattle.sg_grammar.specs.declared.state.Block.{Block}
use Rattle.sg_grammar.specs.Placed.Placed.{CodeCommitAt, RowCommitAt, CodeAt, PaperAt, FlagsAt, PlacesAt, DrawnFull, DrawnPublic, RowAt, Disputed}

abbrev pub codes_after : Plan → List (Option Digest) → Placed → List (Option Digest)
codes_after plan table (CodeCommitAt race entry digest) = with_first table (entry_place plan race entry) digest
codes_after plan table line = table

abbrev pub lefts_after : Plan → List (Option Digest) → Placed → List (Option Digest)
lefts_after plan table (RowCommitAt race instance row left right) = with_first table (row_place plan race instance row) left
lefts_after plan table line = table

abbrev pub rights_after : Plan → List (Option Digest) → Placed → List (Option Digest)
rights_after plan table (RowCommitAt race instance row left right) = with_first table (row_place plan race instance row) right
rights_after plan table line = table

abbrev pub known_after : Plan → List (Option ℕ) → Placed → List (Option ℕ)
known_after plan table (CodeAt block ballot race column code) = slice_set table (entry_place plan race (entry_at plan race ballot column)) (Some code.code)
known_after plan table line = table

abbrev pub marked_after : Plan → List Bool → Placed → List Bool
marked_after plan table (CodeAt block ballot race column code) = (if is_cast block then slice_set table (entry_place plan race (entry_at plan race ballot column)) true else table)
marked_after plan table line = table

abbrev pub marks_after : Plan → List ℕ → Placed → List ℕ
marks_after plan table (CodeAt block ballot race column code) = (if is_cast block then with_one_more most_marks table (entry_place plan race (entry_at plan race ballot 0)) else table)
marks_after plan table line = table

abbrev pub flagged_after : Plan → List Bool → Placed → List Bool
flagged_after plan table (FlagsAt race instance from bits) = with_bits table (row_place plan race instance from) bits
flagged_after plan table line = table

abbrev pub places_after : Plan → List Bool → Placed → List Bool
places_after plan table (PlacesAt race from bits) = with_bits table (entry_place plan race from) bits
places_after plan table line = table

abbrev pub votes_after : Plan → List ℕ → Placed → List ℕ
votes_after plan table (PlacesAt race from bits) = with_votes (candidates_of plan race) (candidate_place race 0) table from bits
votes_after plan table line = table

-- a pointer below n stands in the place of the row with its number
abbrev pub seen_after : Plan → List Bool → ℕ → ℕ → Option Opening → List Bool
seen_after plan table race instance opening = option_map_or (λ o. (if nat_lt o.value (entries_of plan race) then slice_set table (row_place plan race instance o.value) true else table)) opening table

abbrev pub seen_lefts_after : Plan → List Bool → Placed → List Bool
seen_lefts_after plan table (RowAt race instance number opening) = seen_after plan table race instance (opened_on side.Left opening)
seen_lefts_after plan table line = table

abbrev pub seen_rights_after : Plan → List Bool → Placed → List Bool
seen_rights_after plan table (RowAt race instance number opening) = seen_after plan table race instance (opened_on side.Right opening)
seen_rights_after plan table line = table

abbrev pub path_after : Plan → List (Option ℕ) → ℕ → RowOpening → List (Option ℕ)
path_after plan table race (row.Both left right) = (if nat_lt left.value (entries_of plan race) && nat_lt right.value (entries_of plan race) then slice_set table (entry_place plan race left.value) (Some right.value) else table)
path_after plan table race (row.Left opening) = table
path_after plan table race (row.Right opening) = table

abbrev pub paths_after : Plan → List (Option ℕ) → Placed → List (Option ℕ)
paths_after plan table (RowAt race instance number opening) = path_after plan table race opening
paths_after plan table line = table

abbrev pub audited_after : Plan → List Bool → Placed → List Bool
audited_after plan table (CodeAt block ballot race column code) = (if is_audit block then slice_set table (entry_place plan race (entry_at plan race ballot column)) true else table)
audited_after plan table line = table

abbrev pub papers_after : Plan → List (Option ℕ) → Placed → List (Option ℕ)
papers_after plan table (PaperAt ballot race list) = with_firsts table (entry_place plan race (entry_at plan race ballot 0)) list
papers_after plan table line = table

abbrev pub audit_counts_after : List ℕ → Placed → List ℕ
audit_counts_after table (CodeAt block ballot race column code) = (if is_audit block then with_one_more most_marks table race else table)
audit_counts_after table line = table

abbrev pub both_counts_after : List ℕ → Placed → List ℕ
both_counts_after table (RowAt race instance number opening) = (if is_both opening then with_one_more most_marks table (instance_place race instance) else table)
both_counts_after table line = table

abbrev pub full_after : Bool → Placed → Bool
full_after full DrawnFull = true
full_after full line = full

-- the seed of the first public bytes stays
abbrev pub coins_after : Option (List ℕ) → Placed → Option (List ℕ)
coins_after coins (DrawnPublic digits) = option_or coins (Some (coin_seed (bytes_of_digits digits)))
coins_after coins line = coins

-- the claim, where a block shows the code
abbrev pub with_shown : Block → ℕ → Claimed → Claimed
with_shown block code claim = record { code = claim.code; answer = claim.answer; shown = claim.shown || (is_dispute block && code == claim.code) }

abbrev pub claim_after : Option Claimed → Placed → Option Claimed
claim_after claim (CodeAt block ballot race column code) = option_map (with_shown block code.code) claim
claim_after claim (Disputed ballot race code word) = Some (record { code = code; answer = word; shown = false })
claim_after claim line = claim

-- the ledger with one more line
abbrev pub ledger_after : Plan → Ledger → Placed → Ledger
ledger_after plan ledger line = record {
  book = ledger.book;
  commitments = record { codes = codes_after plan ledger.commitments.codes line; lefts = lefts_after plan ledger.commitments.lefts line; rights = rights_after plan ledger.commitments.rights line };
  codes = record { known = known_after plan ledger.codes.known line; marked = marked_after plan ledger.codes.marked line; marks = marks_after plan ledger.codes.marks line };
  bits = record { flagged = flagged_after plan ledger.bits.flagged line; places = places_after plan ledger.bits.places line; votes = votes_after plan ledger.bits.votes line };
  pointers = record { lefts = seen_lefts_after plan ledger.pointers.lefts line; rights = seen_rights_after plan ledger.pointers.rights line };
  paths = paths_after plan ledger.paths line;
  audits = record { audited = audited_after plan ledger.audits.audited line; papers = papers_after plan ledger.audits.papers line; entries = audit_counts_after ledger.audits.entries line; boths = both_counts_after ledger.audits.boths line };
  drawn = record { full = full_after ledger.drawn.full line; coins = coins_after ledger.drawn.coins line };
  claim = claim_after ledger.claim line;
  totals = ledger.totals ++ total_on line;
}

-- the line is no commitment, code or row
abbrev pub IsOther : Placed → Type 0
IsOther (CodeCommitAt race entry digest) = ⊥
IsOther (RowCommitAt race instance number left right) = ⊥
IsOther (CodeAt block ballot race column code) = ⊥
IsOther (RowAt race instance number opening) = ⊥
IsOther line = Unit {0}
