-- A ledger that tells lines tells one more; and what it judges.
use Rattle.std.proofs.Common.{◌≡◌, ℕ, ◌<◌, nat_lt, if◌then◌else◌, Bool, true, false, List, [], ◌∷◌, ◌++◌, length, get_or, set, min, ◌+◌, Option, Some, None, refl, sym, ap, ◌∙◌, arith, length-set}
use Rattle.sg_grammar.specs.Lines.{is_audit, is_cast}
use Rattle.sg_check.specs.Facts.{is_both, opened_on}
use Rattle.sg_check.specs.Kinds.{first_bad}
use Rattle.sg_check.specs.Verdict.{total_on}
use Rattle.sg_check.specs.declared.judged.Total.{Total}
use Rattle.sg_commit.specs.declared.Opening.{Opening}
use Rattle.sg_forms.specs.declared.line.RowOpening.TheVariants as row
use Rattle.sg_ledger.proofs.BitLists.{length-bits, length-votes}
use Rattle.sg_ledger.proofs.BitSteps.{flagged_step, places_step, votes_step}
use Rattle.sg_ledger.proofs.AuditSteps.{audit_counts_step, audited_step, both_counts_step, few_step, length-firsts, papers_step}
use Rattle.sg_ledger.proofs.DrawSteps.{claim_step, coins_step, full_step}
use Rattle.sg_ledger.proofs.Judged.{agrees, freshness}
use Rattle.sg_ledger.proofs.KeptSteps.{codes_step, known_step, lefts_step, marked_step, marks_step, rights_step, seen_lefts_step, seen_rights_step}
use Rattle.sg_ledger.proofs.Lists.{placed-push, totals-push}
use Rattle.sg_ledger.proofs.PathSteps.{are_small, paths_step}
use Rattle.sg_ledger.proofs.Places.{length-first}
use Rattle.sg_ledger.specs.inside.Steps.{audit_counts_after, audited_after, both_counts_after, papers_after, codes_after, flagged_after, known_after, ledger_after, lefts_after, marked_after, marks_after, paths_after, places_after, rights_after, seen_after, seen_lefts_after, seen_rights_after, votes_after}
use Rattle.sg_ledger.specs.inside.Tables.{most_marks, with_one_more}
use Rattle.sg_ledger.specs.Tells.{IsSized, Tells, candidate_place, instance_place, totals_kept, totals_placed}
use Rattle.sg_ledger.specs.declared.ledger.Ledger.{Ledger}
use Rattle.sg_plan.proofs.PlanLaws.{bounds}
use Rattle.sg_plan.specs.declared.plan.Side.TheVariants as side
use Rattle.sg_plan.specs.Ballots.{candidates_of, entries_of, entry_at, entry_place, row_place}
use Rattle.sg_plan.specs.Limits.{fault_of}
use Rattle.sg_plan.specs.declared.plan.Plan.{Plan}
use Rattle.sg_grammar.specs.Placed.{Placed}
use Rattle.sg_grammar.specs.Placed.Placed.{CodeCommitAt, RowCommitAt, CodeAt, PaperAt, FlagsAt, PlacesAt, RowAt}
use Rattle.sg_grammar.specs.Coordinates.{IsPlacedIn}

-- THE TABLES KEEP THEIR LENGTHS

choice_len : {A : Type 0} (b : Bool) (table other : List A) → length other ≡ length table → length (if b then other else table) ≡ length table
choice_len true table other same = same
choice_len false table other same = refl

codes_len : (plan : Plan) (ledger : Ledger) (line : Placed) → length (codes_after plan ledger.commitments.codes line) ≡ length ledger.commitments.codes
codes_len plan ledger (CodeCommitAt race entry digest) = length-first ledger.commitments.codes (entry_place plan race entry) digest
codes_len plan ledger line = refl

lefts_len : (plan : Plan) (ledger : Ledger) (line : Placed) → length (lefts_after plan ledger.commitments.lefts line) ≡ length ledger.commitments.lefts
lefts_len plan ledger (RowCommitAt race instance row left right) = length-first ledger.commitments.lefts (row_place plan race instance row) left
lefts_len plan ledger line = refl

rights_len : (plan : Plan) (ledger : Ledger) (line : Placed) → length (rights_after plan ledger.commitments.rights line) ≡ length ledger.commitments.rights
rights_len plan ledger (RowCommitAt race instance row left right) = length-first ledger.commitments.rights (row_place plan race instance row) right
rights_len plan ledger line = refl

known_len : (plan : Plan) (table : List (Option ℕ)) (line : Placed) → length (known_after plan table line) ≡ length table
known_len plan table (CodeAt block ballot race column code) = length-set table (entry_place plan race (entry_at plan race ballot column)) (Some code.code)
known_len plan table line = refl

marked_len : (plan : Plan) (table : List Bool) (line : Placed) → length (marked_after plan table line) ≡ length table
marked_len plan table (CodeAt block ballot race column code) = choice_len (is_cast block) table (set table (entry_place plan race (entry_at plan race ballot column)) true) (length-set table (entry_place plan race (entry_at plan race ballot column)) true)
marked_len plan table line = refl

marks_len : (plan : Plan) (table : List ℕ) (line : Placed) → length (marks_after plan table line) ≡ length table
marks_len plan table (CodeAt block ballot race column code) = choice_len (is_cast block) table (with_one_more most_marks table (entry_place plan race (entry_at plan race ballot 0))) (length-set table (entry_place plan race (entry_at plan race ballot 0)) (min (get_or table (entry_place plan race (entry_at plan race ballot 0)) 0 + 1) most_marks))
marks_len plan table line = refl

flagged_len : (plan : Plan) (table : List Bool) (line : Placed) → length (flagged_after plan table line) ≡ length table
flagged_len plan table (FlagsAt race instance from bits) = length-bits table (row_place plan race instance from) bits
flagged_len plan table line = refl

places_len : (plan : Plan) (table : List Bool) (line : Placed) → length (places_after plan table line) ≡ length table
places_len plan table (PlacesAt race from bits) = length-bits table (entry_place plan race from) bits
places_len plan table line = refl

votes_len : (plan : Plan) (table : List ℕ) (line : Placed) → length (votes_after plan table line) ≡ length table
votes_len plan table (PlacesAt race from bits) = length-votes (candidates_of plan race) (candidate_place race 0) table from bits
votes_len plan table line = refl

seen_len : (plan : Plan) (table : List Bool) (race instance : ℕ) (opening : Option Opening) → length (seen_after plan table race instance opening) ≡ length table
seen_len plan table race instance None = refl
seen_len plan table race instance (Some o) = choice_len (nat_lt o.value (entries_of plan race)) table (set table (row_place plan race instance o.value) true) (length-set table (row_place plan race instance o.value) true)

seen_lefts_len : (plan : Plan) (table : List Bool) (line : Placed) → length (seen_lefts_after plan table line) ≡ length table
seen_lefts_len plan table (RowAt race instance number opening) = seen_len plan table race instance (opened_on side.Left opening)
seen_lefts_len plan table line = refl

seen_rights_len : (plan : Plan) (table : List Bool) (line : Placed) → length (seen_rights_after plan table line) ≡ length table
seen_rights_len plan table (RowAt race instance number opening) = seen_len plan table race instance (opened_on side.Right opening)
seen_rights_len plan table line = refl

paths_len : (plan : Plan) (table : List (Option ℕ)) (line : Placed) → length (paths_after plan table line) ≡ length table
paths_len plan table (RowAt race instance number (row.Both left right)) = choice_len (are_small plan race left right) table (set table (entry_place plan race left.value) (Some right.value)) (length-set table (entry_place plan race left.value) (Some right.value))
paths_len plan table (RowAt race instance number (row.Left opening)) = refl
paths_len plan table (RowAt race instance number (row.Right opening)) = refl
paths_len plan table line = refl

audited_len : (plan : Plan) (table : List Bool) (line : Placed) → length (audited_after plan table line) ≡ length table
audited_len plan table (CodeAt block ballot race column code) = choice_len (is_audit block) table (set table (entry_place plan race (entry_at plan race ballot column)) true) (length-set table (entry_place plan race (entry_at plan race ballot column)) true)
audited_len plan table line = refl

papers_len : (plan : Plan) (table : List (Option ℕ)) (line : Placed) → length (papers_after plan table line) ≡ length table
papers_len plan table (PaperAt ballot race list) = length-firsts table (entry_place plan race (entry_at plan race ballot 0)) list
papers_len plan table line = refl

audit_counts_len : (table : List ℕ) (line : Placed) → length (audit_counts_after table line) ≡ length table
audit_counts_len table (CodeAt block ballot race column code) = choice_len (is_audit block) table (with_one_more most_marks table race) (length-set table race (min (get_or table race 0 + 1) most_marks))
audit_counts_len table line = refl

both_counts_len : (table : List ℕ) (line : Placed) → length (both_counts_after table line) ≡ length table
both_counts_len table (RowAt race instance number opening) = choice_len (is_both opening) table (with_one_more most_marks table (instance_place race instance)) (length-set table (instance_place race instance) (min (get_or table (instance_place race instance) 0 + 1) most_marks))
both_counts_len table line = refl

pub sized_after : (plan : Plan) (ledger : Ledger) (line : Placed) → IsSized plan ledger → IsSized plan (ledger_after plan ledger line)
sized_after plan ledger line sized = record {
  book = sized.book;
  codes = codes_len plan ledger line ∙ sized.codes;
  lefts = lefts_len plan ledger line ∙ sized.lefts;
  rights = rights_len plan ledger line ∙ sized.rights;
  known = known_len plan ledger.codes.known line ∙ sized.known;
  marked = marked_len plan ledger.codes.marked line ∙ sized.marked;
  marks = marks_len plan ledger.codes.marks line ∙ sized.marks;
  flagged = flagged_len plan ledger.bits.flagged line ∙ sized.flagged;
  places = places_len plan ledger.bits.places line ∙ sized.places;
  votes = votes_len plan ledger.bits.votes line ∙ sized.votes;
  seen_lefts = seen_lefts_len plan ledger.pointers.lefts line ∙ sized.seen_lefts;
  seen_rights = seen_rights_len plan ledger.pointers.rights line ∙ sized.seen_rights;
  paths = paths_len plan ledger.paths line ∙ sized.paths;
  audited = audited_len plan ledger.audits.audited line ∙ sized.audited;
  papers = papers_len plan ledger.audits.papers line ∙ sized.papers;
  audit_counts = audit_counts_len ledger.audits.entries line ∙ sized.audit_counts;
  both_counts = both_counts_len ledger.audits.boths line ∙ sized.both_counts;
}

-- THE TABLES TELL ONE MORE LINE

pub tells_after : (plan : Plan) (ledger : Ledger) (lines : List Placed) (line : Placed) → fault_of plan ≡ None → IsPlacedIn plan line
    → Tells plan ledger lines → first_bad plan lines line ≡ None → Tells plan (ledger_after plan ledger line) (lines ++ line ∷ [])
tells_after plan ledger lines line good placed tells fine =
    let few = bounds plan good in
    let some : (race : ℕ) → race < length plan.races → 0 < candidates_of plan race = λ race within. omega (arith, few.two_candidates race within) in
    let sized = tells.sized in
    let agree = agrees plan lines line fine in
    record {
      sized = sized_after plan ledger line sized;
      placed = placed-push plan lines line tells.placed placed;
      commitments = record {
        codes = codes_step plan ledger.commitments.codes lines line placed sized.codes tells.commitments.codes;
        lefts = lefts_step plan ledger.commitments.lefts lines line placed sized.lefts tells.commitments.lefts;
        rights = rights_step plan ledger.commitments.rights lines line placed sized.rights tells.commitments.rights;
      };
      codes = record {
        known = known_step plan ledger.codes.known lines line placed sized.known tells.placed agree tells.codes.known;
        marked = marked_step plan ledger.codes.marked lines line placed sized.marked tells.codes.marked;
        marks = marks_step plan ledger.codes.marks lines line some placed sized.marks tells.codes.marks;
      };
      bits = record {
        flagged = flagged_step plan ledger.bits.flagged lines line placed sized.flagged tells.bits.flagged;
        places = places_step plan ledger.bits.places lines line placed sized.places tells.bits.places;
        votes = votes_step plan ledger.bits.votes lines line some few.few_candidates placed sized.votes tells.bits.votes;
      };
      pointers = record {
        lefts = seen_lefts_step plan ledger.pointers.lefts lines line placed sized.seen_lefts tells.pointers.lefts;
        rights = seen_rights_step plan ledger.pointers.rights lines line placed sized.seen_rights tells.pointers.rights;
      };
      paths = paths_step plan ledger.paths lines line placed sized.paths tells.placed agree tells.paths;
      audits = record {
        audited = audited_step plan ledger.audits.audited lines line placed sized.audited tells.audits.audited;
        papers = papers_step plan ledger.audits.papers lines line some placed sized.papers tells.audits.papers;
        entries = audit_counts_step plan ledger.audits.entries lines line placed sized.audit_counts tells.audits.entries;
        boths = both_counts_step plan ledger.audits.boths lines line few.few_instances placed sized.both_counts tells.audits.boths;
        few = few_step plan lines line (freshness plan lines line fine) tells.audits.few;
      };
      drawn = record {
        full = full_step ledger.drawn.full lines line tells.drawn.full;
        coins = coins_step ledger.drawn.coins lines line tells.drawn.coins;
      };
      claim = claim_step ledger.claim lines line tells.claim;
      totals = ap (λ (totals : List Total). totals ++ total_on line) tells.totals ∙ sym (totals-push lines line);
    }

-- the ledger has the totals of the lines that it tells
pub totals_kept-tells : (plan : Plan) (ledger : Ledger) (lines : List Placed) → Tells plan ledger lines → totals_kept ledger ≡ length (totals_placed lines)
totals_kept-tells plan ledger lines tells = ap length tells.totals
