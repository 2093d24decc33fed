-- What a record posts is a completion, which opens no commitment twice.
use Rattle.std.proofs.Common.{◌≡◌, ℕ, true, false, List, [], ◌∷◌, ◌++◌, Option, Some, None, refl, sym, subst, ap, ◌∙◌}
use Rattle.std.specs.Option.{option_map_or}
use Rattle.std.proofs.lemmas.Option.{same_Some}
use Rattle.sg_commit.specs.declared.CommitKind.{CommitKind}
use Rattle.sg_commit.specs.declared.Digest.{Digest}
use Rattle.sg_commit.specs.declared.Opening.{Opening}
use Rattle.sg_forms.specs.Spelling.{IsOpening, IsRow}
use Rattle.sg_forms.specs.declared.line.RowOpening.{RowOpening}
use Rattle.sg_forms.specs.declared.line.RowOpening.TheVariants as opened
use Rattle.sg_plan.specs.declared.plan.Plan.{Plan}
use Rattle.sg_plan.specs.declared.plan.Side.{Side}
use Rattle.sg_plan.specs.declared.plan.Side.TheVariants as side
use Rattle.sg_grammar.specs.Lines.{IsAmong, placed_of}
use Rattle.sg_grammar.specs.Parting.{IsLineIn}
use Rattle.sg_grammar.specs.Placed.{Placed}
use Rattle.sg_grammar.specs.Placed.Placed.{RowAt}
use Rattle.sg_check.proofs.FineLines.{do_openings_open}
use Rattle.sg_check.specs.Facts.{commits_half, first_given, half_commitment, opened_on}
use Rattle.sg_check.specs.Kinds.{opens_digest, half_kind}
use Rattle.sg_check.specs.Laws.{CompletionExists, DoOpeningsOpen}
use Rattle.sg_check.proofs.BoundLaws.{are_in_plan, fine}
use Rattle.sg_check.proofs.Rows.{posted_row}
use Rattle.sg_check.specs.Bounds.{HasCompletion}
use Rattle.sg_check.specs.Completions.{posted_half}

-- the first value of a front is the first of all
first_of_front : {B : Type 0} (given : Placed → Option B) (front rest : List Placed) (value : B) → first_given given front ≡ Some value → first_given given (front ++ rest) ≡ Some value
first_of_front given [] rest value e = cc
first_of_front given (line ∷ front) rest value e = at_value (given line) e (first_of_front given front rest value)
  where
    at_value : (o : Option _) → option_map_or Some o (first_given given front) ≡ Some value → (first_given given front ≡ Some value → first_given given (front ++ rest) ≡ Some value)
        → option_map_or Some o (first_given given (front ++ rest)) ≡ Some value
    at_value (Some v) d more = d
    at_value None d more = more d

-- what opens the commitment of a front opens that of all
opens_all : (given : Placed → Option Digest) (front rest : List Placed) (kind : CommitKind) (race instance row : ℕ) (o : Opening)
    → opens_digest (first_given given front) kind race instance row o ≡ true → opens_digest (first_given given (front ++ rest)) kind race instance row o ≡ true
opens_all given front rest kind race instance row o e = by_case (first_given given front) refl
  where
    by_case : (x : Option Digest) → first_given given front ≡ x → opens_digest (first_given given (front ++ rest)) kind race instance row o ≡ true
    by_case None none = let both : false ≡ true = sym (ap (λ (y : Option Digest). opens_digest y kind race instance row o) none) ∙ e in cc
    by_case (Some d) some =
        ap (λ (y : Option Digest). opens_digest y kind race instance row o) (first_of_front given front rest d some)
        ∙ (sym (ap (λ (y : Option Digest). opens_digest y kind race instance row o) some) ∙ e)

side_in_range : (on : Side) (opening : RowOpening) (o : Opening) → IsRow opening → opened_on on opening ≡ Some o → IsOpening o
side_in_range side.Left (opened.Left l) o range e = subst IsOpening (same_Some l o e) range
side_in_range side.Left (opened.Right r) o range e = cc
side_in_range side.Left (opened.Both l r) o range e = subst IsOpening (same_Some l o e) range.0
side_in_range side.Right (opened.Left l) o range e = cc
side_in_range side.Right (opened.Right r) o range e = subst IsOpening (same_Some r o e) range
side_in_range side.Right (opened.Both l r) o range e = subst IsOpening (same_Some r o e) range.1

module _ (plan : Plan) (lines : List Placed) (opens : DoOpeningsOpen plan lines) (within : (line : Placed) → IsAmong lines line → IsLineIn plan line) where
  side_opens : (on : Side) (race instance row : ℕ) (opening : RowOpening) (o : Opening) → IsAmong lines (RowAt race instance row opening) → opened_on on opening ≡ Some o
      → opens_digest (half_commitment lines on race instance row) (half_kind on) race instance row o ≡ true
  side_opens side.Left race instance row opening o (front, rest, is) of =
      subst (λ (l : List Placed). opens_digest (half_commitment l side.Left race instance row) (half_kind side.Left) race instance row o ≡ true) (sym is)
      (opens_all (commits_half side.Left race instance row) front (RowAt race instance row opening ∷ rest) (half_kind side.Left) race instance row o (opens.left front rest race instance row opening o is of))
  side_opens side.Right race instance row opening o (front, rest, is) of =
      subst (λ (l : List Placed). opens_digest (half_commitment l side.Right race instance row) (half_kind side.Right) race instance row o ≡ true) (sym is)
      (opens_all (commits_half side.Right race instance row) front (RowAt race instance row opening ∷ rest) (half_kind side.Right) race instance row o (opens.right front rest race instance row opening o is of))

  pub has_completion : HasCompletion plan lines
  has_completion = (
    λ on race instance row. posted_half lines on race instance row,
    record {
      is_opening = λ on race instance row o within_plan there.
          let from = posted_row lines on race instance row o there in
          side_in_range on from.0 o (within (RowAt race instance row from.0) from.1).shown from.2;
      opens = λ on race instance row o within_plan there.
          let from = posted_row lines on race instance row o there in
          side_opens on race instance row from.0 o from.1 from.2;
      has = λ on race instance row there. there;
    },
    λ on race instance row posted e. e,
  )

pub completion_exists : CompletionExists
completion_exists lines totals walked accepted =
    has_completion walked.next.plan (placed_of walked.posted) (do_openings_open lines walked (fine lines totals walked accepted)) (are_in_plan lines totals walked accepted)
