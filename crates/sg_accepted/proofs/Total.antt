-- Kind total: the total of a candidate is the number of its places that are set.
use Rattle.std.proofs.Common.{◌≡◌, ℕ, ◌<◌, ◌%◌, ◌==◌, Bool, true, false, ◌&&◌, not, List, [], length, None, refl, sym, subst, ap, ◌∙◌}
use Rattle.std.proofs.Math.Bool.{and_comm}
use Rattle.std.proofs.lemmas.Bool.{eq-eqb}
use Rattle.std.specs.List.{list_all}
use Rattle.sg_plan.specs.Ballots.{candidates_of, entries_of}
use Rattle.sg_plan.specs.Limits.{fault_of}
use Rattle.sg_plan.specs.declared.plan.Draw.{Draw}
use Rattle.sg_plan.specs.declared.plan.Plan.{Plan}
use Rattle.sg_grammar.specs.Lines.{IsAmong}
use Rattle.sg_grammar.specs.Parting.{Apart, IsLineIn, clash}
use Rattle.sg_grammar.specs.Placed.{Placed}
use Rattle.sg_grammar.specs.Placed.Placed.{TotalAt}
use Rattle.sg_record.specs.Places.{places_in}
use Rattle.sg_check.proofs.Counting.{count-same}
use Rattle.sg_check.proofs.Votes.{is_vote, places_in as in_plan, votes-count, votes_before}
use Rattle.sg_check.specs.Facts.{votes_for}
use Rattle.sg_check.specs.Kinds.{bad_placed}
use Rattle.sg_check.specs.declared.judged.Kind.TheVariants as kind
use Rattle.sg_post.specs.Fits.{claim_fits, fates_fit}
use Rattle.sg_post.specs.Marks.{is_place_set, total_of}
use Rattle.sg_post.specs.Posted.{posted_record}
use Rattle.sg_post.specs.declared.story.Claimed.{Claimed}
use Rattle.sg_post.specs.declared.story.Told.{Told}
use Rattle.sg_facts.proofs.Rising.{IsFront, record-good}
use Rattle.sg_accepted.proofs.Counted.{below_counts}
use Rattle.sg_accepted.proofs.Late.{Good}
use Rattle.sg_accepted.proofs.Posted.{SaysRight, all-right, set_is}

module _ (plan : Plan) (seed : List ℕ) (fates : List Told) (draw : Draw) (claims : List Claimed) where
  abbrev lines : List Placed
  lines = places_in (posted_record plan seed fates draw claims)

  module _ (apart : Apart clash lines) (are_in : (line : Placed) → IsAmong lines line → IsLineIn plan line) where
    -- what all lines have of a candidate is its total
    votes-are : (race candidate : ℕ) → race < length plan.races → votes_for plan race candidate lines ≡ total_of plan seed fates race candidate
    unfolding total_of
    votes-are race candidate within =
        let test : ℕ → Bool = λ place. place % candidates_of plan race == candidate && is_place_set plan seed fates race place in
        votes-count plan race candidate lines apart (in_plan plan lines are_in)
        ∙ (count-same (is_vote plan race candidate lines) test (entries_of plan race)
        (λ place below. ap (λ (b : Bool). b && place % candidates_of plan race == candidate) (set_is plan seed fates draw claims race place within below)
        ∙ and_comm (is_place_set plan seed fates race place) (place % candidates_of plan race == candidate))
        ∙ sym (below_counts test (entries_of plan race)))

    -- no places of its race stand behind a total
    total-good : (before : List Placed) (line : Placed) → IsFront lines before line → SaysRight plan seed fates draw line → bad_placed kind.Total plan before line ≡ false
    total-good before (TotalAt race candidate count) front right =
        let counted : count ≡ votes_for plan race candidate before
        = right.2
        ∙ (sym (votes-are race candidate right.0)
        ∙ (ap (votes_for plan race candidate) front.is ∙ votes_before plan race candidate before front.rest count (subst (λ (l : List Placed). Apart clash l) front.is apart))) in
        ap not (eq-eqb count (votes_for plan race candidate before) counted)
    total-good before line front right = refl

    pub totals-whole : fault_of plan ≡ None → fates_fit plan 0 fates ≡ true → list_all (claim_fits plan) claims ≡ true → Good (bad_placed kind.Total plan) [] lines
    totals-whole fine fit claimed = record-good (bad_placed kind.Total plan) (SaysRight plan seed fates draw) (posted_record plan seed fates draw claims) total-good (all-right plan seed fates draw claims fine fit claimed)
