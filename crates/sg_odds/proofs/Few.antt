-- A total of an accepted record is no more than the race's places.
use Rattle.std.proofs.Common.{◌≡◌, ℕ, ◌<◌, ◌≤◌, List, length, sym, subst, ap, ◌∙◌, arith}
use Rattle.sg_plan.specs.Ballots.{candidates_of, entries_of}
use Rattle.sg_grammar.specs.Lines.{IsAmong}
use Rattle.sg_grammar.specs.Parting.{Apart, clash}
use Rattle.sg_grammar.specs.Placed.{Placed}
use Rattle.sg_grammar.specs.Placed.Placed.{TotalAt}
use Rattle.sg_record.specs.Lines.{texts_in}
use Rattle.sg_record.specs.Places.{places_in, walk_of}
use Rattle.sg_record.specs.declared.record.Record.{Record}
use Rattle.sg_check.proofs.FineLines.{totals_count}
use Rattle.sg_check.proofs.Votes.{is_vote, places_in as lie_in, votes-count, votes_before}
use Rattle.sg_check.specs.Facts.{votes_for}
use Rattle.sg_check.specs.Laws.{AreTotalsCounted}
use Rattle.sg_facts.proofs.Totals.{total_there}
use Rattle.sg_facts.specs.Totals.{total_of}
use Rattle.sg_fronts.proofs.OfRecord.{apart, has_each, in_plan, placed}
use Rattle.sg_parts.proofs.Accepting.{fine}
use Rattle.sg_parts.specs.Given.{IsAccepted}
use Rattle.sg_recount.proofs.Counting.{count_most}

module _ (posted : Record) (accepted : IsAccepted posted) (race candidate : ℕ) (race_in : race < length posted.plan.races) (less : candidate < candidates_of posted.plan race) where
  total_among : IsAmong (places_in posted) (TotalAt race candidate (total_of (places_in posted) race candidate))
  total_among = let stands = (has_each posted accepted.words accepted.formed).total race candidate race_in less in total_there (places_in posted) race candidate stands.count stands.among

  are_counted : AreTotalsCounted posted.plan (places_in posted)
  are_counted = subst (λ (l : List Placed). AreTotalsCounted posted.plan l) (placed posted accepted.words accepted.formed) (totals_count (texts_in posted) (walk_of posted) (fine posted accepted))

  counted_few : (count : ℕ) → IsAmong (places_in posted) (TotalAt race candidate count) → count ≤ entries_of posted.plan race
  counted_few count (front, rest, is) =
      let plan = posted.plan in
      let stand_apart = apart posted accepted.words accepted.formed in
      let before = votes_before plan race candidate front rest count (subst (λ (l : List Placed). Apart clash l) is stand_apart) in
      let same : votes_for plan race candidate (places_in posted) ≡ votes_for plan race candidate front = ap (votes_for plan race candidate) is ∙ before in
      let votes = votes-count plan race candidate (places_in posted) stand_apart (lie_in plan (places_in posted) (in_plan posted accepted.words accepted.formed)) in
      let total = are_counted front rest race candidate count is ∙ (sym same ∙ votes) in
      omega (arith, total, count_most (is_vote plan race candidate (places_in posted)) (entries_of plan race))

  pub total_few : total_of (places_in posted) race candidate ≤ entries_of posted.plan race
  total_few = counted_few (total_of (places_in posted) race candidate) total_among
