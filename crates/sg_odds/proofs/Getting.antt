-- What follows where a list of coins gets yes: it opens no row on a side on which its flag is wrong, and totals are the set
-- places.
use Rattle.std.proofs.Common.{◌≡◌, ℕ, ◌==◌, true, List, ◌∷◌, ◌++◌, refl, sym, subst, ap, ◌∙◌, append_assoc}
use Rattle.std.proofs.lemmas.Bool.{eqb-true, not-false}
use Rattle.sg_plan.specs.Ballots.{entries_of}
use Rattle.sg_plan.specs.declared.plan.Plan.{Plan}
use Rattle.sg_plan.specs.declared.plan.Side.{Side}
use Rattle.sg_grammar.specs.Lines.{IsAmong}
use Rattle.sg_grammar.specs.Parting.{Apart, clash}
use Rattle.sg_grammar.specs.Placed.{Placed}
use Rattle.sg_grammar.specs.Placed.Placed.{TotalAt}
use Rattle.sg_record.specs.Formed.{is_formed}
use Rattle.sg_record.specs.Laws.{HasWords}
use Rattle.sg_record.specs.Places.{behind_record, places_in}
use Rattle.sg_record.specs.declared.record.Record.{Record}
use Rattle.sg_check.proofs.Late.{Fails}
use Rattle.sg_check.proofs.Votes.{is_vote, places_in as lie_in, votes-count, votes_before}
use Rattle.sg_check.specs.Completions.{Completion}
use Rattle.sg_check.specs.Facts.{votes_for}
use Rattle.sg_check.specs.Printings.{count_below}
use Rattle.sg_check.specs.declared.judged.Kind.TheVariants as kind
use Rattle.sg_fronts.proofs.OfRecord.{apart, in_plan, parts}
use Rattle.sg_odds.specs.Coins.{GetsYes, before_draw}
use Rattle.sg_odds.proofs.Barred.{bars, row_free}
use Rattle.sg_odds.proofs.Halving.{Misses}
use Rattle.sg_odds.proofs.InOrder.{coins_miss}
use Rattle.sg_odds.proofs.Kept.{flags_good, totals_good}
use Rattle.sg_odds.proofs.Rows.{rows_due}
use Rattle.sg_odds.proofs.SamePlan.{same_plan}
use Rattle.sg_odds.proofs.Sections.{before_split, early_among, sections_apart, total_early}

-- a total is the number of set places of the first two sections
module _ (posted : Record) (words : HasWords posted) (formed : is_formed posted ≡ true)
    (totals : Fails kind.Total posted.plan (places_in posted)) where
  abbrev plan : Plan
  plan = posted.plan

  abbrev lines : List Placed
  lines = places_in posted

  counted : (race candidate count : ℕ) → IsAmong (before_draw lines) (TotalAt race candidate count)
      → count ≡ count_below (is_vote plan race candidate (before_draw lines)) (entries_of plan race)
  counted race candidate count (front, rest, is) =
      let stand_apart = sections_apart lines (apart posted words formed) in
      let split = before_split lines in
      let all : lines ≡ front ++ TotalAt race candidate count ∷ (rest ++ split.0)
      = split.1 ∙ (ap (λ (l : List Placed). l ++ split.0) is ∙ append_assoc front (TotalAt race candidate count ∷ rest) split.0) in
      let here = eqb-true count (votes_for plan race candidate front) (not-false (count == votes_for plan race candidate front) (totals front (rest ++ split.0) (TotalAt race candidate count) all)) in
      let before = votes_before plan race candidate front rest count (subst (λ (l : List Placed). Apart clash l) is stand_apart) in
      let same : votes_for plan race candidate (before_draw lines) ≡ votes_for plan race candidate front = ap (votes_for plan race candidate) is ∙ before in
      here ∙ (sym same ∙ votes-count plan race candidate (before_draw lines) stand_apart (lie_in plan (before_draw lines) (λ line there. in_plan posted words formed line (early_among lines line there))))

module _ (posted : Record) (words : HasWords posted) (formed : is_formed posted ≡ true) (completion : Completion) (coins : List Side) (gets : GetsYes (before_draw (places_in posted)) completion coins) where
  -- the record that gets yes has the same plan
  plan_is : gets.posted.plan ≡ posted.plan
  plan_is = same_plan gets.posted posted gets.words words gets.formed formed gets.begins

  pub misses : Misses (bars posted.plan (before_draw (places_in posted)) completion) (rows_due posted.plan) coins
  misses =
      let plan = gets.posted.plan in
      let lines = places_in gets.posted in
      let flags = flags_good gets.posted gets.words gets.formed (gets.keeps kind.Flag (λ e. cc)) in
      let own = coins_miss lines (behind_record gets.posted) (bars plan (before_draw lines) completion) (parts gets.posted gets.words gets.formed) refl
      (row_free plan lines completion (apart gets.posted gets.words gets.formed) gets.opens flags) coins gets.sides in
      subst (λ (p : Plan). Misses (bars p (before_draw (places_in posted)) completion) (rows_due p) coins) plan_is
      (subst (λ (s : List Placed). Misses (bars plan s completion) (rows_due plan) coins) gets.begins own)

  pub total_counted : (race candidate count : ℕ) → IsAmong (places_in posted) (TotalAt race candidate count)
      → count ≡ count_below (is_vote posted.plan race candidate (before_draw (places_in posted))) (entries_of posted.plan race)
  total_counted race candidate count among =
      let early = subst (λ (l : List Placed). IsAmong (before_draw l) (TotalAt race candidate count)) (sym among.2)
      (total_early race candidate count among.0 among.1 (subst (λ (l : List Placed). Apart clash l) among.2 (apart posted words formed))) in
      let theirs = subst (λ (s : List Placed). IsAmong s (TotalAt race candidate count)) (sym gets.begins) early in
      let own = counted gets.posted gets.words gets.formed (totals_good gets.posted gets.words gets.formed (gets.keeps kind.Total (λ e. cc))) race candidate count theirs in
      subst (λ (p : Plan). count ≡ count_below (is_vote p race candidate (before_draw (places_in posted))) (entries_of p race)) plan_is
      (subst (λ (s : List Placed). count ≡ count_below (is_vote gets.posted.plan race candidate s) (entries_of gets.posted.plan race)) gets.begins own)
