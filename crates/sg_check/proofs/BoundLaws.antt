-- The laws of the unopened halves.
use Rattle.std.proofs.Common.{◌≡◌, ℕ, ◌<◌, ◌⊎◌, true, false, inl, inr, List, [], ◌∷◌, ◌++◌, length, Option, Some, None, refl, sym, subst, ap, ◌∙◌, arith}
use Rattle.std.specs.Option.{is_none, option_map_or}
use Rattle.std.specs.Prelude.{Contains, slice_index_or}
use Rattle.std.proofs.lemmas.Bool.{eq-eqb}
use Rattle.std.proofs.lemmas.List.Elements.{Contains-append_cases, Contains-append_left, Contains-append_right, Contains-push}
use Rattle.sg_forms.specs.declared.line.RowOpening.{RowOpening}
use Rattle.sg_forms.specs.declared.line.RowOpening.TheVariants as opened
use Rattle.sg_plan.specs.Ballots.{entries_of}
use Rattle.sg_plan.specs.Limits.{is_version}
use Rattle.sg_plan.specs.declared.plan.Plan.{Plan}
use Rattle.sg_plan.specs.declared.plan.Side.{Side}
use Rattle.sg_plan.specs.declared.plan.Side.TheVariants as side
use Rattle.sg_grammar.proofs.Counting.{start-made}
use Rattle.sg_grammar.proofs.Making.{complete-sizes}
use Rattle.sg_grammar.proofs.Ranges.{lines_are_in_plan}
use Rattle.sg_grammar.proofs.Wholes.{lines_stand_apart, whole_has_each}
use Rattle.sg_grammar.specs.Lines.{IsAmong, placed_of}
use Rattle.sg_grammar.specs.Parting.{Apart, IsLineIn, clash, is_before_rows}
use Rattle.sg_grammar.specs.Made.{HasSizes, IsMade}
use Rattle.sg_grammar.specs.Placed.{Placed}
use Rattle.sg_grammar.specs.Placed.Placed.{DrawnFull, RowAt, TotalAt}
use Rattle.sg_grammar.specs.Walk.{Posted, Walked, is_whole, is_whole_at}
use Rattle.sg_grammar.specs.declared.state.Head.{Head}
use Rattle.sg_grammar.specs.declared.state.Head.TheVariants as head
use Rattle.sg_grammar.specs.declared.state.Part.{Part}
use Rattle.sg_grammar.specs.declared.state.Slot.{Slot}
use Rattle.sg_check.proofs.FineLines.{do_flags_agree, pointers_stand_once, sides_are_drawn, totals_count}
use Rattle.sg_check.specs.Facts.{draws_full, first_given, is_both, is_full_draw, opened_on}
use Rattle.sg_check.specs.Laws.{FullDrawEquals, IsAccepted, IsFineWalk, TotalsBound, TotalsStand}
use Rattle.sg_check.specs.Verdict.{IsGood, total_on, totals_in}
use Rattle.sg_check.specs.declared.judged.Total.{Total}
use Rattle.sg_check.proofs.Bounding.{total_bound}
use Rattle.sg_check.proofs.Counting.{count-none}
use Rattle.sg_check.proofs.Rows.{none_behind_row}
use Rattle.sg_check.specs.Bounds.{AreTotalsEqual, DifferByAtMost}
use Rattle.sg_check.specs.Completions.{Completion, OpensNoneTwice, altered_rows, is_altered, posted_half, posts_half}
use Rattle.sg_check.specs.Printings.{AreCodesDifferent, Printing, StandsWith, posted_count}

-- a value that one of the lines gives is found
pub given_there : {B : Type 0} (given : Placed → Option B) (front rest : List Placed) (x : Placed) → is_none (given x) ≡ false → is_none (first_given given (front ++ x ∷ rest)) ≡ false
given_there given [] rest x there = at_value (given x) there
  where
    at_value : (o : Option _) → is_none o ≡ false → is_none (option_map_or Some o (first_given given rest)) ≡ false
    at_value (Some v) e = refl
    at_value None e = cc
given_there given (y ∷ front) rest x there = at_value (given y) (given_there given front rest x there)
  where
    at_value : (o : Option _) → is_none (first_given given (front ++ x ∷ rest)) ≡ false → is_none (option_map_or Some o (first_given given (front ++ x ∷ rest))) ≡ false
    at_value (Some v) e = refl
    at_value None e = e

-- TOTALS AMONG LINES

none_there : (x : Total) → Contains [] x → ⊥
none_there x (k, less, is) = omega arith

one_there : (x y : Total) → Contains (y ∷ []) x → y ≡ x
one_there x y (k, less, is) = at_first k (omega arith) is
  where
    at_first : (j : ℕ) → j ≡ 0 → slice_index_or (y ∷ []) j x ≡ x → y ≡ x
    at_first j zero_is there = sym (ap (λ (i : ℕ). slice_index_or (y ∷ []) i x) zero_is) ∙ there

pub total_among : (posted : List Posted) (total : Total) → Contains (totals_in posted) total → IsAmong (placed_of posted) (TotalAt total.race total.candidate total.count)
total_among [] total there = absurd (none_there total there)
total_among (p ∷ posted) total there = at_case (Contains-append_cases (total_on p.line) (totals_in posted) total there) (total_among posted total)
  where
    first : (line : Placed) (lines : List Placed) → Contains (total_on line) total → IsAmong (line ∷ lines) (TotalAt total.race total.candidate total.count)
    first (TotalAt race candidate count) lines has =
        let is = one_there total (record { race = race; candidate = candidate; count = count }) has in
        subst (λ (t : Total). IsAmong (TotalAt race candidate count ∷ lines) (TotalAt t.race t.candidate t.count)) is ([], lines, refl)
    first line lines has = absurd (none_there total has)

    at_case : (Contains (total_on p.line) total ⊎ Contains (totals_in posted) total) → (Contains (totals_in posted) total → IsAmong (placed_of posted) (TotalAt total.race total.candidate total.count))
        → IsAmong (placed_of (p ∷ posted)) (TotalAt total.race total.candidate total.count)
    at_case (inl has) rest = first p.line (placed_of posted) has
    at_case (inr has) rest = let more = rest has in (p.line ∷ more.0, more.1, ap (λ (l : List Placed). p.line ∷ l) more.2)

pub among_total : (posted : List Posted) (race candidate count : ℕ) (front rest : List Placed) → placed_of posted ≡ front ++ TotalAt race candidate count ∷ rest
    → Contains (totals_in posted) (record { race = race; candidate = candidate; count = count })
among_total [] race candidate count [] rest is = cc
among_total [] race candidate count (x ∷ front) rest is = cc
among_total (p ∷ posted) race candidate count [] rest is =
    let here : p.line ≡ TotalAt race candidate count = first_of is in
    Contains-append_left (total_on p.line) (totals_in posted) (record { race = race; candidate = candidate; count = count })
    (subst (λ (l : Placed). Contains (total_on l) (record { race = race; candidate = candidate; count = count })) (sym here) (Contains-push [] (record { race = race; candidate = candidate; count = count })))
  where
    first_of : {x y : Placed} {xs ys : List Placed} → x ∷ xs ≡ y ∷ ys → x ≡ y
    first_of e = cc
among_total (p ∷ posted) race candidate count (x ∷ front) rest is =
    Contains-append_right (total_on p.line) (totals_in posted) (record { race = race; candidate = candidate; count = count }) (among_total posted race candidate count front rest (others is))
  where
    others : {x y : Placed} {xs ys : List Placed} → x ∷ xs ≡ y ∷ ys → xs ≡ ys
    others e = cc

-- ACCEPTED RECORDS

whole_head : (stage : Head) (due : List Slot) (may_begin : Part) → is_whole_at stage due may_begin ≡ true → stage ≡ head.Whole
whole_head head.Whole due may_begin e = refl
whole_head head.Version due may_begin e = cc
whole_head head.Election due may_begin e = cc
whole_head head.Instances due may_begin e = cc
whole_head head.Races due may_begin e = cc
whole_head (head.Candidates left) due may_begin e = cc
whole_head head.Styles due may_begin e = cc
whole_head head.Runs due may_begin e = cc

whole_sizes : (plan : Plan) (stage : Head) → stage ≡ head.Whole → IsMade plan stage → HasSizes plan
whole_sizes plan stage is kept = complete-sizes plan (subst (λ (h : Head). IsMade plan h) is kept).stands

whole_version : (plan : Plan) (stage : Head) → stage ≡ head.Whole → IsMade plan stage → is_version plan.version ≡ true
whole_version plan stage is kept = (subst (λ (h : Head). IsMade plan h) is kept).stands.front.version

module _ (lines : List (List ℕ)) (totals : List Total) (walked : Walked) (accepted : IsAccepted lines totals walked) where
  good : IsGood lines totals
  good = accepted.yes

  pub fine : IsFineWalk lines walked
  fine = record { walks = accepted.walks; fine = good.fine }

  pub are_apart : Apart clash (placed_of walked.posted)
  are_apart = lines_stand_apart lines walked accepted.walks

  pub are_in_plan : (line : Placed) → IsAmong (placed_of walked.posted) line → IsLineIn walked.next.plan line
  are_in_plan line among = lines_are_in_plan lines walked line accepted.walks among

  pub whole_is : is_whole walked.next ≡ true
  whole_is = sym (ap (λ (o : Option Walked). option_map_or (λ (w : Walked). is_whole w.next) o false) accepted.walks) ∙ good.whole

  pub totals_are : totals ≡ totals_in walked.posted
  totals_are = good.totals_are ∙ ap (λ (o : Option Walked). option_map_or (λ (w : Walked). totals_in w.posted) o []) accepted.walks

  pub sizes : HasSizes walked.next.plan
  sizes = whole_sizes walked.next.plan walked.next.head (whole_head walked.next.head walked.next.due walked.next.part whole_is) (start-made lines walked accepted.walks)

  pub version_is : is_version walked.next.plan.version ≡ true
  version_is = whole_version walked.next.plan walked.next.head (whole_head walked.next.head walked.next.due walked.next.part whole_is) (start-made lines walked accepted.walks)

  -- the bound, for a total among the lines
  bound : (printing : Printing) (completion : Completion) → AreCodesDifferent walked.next.plan printing → StandsWith walked.next.plan (placed_of walked.posted) printing
      → OpensNoneTwice (placed_of walked.posted) completion → (total : Total) (instance : ℕ) → Contains totals total
      → DifferByAtMost (altered_rows walked.next.plan (placed_of walked.posted) completion printing total.race instance) total.count
      (posted_count walked.next.plan (placed_of walked.posted) printing total.race total.candidate)
  bound printing completion differ stands none_twice total instance has =
      let all = placed_of walked.posted in
      let plan = walked.next.plan in
      let among = total_among walked.posted total (subst (λ (l : List Total). Contains l total) totals_are has) in
      let within = (are_in_plan (TotalAt total.race total.candidate total.count) among).placed in
      total_bound plan all are_apart (pointers_stand_once lines walked fine) (do_flags_agree lines walked fine) completion none_twice printing differ stands total.race instance total.candidate
      within.0 within.1 total.count (totals_count lines walked fine) are_in_plan among

  -- THE FULL DRAW

  module _ (full : is_full_draw (placed_of walked.posted) ≡ true) where
    both_posted : (race instance row : ℕ) (opening : RowOpening) → IsAmong (placed_of walked.posted) (RowAt race instance row opening) → is_both opening ≡ true
    both_posted race instance row opening (front, rest, is) =
        let before : is_full_draw (placed_of walked.posted) ≡ is_full_draw front
        = ap is_full_draw is ∙ none_behind_row draws_full front rest race instance row opening (subst (λ (l : List Placed). Apart clash l) is are_apart) only in
        (sides_are_drawn lines walked fine).full front rest race instance row opening is (sym before ∙ full)
      where
        only : (line : Placed) → is_before_rows line ≡ false → draws_full line ≡ false
        only DrawnFull e = cc
        only line e = refl

    -- what the record posts, as a completion
    abbrev as_posted : Completion
    as_posted on race instance row = posted_half (placed_of walked.posted) on race instance row

    half_there : (on : Side) (race instance row : ℕ) (opening : RowOpening) → IsAmong (placed_of walked.posted) (RowAt race instance row opening) → is_both opening ≡ true
        → is_none (posted_half (placed_of walked.posted) on race instance row) ≡ false
    half_there on race instance row opening (front, rest, is) both =
        subst (λ (l : List Placed). is_none (posted_half l on race instance row) ≡ false) (sym is) (given_there (posts_half on race instance row) front rest (RowAt race instance row opening) (gives on opening both))
      where
        gives : (side_of : Side) (o : RowOpening) → is_both o ≡ true → is_none (posts_half side_of race instance row (RowAt race instance row o)) ≡ false
        gives side_of o b = rw (eq-eqb race race refl, eq-eqb instance instance refl, eq-eqb row row refl) (opens side_of o b)
          where
            opens : (sd : Side) (x : RowOpening) → is_both x ≡ true → is_none (opened_on sd x) ≡ false
            opens side.Left (opened.Both l r) e = refl
            opens side.Right (opened.Both l r) e = refl
            opens sd (opened.Left l) e = cc
            opens sd (opened.Right r) e = cc

    none_altered : (printing : Printing) (race instance row : ℕ) → race < length walked.next.plan.races → instance < walked.next.plan.instances → row < entries_of walked.next.plan race
        → is_altered walked.next.plan (placed_of walked.posted) as_posted printing race instance row ≡ false
    none_altered printing race instance row a b c =
        let stands = (whole_has_each lines walked accepted.walks whole_is).row race instance row a b c in
        let both = both_posted race instance row stands.opening stands.among in
        rw (half_there side.Left race instance row stands.opening stands.among both, half_there side.Right race instance row stands.opening stands.among both) refl

    equal : AreTotalsEqual walked.next.plan (placed_of walked.posted) totals
    equal printing differ stands total has =
        let all = placed_of walked.posted in
        let plan = walked.next.plan in
        let within = race_within total has in
        let none = count-none (is_altered plan all as_posted printing total.race 0) (entries_of plan total.race) (λ row less. none_altered printing total.race 0 row within (omega (arith, sizes.one_instance)) less) in
        let close = bound printing as_posted differ stands (λ on race instance row posted e. e) total 0 has in
        omega (arith, close.more, close.less, none)
      where
        race_within : (t : Total) → Contains totals t → t.race < length walked.next.plan.races
        race_within t there =
            let among = total_among walked.posted t (subst (λ (l : List Total). Contains l t) totals_are there) in
            (are_in_plan (TotalAt t.race t.candidate t.count) among).placed.0

pub totals_bound : TotalsBound
totals_bound lines totals walked accepted printing completion differ stands none_twice total instance has within =
    bound lines totals walked accepted printing completion differ stands none_twice total instance has

pub totals_stand : TotalsStand
totals_stand lines totals walked accepted race candidate race_in candidate_in =
    let found = (whole_has_each lines walked accepted.walks (whole_is lines totals walked accepted)).total race candidate race_in candidate_in in (
      found.count,
      subst (λ (l : List Total). Contains l (record { race = race; candidate = candidate; count = found.count })) (sym (totals_are lines totals walked accepted))
          (among_total walked.posted race candidate found.count found.among.0 found.among.1 found.among.2),
    )

pub full_draw_equals : FullDrawEquals
full_draw_equals lines totals walked accepted full = equal lines totals walked accepted full
