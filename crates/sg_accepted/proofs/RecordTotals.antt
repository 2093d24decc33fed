-- The totals of a posted record are those of its story.
use Rattle.std.proofs.Common.{◌≡◌, ◌≢◌, ℕ, zero, suc, ◌+◌, ◌-◌, ◌<◌, ◌≤◌, List, [], ◌∷◌, ◌++◌, length, map, slice_index_or, Option, refl, subst, ap, ◌∙◌, append-nil, arith}
use Rattle.std.proofs.lemmas.List.Concat.{flat_map-append}
use Rattle.std.specs.List.{flat_map}
use Rattle.std.specs.Option.{option_map_or}
use Rattle.sg_lists.proofs.Each.{EachOf, of-into}
use Rattle.sg_plan.specs.Ballots.{candidates_of}
use Rattle.sg_plan.specs.declared.plan.Draw.{Draw}
use Rattle.sg_plan.specs.declared.plan.Plan.{Plan}
use Rattle.sg_outside.specs.TextLines.{lines_of}
use Rattle.sg_streams.specs.Numbers.{numbers_below}
use Rattle.sg_tables.proofs.Lists.{get_or-map_below}
use Rattle.sg_forms.specs.Said.{Said}
use Rattle.sg_grammar.specs.Due.{each, numbered}
use Rattle.sg_grammar.specs.Placed.{Placed}
use Rattle.sg_grammar.specs.Placed.Placed.{TotalAt}
use Rattle.sg_grammar.specs.Walk.{Walked}
use Rattle.sg_record.specs.Lines.{lines_in}
use Rattle.sg_record.specs.Places.{places_in, posts}
use Rattle.sg_record.specs.Tree.{as_place, commit_tree, flag_tree, indexed, place_tree, race_results_tree, result_tree, seal_tree, total_leaf}
use Rattle.sg_record.specs.declared.record.Record.{Record}
use Rattle.sg_check.proofs.Verdicts.{one_verdict}
use Rattle.sg_check.specs.Verdict.{IsVerdict, total_on, totals_in, totals_of}
use Rattle.sg_check.specs.declared.judged.Judged.TheVariants as judged
use Rattle.sg_check.specs.declared.judged.Total.{Total}
use Rattle.sg_post.proofs.Numbered.{each-same, indexed-numbers}
use Rattle.sg_post.specs.Marks.{total_of}
use Rattle.sg_post.specs.Posted.{posted_record, posted_text}
use Rattle.sg_post.specs.declared.story.Claimed.{Claimed}
use Rattle.sg_post.specs.declared.story.Told.{Told}
use Rattle.sg_facts.proofs.Rising.{IsPart, all-behind, behind_ballots, behind_commits, behind_results, blocks, blocks_are, commits_are, head, head_is, part_of, results-rise}
use Rattle.sg_facts.proofs.Sections.{race_flags-of, race_sets-of, seals-of}
use Rattle.sg_accepted.proofs.Law.{unaltered_is_accepted}
use Rattle.sg_accepted.proofs.StoryWalks.{Walks, story-walks}
use Rattle.sg_accepted.specs.Totals.{UnalteredHasTotals, UnalteredIsNeverNo, one_total, told_totals}

-- over the lines in their places
totals-posts : (version : ℕ) (lines : List Said) (places : List Placed) → length lines ≡ length places → totals_in (posts version lines places) ≡ flat_map total_on places
totals-posts version [] [] same = refl
totals-posts version [] (p ∷ ps) same = absurd (omega (arith, same))
totals-posts version (s ∷ ls) [] same = absurd (omega (arith, same))
totals-posts version (s ∷ ls) (p ∷ ps) same = ap (λ (l : List Total). total_on p ++ l) (totals-posts version ls ps (omega (arith, same)))

-- a line without a total
abbrev HasNone : Placed → Type 0
HasNone line = total_on line ≡ []

none-of : (lines : List Placed) → EachOf HasNone lines → flat_map total_on lines ≡ []
none-of [] all = refl
none-of (line ∷ lines) all = ap (λ (l : List Total). l ++ flat_map total_on lines) all.0 ∙ none-of lines all.1

-- before and behind lines without one
behind-none : (xs ys : List Placed) → EachOf HasNone xs → flat_map total_on (xs ++ ys) ≡ flat_map total_on ys
behind-none xs ys all = flat_map-append total_on xs ys ∙ ap (λ (l : List Total). l ++ flat_map total_on ys) (none-of xs all)

before-none : (xs ys : List Placed) → EachOf HasNone ys → flat_map total_on (xs ++ ys) ≡ flat_map total_on xs
before-none xs ys all = flat_map-append total_on xs ys ∙ (ap (λ (l : List Total). flat_map total_on xs ++ l) (none-of ys all) ∙ append-nil (flat_map total_on xs))

flat-numbered : (f : ℕ → List Placed) (at count : ℕ) → flat_map total_on (numbered f at count) ≡ numbered (λ k. flat_map total_on (f k)) at count
unfolding numbered
flat-numbered f at zero = refl
flat-numbered f at (suc count) =
    flat_map-append total_on (f at) (numbered f (at + 1) count) ∙ ap (λ (l : List Total). flat_map total_on (f at) ++ l) (flat-numbered f (at + 1) count)

-- lines of other parts have none
other-none : (line : Placed) → part_of line ≢ 4 → HasNone line
other-none (TotalAt race candidate count) other = absurd (other refl)
other-none line other = refl

part-none : (part : ℕ) (lines : List Placed) → part ≢ 4 → EachOf (IsPart part) lines → EachOf HasNone lines
part-none part lines other all = of-into (IsPart part) HasNone lines (λ line is. other-none line (λ e. other (let same : part ≡ 4 = omega (arith, is, e) in same))) all

module _ (plan : Plan) (seed : List ℕ) (fates : List Told) (draw : Draw) (claims : List Claimed) where
  abbrev posted : Record
  posted = posted_record plan seed fates draw claims

  race-totals : (race : ℕ) → race < length plan.races → flat_map total_on (race_results_tree as_place posted race) ≡ each (one_total plan seed fates race) 0 (candidates_of plan race)
  race-totals race within =
      let flags = slice_index_or posted.flags race [] in
      let sets = slice_index_or posted.places race [] in
      let totals : slice_index_or posted.totals race [] ≡ map (total_of plan seed fates race) (numbers_below (candidates_of plan race))
      = get_or-map_below (λ r. map (total_of plan seed fates r) (numbers_below (candidates_of plan r))) (length plan.races) race [] within in
      behind-none (indexed (flag_tree as_place race) 0 flags) (place_tree as_place race sets ++ indexed (total_leaf as_place race) 0 (slice_index_or posted.totals race [])) (race_flags-of HasNone race flags (λ i f b. refl))
      ∙ (behind-none (place_tree as_place race sets) (indexed (total_leaf as_place race) 0 (slice_index_or posted.totals race [])) (race_sets-of HasNone race sets (λ f b. refl))
      ∙ (ap (λ (l : List ℕ). flat_map total_on (indexed (total_leaf as_place race) 0 l)) totals
      ∙ (ap (flat_map total_on) (indexed-numbers (total_leaf as_place race) (total_of plan seed fates race) (candidates_of plan race))
      ∙ flat-numbered (λ candidate. total_leaf as_place race candidate (total_of plan seed fates race candidate)) 0 (candidates_of plan race - 0))))

  results-totals : flat_map total_on (each (race_results_tree as_place posted) 0 (length plan.races)) ≡ told_totals plan seed fates
  unfolding told_totals
  results-totals =
      flat-numbered (race_results_tree as_place posted) 0 (length plan.races - 0)
      ∙ each-same (λ race. flat_map total_on (race_results_tree as_place posted race)) (λ race. each (one_total plan seed fates race) 0 (candidates_of plan race)) (length plan.races) race-totals

  places-totals : flat_map total_on (places_in posted) ≡ told_totals plan seed fates
  unfolding places_in
  places-totals =
      behind-none (head posted) (commit_tree as_place posted ++ behind_commits posted) (part-none 0 (head posted) (λ e. omega (arith, e)) (head_is posted))
      ∙ (behind-none (commit_tree as_place posted) (behind_commits posted) (part-none 2 (commit_tree as_place posted) (λ e. omega (arith, e)) (commits_are posted))
      ∙ (behind-none (blocks posted) (behind_ballots posted) (part-none 3 (blocks posted) (λ e. omega (arith, e)) (blocks_are posted))
      ∙ (before-none (result_tree as_place posted) (behind_results posted)
      (of-into (λ (line : Placed). 5 ≤ part_of line) HasNone (behind_results posted) (λ line less. other-none line (λ e. omega (arith, e, less))) (all-behind 5 (behind_results posted) (results-rise posted)))
      ∙ (before-none (each (race_results_tree as_place posted) 0 (length plan.races)) (seal_tree as_place 2 posted.seals) (seals-of HasNone 2 posted.seals (λ d. refl)) ∙ results-totals))))

pub unaltered_has_totals : UnalteredHasTotals
unaltered_has_totals plan seed story fine unaltered =
    let walks : Walks plan seed story = story-walks plan seed story fine unaltered in
    let posted : Record = posted_record plan seed story.fates walks.draw story.claims in
    let same : totals_of (lines_of (posted_text plan seed story)) ≡ told_totals plan seed story.fates
    = ap (λ (o : Option Walked). option_map_or (λ (w : Walked). totals_in w.posted) o []) walks.walks
    ∙ (totals-posts plan.version (lines_in posted) (places_in posted) walks.many ∙ places-totals plan seed story.fates walks.draw story.claims) in
    subst (λ (t : List Total). IsVerdict (lines_of (posted_text plan seed story)) (judged.Yes t)) same (unaltered_is_accepted plan seed story fine unaltered)

pub unaltered_is_never_no : UnalteredIsNeverNo
unaltered_is_never_no plan seed story found fine unaltered verdict =
    one_verdict (lines_of (posted_text plan seed story)) found (judged.Yes (told_totals plan seed story.fates)) verdict (unaltered_has_totals plan seed story fine unaltered)
