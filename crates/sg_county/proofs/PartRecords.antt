-- The record of a part says what the walk over its lines says.
use Rattle.std.proofs.Common.{◌≡◌, ℕ, ◌+◌, true, false, List, [], ◌∷◌, ◌++◌, map, Option, Some, None, refl, sym, ap, ◌∙◌}
use Rattle.std.specs.List.{concat}
use Rattle.std.specs.Option.{option_map, option_map_or}
use Rattle.std.specs.Prelude.{slice_get}
use Rattle.sg_commit.specs.declared.Digest.{Digest}
use Rattle.sg_forms.specs.Said.{Said}
use Rattle.sg_grammar.specs.Head.{is_behind}
use Rattle.sg_grammar.specs.Lines.{placed_of}
use Rattle.sg_grammar.specs.Placed.{Placed}
use Rattle.sg_grammar.specs.Placed.Placed.{OfPlan}
use Rattle.sg_grammar.specs.Walk.{Walked}
use Rattle.sg_record.proofs.FormedLaw.{has_form}
use Rattle.sg_record.proofs.FormedParts.{HasForm}
use Rattle.sg_record.proofs.PlacesLaw.{places-many, posts-places}
use Rattle.sg_record.proofs.TextLaw.{texts_differ}
use Rattle.sg_record.specs.Laws.{AreLinesOf}
use Rattle.sg_record.specs.Lines.{lines_in, plan_lines, text_of}
use Rattle.sg_record.specs.Places.{places_in}
use Rattle.sg_record.specs.Tree.{as_place, code_commit_leaf, commit_tree, indexed, instance_row_commit_tree, race_code_commit_tree, race_row_commit_tree, row_commit_leaf, seal_tree}
use Rattle.sg_record.specs.declared.record.Record.{Record}
use Rattle.sg_check.proofs.Fronts.{given-behind, given-stays}
use Rattle.sg_check.specs.Facts.{first_given}
use Rattle.sg_check.specs.Verdict.{IsVerdict}
use Rattle.sg_check.specs.declared.judged.Judged.TheVariants as judged
use Rattle.sg_check.specs.declared.judged.Total.{Total}
use Rattle.sg_fronts.proofs.ByRecords.{verdicts_say, whole-walk}
use Rattle.sg_fronts.specs.ByRecords.{IsWholeAndAgrees, totals_on}
use Rattle.sg_judge.specs.FirstSeal.{first_seal, first_seal_in, first_seal_on}
use Rattle.sg_judge.specs.Pass.{is_behind_plan}
use Rattle.sg_county.specs.County.{first_seal_of}
use Rattle.sg_county.specs.inside.Keeping.{races_of}

-- a good part is a record
pub good_record : (part : List (List ℕ)) (totals : List Total) → IsVerdict part (judged.Yes totals) → (posted : Record) × IsWholeAndAgrees part posted × (totals ≡ totals_on posted)
good_record part totals good = (verdicts_say part (judged.Yes totals)).0 good

-- and no other one
pub one_record : (part : List (List ℕ)) (a b : Record) → AreLinesOf part a → AreLinesOf part b → a ≡ b
unfolding text_of
one_record part a b one other = texts_differ a b one.words other.words one.formed other.formed (ap concat (sym one.text ∙ other.text))

pub record_behind : (part : List (List ℕ)) (posted : Record) → AreLinesOf part posted → is_behind_plan part ≡ true
record_behind part posted are = ap (λ (o : Option Walked). option_map_or (λ (w : Walked). is_behind w.next.head) o false) (whole-walk posted part are)

pub record_races : (part : List (List ℕ)) (posted : Record) → AreLinesOf part posted → races_of part ≡ posted.plan.races
record_races part posted are = ap (λ (o : Option Walked). option_map_or (λ plan. plan.races) (option_map (λ (w : Walked). w.next.plan) o) []) (whole-walk posted part are)

-- THE SEAL

none_of_plan : (lines : List Said) → first_given first_seal_on (map OfPlan lines) ≡ None
none_of_plan [] = refl
none_of_plan (said ∷ lines) = none_of_plan lines

none_indexed : {A : Type 0} (f : ℕ → A → List Placed) → ((at : ℕ) (x : A) → first_given first_seal_on (f at x) ≡ None) → (at : ℕ) (xs : List A) → first_given first_seal_on (indexed f at xs) ≡ None
unfolding indexed
none_indexed f none at [] = refl
none_indexed f none at (x ∷ xs) = given-behind first_seal_on (f at x) (indexed f (at + 1) xs) (none at x) ∙ none_indexed f none (at + 1) xs

-- the seal stands behind the commitments
seal_there : (posted : Record) (form : HasForm posted) → first_seal_in (commit_tree as_place posted) ≡ Some form.first
seal_there posted form =
    given-behind first_seal_on (indexed (race_code_commit_tree as_place) 0 posted.code_commits) (indexed (race_row_commit_tree as_place) 0 posted.row_commits ++ seal_tree as_place 1 posted.seals)
    (none_indexed (race_code_commit_tree as_place) (λ race. none_indexed (code_commit_leaf as_place race) (λ entry digest. refl) 0) 0 posted.code_commits)
    ∙ (given-behind first_seal_on (indexed (race_row_commit_tree as_place) 0 posted.row_commits) (seal_tree as_place 1 posted.seals)
    (none_indexed (race_row_commit_tree as_place) (λ race. none_indexed (instance_row_commit_tree as_place race) (λ instance. none_indexed (row_commit_leaf as_place race instance) (λ row digests. refl) 0) 0) 0 posted.row_commits)
    ∙ ap (λ (seals : List Digest). first_seal_in (seal_tree as_place 1 seals)) form.is.seals)

seal_found : (posted : Record) → HasForm posted → first_seal_in (places_in posted) ≡ first_seal_of posted
unfolding places_in
seal_found posted form =
    given-behind first_seal_on (map OfPlan (plan_lines posted.plan)) _ (none_of_plan (plan_lines posted.plan))
    ∙ (given-stays first_seal_on (commit_tree as_place posted) _ form.first (seal_there posted form) ∙ sym (ap (λ (seals : List Digest). slice_get seals 0) form.is.seals))

pub record_seal : (part : List (List ℕ)) (posted : Record) → AreLinesOf part posted → first_seal part ≡ first_seal_of posted
record_seal part posted are =
    ap (λ (o : Option Walked). option_map_or (λ (w : Walked). first_seal_in (placed_of w.posted)) o None) (whole-walk posted part are)
    ∙ (ap first_seal_in (posts-places posted.plan.version (lines_in posted) (places_in posted) (places-many posted are.words are.formed))
    ∙ seal_found posted (has_form posted are.words are.formed))
