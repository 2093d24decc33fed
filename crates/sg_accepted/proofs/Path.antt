-- Kind path: rows lead each entry to its own place, and entries of a ballot row to different candidates.
use Rattle.std.proofs.Common.{◌≡◌, ◌≢◌, ℕ, ◌/◌, ◌%◌, ◌<◌, ◌==◌, nat_lt, if◌then◌else◌, Bool, false, ◌&&◌, ◌||◌, not, inl, inr, List, [], ◌∷◌, refl, sym, subst, ap, ◌∙◌}
use Rattle.std.proofs.lemmas.Bool.{and_left, and_right, cases_eq, eq-eqb, ne_eqb}
use Rattle.std.specs.List.{list_any}
use Rattle.sg_lists.proofs.Each.{EachOf, of-into, of-parts}
use Rattle.sg_plan.specs.Ballots.{candidates_of, entries_of}
use Rattle.sg_plan.specs.declared.plan.Draw.{Draw}
use Rattle.sg_plan.specs.declared.plan.Plan.{Plan}
use Rattle.sg_commit.specs.declared.Opening.{Opening}
use Rattle.sg_tables.proofs.TableLaws.{entry_laws, opening_laws, pointer_laws}
use Rattle.sg_tables.specs.Tables.{left_of as row_left, left_opening_of, path_of, right_opening_of}
use Rattle.sg_forms.specs.declared.line.RowOpening.TheVariants as row
use Rattle.sg_grammar.specs.Placed.{Placed}
use Rattle.sg_grammar.specs.Placed.Placed.{RowAt}
use Rattle.sg_check.specs.Kinds.{bad_placed, clashes_with}
use Rattle.sg_check.specs.declared.judged.Kind.TheVariants as kind
use Rattle.sg_accepted.proofs.Late.{Good}
use Rattle.sg_record.specs.Places.{places_in}
use Rattle.sg_post.specs.Posted.{posted_record}
use Rattle.sg_post.specs.declared.story.Claimed.{Claimed}
use Rattle.sg_post.specs.declared.story.Told.{Told}
use Rattle.sg_facts.proofs.Rising.{record-good}
use Rattle.sg_accepted.proofs.Opening.{OpensRow, opened-opens}
use Rattle.sg_accepted.proofs.Posted.{SaysRight}

-- a row opens what its tables say
abbrev RowsRight : Plan → List ℕ → Placed → Type 0
RowsRight plan seed (RowAt race instance number opening) = (number < entries_of plan race) × OpensRow plan seed race instance number opening
RowsRight plan seed line = Unit {0}

-- the pointers of a row that is opened on both sides are an entry and its place
record Leads (plan : Plan) (seed : List ℕ) (race : ℕ) (left right : Opening) : Type 0 where
  below : left.value < entries_of plan race
  path : right.value ≡ path_of plan seed race left.value

leads : (plan : Plan) (seed : List ℕ) (race instance number : ℕ) (left right : Opening) → number < entries_of plan race
    → left ≡ left_opening_of plan seed race instance number → right ≡ right_opening_of plan seed race instance number → Leads plan seed race left right
leads plan seed race instance number left right within is also =
    let value : left.value ≡ row_left plan seed race instance number = ap (λ (o : Opening). o.value) is ∙ opening_laws.left plan seed race instance number in
    record {
      below = subst (λ (v : ℕ). v < entries_of plan race) (sym value) ((pointer_laws.lefts plan seed race instance).below number within);
      path = ap (λ (o : Opening). o.value) also
          ∙ (opening_laws.right plan seed race instance number ∙ (pointer_laws.composed plan seed race instance number ∙ ap (path_of plan seed race) (sym value)));
    }

-- such a row leads no other way than another such row
elsewhere-not : (plan : Plan) (seed : List ℕ) (race entry place : ℕ) (left right : Opening) → entry < entries_of plan race → place ≡ path_of plan seed race entry → Leads plan seed race left right
    → ((nat_lt left.value (entries_of plan race) && nat_lt right.value (entries_of plan race))
    && (if left.value == entry then not (right.value == place) else (left.value / candidates_of plan race == entry / candidates_of plan race && right.value % candidates_of plan race == place % candidates_of plan race))) ≡ false
elsewhere-not plan seed race entry place left right within path other =
    and_right (nat_lt left.value (entries_of plan race) && nat_lt right.value (entries_of plan race)) _
    (elim (cases_eq left.value entry) [
      | inl same ↦
          rw (eq-eqb left.value entry same, eq-eqb right.value place (other.path ∙ (ap (path_of plan seed race) same ∙ sym path))) refl
      | inr differ ↦ rw (ne_eqb left.value entry differ) (at_row differ)
    ])
  where
    at_row : left.value ≢ entry
        → (left.value / candidates_of plan race == entry / candidates_of plan race && right.value % candidates_of plan race == place % candidates_of plan race) ≡ false
    at_row differ =
        elim (cases_eq (left.value / candidates_of plan race) (entry / candidates_of plan race)) [
          | inl row ↦
              let apart = (entry_laws.apart plan seed race left.value entry other.below within row differ).1 in
              and_right (left.value / candidates_of plan race == entry / candidates_of plan race) _
              (ne_eqb (right.value % candidates_of plan race) (place % candidates_of plan race)
              (λ e. apart (ap (λ (v : ℕ). v % candidates_of plan race) (sym other.path) ∙ (e ∙ ap (λ (v : ℕ). v % candidates_of plan race) path))))
          | inr rows ↦ and_left (left.value / candidates_of plan race == entry / candidates_of plan race) _ (ne_eqb (left.value / candidates_of plan race) (entry / candidates_of plan race) rows)
        ]

-- so no line that is right clashes with it
clash-not : (plan : Plan) (seed : List ℕ) (race entry place : ℕ) (line : Placed) → entry < entries_of plan race → place ≡ path_of plan seed race entry → RowsRight plan seed line
    → clashes_with plan race entry place line ≡ false
clash-not plan seed race entry place (RowAt of instance number (row.Both left right)) within path is =
    elim (cases_eq of race) [
      | inl same ↦
          let here : Leads plan seed race left right = subst (λ (r : ℕ). Leads plan seed r left right) same (leads plan seed of instance number left right is.0 is.1.0 is.1.1) in
          and_right (of == race) _ (elsewhere-not plan seed race entry place left right within path here)
      | inr differ ↦ and_left (of == race) _ (ne_eqb of race differ)
    ]
clash-not plan seed race entry place line within path is = refl

clashes-none : (plan : Plan) (seed : List ℕ) (race entry place : ℕ) (before : List Placed) → entry < entries_of plan race → place ≡ path_of plan seed race entry → EachOf (RowsRight plan seed) before
    → list_any (clashes_with plan race entry place) before ≡ false
clashes-none plan seed race entry place [] within path all = refl
clashes-none plan seed race entry place (line ∷ before) within path all =
    ap (λ (b : Bool). b || list_any (clashes_with plan race entry place) before) (clash-not plan seed race entry place line within path all.0)
    ∙ clashes-none plan seed race entry place before within path all.1

-- a row that is right is not bad in kind path, behind rows that are right
path-good : (plan : Plan) (seed : List ℕ) (before : List Placed) (line : Placed) → EachOf (RowsRight plan seed) before → RowsRight plan seed line → bad_placed kind.Path plan before line ≡ false
path-good plan seed before (RowAt race instance number (row.Both left right)) all is =
    let here = leads plan seed race instance number left right is.0 is.1.0 is.1.1 in
    and_right (nat_lt left.value (entries_of plan race) && nat_lt right.value (entries_of plan race)) _
    (clashes-none plan seed race left.value right.value before here.below here.path all)
path-good plan seed before (RowAt race instance number (row.Left left)) all is = refl
path-good plan seed before (RowAt race instance number (row.Right right)) all is = refl
path-good plan seed before line all is = refl

says-rows : (plan : Plan) (seed : List ℕ) (fates : List Told) (draw : Draw) (line : Placed) → SaysRight plan seed fates draw line → RowsRight plan seed line
says-rows plan seed fates draw (RowAt race instance number opening) right = (right.0.2, rw right.1 (opened-opens plan seed fates draw race instance number))
says-rows plan seed fates draw line right = tt

pub paths-whole : (plan : Plan) (seed : List ℕ) (fates : List Told) (draw : Draw) (claims : List Claimed) → EachOf (SaysRight plan seed fates draw) (places_in (posted_record plan seed fates draw claims))
    → Good (bad_placed kind.Path plan) [] (places_in (posted_record plan seed fates draw claims))
paths-whole plan seed fates draw claims right =
    let posted = posted_record plan seed fates draw claims in
    let P : Placed → Type 0 = RowsRight plan seed in
    let all : EachOf P (places_in posted) = of-into (SaysRight plan seed fates draw) P (places_in posted) (says-rows plan seed fates draw) right in
    record-good (bad_placed kind.Path plan) P posted (λ before line front is. path-good plan seed before line (of-parts P before (line ∷ front.rest) (subst (λ (l : List Placed). EachOf P l) front.is all)).0 is) all
