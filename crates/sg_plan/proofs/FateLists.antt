-- The races of a ballot, and where a paper and they end together.
use Rattle.std.proofs.Common.{◌≡◌, ℕ, ◌<◌, ◌≤◌, ◌==◌, false, List, [], ◌∷◌, length, drop, Option, None, Some, refl, sym, ◌∙◌, arith}
use Rattle.std.proofs.lemmas.Bool.{ne_eqb}
use Rattle.std.proofs.lemmas.List.{drop_all, length-drop}
use Rattle.std.specs.List.{list_any}
use Rattle.std.specs.Option.{option_map_or}
use Rattle.sg_lists.proofs.Lists.{drop_is_empty}
use Rattle.sg_plan.specs.Ballots.{ballot_has, races_of_ballot, races_of_style, style_of_ballot}
use Rattle.sg_plan.specs.Fates.{is_in, paper_fits}
use Rattle.sg_plan.specs.declared.plan.Plan.{Plan}

-- a style has the races that are its own
has_in : (plan : Plan) (race : ℕ) (style : Option ℕ)
    → option_map_or (λ s. list_any (λ r. r == race) (races_of_style plan s)) style false ≡ is_in (option_map_or (races_of_style plan) style []) race
has_in plan race None = refl
has_in plan race (Some style) = refl

-- a ballot has a race that is one of its races
pub has_among : (plan : Plan) (ballot race : ℕ) → ballot_has plan ballot race ≡ is_in (races_of_ballot plan ballot) race
has_among plan ballot race = has_in plan race (style_of_ballot plan ballot)

-- a list too many
no_race : (plan : Plan) (paper : List (List ℕ)) → 1 ≤ length paper → paper_fits plan [] paper ≡ false
no_race plan [] some = absurd (omega arith)
no_race plan (codes ∷ paper) some = refl

pub paper_over : (plan : Plan) (races : List ℕ) (paper : List (List ℕ)) (at : ℕ) → length races ≤ at → at < length paper → paper_fits plan (drop at races) (drop at paper) ≡ false
paper_over plan races paper at over more =
    rw (drop_all at races over) (no_race plan (drop at paper) (omega (arith, length-drop at paper)))

no_codes : (plan : Plan) (races : List ℕ) → paper_fits plan races [] ≡ (length races == 0)
no_codes plan [] = refl
no_codes plan (race ∷ races) = sym (ne_eqb (length (race ∷ races)) 0 (λ e. omega arith))

-- the paper is at its end: the races are too
pub paper_done : (plan : Plan) (races : List ℕ) (paper : List (List ℕ)) (at : ℕ) → length paper ≤ at → at ≤ length races → paper_fits plan (drop at races) (drop at paper) ≡ (at == length races)
paper_done plan races paper at end within =
    rw (drop_all at paper end) (no_codes plan (drop at races) ∙ drop_is_empty at races within)
