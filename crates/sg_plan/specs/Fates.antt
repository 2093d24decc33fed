-- Which fates fit a ballot of a plan (this project's rules for the office).
use Rattle.std.specs.Prelude.{ℕ, ◌==◌, nat_lt, Bool, true, false, ◌&&◌, not, List, [], ◌∷◌, length}
use Rattle.std.specs.List.{list_all, list_any}
use Rattle.sg_plan.specs.Ballots.{ballots_of, candidates_of, races_of_ballot}
use Rattle.sg_plan.specs.Codes.{is_code}
use Rattle.sg_plan.specs.Names.{is_within}
use Rattle.sg_plan.specs.declared.plan.Fate.{Fate}
use Rattle.sg_plan.specs.declared.plan.Fate.TheVariants as fate
use Rattle.sg_plan.specs.declared.plan.Mark.{Mark}
use Rattle.sg_plan.specs.declared.plan.Plan.{Plan}

-- one of the numbers is this one
abbrev pub is_in : List ℕ → ℕ → Bool
is_in numbers number = list_any (λ other. other == number) numbers

-- the mark is beside a candidate of one of the races
abbrev pub mark_fits : Plan → List ℕ → Mark → Bool
mark_fits plan races mark = is_in races mark.race && nat_lt mark.candidate (candidates_of plan mark.race)

-- one of the marks is beside this candidate of the race
abbrev pub has_mark : List Mark → ℕ → ℕ → Bool
has_mark marks race candidate = list_any (λ mark. mark.race == race && mark.candidate == candidate) marks

-- no mark stands twice
abbrev pub marks_differ : List Mark → Bool
marks_differ [] = true
marks_differ (mark ∷ marks) = not (has_mark marks mark.race mark.candidate) && marks_differ marks

-- a code of the version for each candidate of the race
abbrev pub are_codes : Plan → ℕ → List ℕ → Bool
are_codes plan race codes = length codes == candidates_of plan race && list_all (is_code plan) codes

-- a list for each of the races, which passes the test beside its race
abbrev pub each_fits : (ℕ → List ℕ → Bool) → List ℕ → List (List ℕ) → Bool
each_fits test [] [] = true
each_fits test (race ∷ races) (list ∷ lists) = test race list && each_fits test races lists
each_fits test races lists = false

-- a paper for each of the races
abbrev pub paper_fits : Plan → List ℕ → List (List ℕ) → Bool
paper_fits plan races paper = each_fits (are_codes plan) races paper

-- the marks and the paper of a fate fit a ballot of these races
abbrev pub detail_fits : Plan → List ℕ → Fate → Bool
detail_fits plan races (fate.Cast marks) = list_all (mark_fits plan races) marks && marks_differ marks
detail_fits plan races (fate.Audited paper) = paper_fits plan races paper
detail_fits plan races other = true

-- the fate fits the ballot, which is in the plan
abbrev pub fate_fits : Plan → ℕ → Fate → Bool
fate_fits plan ballot what = is_within 1 (ballots_of plan) ballot && detail_fits plan (races_of_ballot plan ballot) what
