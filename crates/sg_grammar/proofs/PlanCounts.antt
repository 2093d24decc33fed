-- What is counted of a plan, as its lines come.
use Rattle.std.proofs.Common.{◌≡◌, ℕ, zero, suc, ◌+◌, ◌-◌, ◌*◌, ◌==◌, ◌≤◌, ◌&&◌, nat_le, nat_lt, true, false, cond, List, [], ◌∷◌, ◌++◌, length, replicate, slice_index, Option, Some, None, refl, sym, subst, ap, ◌∙◌, arith}
use Rattle.std.specs.Prelude.{Err, IfOk, IsSome, Ok, OnErr, Result}
use Rattle.std.proofs.lemmas.Bool.{and_parts}
use Rattle.std.proofs.lemmas.Option.{cond_some}
use Rattle.std.proofs.lemmas.List.{length-append}
use Rattle.sg_lists.proofs.Options.{cond_some-then}
use Rattle.sg_plan.proofs.BallotLists.{count-push}
use Rattle.sg_plan.proofs.IndexLists.{few_runs_of, numbers-push}
use Rattle.sg_plan.specs.Ballots.{ballot_styles, candidates_of, entries_of, r_rows, style_has}
use Rattle.sg_plan.specs.Limits.{is_version, most_instances, most_races, most_styles, race_head_keeps, run_keeps, style_keeps}
use Rattle.sg_plan.specs.Names.{is_name_word, is_within, name_keeps}
use Rattle.sg_plan.specs.Runs.{run_numbers}
use Rattle.sg_plan.specs.declared.plan.Plan.{Plan}
use Rattle.sg_plan.specs.declared.plan.Run.{Run}
use Rattle.sg_forms.specs.Said.{Said}
use Rattle.sg_forms.specs.Said.Said.{Ballots, Cand, Election, Instances, Race, Style, Version}
use Rattle.sg_grammar.proofs.Claims.{if_then-claim}
use Rattle.sg_grammar.specs.Head.{Making, behind_candidate, has_runs, head_line, last_candidates, made, take_run, take_style, with_cand, with_instances, with_name, with_race, with_run, with_style, with_version}
use Rattle.sg_grammar.specs.Made.{IsMade}
use Rattle.sg_grammar.specs.Slots.{IsCounted, RunFits, TellsEntries, is_run}
use Rattle.sg_grammar.specs.declared.state.Head.{Head}
use Rattle.sg_grammar.specs.declared.state.Head.TheVariants as head
use Rattle.sg_grammar.proofs.Making.{complete-sizes, early-runs, entries_of-run, made-line, no_runs-entries, runs-fault}

-- there is a value
pub some_value : {A : Type 0} (o : Option A) → IsSome o → (x : A) × (o ≡ Some x)
some_value None h = cc
some_value (Some x) h = (x, refl)

-- A RUN

-- what a run that stands is
pub record RunStands (plan : Plan) (style count : ℕ) (making : Making) : Type 0 where
  pub keeps : run_keeps (length plan.styles) plan.runs (record { style = style; count = count }) ≡ true
  pub is : making ≡ made (with_run plan style count) head.Runs

take_run-stands : (plan : Plan) (style count : ℕ) (making : Making) → take_run plan (Ballots style count) ≡ Some making → RunStands plan style count making
take_run-stands plan style count making e =
    let keeps = run_keeps (length plan.styles) plan.runs (record { style = style; count = count }) in
    let rows = nat_le (r_rows (with_run plan style count)) 200000 in
    let parts = cond_some (keeps && rows) (made (with_run plan style count) head.Runs) making e in
    record { keeps = (and_parts keeps rows parts.0).0; is = sym parts.1 }

pub run_stands : (plan : Plan) (stage : Head) (style count : ℕ) (making : Making) → head_line plan stage (Ballots style count) ≡ Some making → RunStands plan style count making
run_stands plan head.Version style count making e = cc
run_stands plan head.Election style count making e = cc
run_stands plan head.Instances style count making e = cc
run_stands plan head.Races style count making e = cc
run_stands plan (head.Candidates left) style count making e = cc
run_stands plan head.Styles style count making e = take_run-stands plan style count making e
run_stands plan head.Runs style count making e = take_run-stands plan style count making e
run_stands plan head.Whole style count making e = cc

-- a run of a style with the race adds its candidates so many times
pub more_with : (plan : Plan) (before style count race candidates : ℕ) → before ≡ entries_of plan race → candidates ≡ candidates_of plan race → style_has plan race style ≡ true
    → entries_of (with_run plan style count) race ≡ before + count * candidates
more_with plan before style count race candidates e k has =
    entries_of-run plan style count race ∙ ap (λ b. entries_of plan race + cond b (count * candidates_of plan race) 0) has ∙ sym (rw (e, k) refl)

-- and of another style nothing
pub more_without : (plan : Plan) (before style count race : ℕ) → before ≡ entries_of plan race → style_has plan race style ≡ false → entries_of (with_run plan style count) race ≡ before
more_without plan before style count race e has =
    entries_of-run plan style count race ∙ ap (λ b. entries_of plan race + cond b (count * candidates_of plan race) 0) has ∙ omega (arith, e)

-- one more run is at least one
runs_there : (runs : List Run) (run : Run) → runs ++ run ∷ [] ≡ [] → ⊥
runs_there [] run e = cc
runs_there (first ∷ runs) run e = cc

-- with one more run the counts are of the plan with it
pub run_counted : (plan : Plan) (before entries numbers : List ℕ) (style count : ℕ) → IsCounted plan before numbers → RunFits plan style count → TellsEntries (with_run plan style count) entries
    → IsCounted (with_run plan style count) entries (numbers ++ replicate count (length plan.runs))
run_counted plan before entries numbers style count counted fits tells =
    let run : Run = record { style = style; count = count } in
    let number : 0 + length plan.runs ≡ length plan.runs = omega arith in
    let pushed = numbers-push 0 plan.runs run ∙ ap (λ n. run_numbers 0 plan.runs ++ replicate count n) number in
    record {
      few_races = counted.few_races;
      few_ballots = omega (arith, count-push plan.runs run, fits.few_ballots);
      tells = tells;
      no_runs = λ none race. absurd (runs_there plan.runs run none);
      numbers_are = ap (λ l. l ++ replicate count (length plan.runs)) counted.numbers_are ∙ sym pushed;
    }

-- a run that stands gives so few ballots and entries that they can be counted
pub run_fits : (plan : Plan) (stage : Head) (said : Said) (style count : ℕ) → said ≡ Ballots style count → IsMade plan stage → IsSome (head_line plan stage said) → RunFits plan style count
run_fits plan stage said style count is kept some =
    let there = some_value (head_line plan stage (Ballots style count)) (subst (λ (s : Said). IsSome (head_line plan stage s)) is some) in
    let stands = run_stands plan stage style count there.0 there.1 in
    let next : IsMade (with_run plan style count) head.Runs = subst (λ (x : Making). IsMade x.plan x.head) stands.is (made-line plan stage (Ballots style count) there.0 kept there.1) in
    let sizes = complete-sizes (with_run plan style count) next.stands in
    let run : Run = record { style = style; count = count } in
    record {
      few_candidates = λ race. sizes.most_candidates race;
      few_ballots = omega (arith, sizes.most_ballots, count-push plan.runs run);
      few_runs = omega (arith, few_runs_of (with_run plan style count) (runs-fault (with_run plan style count) next), length-append plan.runs (run ∷ []));
      entries_fit = λ race. omega (arith, sizes.most_entries race);
    }

-- ANOTHER LINE OF THE PLAN

-- no run stands behind the line
abbrev IsEarly : Making → Type 0
IsEarly making = has_runs making.head ≡ false

early_version : (plan : Plan) (said : Said) (m : Making) → head_line plan head.Version said ≡ Some m → IsEarly m
early_version plan (Version version) m e = if_then-claim IsEarly (is_version version) (made (with_version plan version) head.Election) m (λ _. refl) e
early_version plan said m e = cc

early_election : (plan : Plan) (said : Said) (m : Making) → head_line plan head.Election said ≡ Some m → IsEarly m
early_election plan (Election name) m e = if_then-claim IsEarly (is_name_word name) (made (with_name plan name) head.Instances) m (λ _. refl) e
early_election plan said m e = cc

early_instances : (plan : Plan) (said : Said) (m : Making) → head_line plan head.Instances said ≡ Some m → IsEarly m
early_instances plan (Instances instances) m e = if_then-claim IsEarly (is_within 1 most_instances instances) (made (with_instances plan instances) head.Races) m (λ _. refl) e
early_instances plan said m e = cc

early_style : (plan : Plan) (name races : List ℕ) (m : Making) → take_style plan (Style name races) ≡ Some m → IsEarly m
early_style plan name races m e = if_then-claim IsEarly (nat_lt (length plan.styles) most_styles && style_keeps (length plan.races) plan.styles (record { name = name; races = races })) (made (with_style plan name races) head.Styles) m (λ _. refl) e

early_race : (plan : Plan) (said : Said) (m : Making) → head_line plan head.Races said ≡ Some m → IsEarly m
early_race plan (Race name candidates votes) m e = if_then-claim IsEarly (nat_lt (length plan.races) most_races && race_head_keeps plan.races name candidates votes) (made (with_race plan name votes) (head.Candidates candidates)) m (λ _. refl) e
early_race plan (Style name races) m e = early_style plan name races m (cond_some-then (nat_lt 0 (length plan.races)) (take_style plan (Style name races)) m e)
early_race plan said m e = cc

early_candidate : (left : ℕ) (plan : Plan) (said : Said) (m : Making) → head_line plan (head.Candidates left) said ≡ Some m → IsEarly m
early_candidate left plan (Cand name) m e =
    if_then-claim IsEarly (name_keeps (last_candidates plan.races) name) (made (with_cand plan name) (behind_candidate left)) m
    (λ _. elim (left == 1) as (λ b. has_runs (cond b head.Races (head.Candidates (left - 1))) ≡ false) [ true ↦ refl | false ↦ refl ]) e
early_candidate left plan said m e = cc

early_later_style : (plan : Plan) (said : Said) (m : Making) → is_run said ≡ false → head_line plan head.Styles said ≡ Some m → IsEarly m
early_later_style plan (Style name races) m other e = early_style plan name races m e
early_later_style plan (Ballots style count) m other e = cc
early_later_style plan said m other e = cc

no_run_line : (plan : Plan) (said : Said) (m : Making) → is_run said ≡ false → take_run plan said ≡ Some m → ⊥
no_run_line plan (Ballots style count) m other e = cc
no_run_line plan said m other e = cc

-- where a run stands, the line is one
pub early_lines : (plan : Plan) (stage : Head) (said : Said) (making : Making) → is_run said ≡ false → head_line plan stage said ≡ Some making → (has_runs stage ≡ false) × (has_runs making.head ≡ false)
early_lines plan head.Version said making other e = (refl, early_version plan said making e)
early_lines plan head.Election said making other e = (refl, early_election plan said making e)
early_lines plan head.Instances said making other e = (refl, early_instances plan said making e)
early_lines plan head.Races said making other e = (refl, early_race plan said making e)
early_lines plan (head.Candidates left) said making other e = (refl, early_candidate left plan said making e)
early_lines plan head.Styles said making other e = (refl, early_later_style plan said making other e)
early_lines plan head.Runs said making other e = absurd (no_run_line plan said making other e)
early_lines plan head.Whole said making other e = cc

-- a plan in the making has few races
made_races : (plan : Plan) (stage : Head) → IsMade plan stage → length plan.races ≤ 32
made_races plan head.Version kept = omega (arith, ap length kept.stands.races)
made_races plan head.Election kept = omega (arith, ap length kept.stands.1.races)
made_races plan head.Instances kept = omega (arith, ap length kept.stands.2.races)
made_races plan head.Races kept = omega (arith, kept.stands.1.most)
made_races plan (head.Candidates left) kept = omega (arith, kept.stands.1.most)
made_races plan head.Styles kept = omega (arith, kept.stands.1.most)
made_races plan head.Runs kept = omega (arith, kept.stands.races.most)
made_races plan head.Whole kept = omega (arith, kept.stands.races.most)

-- a plan without runs has no entries and no ballots
pub none_counted : (plan : Plan) (entries numbers : List ℕ) → length plan.races ≤ 32 → plan.runs ≡ [] → numbers ≡ [] → ((race : ℕ) → slice_index entries race ≡ 0) → IsCounted plan entries numbers
none_counted plan entries numbers few none no_numbers zeros =
    let empty : ballot_styles plan.runs ≡ [] = ap ballot_styles none in
    record {
      few_races = few;
      few_ballots = omega (arith, ap length empty);
      tells = λ race within. zeros race ∙ sym (no_runs-entries plan race none);
      no_runs = λ e race. zeros race;
      numbers_are = no_numbers ∙ sym (ap (run_numbers 0) none);
    }

-- the counts with another line: there are none yet
pub other_counted : (plan seen : Plan) (stage next : Head) (said : Said) (entries numbers : List ℕ) → is_run said ≡ false → IsMade plan stage → head_line plan stage said ≡ Some (made seen next) → IsCounted plan entries numbers → IsCounted seen entries numbers
other_counted plan seen stage next said entries numbers other kept e counted =
    let early = early_lines plan stage said (made seen next) other e in
    let none = early-runs plan stage kept early.0 in
    let after = made-line plan stage said (made seen next) kept e in
    none_counted seen entries numbers (made_races seen next after) (early-runs seen next after early.1) (counted.numbers_are ∙ ap (run_numbers 0) none) (counted.no_runs none)

-- the counts where another line is added, or nothing
pub other_added : {E : Type 0} (plan seen : Plan) (stage : Head) (said : Said) (entries numbers : List ℕ) (result : Result Head E) → is_run said ≡ false → IsMade plan stage → IsCounted plan entries numbers
    → IfOk result (λ next. head_line plan stage said ≡ Some (made seen next)) → OnErr result (seen ≡ plan) → IsCounted seen entries numbers
other_added plan seen stage said entries numbers (Ok next) other kept counted added none = other_counted plan seen stage next said entries numbers other kept added counted
other_added plan seen stage said entries numbers (Err error) other kept counted added none = subst (λ (p : Plan). IsCounted p entries numbers) (sym none) counted

-- a table of zeros
pub zeros_at : (count at : ℕ) → slice_index (replicate count 0) at ≡ 0
zeros_at zero at = refl
zeros_at (suc count) zero = refl
zeros_at (suc count) (suc at) = zeros_at count at
