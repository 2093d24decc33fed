-- The words of the lines of a plan that keeps its limits are in range.
use Rattle.std.proofs.Common.{◌≡◌, ℕ, ◌<◌, ◌≤◌, List, [], ◌∷◌, ◌++◌, All, length, map, replicate, None, arith}
use Rattle.std.proofs.lemmas.List.{length-append, length-replicate}
use Rattle.std.proofs.lemmas.List.Elements.{All-head, All-tail, All-weaker}
use Rattle.std.specs.List.{flat_map}
use Rattle.sg_plan.specs.Ballots.{ballot_styles}
use Rattle.sg_plan.specs.Limits.{KeepsRace, KeepsRun, KeepsStyle, fault_of}
use Rattle.sg_plan.specs.Names.{IsName}
use Rattle.sg_plan.specs.declared.plan.Plan.{Plan}
use Rattle.sg_plan.specs.declared.plan.Race.{Race}
use Rattle.sg_plan.specs.declared.plan.Run.{Run}
use Rattle.sg_plan.specs.declared.plan.Style.{Style}
use Rattle.sg_forms.specs.Said.Said.{Cand}
use Rattle.sg_forms.specs.Spelling.{IsNumber}
use Rattle.sg_record.proofs.Filling.{AreIn, AreIn-append}
use Rattle.sg_record.proofs.Limits.{limits_of, styles_of}
use Rattle.sg_record.specs.Lines.{plan_lines, race_lines, run_line, style_line}
use Rattle.sg_record.specs.inside.Parts.{StyleFits}

candidates_in : (version : ℕ) (names : List (List ℕ)) → All IsName names → AreIn version (map Cand names)
candidates_in version [] all = tt
candidates_in version (name ∷ names) all = (All-head IsName name names all, candidates_in version names (All-tail IsName name names all))

races_in : (version : ℕ) (races : List Race) → All KeepsRace races → AreIn version (flat_map race_lines races)
races_in version [] all = tt
races_in version (race ∷ races) all =
    let keeps = All-head KeepsRace race races all in
    AreIn-append version (race_lines race) (flat_map race_lines races)
    ((keeps.name, omega (arith, keeps.most_candidates), omega (arith, keeps.most_candidates, keeps.most_votes)), candidates_in version race.candidates keeps.candidates)
    (races_in version races (All-tail KeepsRace race races all))

styles_in : (version count : ℕ) (styles : List Style) → count ≤ 32 → All StyleFits styles → All (KeepsStyle count) styles → AreIn version (map style_line styles)
styles_in version count [] few fits all = tt
styles_in version count (style ∷ styles) few fits all =
    let fit = All-head StyleFits style styles fits in
    let keeps = All-head (KeepsStyle count) style styles all in
    let numbers = All-weaker (λ race. race < count) IsNumber (λ race below. omega (arith, below, few)) style.races keeps.races in
    ((fit.name, numbers, fit.some, fit.most), styles_in version count styles few (All-tail StyleFits style styles fits) (All-tail (KeepsStyle count) style styles all))

runs_in : (version count : ℕ) (runs : List Run) → count ≤ 32 → All (KeepsRun count) runs → length (ballot_styles runs) ≤ 20000 → AreIn version (map run_line runs)
runs_in version count [] few all ballots = tt
runs_in version count (run ∷ runs) few all ballots =
    let keeps = All-head (KeepsRun count) run runs all in
    let sum = length-append (replicate run.count run.style) (ballot_styles runs) in
    let same = length-replicate run.count run.style in
    ((omega (arith, keeps.style, few), omega (arith, ballots, sum, same)), runs_in version count runs few (All-tail (KeepsRun count) run runs all) (omega (arith, ballots, sum, same)))

pub plan_in : (plan : Plan) → fault_of plan ≡ None → AreIn plan.version (plan_lines plan)
plan_in plan e =
    let limits = limits_of plan e in
    let behind = AreIn-append plan.version (map style_line plan.styles) (map run_line plan.runs)
    (styles_in plan.version (length plan.races) plan.styles limits.most_races (styles_of plan e) limits.styles)
    (runs_in plan.version (length plan.styles) plan.runs limits.most_styles limits.runs limits.most_ballots) in (
      limits.version,
      (
        limits.name,
        (
          omega (arith, limits.most_instances),
          AreIn-append plan.version (flat_map race_lines plan.races) (map style_line plan.styles ++ map run_line plan.runs) (races_in plan.version plan.races limits.races) behind,
        ),
      ),
    )
