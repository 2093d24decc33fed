-- What follows from a plan's limits, and from the numbering of its ballots, entries, places and rows.
use Rattle.std.proofs.Common.{◌≡◌, ℕ, zero, suc, ◌+◌, ◌-◌, ◌*◌, ◌/◌, ◌<◌, ◌≤◌, ◌≢◌, inl, inr, true, false, List, [], ◌∷◌, length, replicate, get_or, slice_get, All, None, sym, ap, ◌∙◌, arith}
use Rattle.std.specs.Option.{option_map_or}
use Rattle.std.proofs.Math.Nat.{mul-add, mul_comm}
use Rattle.std.proofs.lemmas.Bool.{cases_eq, cases_order, ne_eqb, true≢false}
use Rattle.std.proofs.lemmas.List.{length-append, length-replicate}
use Rattle.std.proofs.lemmas.Nat.{div-mul-add, div-add-mod', div_below, mod-mul-add, mod_below, mul-add-lt, mul-le, same_from_place}
use Rattle.std.proofs.lemmas.Option.{get_or_from_slice_get, slice_get-get_or, slice_get_cases}
use Rattle.sg_lists.proofs.Counting.{count_by-one, count_by-place, count_by-within}
use Rattle.sg_lists.proofs.Numbers.{factor_above}
use Rattle.sg_plan.proofs.BallotLists.{rows_of-le}
use Rattle.sg_plan.proofs.LimitLaws.{keeps_limits, passes_tests}
use Rattle.sg_plan.proofs.LimitTests.{KeepsRaces, KeepsRuns, races-true, runs-true}
use Rattle.sg_plan.proofs.Lists.{first_fault-None}
use Rattle.sg_plan.specs.Ballots.{IsBallotOf, all_entries, ballot_has, ballot_row, ballot_styles, ballots_of, candidates_of, entries_before, entries_of, entry_at, entry_place, r_rows, row_place, rows_of, style_has, votes_of}
use Rattle.sg_plan.specs.Laws.{Bounds, EntryLaws, EntryPlaceLaws, EntryTells, InRow, OfBallot, RowLaws, RowPlaceLaws, RowsAreOne}
use Rattle.sg_plan.specs.Limits.{KeepsLimits, KeepsRace, KeepsRun, fault_of, race_fault, race_fits, run_fault, run_keeps}
use Rattle.sg_plan.specs.declared.plan.Plan.{Plan}
use Rattle.sg_plan.specs.declared.plan.Race.{Race}
use Rattle.sg_plan.specs.declared.plan.Run.{Run}

-- BALLOTS

-- what a ballot that has the race is: one of the plan, of a style with the race
pub record Has (plan : Plan) (ballot race : ℕ) : Type 0 where
  pub first : 1 ≤ ballot
  pub last : ballot ≤ ballots_of plan
  pub style : style_has plan race (get_or (ballot_styles plan.runs) (ballot - 1) 0) ≡ true

pub ballot_has-true : (plan : Plan) (ballot race : ℕ) → ballot_has plan ballot race ≡ true → Has plan ballot race
ballot_has-true plan ballot race e =
    let styles = ballot_styles plan.runs in
    let has = style_has plan race in
    elim (cases_eq ballot 0) [
      | inl none ↦ absurd (true≢false (sym (rw none at e)))
      | inr some ↦
          let found : option_map_or has (slice_get styles (ballot - 1)) false ≡ true = rw (ne_eqb ballot 0 some) at e in
          elim (slice_get_cases styles (ballot - 1)).1 [
            | inl here ↦ record { first = omega arith; last = omega (arith, here.1); style = rw (get_or_from_slice_get styles (ballot - 1) here.0 0 here.2) (rw here.2 at found) }
            | inr past ↦ absurd (true≢false (sym (rw past.1 at found)))
          ]
    ]

pub true-ballot_has : (plan : Plan) (place race : ℕ) → place < ballots_of plan → style_has plan race (get_or (ballot_styles plan.runs) place 0) ≡ true
    → ballot_has plan (place + 1) race ≡ true
true-ballot_has plan place race within passes =
    let same : place + 1 - 1 ≡ place = omega arith in
    let some : place + 1 ≢ 0 = λ e. omega arith in
    rw (ne_eqb (place + 1) 0 some, same, slice_get-get_or (ballot_styles plan.runs) place 0 within) passes

-- a ballot that has the race has a ballot row below their number, and no other ballot has it
pub rows_are_one : (plan : Plan) (race : ℕ) → RowsAreOne plan race
rows_are_one plan race = record {
  below = λ ballot e. let has = ballot_has-true plan ballot race e in
      count_by-within (style_has plan race) (ballot_styles plan.runs) (ballot - 1) 0 (omega (arith, has.first, has.last)) has.style;
  one = λ ballot other e e' same.
      let has = ballot_has-true plan ballot race e in
      let has' = ballot_has-true plan other race e' in
      let place = count_by-one (style_has plan race) (ballot_styles plan.runs) (ballot - 1) (other - 1) 0 (omega (arith, has.first, has.last)) (omega (arith, has'.first, has'.last)) has.style has'.style same in
      omega (arith, place, has.first, has'.first);
}

-- each number below their number is the ballot row of a ballot
pub row_filled : (plan : Plan) (race row : ℕ) → row < rows_of plan race → InRow plan race row
row_filled plan race row below =
    let found = count_by-place (style_has plan race) (ballot_styles plan.runs) 0 row below in
    let same : found.place + 1 - 1 ≡ found.place = omega arith in
    record { ballot = found.place + 1; has = true-ballot_has plan found.place race found.within found.passes; is = rw same found.before }

pub row_laws : RowLaws
row_laws = record { one = rows_are_one; filled = row_filled }

-- ENTRIES

pub entry_tells : (plan : Plan) (race ballot column : ℕ) → ballot_has plan ballot race ≡ true → column < candidates_of plan race → EntryTells plan race ballot column
entry_tells plan race ballot column e within =
    let has = ballot_has-true plan ballot race e in
    let row = div-mul-add (ballot_row plan race ballot) (candidates_of plan race) column within in
    record {
      below = omega (
        arith,
        mul-add-lt (ballot_row plan race ballot) (candidates_of plan race) column (rows_of plan race) ((rows_are_one plan race).below ballot e) within,
        mul_comm (rows_of plan race) (candidates_of plan race),
      );
      row = row;
      column_is = mod-mul-add (ballot_row plan race ballot) (candidates_of plan race) column within;
      ballot_is = record { first = has.first; last = has.last; has = e; row = sym row };
    }

pub entry_filled : (plan : Plan) (race entry : ℕ) → entry < entries_of plan race → OfBallot plan race entry
entry_filled plan race entry below =
    let some = factor_above (rows_of plan race) (candidates_of plan race) entry below in
    let found = row_filled plan race (entry / candidates_of plan race) (div_below entry (candidates_of plan race) (rows_of plan race) some below) in
    let has = ballot_has-true plan found.ballot race found.has in
    record {
      ballot = found.ballot;
      is = record { first = has.first; last = has.last; has = found.has; row = found.is };
      column = mod_below entry (candidates_of plan race) some;
      entry_is = rw found.is (div-add-mod' entry (candidates_of plan race));
    }

pub ballot_one : (plan : Plan) (race entry ballot other : ℕ) → IsBallotOf plan race entry ballot → IsBallotOf plan race entry other → ballot ≡ other
ballot_one plan race entry ballot other is is' = (rows_are_one plan race).one ballot other is.has is'.has (is.row ∙ sym is'.row)

pub entry_laws : EntryLaws
entry_laws = record { tells = entry_tells; filled = entry_filled; one = ballot_one }

-- PLACES IN ALL RACES

-- the entries of a race end before those of a later one begin
pub entries_before-more : (plan : Plan) (race other : ℕ) → race < other → entries_before plan race + entries_of plan race ≤ entries_before plan other
entries_before-more plan race zero less = absurd (omega arith)
entries_before-more plan race (suc other) less =
    elim (cases_order race other) [
      | inl same ↦ rw same (omega arith)
      | inr differ ↦ elim differ [ inl before ↦ omega (arith, entries_before-more plan race other before) | inr after ↦ absurd (omega arith) ]
    ]

pub entry_place-below : (plan : Plan) (race entry : ℕ) → race < length plan.races → entry < entries_of plan race → entry_place plan race entry < all_entries plan
entry_place-below plan race entry within below = omega (arith, entries_before-more plan race (length plan.races) within)

pub entry_place-one : (plan : Plan) (race entry other_race other : ℕ) → entry < entries_of plan race → other < entries_of plan other_race
    → entry_place plan race entry ≡ entry_place plan other_race other → (race ≡ other_race) × (entry ≡ other)
entry_place-one plan race entry other_race other below below' same =
    elim (cases_order race other_race) [
      | inl e ↦ (e, omega (arith, ap (entries_before plan) e, same))
      | inr differ ↦ elim differ [
        | inl before ↦ absurd (omega (arith, entries_before-more plan race other_race before, same))
        | inr after ↦ absurd (omega (arith, entries_before-more plan other_race race after, same))
      ]
    ]

-- the rows of a race in all instances end before those of a later race begin
row_place-before : (plan : Plan) (race other instance row : ℕ) → race < other → instance < plan.instances → row < entries_of plan race
    → row_place plan race instance row < plan.instances * entries_before plan other
row_place-before plan race other instance row before within below =
    let m = plan.instances in
    let n = entries_of plan race in
    let inside = mul-add-lt instance n row m within below in
    let ends = mul-le m (entries_before plan race + n) m (entries_before plan other) (omega arith) (entries_before-more plan race other before) in
    omega (arith, inside, ends, mul-add m (entries_before plan race) n, mul_comm n m)

pub row_place-below : (plan : Plan) (race instance row : ℕ) → race < length plan.races → instance < plan.instances → row < entries_of plan race
    → row_place plan race instance row < r_rows plan
row_place-below plan race instance row = row_place-before plan race (length plan.races) instance row

pub row_place-one : (plan : Plan) (race instance row other_race other_instance other : ℕ)
    → instance < plan.instances → row < entries_of plan race → other_instance < plan.instances → other < entries_of plan other_race
    → row_place plan race instance row ≡ row_place plan other_race other_instance other → (race ≡ other_race) × (instance ≡ other_instance) × (row ≡ other)
row_place-one plan race instance row other_race other_instance other within below within' below' same =
    elim (cases_order race other_race) [
      | inl e ↦
          let shorter : other < entries_of plan race = rw e below' in
          let joined : row_place plan race instance row ≡ row_place plan race other_instance other = rw (← e) at same in
          let both = same_from_place instance row other_instance other (entries_of plan race) below shorter (omega (arith, joined)) in
          (e, both.0, both.1)
      | inr differ ↦ elim differ [
        | inl before ↦ absurd (omega (arith, row_place-before plan race other_race instance row before within below, same))
        | inr after ↦ absurd (omega (arith, row_place-before plan other_race race other_instance other after within' below', same))
      ]
    ]

pub entry_place_laws : EntryPlaceLaws
entry_place_laws = record { below = entry_place-below; one = entry_place-one }

pub row_place_laws : RowPlaceLaws
row_place_laws = record { below = row_place-below; one = row_place-one }

-- BOUNDS

-- the runs of a plan bring a ballot
some_ballot : (count : ℕ) (runs : List Run) → 1 ≤ length runs → All (KeepsRun count) runs → 1 ≤ length (ballot_styles runs)
some_ballot count [] some each = absurd (omega arith)
some_ballot count (run ∷ runs) some each =
    let first = each 0 run (omega arith) in
    omega (arith, first.one_ballot, length-append (replicate run.count run.style) (ballot_styles runs), length-replicate run.count run.style)

-- the sizes of a race in the plan keep its limits
pub record RaceSizes (plan : Plan) (race : ℕ) : Type 0 where
  pub two : race < length plan.races → 2 ≤ candidates_of plan race
  pub most : candidates_of plan race ≤ 16
  pub votes : votes_of plan race ≤ candidates_of plan race

pub race_sizes : (plan : Plan) (race : ℕ) → All KeepsRace plan.races → RaceSizes plan race
race_sizes plan race each =
    elim (slice_get_cases plan.races race).1 [
      | inl here ↦
          let kept : KeepsRace here.0 = rw here.3 at (each race here.0 here.1) in
          record { two = λ within. rw here.2 kept.two_candidates; most = rw here.2 kept.most_candidates; votes = rw here.2 kept.most_votes }
      | inr past ↦ record { two = λ within. absurd (omega (arith, past.0)); most = rw past.1 (omega arith); votes = rw past.1 (omega arith) }
    ]

-- races that are not at fault keep their limits
pub races_kept : (races : List Race) → race_fault races ≡ None → KeepsRaces races
races_kept races e = races-true races (first_fault-None race_fits races e).1

-- and so do runs, in a plan of so many styles
pub runs_kept : (styles : ℕ) (runs : List Run) → run_fault styles runs ≡ None → KeepsRuns styles runs
runs_kept styles runs e = runs-true styles runs (first_fault-None (run_keeps styles) runs e).1

pub limits_bound : (plan : Plan) → KeepsLimits plan → Bounds plan
limits_bound plan kept =
    let sizes : (race : ℕ) → RaceSizes plan race = λ race. race_sizes plan race kept.races in
    let rows : all_entries plan ≤ r_rows plan = omega (arith, mul-le 1 (all_entries plan) plan.instances (all_entries plan) kept.one_instance (omega arith)) in
    record {
      one_race = kept.one_race;
      few_races = kept.most_races;
      one_instance = kept.one_instance;
      few_instances = kept.most_instances;
      few_styles = kept.most_styles;
      one_ballot = some_ballot (length plan.styles) plan.runs kept.one_run kept.runs;
      few_ballots = kept.most_ballots;
      two_candidates = λ race. (sizes race).two;
      few_candidates = λ race. (sizes race).most;
      few_votes = λ race. (sizes race).votes;
      few_rows = λ race. rows_of-le plan race;
      few_entries = λ race within. omega (arith, entries_before-more plan race (length plan.races) within, rows, kept.most_rows);
      few_all_entries = omega (arith, rows, kept.most_rows);
      few_r_rows = kept.most_rows;
    }

-- the bounds of a plan without a fault
pub bounds : (plan : Plan) → fault_of plan ≡ None → Bounds plan
bounds plan e = limits_bound plan (keeps_limits plan (passes_tests plan e))

-- an entry of such a plan is small
pub entry_small : (plan : Plan) (race ballot column : ℕ) → fault_of plan ≡ None → race < length plan.races → ballot_has plan ballot race ≡ true → column < candidates_of plan race
    → entry_at plan race ballot column < 200000
entry_small plan race ballot column e within has below =
    omega (arith, (entry_tells plan race ballot column has below).below, (bounds plan e).few_entries race within)
