-- The lines of a cast ballot stand in the order of the rules.
use Rattle.std.proofs.Common.{◌≡◌, ℕ, zero, suc, ◌+◌, ◌<◌, ◌≤◌, nat_lt, Bool, true, false, not, cond, inl, inr, List, [], ◌∷◌, ◌++◌, length, map, filter, None, refl, sym, subst, append_assoc, arith}
use Rattle.std.proofs.lemmas.Bool.{and_parts, cases_lt, eq-eqb, le-leb, lt-ltb, or_left}
use Rattle.std.proofs.Math.Bool.{or-true}
use Rattle.std.specs.List.{flat_map, list_all, range_with_len}
use Rattle.sg_lists.proofs.Each.{EachOf}
use Rattle.sg_plan.specs.Ballots.{ballot_row, candidates_of, is_over, races_of_ballot}
use Rattle.sg_plan.specs.Fates.{mark_fits}
use Rattle.sg_plan.specs.Limits.{fault_of}
use Rattle.sg_plan.specs.declared.plan.Fate.TheVariants as fate
use Rattle.sg_plan.specs.declared.plan.Mark.{Mark}
use Rattle.sg_plan.specs.declared.plan.Plan.{Plan}
use Rattle.sg_streams.specs.Numbers.{numbers_below}
use Rattle.sg_tables.specs.Posts.{column_marked}
use Rattle.sg_grammar.specs.Walk.{follows_in_order}
use Rattle.sg_record.proofs.CastLines.{line-before}
use Rattle.sg_record.specs.Formed.{are_cast}
use Rattle.sg_record.specs.declared.record.CastLine.{CastLine}
use Rattle.sg_record.specs.declared.record.CastLine.TheVariants as cast
use Rattle.sg_post.specs.Posted.{cast_lines, code_in_row, code_line_of, race_cast_lines, race_notes}
use Rattle.sg_post.proofs.FormedCodes.{code-below}
use Rattle.sg_post.proofs.MarkedCodes.{shows_mark}
use Rattle.sg_post.proofs.Notes.{IsNote, notes-are, notes-few}
use Rattle.sg_post.proofs.OwnCodes.{marks-have}

-- where a block has come to, a line of this column of the race may stand next
abbrev IsBefore : ℕ → ℕ → ℕ → ℕ → Type 0
IsBefore from least race column = (from ≤ race) × (from ≡ race → least ≤ column)

in-order : (from least race column : ℕ) → IsBefore from least race column → follows_in_order from least race column ≡ true
in-order from least race column before =
    elim (cases_lt from race) [
      | inl less ↦ or_left (nat_lt from race) _ (lt-ltb from race less)
      | inr past ↦
          let same : from ≡ race = omega (arith, before.0, past) in
          rw (eq-eqb from race same, le-leb least column (before.1 same)) (or-true (nat_lt from race))
    ]

module _ (plan : Plan) (seed : List ℕ) (marks : List Mark) (ballot : ℕ) (fine : fault_of plan ≡ None) (fit : list_all (mark_fits plan (races_of_ballot plan ballot)) marks ≡ true) where
  abbrev is_marked : ℕ → ℕ → Bool
  is_marked race column = column_marked plan seed race (ballot_row plan race ballot) (fate.Cast marks) column

  -- the lines of these columns of a race
  abbrev lines_of : ℕ → List ℕ → List CastLine
  lines_of race columns = map cast.Code (map (code_line_of plan seed ballot race) columns)

  -- those of the columns from one on, and what may stand behind each line of the race
  race-are : (from least race column count : ℕ) (rest : List CastLine) → race < length plan.races → IsBefore from least race column → column + count ≤ candidates_of plan race
      → ((f l : ℕ) → f ≤ race → are_cast plan ballot f l rest ≡ true) → are_cast plan ballot from least (lines_of race (filter (is_marked race) (range_with_len column count)) ++ rest) ≡ true
  unfolding code_in_row
  race-are from least race column zero rest within before high behind = behind from least before.0
  race-are from least race column (suc count) rest within before high behind =
      at_column (is_marked race column) refl (race-are race (column + 1) race (column + 1) count rest within (omega arith, λ e. omega arith) (omega (arith, high)) behind)
      (race-are from least race (column + 1) count rest within (before.0, λ e. let low = before.1 e in omega (arith, low)) (omega (arith, high)) behind)
    where
      at_column : (b : Bool) → is_marked race column ≡ b → are_cast plan ballot race (column + 1) (lines_of race (filter (is_marked race) (range_with_len (column + 1) count)) ++ rest) ≡ true
          → are_cast plan ballot from least (lines_of race (filter (is_marked race) (range_with_len (column + 1) count)) ++ rest) ≡ true
          → are_cast plan ballot from least (lines_of race (cond b (column ∷ filter (is_marked race) (range_with_len (column + 1) count)) (filter (is_marked race) (range_with_len (column + 1) count))) ++ rest) ≡ true
      at_column true is on skip =
          let has = marks-have plan ballot race _ marks fit (and_parts (shows_mark plan seed marks ballot race column) (not (is_over plan marks race)) is).0 in
          line-before plan ballot from least (cast.Code (code_line_of plan seed ballot race column)) _ (rw (has, lt-ltb column (candidates_of plan race) (omega (arith, high))) (in-order from least race column before))
          (code-below plan seed ballot race column fine within) on
      at_column false is on skip = skip

  -- the notes of a race, and what may stand behind them
  notes-before : (race : ℕ) (notes rest : List CastLine) → length notes ≤ 1 → EachOf (IsNote plan ballot race (fate.Cast marks)) notes
      → ((f l : ℕ) → IsBefore f l (race + 1) 0 → are_cast plan ballot f l rest ≡ true) → (f l : ℕ) → f ≤ race → are_cast plan ballot f l (notes ++ rest) ≡ true
  notes-before race [] rest few all behind f l low = behind f l (omega (arith, low), λ e. absurd (omega (arith, low, e)))
  notes-before race (note ∷ []) rest few all behind f l low = rw (all.0.behind f l low) (behind (race + 1) 0 (omega arith, λ e. omega arith))
  notes-before race (note ∷ other ∷ notes) rest few all behind f l low = absurd (omega (arith, few))

  -- those of the races from one on
  races-are : (from least race count : ℕ) → IsBefore from least race 0 → race + count ≤ length plan.races → are_cast plan ballot from least (flat_map (race_cast_lines plan seed ballot (fate.Cast marks)) (range_with_len race count)) ≡ true
  unfolding numbers_below
  races-are from least race zero before high = refl
  races-are from least race (suc count) before high =
      let columns : List ℕ = filter (is_marked race) (numbers_below (candidates_of plan race)) in
      let notes : List CastLine = race_notes plan ballot (fate.Cast marks) race in
      let rest : List CastLine = flat_map (race_cast_lines plan seed ballot (fate.Cast marks)) (range_with_len (race + 1) count) in
      let within : race < length plan.races = omega (arith, high) in
      subst (λ (lines : List CastLine). are_cast plan ballot from least lines ≡ true) (sym (append_assoc (lines_of race columns) notes rest))
      (race-are from least race 0 (candidates_of plan race) (notes ++ rest) within before (omega arith)
      (notes-before race notes rest (notes-few plan ballot race (fate.Cast marks)) (notes-are plan ballot race marks fit within) (λ f l ahead. races-are f l (race + 1) count ahead (omega (arith, high)))))

  -- the lines of the ballot
  pub cast-are : are_cast plan ballot 0 0 (cast_lines plan seed ballot (fate.Cast marks)) ≡ true
  unfolding cast_lines numbers_below
  cast-are = races-are 0 0 0 (length plan.races) (omega arith, λ e. omega arith) (omega arith)
