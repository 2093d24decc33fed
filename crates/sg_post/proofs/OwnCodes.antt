-- A property of each line that an office posts of a ballot.
use Rattle.std.proofs.Common.{◌≡◌, ℕ, ◌<◌, Bool, true, false, not, cond, List, [], ◌∷◌, length, map, None, refl, sym, ◌∙◌, arith}
use Rattle.std.proofs.lemmas.Bool.{and_parts, true_from_ne_false, true≢false}
use Rattle.std.specs.List.{list_all}
use Rattle.sg_lists.proofs.Each.{EachOf, of-append, of-flat, of-into, of-map, of-passing, of-range}
use Rattle.sg_plan.specs.Ballots.{ballot_has, ballot_row, candidates_of, is_over, races_of_ballot}
use Rattle.sg_plan.specs.Fates.{has_mark, mark_fits}
use Rattle.sg_plan.specs.Limits.{fault_of}
use Rattle.sg_plan.specs.declared.plan.Fate.TheVariants as fate
use Rattle.sg_plan.specs.declared.plan.Mark.{Mark}
use Rattle.sg_plan.specs.declared.plan.Plan.{Plan}
use Rattle.sg_streams.specs.Numbers.{numbers_below}
use Rattle.sg_tables.specs.Posts.{column_marked, marked_columns}
use Rattle.sg_forms.specs.declared.line.CodeLine.{CodeLine}
use Rattle.sg_record.specs.declared.record.CastLine.{CastLine}
use Rattle.sg_record.specs.declared.record.CastLine.TheVariants as cast
use Rattle.sg_post.specs.Posted.{audited_codes, audited_race_codes, cast_lines, code_line_of, marked_codes, race_cast_lines, race_codes_of, race_notes}
use Rattle.sg_post.proofs.Claims.{has-within, unnamed}
use Rattle.sg_post.proofs.MarkedCodes.{shows_mark}
use Rattle.sg_post.proofs.Notes.{IsNote, notes-are}

-- a ballot has the race of each of its marks
pub marks-have : (plan : Plan) (ballot race candidate : ℕ) (marks : List Mark) → list_all (mark_fits plan (races_of_ballot plan ballot)) marks ≡ true → has_mark marks race candidate ≡ true → ballot_has plan ballot race ≡ true
marks-have plan ballot race candidate marks fit found =
    true_from_ne_false (ballot_has plan ballot race) (λ lacks. true≢false (sym found ∙ (unnamed plan ballot race marks fit lacks).0 candidate))

-- what holds of the code of each column of each race that the ballot has
abbrev pub HoldsOfOwn : (CodeLine → Type 0) → Plan → List ℕ → ℕ → Type 0
HoldsOfOwn Q plan seed ballot =
    (race column : ℕ) → ballot_has plan ballot race ≡ true → race < length plan.races → column < candidates_of plan race → Q (code_line_of plan seed ballot race column)

pub race_codes-of : (Q : CodeLine → Type 0) (plan : Plan) (seed : List ℕ) (ballot race : ℕ) → fault_of plan ≡ None → HoldsOfOwn Q plan seed ballot → ballot_has plan ballot race ≡ true
    → EachOf Q (race_codes_of plan seed ballot race)
unfolding numbers_below
race_codes-of Q plan seed ballot race fine holds has =
    of-map Q (code_line_of plan seed ballot race) (numbers_below (candidates_of plan race))
    (of-range (λ column. Q (code_line_of plan seed ballot race column)) 0 (candidates_of plan race)
    (λ column below. holds race column has (has-within plan ballot race fine has) (omega (arith, below))))

pub cast_lines-of : (Q : CastLine → Type 0) (plan : Plan) (seed : List ℕ) (marks : List Mark) (ballot : ℕ) → HoldsOfOwn (λ (code : CodeLine). Q (cast.Code code)) plan seed ballot
    → ((race : ℕ) (line : CastLine) → race < length plan.races → IsNote plan ballot race (fate.Cast marks) line → Q line) → list_all (mark_fits plan (races_of_ballot plan ballot)) marks ≡ true
    → EachOf Q (cast_lines plan seed ballot (fate.Cast marks))
unfolding cast_lines numbers_below
cast_lines-of Q plan seed marks ballot holds noted fit =
    of-flat Q (λ race. race < length plan.races) (race_cast_lines plan seed ballot (fate.Cast marks)) (numbers_below (length plan.races))
    (λ race within. of-append Q (map cast.Code (marked_codes plan seed ballot (fate.Cast marks) race)) (race_notes plan ballot (fate.Cast marks) race) (of_codes race within)
    (of-into (IsNote plan ballot race (fate.Cast marks)) Q (race_notes plan ballot (fate.Cast marks) race) (λ line note. noted race line within note) (notes-are plan ballot race marks fit within)))
    (of-range (λ race. race < length plan.races) 0 (length plan.races) (λ race within. omega (arith, within)))
  where
    of_codes : (race : ℕ) → race < length plan.races → EachOf Q (map cast.Code (marked_codes plan seed ballot (fate.Cast marks) race))
    of_codes race within =
        let row = ballot_row plan race ballot in
        of-map Q cast.Code (marked_codes plan seed ballot (fate.Cast marks) race)
        (of-map (λ (code : CodeLine). Q (cast.Code code)) (code_line_of plan seed ballot race) (marked_columns plan seed race row (fate.Cast marks))
        (of-passing (λ column. Q (cast.Code (code_line_of plan seed ballot race column))) (column_marked plan seed race row (fate.Cast marks)) 0 (candidates_of plan race)
        (λ column below counts. holds race column (marks-have plan ballot race _ marks fit (and_parts (shows_mark plan seed marks ballot race column) (not (is_over plan marks race)) counts).0) within
        (omega (arith, below)))))

pub audited_codes-of : (Q : CodeLine → Type 0) (plan : Plan) (seed : List ℕ) (ballot : ℕ) → fault_of plan ≡ None → HoldsOfOwn Q plan seed ballot → EachOf Q (audited_codes plan seed ballot)
unfolding audited_codes numbers_below
audited_codes-of Q plan seed ballot fine holds =
    of-flat Q (λ race. race < length plan.races) (audited_race_codes plan seed ballot) (numbers_below (length plan.races))
    (λ race within. at_has race (ballot_has plan ballot race) refl) (of-range (λ race. race < length plan.races) 0 (length plan.races) (λ race within. omega (arith, within)))
  where
    at_has : (race : ℕ) (b : Bool) → ballot_has plan ballot race ≡ b → EachOf Q (cond b (race_codes_of plan seed ballot race) [])
    at_has race true has = race_codes-of Q plan seed ballot race fine holds has
    at_has race false has = tt
