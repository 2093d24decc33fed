-- The notes that an office posts of a race of a cast ballot: what each of them is. Elsewhere any note is taken alike.
use Rattle.std.proofs.Common.{◌≡◌, ℕ, ◌+◌, ◌<◌, ◌≤◌, Bool, true, false, cond, List, [], ◌∷◌, length, Option, Some, None, refl, sym, ◌∙◌, arith}
use Rattle.std.proofs.lemmas.Bool.{and_parts, le-leb, lt-ltb, true_from_ne_false, true≢false}
use Rattle.std.proofs.Math.Bool.{and-false}
use Rattle.std.specs.List.{list_all}
use Rattle.sg_lists.proofs.Each.{EachOf}
use Rattle.sg_plan.specs.Ballots.{ballot_has, is_over, marks_in, races_of_ballot, votes_of}
use Rattle.sg_plan.specs.Fates.{has_mark, mark_fits, marks_differ}
use Rattle.sg_plan.specs.declared.plan.Fate.{Fate}
use Rattle.sg_plan.specs.declared.plan.Fate.TheVariants as fate
use Rattle.sg_plan.specs.declared.plan.Mark.{Mark}
use Rattle.sg_plan.specs.declared.plan.Plan.{Plan}
use Rattle.sg_tables.specs.Posts.{fate_marks, is_void}
use Rattle.sg_record.specs.Tree.{behind_cast}
use Rattle.sg_record.specs.declared.record.CastLine.{CastLine}
use Rattle.sg_record.specs.declared.record.CastLine.TheVariants as cast
use Rattle.sg_post.specs.Posted.{race_notes}
use Rattle.sg_post.proofs.Claims.{none_over, unnamed}
use Rattle.sg_post.proofs.StoryFits.{fits_ballot}

-- the race that a note is of
abbrev pub note_race : CastLine → Option ℕ
note_race (cast.Code code) = None
note_race (cast.Over race) = Some race

-- a note of a race of the ballot, of which it posts no code: it may stand behind all lines of earlier races and of this one
pub record IsNote (plan : Plan) (ballot race : ℕ) (what : Fate) (line : CastLine) : Type 0 where
  pub of : note_race line ≡ Some race
  pub has : ballot_has plan ballot race ≡ true
  pub unmarked : (candidate : ℕ) → fate_marks plan race candidate what ≡ false
  pub behind : (from column : ℕ) → from ≤ race → behind_cast plan ballot from column line ≡ Some (race + 1, 0)

-- each is of the race
pub notes-of : (plan : Plan) (ballot race : ℕ) (what : Fate) → EachOf (λ (line : CastLine). note_race line ≡ Some race) (race_notes plan ballot what race)
unfolding race_notes
notes-of plan ballot race what = at_over (is_void plan what race)
  where
    at_over : (b : Bool) → EachOf (λ (line : CastLine). note_race line ≡ Some race) (cond b (cast.Over race ∷ []) [])
    at_over true = (refl, tt)
    at_over false = tt

-- there is one at most
pub notes-few : (plan : Plan) (ballot race : ℕ) (what : Fate) → length (race_notes plan ballot what race) ≤ 1
unfolding race_notes
notes-few plan ballot race what = at_over (is_void plan what race)
  where
    at_over : (b : Bool) → length (cond b (cast.Over race ∷ []) []) ≤ 1
    at_over true = omega arith
    at_over false = omega arith

-- where the marks fit, each is a note of a race that the ballot has
pub notes-are : (plan : Plan) (ballot race : ℕ) (marks : List Mark) → list_all (mark_fits plan (races_of_ballot plan ballot)) marks ≡ true → race < length plan.races
    → EachOf (IsNote plan ballot race (fate.Cast marks)) (race_notes plan ballot (fate.Cast marks) race)
unfolding race_notes
notes-are plan ballot race marks fit within = at_over (is_over plan marks race) refl
  where
    over-has : is_over plan marks race ≡ true → ballot_has plan ballot race ≡ true
    over-has over =
        true_from_ne_false (ballot_has plan ballot race) (λ lacks. true≢false (sym over ∙ none_over (votes_of plan race) (marks_in race marks) (unnamed plan ballot race marks fit lacks).1))

    at_over : (b : Bool) → is_over plan marks race ≡ b → EachOf (IsNote plan ballot race (fate.Cast marks)) (cond b (cast.Over race ∷ []) [])
    at_over true over = (
      record {
        of = refl;
        has = over-has over;
        unmarked = λ candidate. rw over (and-false (has_mark marks race candidate));
        behind = λ from column low. rw (lt-ltb race (length plan.races) within, over-has over, le-leb from race low) refl;
      },
      tt,
    )
    at_over false over = tt

-- there is none in a race that the ballot does not have
pub notes-none : (plan : Plan) (ballot race : ℕ) (what : Fate) → fits_ballot plan ballot what → race < length plan.races → ballot_has plan ballot race ≡ false → race_notes plan ballot what race ≡ []
unfolding race_notes
notes-none plan ballot race (fate.Cast marks) fit within lacks =
    none (race_notes plan ballot (fate.Cast marks) race) (notes-are plan ballot race marks (and_parts (list_all (mark_fits plan (races_of_ballot plan ballot)) marks) (marks_differ marks) fit).0 within)
  where
    none : (notes : List CastLine) → EachOf (IsNote plan ballot race (fate.Cast marks)) notes → notes ≡ []
    none [] all = refl
    none (note ∷ notes) all = absurd (true≢false (sym all.0.has ∙ lacks))
notes-none plan ballot race other fit within lacks = refl
