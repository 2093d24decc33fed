-- The marks of a ballot row, one after another.
use Rattle.std.proofs.Common.{◌≡◌, ℕ, ◌/◌, ◌<◌, ◌≤◌, ◌==◌, nat_le, nat_lt, Bool, true, false, ◌&&◌, ◌||◌, not, All, cond, inl, inr, List, [], ◌∷◌, ◌++◌, length, map, set, refl, sym, subst, ap, ◌∙◌, arith}
use Rattle.std.proofs.lemmas.Bool.{and_parts, cases_eq, eq-eqb, leb-true, ltb-true, ne_eqb}
use Rattle.std.proofs.lemmas.List.Elements.{All-cons, All-nil}
use Rattle.std.specs.List.{list_all}
use Rattle.std.proofs.lemmas.List.{get_or-replicate, get_or_default, same_lists}
use Rattle.std.specs.Prelude.{replicate}
use Rattle.std.proofs.lemmas.List.Folds.{list_any-append}
use Rattle.std.specs.List.{list_any}
use Rattle.std.proofs.Math.Bool.{and-false, or-false, and-true}
use Rattle.sg_plan.specs.Ballots.{ballot_has, ballot_row, ballots_of, candidates_of, entries_of, is_over, races_of_ballot, rows_of}
use Rattle.sg_plan.specs.declared.plan.Fate.TheVariants as fate
use Rattle.sg_plan.specs.declared.plan.Mark.{Mark}
use Rattle.sg_plan.specs.declared.plan.Plan.{Plan}
use Rattle.sg_streams.specs.Numbers.{numbers_below}
use Rattle.sg_tables.proofs.Lists.{get_or-map_below, length-map_below}
use Rattle.sg_tables.proofs.TableLaws.{entry_laws}
use Rattle.sg_tables.specs.Tables.{entry_showing, shown_by}
use Rattle.sg_plan.specs.Fates.{detail_fits, fate_fits, has_mark, is_in, mark_fits}
use Rattle.sg_plan.specs.Names.{is_within}
use Rattle.sg_tables.specs.Posts.{fate_marks}
use Rattle.sg_post.specs.Fits.{fates_fit}
use Rattle.sg_post.specs.Marks.{is_entry_of, is_entry_marked, told_marks}
use Rattle.sg_post.specs.inside.Making.{has_bit}
use Rattle.sg_post.specs.inside.RowMarks.{cast_marks_entry, marked_cast, marked_fates, marked_row, row_marks}
use Rattle.sg_post.specs.declared.story.Told.{Told}
use Rattle.sg_post.proofs.Kept.{map-same}
use Rattle.sg_post.proofs.Marking.{entry-test, set-bit}

-- no mark yet
pub marked_row-none : (plan : Plan) (seed : List ℕ) (race row : ℕ) (bits : List Bool) → length bits ≡ entries_of plan race → bits ≡ marked_row plan seed race row [] bits
marked_row-none plan seed race row bits long =
    let value : ℕ → Bool = λ entry. has_bit bits entry || row_marks plan seed race row [] entry in
    let many : length (map value (numbers_below (entries_of plan race))) ≡ entries_of plan race = length-map_below value (entries_of plan race) in
    same_lists bits (map value (numbers_below (entries_of plan race))) (long ∙ sym many)
    (λ k d inside.
    let less : k < entries_of plan race = omega (arith, inside, long) in
    sym (get_or-map_below value (entries_of plan race) k d less
    ∙ (ap (λ (b : Bool). has_bit bits k || b) (and-false (row == k / candidates_of plan race)) ∙ (or-false (has_bit bits k) ∙ get_or_default bits k false d inside))))

-- one mark more: where it is of the race, the entry's bit is set
pub marked_row-next : (plan : Plan) (seed : List ℕ) (race row : ℕ) (marks : List Mark) (mark : Mark) (bits : List Bool) → row < rows_of plan race
    → (mark.race ≡ race → mark.candidate < candidates_of plan race)
    → cond (mark.race == race) (set (marked_row plan seed race row marks bits) (entry_showing plan seed race row mark.candidate) true) (marked_row plan seed race row marks bits)
    ≡ marked_row plan seed race row (marks ++ mark ∷ []) bits
marked_row-next plan seed race row marks mark bits in_rows fits =
    elim (cases_eq mark.race race) [
      | inl same ↦
          let below : mark.candidate < candidates_of plan race = fits same in
          let once = entry_laws.once plan seed race row mark.candidate in_rows below in
          let before : ℕ → Bool = λ entry. has_bit bits entry || row_marks plan seed race row marks entry in
          ap (λ (b : Bool). cond b (set (marked_row plan seed race row marks bits) (entry_showing plan seed race row mark.candidate) true) (marked_row plan seed race row marks bits)) (eq-eqb mark.race race same)
          ∙ (set-bit before (entries_of plan race) (entry_showing plan seed race row mark.candidate) once.below
          ∙ map-same (λ entry. before entry || entry == entry_showing plan seed race row mark.candidate) (λ entry. has_bit bits entry || row_marks plan seed race row (marks ++ mark ∷ []) entry) (entries_of plan race) false
          (λ entry within. ap (λ (b : Bool). before entry || b) (sym (entry-test plan seed race row mark.candidate entry in_rows below within))
          ∙ (both (has_bit bits entry) (row == entry / candidates_of plan race) (has_mark marks race (shown_by plan seed race entry)) (shown_by plan seed race entry == mark.candidate)
          ∙ ap (λ (b : Bool). has_bit bits entry || (row == entry / candidates_of plan race && b))
          (ap (λ (b : Bool). has_mark marks race (shown_by plan seed race entry) || b) (turned mark race (shown_by plan seed race entry) same)
          ∙ sym (list_any-append (λ (m : Mark). m.race == race && m.candidate == shown_by plan seed race entry) marks (mark ∷ []))))))
      | inr other ↦
          ap (λ (b : Bool). cond b (set (marked_row plan seed race row marks bits) (entry_showing plan seed race row mark.candidate) true) (marked_row plan seed race row marks bits)) (ne_eqb mark.race race other)
          ∙ map-same (λ entry. has_bit bits entry || row_marks plan seed race row marks entry) (λ entry. has_bit bits entry || row_marks plan seed race row (marks ++ mark ∷ []) entry) (entries_of plan race) false
          (λ entry within. ap (λ (b : Bool). has_bit bits entry || (row == entry / candidates_of plan race && b))
          (sym (list_any-append (λ (m : Mark). m.race == race && m.candidate == shown_by plan seed race entry) marks (mark ∷ [])
          ∙ (ap (λ (b : Bool). has_mark marks race (shown_by plan seed race entry) || ((b && mark.candidate == shown_by plan seed race entry) || false)) (ne_eqb mark.race race other)
          ∙ or-false (has_mark marks race (shown_by plan seed race entry))))))
    ]
  where
    both : (a r m e : Bool) → ((a || (r && m)) || (r && e)) ≡ (a || (r && (m || e)))
    both true r m e = refl
    both false true m e = refl
    both false false m e = refl

    turned : (m : Mark) (of shown : ℕ) → m.race ≡ of → (shown == m.candidate) ≡ ((m.race == of && m.candidate == shown) || false)
    turned m of shown same = elim (cases_eq shown m.candidate) [
      | inl e ↦ rw (eq-eqb shown m.candidate e, eq-eqb m.race of same, eq-eqb m.candidate shown (sym e)) refl
      | inr d ↦ rw (ne_eqb shown m.candidate d, eq-eqb m.race of same, ne_eqb m.candidate shown (λ e. d (sym e))) refl
    ]

-- A CAST BALLOT

-- a test that no entry passes changes no bit
pub marked-none : (test : ℕ → Bool) (count : ℕ) (bits : List Bool) → length bits ≡ count → ((entry : ℕ) → test entry ≡ false) → bits ≡ map (λ entry. has_bit bits entry || test entry) (numbers_below count)
marked-none test count bits long never =
    let value : ℕ → Bool = λ entry. has_bit bits entry || test entry in
    same_lists bits (map value (numbers_below count)) (long ∙ sym (length-map_below value count))
    (λ k d inside.
    sym (get_or-map_below value count k d (omega (arith, inside, long)) ∙ (ap (λ (b : Bool). has_bit bits k || b) (never k) ∙ (or-false (has_bit bits k) ∙ get_or_default bits k false d inside))))

pub cast-lacks : (plan : Plan) (seed : List ℕ) (race ballot : ℕ) (marks : List Mark) (bits : List Bool) → length bits ≡ entries_of plan race → ballot_has plan ballot race ≡ false
    → bits ≡ marked_cast plan seed race ballot marks bits
cast-lacks plan seed race ballot marks bits long lacks =
    marked-none (cast_marks_entry plan seed race ballot marks) (entries_of plan race) bits long
    (λ entry. ap (λ (b : Bool). (b && ballot_row plan race ballot == entry / candidates_of plan race) && fate_marks plan race (shown_by plan seed race entry) (fate.Cast marks)) lacks)

pub cast-over : (plan : Plan) (seed : List ℕ) (race ballot : ℕ) (marks : List Mark) (bits : List Bool) → length bits ≡ entries_of plan race → is_over plan marks race ≡ true
    → bits ≡ marked_cast plan seed race ballot marks bits
cast-over plan seed race ballot marks bits long over =
    marked-none (cast_marks_entry plan seed race ballot marks) (entries_of plan race) bits long
    (λ entry. ap (λ (b : Bool). is_entry_of plan race entry ballot && (has_mark marks race (shown_by plan seed race entry) && not b)) over
    ∙ none (is_entry_of plan race entry ballot) (has_mark marks race (shown_by plan seed race entry)))
  where
    none : (a b : Bool) → (a && (b && false)) ≡ false
    none true true = refl
    none true false = refl
    none false b = refl

pub cast-row : (plan : Plan) (seed : List ℕ) (race ballot : ℕ) (marks : List Mark) (bits : List Bool) → ballot_has plan ballot race ≡ true → is_over plan marks race ≡ false
    → marked_row plan seed race (ballot_row plan race ballot) marks bits ≡ marked_cast plan seed race ballot marks bits
cast-row plan seed race ballot marks bits has counts =
    map-same (λ entry. has_bit bits entry || row_marks plan seed race (ballot_row plan race ballot) marks entry) (λ entry. has_bit bits entry || cast_marks_entry plan seed race ballot marks entry) (entries_of plan race) false
    (λ entry within. ap (λ (b : Bool). has_bit bits entry || b)
    (sym (ap (λ (b : Bool). (b && ballot_row plan race ballot == entry / candidates_of plan race) && (has_mark marks race (shown_by plan seed race entry) && not (is_over plan marks race))) has
    ∙ (ap (λ (b : Bool). ballot_row plan race ballot == entry / candidates_of plan race && (has_mark marks race (shown_by plan seed race entry) && not b)) counts
    ∙ ap (λ (b : Bool). ballot_row plan race ballot == entry / candidates_of plan race && b) (and-true (has_mark marks race (shown_by plan seed race entry)))))))

-- marks that fit are beside candidates
pub marks-beside : (plan : Plan) (races : List ℕ) (race : ℕ) (marks : List Mark) → list_all (mark_fits plan races) marks ≡ true → All (λ mark. mark.race ≡ race → mark.candidate < candidates_of plan race) marks
marks-beside plan races race [] fit = All-nil (λ (mark : Mark). mark.race ≡ race → mark.candidate < candidates_of plan race)
marks-beside plan races race (mark ∷ marks) fit =
    let parts = and_parts (mark_fits plan races mark) (list_all (mark_fits plan races) marks) fit in
    let below = ltb-true mark.candidate (candidates_of plan mark.race) (and_parts (is_in races mark.race) (nat_lt mark.candidate (candidates_of plan mark.race)) parts.0).1 in
    All-cons (λ (m : Mark). m.race ≡ race → m.candidate < candidates_of plan race) mark marks (λ same. subst (λ (r : ℕ). mark.candidate < candidates_of plan r) same below) (marks-beside plan races race marks parts.1)

-- ALL BALLOTS

-- a ballot with no marks
pub fate-none : (plan : Plan) (seed : List ℕ) (race : ℕ) (told : Told) (bits : List Bool) → length bits ≡ entries_of plan race → ((candidate : ℕ) → fate_marks plan race candidate told.fate ≡ false)
    → bits ≡ marked_fates plan seed race (told ∷ []) bits
fate-none plan seed race told bits long never =
    marked-none (λ entry. told_marks plan seed race entry told || false) (entries_of plan race) bits long
    (λ entry. ap (λ (b : Bool). (is_entry_of plan race entry told.ballot && b) || false) (never (shown_by plan seed race entry)) ∙ ap (λ (b : Bool). b || false) (and-false (is_entry_of plan race entry told.ballot)))

pub marked_fates-none : (plan : Plan) (seed : List ℕ) (race : ℕ) (bits : List Bool) → length bits ≡ entries_of plan race → bits ≡ marked_fates plan seed race [] bits
marked_fates-none plan seed race bits long = marked-none (λ entry. false) (entries_of plan race) bits long (λ entry. refl)

-- one ballot more
pub marked_fates-next : (plan : Plan) (seed : List ℕ) (race : ℕ) (fates : List Told) (told : Told) (bits : List Bool)
    → marked_fates plan seed race (told ∷ []) (marked_fates plan seed race fates bits) ≡ marked_fates plan seed race (fates ++ told ∷ []) bits
marked_fates-next plan seed race fates told bits =
    let before : ℕ → Bool = λ entry. has_bit bits entry || list_any (told_marks plan seed race entry) fates in
    map-same (λ entry. has_bit (marked_fates plan seed race fates bits) entry || list_any (told_marks plan seed race entry) (told ∷ [])) (λ entry. has_bit bits entry || list_any (told_marks plan seed race entry) (fates ++ told ∷ [])) (entries_of plan race) false
    (λ entry within. ap (λ (b : Bool). b || list_any (told_marks plan seed race entry) (told ∷ [])) (get_or-map_below before (entries_of plan race) entry false within)
    ∙ (or_assoc (has_bit bits entry) (list_any (told_marks plan seed race entry) fates) (list_any (told_marks plan seed race entry) (told ∷ []))
    ∙ ap (λ (b : Bool). has_bit bits entry || b) (sym (list_any-append (told_marks plan seed race entry) fates (told ∷ [])))))
  where
    or_assoc : (a b c : Bool) → ((a || b) || c) ≡ (a || (b || c))
    or_assoc true b c = refl
    or_assoc false b c = refl

-- each of the ballots fits
pub record FitsIn (plan : Plan) (told : Told) : Type 0 where
  pub first : 1 ≤ told.ballot
  pub last : told.ballot ≤ ballots_of plan
  pub fate : fate_fits plan told.ballot told.fate ≡ true

pub fits-in : (plan : Plan) (last : ℕ) (told : Told) → (nat_lt last told.ballot && fate_fits plan told.ballot told.fate) ≡ true → FitsIn plan told
fits-in plan last told fit =
    let first = and_parts (nat_lt last told.ballot) (fate_fits plan told.ballot told.fate) fit in
    let within = and_parts (is_within 1 (ballots_of plan) told.ballot) (detail_fits plan (races_of_ballot plan told.ballot) told.fate) first.1 in
    let bounds = and_parts (nat_le 1 told.ballot) (nat_le told.ballot (ballots_of plan)) within.0 in
    record { first = leb-true 1 told.ballot bounds.0; last = leb-true told.ballot (ballots_of plan) bounds.1; fate = first.1 }

pub each-fits : (plan : Plan) (last : ℕ) (fates : List Told) → fates_fit plan last fates ≡ true → All (FitsIn plan) fates
each-fits plan last [] fit = All-nil (FitsIn plan)
each-fits plan last (told ∷ fates) fit =
    let parts = and_parts (nat_lt last told.ballot && fate_fits plan told.ballot told.fate) (fates_fit plan told.ballot fates) fit in
    All-cons (FitsIn plan) told fates (fits-in plan last told parts.0) (each-fits plan told.ballot fates parts.1)

-- from no bit on they are the marked entries
pub marked-all : (plan : Plan) (seed : List ℕ) (race : ℕ) (fates : List Told) → marked_fates plan seed race fates (replicate (entries_of plan race) false) ≡ map (is_entry_marked plan seed fates race) (numbers_below (entries_of plan race))
unfolding is_entry_marked
marked-all plan seed race fates =
    map-same (λ entry. has_bit (replicate (entries_of plan race) false) entry || list_any (told_marks plan seed race entry) fates) (is_entry_marked plan seed fates race) (entries_of plan race) false
    (λ entry within. ap (λ (b : Bool). b || list_any (told_marks plan seed race entry) fates) (get_or-replicate (entries_of plan race) entry false false within))
