-- How a table of codes is filled.
use Rattle.std.proofs.Common.{◌≡◌, ◌≢◌, ℕ, zero, suc, ◌+◌, ◌*◌, ◌<◌, ◌==◌, ◌⊎◌, nat_lt, Bool, true, false, ◌&&◌, cond, inl, inr, List, [], ◌∷◌, ◌++◌, All, length, replicate, Option, Some, None, refl, sym, subst, ap, ◌∙◌, arith}
use Rattle.std.specs.Option.{option_and_then, option_map, option_map_or}
use Rattle.std.specs.Prelude.{IsSome, slice_get, slice_set}
use Rattle.std.proofs.lemmas.Bool.{and_from, and_parts, cases_eq, cases_lt, eqb-true, lt-ltb, ltb-true, or_cases}
use Rattle.std.proofs.lemmas.Option.{cond_some, same_Some, slice_get_past, slice_get_within}
use Rattle.std.specs.List.{list_all, list_any}
use Rattle.std.proofs.lemmas.List.{length-set, length_push}
use Rattle.sg_lists.proofs.Each.{EachOf}
use Rattle.sg_lists.proofs.Lists.{slice_get-push, slice_get-push_last, slice_get-replicate, slice_get-set, slice_get_there}
use Rattle.sg_lists.proofs.Options.{option_map_or-Some}
use Rattle.sg_lists.proofs.Tests.{All-slice_get, list_all-slice_get}
use Rattle.sg_plan.proofs.PlanLaws.{entry_tells}
use Rattle.sg_plan.specs.Ballots.{ballot_has, candidates_of, entries_of, entry_at, races_of_ballot, rows_of}
use Rattle.sg_plan.specs.declared.plan.Plan.{Plan}
use Rattle.sg_plan.specs.declared.plan.Race.{Race}
use Rattle.sg_forms.specs.declared.line.CodeLine.{CodeLine}
use Rattle.sg_grammar.specs.Walk.{follows_in_order, is_column, is_later}
use Rattle.sg_plan.proofs.FateLists.{has_among}
use Rattle.sg_record.proofs.CastLines.{first_cast}
use Rattle.sg_record.proofs.Marks.{IsOfRaces, codes-own, race_codes-own}
use Rattle.sg_plan.specs.Codes.{is_code}
use Rattle.sg_plan.specs.Fates.{paper_fits}
use Rattle.sg_record.specs.Formed.{are_blocks, are_cast, are_columns, has_columns, is_dispute, is_fate}
use Rattle.sg_record.specs.Tree.{behind_cast}
use Rattle.sg_record.specs.declared.record.BallotBlock.{BallotBlock}
use Rattle.sg_record.specs.declared.record.BlockFate.TheVariants as fate
use Rattle.sg_record.specs.declared.record.CastLine.{CastLine}
use Rattle.sg_record.specs.declared.record.CastLine.TheVariants as cast
use Rattle.sg_record.specs.declared.record.DisputeBlock.{DisputeBlock}
use Rattle.sg_facts.specs.Items.{item_in}
use Rattle.sg_facts.specs.Listed.{code_shown}
use Rattle.sg_facts.specs.Tables.{HasTable}
use Rattle.sg_facts.specs.inside.Putting.{AreDisputes, AreFates, AreOwn, AreOwnLines, IsOwnLine, IsSized, Puts, or_code, put_at, told, with_first}

-- only a race of the plan has entries
has_entries : (plan : Plan) (race : ℕ) {entry : ℕ} → entry < entries_of plan race → race < length plan.races
has_entries plan race below =
    elim (cases_lt race (length plan.races)) [
      | inl within ↦ within
      | inr past ↦
          let none : candidates_of plan race ≡ 0 = ap (λ o. option_map_or (λ (r : Race). length r.candidates) o 0) (slice_get_past plan.races race past) in
          let empty : entries_of plan race ≡ rows_of plan race * 0 = ap (λ (count : ℕ). rows_of plan race * count) none in
          absurd (omega (arith, empty, below))
    ]

-- the entry of a ballot's column is one of the race's
pub column_entry : (plan : Plan) (ballot race column : ℕ) → is_column plan ballot race column ≡ true → entry_at plan race ballot column < entries_of plan race
column_entry plan ballot race column is =
    let parts = and_parts (ballot_has plan ballot race) (nat_lt column (candidates_of plan race)) is in
    (entry_tells plan race ballot column parts.0 (ltb-true column (candidates_of plan race) parts.1)).below

pub column_race : (plan : Plan) (ballot race column : ℕ) → is_column plan ballot race column ≡ true → race < length plan.races
column_race plan ballot race column is = has_entries plan race (column_entry plan ballot race column is)

-- ONE LIST

-- a code is put, unless one stands there
pub first_is : (codes : List (Option ℕ)) (entry code : ℕ) (kept : Option ℕ) → slice_get codes entry ≡ Some kept → with_first codes entry code ≡ put_at codes entry code kept
first_is codes entry code kept is = ap (λ (o : Option (Option ℕ)). put_at codes entry code (option_map_or (λ k. k) o None)) is

first_get : (codes : List (Option ℕ)) (entry code e : ℕ) → entry < length codes → slice_get (with_first codes entry code) e ≡ cond (entry == e) (option_map (or_code code) (slice_get codes e)) (slice_get codes e)
first_get codes entry code e less =
    let found = slice_get_there codes entry less in
    ap (λ (l : List (Option ℕ)). slice_get l e) (first_is codes entry code found.0 found.1) ∙ at_kept found.0 found.1
  where
    at_kept : (kept : Option ℕ) → slice_get codes entry ≡ Some kept → slice_get (put_at codes entry code kept) e ≡ cond (entry == e) (option_map (or_code code) (slice_get codes e)) (slice_get codes e)
    at_kept None is = slice_get-set codes entry e (Some code) less ∙ at_place (entry == e) refl
      where
        at_place : (b : Bool) → (entry == e) ≡ b → cond b (Some (Some code)) (slice_get codes e) ≡ cond b (option_map (or_code code) (slice_get codes e)) (slice_get codes e)
        at_place false d = refl
        at_place true d = sym (ap (option_map (or_code code)) (ap (slice_get codes) (sym (eqb-true entry e d)) ∙ is))
    at_kept (Some k) is = at_place (entry == e) refl
      where
        at_place : (b : Bool) → (entry == e) ≡ b → slice_get codes e ≡ cond b (option_map (or_code code) (slice_get codes e)) (slice_get codes e)
        at_place false d = refl
        at_place true d =
            let here : slice_get codes e ≡ Some (Some k) = ap (slice_get codes) (sym (eqb-true entry e d)) ∙ is in
            here ∙ sym (ap (option_map (or_code code)) here)

-- A TABLE

pub some_outer : {A : Type 0} (table : List (List A)) (outer inner : ℕ) → IsSome (item_in table outer inner) → (items : List A) × (slice_get table outer ≡ Some items) × (inner < length items)
some_outer {A} table outer inner some = at_outer (slice_get table outer) refl
  where
    at_outer : (o : Option (List A)) → slice_get table outer ≡ o → (items : List A) × (slice_get table outer ≡ Some items) × (inner < length items)
    at_outer None e = let no = subst (λ (o : Option (List A)). IsSome (option_and_then (λ items. slice_get items inner) o)) e some in cc
    at_outer (Some items) e = (items, e, within (slice_get items inner) refl (subst (λ (o : Option (List A)). IsSome (option_and_then (λ items. slice_get items inner) o)) e some))
      where
        within : (i : Option A) → slice_get items inner ≡ i → IsSome i → inner < length items
        within (Some x) d s = slice_get_within items inner x d
        within None d s = cc

-- the codes of a race are taken out, one is put among them, and they are put back
pub put_back : (table blank new : List (List (Option ℕ))) (codes codes' : List (Option ℕ)) (race entry code : ℕ) → IsSome (item_in table race entry) → slice_get table race ≡ Some codes
    → blank ≡ slice_set table race [] → codes' ≡ with_first codes entry code → new ≡ slice_set blank race codes'
    → (r e : ℕ) → item_in new r e ≡ cond (race == r && entry == e) (option_map (or_code code) (item_in table r e)) (item_in table r e)
put_back table blank new codes codes' race entry code some is taken put back r e =
    ap (option_and_then (λ items. slice_get items e)) (ap (λ (t : List (List (Option ℕ))). slice_get t r) back ∙ slice_get-set blank race r codes' (longer blank taken))
    ∙ at_race (race == r) refl
  where
    found : (items : List (Option ℕ)) × (slice_get table race ≡ Some items) × (entry < length items)
    found = some_outer table race entry some

    within : race < length table
    within = slice_get_within table race codes is

    longer : (b : List (List (Option ℕ))) → b ≡ slice_set table race [] → race < length b
    longer b t = omega (arith, within, ap length t, length-set table race [])

    short : entry < length codes
    short = subst (λ (c : List (Option ℕ)). entry < length c) (same_Some found.0 codes (sym found.1 ∙ is)) found.2

    at_race : (b : Bool) → (race == r) ≡ b → option_and_then (λ items. slice_get items e) (cond b (Some codes') (slice_get blank r))
        ≡ cond (b && entry == e) (option_map (or_code code) (item_in table r e)) (item_in table r e)
    at_race false d =
        ap (option_and_then (λ items. slice_get items e))
        (ap (λ (t : List (List (Option ℕ))). slice_get t r) taken ∙ (slice_get-set table race r [] within ∙ ap (λ (b : Bool). cond b (Some []) (slice_get table r)) d))
    at_race true d =
        let here : item_in table r e ≡ slice_get codes e = ap (option_and_then (λ items. slice_get items e)) (ap (slice_get table) (sym (eqb-true race r d)) ∙ is) in
        ap (λ (l : List (Option ℕ)). slice_get l e) put ∙ (first_get codes entry code e short ∙ ap (λ (x : Option (Option ℕ)). cond (entry == e) (option_map (or_code code) x) x) (sym here))

-- A TABLE IN WHICH NOTHING STANDS

pub record IsBlank (plan : Plan) (table : List (List (Option ℕ))) (races : ℕ) : Type 0 where
  pub long : length table ≡ races
  pub none : (race entry : ℕ) → race < races → entry < entries_of plan race → item_in table race entry ≡ Some None

pub blank_more : (plan : Plan) (table table' : List (List (Option ℕ))) (race count : ℕ) → IsBlank plan table race → table' ≡ table ++ replicate count None ∷ [] → count ≡ entries_of plan race → IsBlank plan table' (race + 1)
blank_more plan table table' race count blank grown many = record {
  long = ap length grown ∙ omega (arith, blank.long, length_push table (replicate count None));
  none = λ r e below within. ap (λ (t : List (List (Option ℕ))). item_in t r e) grown ∙ at_place r e (cases_eq r race) below within;
}
  where
    at_place : (r e : ℕ) → (r ≡ race) ⊎ (r ≢ race) → r < race + 1 → e < entries_of plan r → item_in (table ++ replicate count None ∷ []) r e ≡ Some None
    at_place r e (inl same) below within =
        ap (option_and_then (λ items. slice_get items e)) (slice_get-push_last table (replicate count None) r (same ∙ sym blank.long)) ∙ slice_get-replicate count e None (omega (arith, within, many, ap (entries_of plan) same))
    at_place r e (inr other) below within =
        let less : r < race = omega (arith, below, other) in
        ap (option_and_then (λ items. slice_get items e)) (slice_get-push table (replicate count None) r (omega (arith, less, blank.long))) ∙ blank.none r e less within

-- WHAT IS TOLD

some_told : (x : Option (Option ℕ)) → IsSome x → x ≡ Some (option_map_or (λ k. k) x None)
some_told (Some k) s = refl
some_told None s = cc

then_one : (kept : Option ℕ) (code : ℕ) → or_code code kept ≡ option_map_or Some kept (Some code)
then_one None code = refl
then_one (Some k) code = refl

pub then_three : (a b c : Option ℕ) → option_map_or Some (option_map_or Some a b) c ≡ option_map_or Some a (option_map_or Some b c)
then_three None b c = refl
then_three (Some x) b c = refl

-- one code is put
pub one_sized : (plan : Plan) (old new : List (List (Option ℕ))) (race entry code : ℕ) → ((r e : ℕ) → item_in new r e ≡ cond (race == r && entry == e) (option_map (or_code code) (item_in old r e)) (item_in old r e))
    → IsSized plan old → IsSized plan new
one_sized plan old new race entry code is sized = λ r e within below.
    subst (λ (x : Option (Option ℕ)). IsSome x) (sym (is r e)) (either (race == r && entry == e) (item_in old r e) (sized r e within below))
  where
    either : (b : Bool) (x : Option (Option ℕ)) → IsSome x → IsSome (cond b (option_map (or_code code) x) x)
    either true (Some k) s = refl
    either false (Some k) s = s
    either b None s = cc

pub one_puts : (plan : Plan) (old new : List (List (Option ℕ))) (ballot : ℕ) (code : CodeLine)
    → ((r e : ℕ) → item_in new r e ≡ cond (code.race == r && entry_at plan code.race ballot code.column == e) (option_map (or_code code.code) (item_in old r e)) (item_in old r e))
    → IsSized plan old → Puts plan old new (λ race entry. code_shown plan race entry ballot code)
one_puts plan old new ballot code is sized = λ r e within below.
    ap (λ (x : Option (Option ℕ)). option_map_or (λ k. k) x None) (is r e)
    ∙ at_place (code.race == r && entry_at plan code.race ballot code.column == e) (item_in old r e) (sized r e within below)
  where
    at_place : (b : Bool) (x : Option (Option ℕ)) → IsSome x → option_map_or (λ k. k) (cond b (option_map (or_code code.code) x) x) None ≡ option_map_or Some (option_map_or (λ k. k) x None) (cond b (Some code.code) None)
    at_place true (Some k) s = then_one k code.code
    at_place false (Some k) s = sym (option_map_or-Some k)
    at_place b None s = cc

pub puts_both : (plan : Plan) (old mid new : List (List (Option ℕ))) (f h : ℕ → ℕ → Option ℕ) → Puts plan old mid f → Puts plan mid new h → Puts plan old new (λ r e. option_map_or Some (f r e) (h r e))
puts_both plan old mid new f h one two = λ r e within below.
    two r e within below ∙ (ap (λ (o : Option ℕ). option_map_or Some o (h r e)) (one r e within below) ∙ then_three (told old r e) (f r e) (h r e))

pub blank_sized : (plan : Plan) (table : List (List (Option ℕ))) → HasTable plan table (λ race entry. None) → IsSized plan table
blank_sized plan table blank = λ r e within below. subst (λ (x : Option (Option ℕ)). IsSome x) (sym (blank r e within below)) refl

-- a table in which nothing stood has what was put
pub put_all : (plan : Plan) (blank table : List (List (Option ℕ))) (f value : ℕ → ℕ → Option ℕ) → HasTable plan blank (λ race entry. None) → IsSized plan table → Puts plan blank table f
    → ((race entry : ℕ) → value race entry ≡ f race entry) → HasTable plan table value
put_all plan blank table f value none sized puts same = λ r e within below.
    some_told (item_in table r e) (sized r e within below)
    ∙ ap (λ (o : Option ℕ). Some o)
    (puts r e within below ∙ (ap (λ (x : Option (Option ℕ)). option_map_or Some (option_map_or (λ k. k) x None) (f r e)) (none r e within below) ∙ sym (same r e)))

-- CODES OF A BALLOT

-- what holds of each item holds of the one at a place
at_each : {A : Type 0} (P : A → Type 0) (xs : List A) → EachOf P xs → (at : ℕ) (x : A) → slice_get xs at ≡ Some x → P x
at_each P [] all at x is = cc
at_each P (y ∷ xs) all zero x is = subst P (same_Some y x is) all.0
at_each P (y ∷ xs) all (suc at) x is = at_each P xs all.1 at x is

-- a line that may stand in the block of a cast ballot is of the ballot
line_own : (plan : Plan) (ballot race column : ℕ) (line : CastLine) (next : ℕ × ℕ) → behind_cast plan ballot race column line ≡ Some next → IsOwnLine plan ballot line
line_own plan ballot race column (cast.Code code) next e =
    let place = is_column plan ballot code.race code.column && follows_in_order race column code.race code.column in
    let stands = and_parts place (is_code plan code.code) (cond_some (place && is_code plan code.code) (code.race, code.column + 1) next e).0 in
    (and_parts (is_column plan ballot code.race code.column) (follows_in_order race column code.race code.column) stands.0).0
line_own plan ballot race column line next e = tt

lines_own : (plan : Plan) (ballot race column : ℕ) (lines : List CastLine) → are_cast plan ballot race column lines ≡ true → EachOf (IsOwnLine plan ballot) lines
lines_own plan ballot race column [] e = tt
lines_own plan ballot race column (line ∷ lines) e =
    let first = first_cast plan ballot race column line lines e in
    (line_own plan ballot race column line first.next first.stands, lines_own plan ballot first.next.0 first.next.1 lines first.others)

-- codes of columns of races that the ballot has
columns_own : (plan : Plan) (ballot : ℕ) (races : List ℕ) (codes : List CodeLine) → ((race : ℕ) → list_any (λ carried. carried == race) races ≡ true → ballot_has plan ballot race ≡ true)
    → All (IsOfRaces plan races) codes → AreOwn plan ballot codes
columns_own plan ballot races codes has own = λ at code is.
    let it = All-slice_get (IsOfRaces plan races) codes at code own is in
    and_from (ballot_has plan ballot code.race) (nat_lt code.column (candidates_of plan code.race)) (has code.race it.race) (lt-ltb code.column (candidates_of plan code.race) it.column)

pub cast_own : (plan : Plan) (ballot : ℕ) (lines : List CastLine) → is_fate plan ballot (fate.Cast lines) ≡ true → AreOwnLines plan ballot lines
cast_own plan ballot lines e = at_each (IsOwnLine plan ballot) lines (lines_own plan ballot 0 0 lines e)

pub audited_own : (plan : Plan) (ballot : ℕ) (papers : List (List ℕ)) (codes : List CodeLine) → is_fate plan ballot (fate.Audited papers codes) ≡ true → AreOwn plan ballot codes
audited_own plan ballot papers codes e =
    columns_own plan ballot (races_of_ballot plan ballot) codes (λ race is. has_among plan ballot race ∙ is)
    (codes-own plan (races_of_ballot plan ballot) codes (and_parts (paper_fits plan (races_of_ballot plan ballot) papers) (are_columns plan (races_of_ballot plan ballot) codes) e).1)

pub ruleset own_codes = (cast_own, audited_own)

pub dispute_own : (plan : Plan) (one : DisputeBlock) → is_dispute plan one ≡ true → AreOwn plan one.ballot one.codes
dispute_own plan one e =
    let parts = and_parts ((nat_lt one.race (length plan.races) && ballot_has plan one.ballot one.race) && is_code plan one.code) (has_columns plan one.race one.codes) e in
    let first = and_parts (nat_lt one.race (length plan.races) && ballot_has plan one.ballot one.race) (is_code plan one.code) parts.0 in
    let has = (and_parts (nat_lt one.race (length plan.races)) (ballot_has plan one.ballot one.race) first.0).1 in
    columns_own plan one.ballot (one.race ∷ []) one.codes (λ race is.
    elim (or_cases (one.race == race) false is) [
      | inl same ↦ subst (λ (r : ℕ). ballot_has plan one.ballot r ≡ true) (eqb-true one.race race same) has
      | inr none ↦ cc
    ]) (race_codes-own plan one.race [] one.codes parts.1)

fates_each : (plan : Plan) (last : ℕ) (blocks : List BallotBlock) → are_blocks plan last blocks ≡ true → EachOf (λ (one : BallotBlock). is_fate plan one.ballot one.fate ≡ true) blocks
fates_each plan last [] e = tt
fates_each plan last (one ∷ blocks) e =
    let parts = and_parts (is_later plan last one.ballot && is_fate plan one.ballot one.fate) (are_blocks plan one.ballot blocks) e in
    ((and_parts (is_later plan last one.ballot) (is_fate plan one.ballot one.fate) parts.0).1, fates_each plan one.ballot blocks parts.1)

pub blocks_fates : (plan : Plan) (blocks : List BallotBlock) → are_blocks plan 0 blocks ≡ true → AreFates plan blocks
blocks_fates plan blocks e = at_each (λ (one : BallotBlock). is_fate plan one.ballot one.fate ≡ true) blocks (fates_each plan 0 blocks e)

pub all_disputes : (plan : Plan) (blocks : List DisputeBlock) → list_all (is_dispute plan) blocks ≡ true → AreDisputes plan blocks
all_disputes plan blocks e = λ at one. list_all-slice_get (is_dispute plan) blocks at one e
