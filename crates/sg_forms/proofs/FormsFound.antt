-- What is read of a line's words is in range, and its words are those that were read.
use Rattle.std.proofs.Common.{◌≡◌, ℕ, ◌≤◌, ◌⊎◌, inl, inr, Bool, true, false, ◌||◌, ◌==◌, nat_le, cond, List, [], ◌∷◌, ◌++◌, All, length, map, Option, None, Some, bytes_eq, codes, refl, sym, ap, ◌∙◌, subst, append_assoc, arith}
use Rattle.std.proofs.lemmas.Bool.{eqb-true, leb-true, and_parts}
use Rattle.std.proofs.lemmas.List.{append-nil, length-map}
use Rattle.std.proofs.lemmas.List.Elements.{All-nil, All-cons}
use Rattle.std.proofs.lemmas.Slice.Eq.{bytes_eq-Decides}
use Rattle.std.specs.Option.{option_map, option_and_then}
use Rattle.sg_forms.specs.Said.{Said}
use Rattle.sg_forms.specs.Said.Said.{Election, Instances, Cand, Style, Cast, Spoiled, Audited, Over, Paper, DrawFull, DrawPublic, Voided}
use Rattle.sg_forms.specs.Spelling.{words_of, IsInRange}
use Rattle.sg_forms.specs.Reading.{one_name, one_number, first_by, whole, read_race, read_ballots, read_code_commit, read_row_commit, read_seal, read_code_line, read_flags, read_places, read_total, read_left, read_right, read_both, read_dispute, read_version, read_style, read_paper, read_draw, digits_of, is_few, all_by, few_by, plan_form, result_form, ballot_form, form_of, form_in}
use Rattle.sg_forms.proofs.WordKinds.{IsKind, number_kind, key_kind, digest_kind, code_kind, name_kind, bits_kind, digits_kind, claim_kind}

-- the line is in range, and these are its words
abbrev pub Says : ℕ → List (List ℕ) → Said → Type 0
Says version words line = IsInRange version line × (words ≡ words_of version line)

-- where this reading finds a line in the words behind `front`, all these words are that line's
pub record Reads (version : ℕ) (front : List (List ℕ)) (reading : List (List ℕ) → Option Said) : Type 0 where
  pub says : (words : List (List ℕ)) (line : Said) → reading words ≡ Some line → Says version (front ++ words) line

-- `whole_reads`, over the words that are left
whole_says : (version : ℕ) (front : List (List ℕ)) (line : Said) → IsInRange version line → words_of version line ≡ front
    → (words : List (List ℕ)) (found : Said) → whole line words ≡ Some found → Says version (front ++ words) found
whole_says version front line fits is [] found e = subst (Says version (front ++ [])) (let same : line ≡ found = cc in same) (fits, append-nil front ∙ sym is)
whole_says version front line fits is (word ∷ words) found e = cc

-- no word is left
pub whole_reads : {version : ℕ} {front : List (List ℕ)} {line : Said} → IsInRange version line → words_of version line ≡ front → Reads version front (whole line)
whole_reads {version} {front} {line} fits is = record { says = whole_says version front line fits is }

abbrev Goes : ℕ → List (List ℕ) → {A : Type 0} → (A → List ℕ) → (A → Type 0) → (A × List (List ℕ) → Option Said) → Type 0
Goes version front {A} spell Fits next = (value : A) → Fits value → Reads version (front ++ spell value ∷ []) (λ words. next (value, words))

-- `then_says`, by what the first word gives
then_says_at : {A : Type 0} (version : ℕ) (read : List ℕ → Option A) (spell : A → List ℕ) (Fits : A → Type 0) (front : List (List ℕ)) (next : A × List (List ℕ) → Option Said)
    → IsKind read spell Fits → Goes version front spell Fits next
    → (word : List ℕ) (words : List (List ℕ)) (found : Said) (value : Option A) → read word ≡ value → option_and_then next (option_map (λ v. (v, words)) value) ≡ Some found
    → Says version (front ++ word ∷ words) found
then_says_at version read spell Fits front next kind goes word words found None is e = cc
then_says_at version read spell Fits front next kind goes word words found (Some value) is e =
    let kept = kind.found word value is in
    let says = (goes value kept.0).says words found e in
    (says.0, ap (λ w. front ++ w ∷ words) kept.1 ∙ sym (append_assoc front (spell value ∷ []) words) ∙ says.1)

-- `then_reads`, over the words
then_says : {A : Type 0} (version : ℕ) (read : List ℕ → Option A) (spell : A → List ℕ) (Fits : A → Type 0) (front : List (List ℕ)) (next : A × List (List ℕ) → Option Said)
    → IsKind read spell Fits → Goes version front spell Fits next
    → (words : List (List ℕ)) (found : Said) → option_and_then next (first_by read words) ≡ Some found → Says version (front ++ words) found
then_says version read spell Fits front next kind goes [] found e = cc
then_says version read spell Fits front next kind goes (word ∷ words) found e =
    then_says_at version read spell Fits front next kind goes word words found (read word) refl e

-- one word more
pub then_reads : {A : Type 0} {version : ℕ} {read : List ℕ → Option A} {spell : A → List ℕ} {Fits : A → Type 0} {front : List (List ℕ)} {next : A × List (List ℕ) → Option Said}
    → IsKind read spell Fits → ((value : A) → Fits value → Reads version (front ++ spell value ∷ []) (λ words. next (value, words)))
    → Reads version front (λ words. option_and_then next (first_by read words))
then_reads {A} {version} {read} {spell} {Fits} {front} {next} kind goes = record { says = then_says version read spell Fits front next kind goes }

-- ---- form by form

pub instances_reads : (version : ℕ) → Reads version (codes "instances" ∷ []) (one_number Instances)
instances_reads version =
    then_reads number_kind (λ instances instances_fits.
    whole_reads instances_fits refl)

pub cand_reads : (version : ℕ) → Reads version (codes "cand" ∷ []) (one_name Cand)
cand_reads version =
    then_reads name_kind (λ name name_fits.
    whole_reads name_fits refl)

pub election_reads : (version : ℕ) → Reads version (codes "election" ∷ []) (one_name Election)
election_reads version =
    then_reads name_kind (λ name name_fits.
    whole_reads name_fits refl)

pub race_reads : (version : ℕ) → Reads version (codes "race" ∷ []) read_race
race_reads version =
    then_reads name_kind (λ name name_fits.
    then_reads number_kind (λ candidates candidates_fits.
    then_reads number_kind (λ votes votes_fits.
    whole_reads (name_fits, candidates_fits, votes_fits) refl)))

pub ballots_reads : (version : ℕ) → Reads version (codes "ballots" ∷ []) read_ballots
ballots_reads version =
    then_reads number_kind (λ style style_fits.
    then_reads number_kind (λ count count_fits.
    whole_reads (style_fits, count_fits) refl))

pub code_commit_reads : (version : ℕ) → Reads version (codes "code-commit" ∷ []) read_code_commit
code_commit_reads version =
    then_reads number_kind (λ race race_fits.
    then_reads digest_kind (λ digest digest_fits.
    whole_reads (race_fits, digest_fits) refl))

pub row_commit_reads : (version : ℕ) → Reads version (codes "row-commit" ∷ []) read_row_commit
row_commit_reads version =
    then_reads number_kind (λ race race_fits.
    then_reads number_kind (λ instance instance_fits.
    then_reads digest_kind (λ left left_fits.
    then_reads digest_kind (λ right right_fits.
    whole_reads (race_fits, instance_fits, left_fits, right_fits) refl))))

pub seal_reads : (version : ℕ) → Reads version (codes "seal" ∷ []) read_seal
seal_reads version =
    then_reads number_kind (λ number number_fits.
    then_reads digest_kind (λ digest digest_fits.
    whole_reads (number_fits, digest_fits) refl))

pub cast_reads : (version : ℕ) → Reads version (codes "cast" ∷ []) (one_number Cast)
cast_reads version =
    then_reads number_kind (λ ballot ballot_fits.
    whole_reads ballot_fits refl)

pub spoiled_reads : (version : ℕ) → Reads version (codes "spoiled" ∷ []) (one_number Spoiled)
spoiled_reads version =
    then_reads number_kind (λ ballot ballot_fits.
    whole_reads ballot_fits refl)

pub audited_reads : (version : ℕ) → Reads version (codes "audited" ∷ []) (one_number Audited)
audited_reads version =
    then_reads number_kind (λ ballot ballot_fits.
    whole_reads ballot_fits refl)

pub voided_reads : (version : ℕ) → Reads version (codes "voided" ∷ []) (one_number Voided)
voided_reads version =
    then_reads number_kind (λ ballot ballot_fits.
    whole_reads ballot_fits refl)

pub code_line_reads : (version : ℕ) → Reads version (codes "code" ∷ []) (read_code_line version)
code_line_reads version =
    then_reads number_kind (λ race race_fits.
    then_reads number_kind (λ column column_fits.
    then_reads key_kind (λ key key_fits.
    then_reads (code_kind version) (λ code code_fits.
    whole_reads (race_fits, column_fits, key_fits, code_fits) refl))))

pub over_reads : (version : ℕ) → Reads version (codes "over" ∷ []) (one_number Over)
over_reads version =
    then_reads number_kind (λ race race_fits.
    whole_reads race_fits refl)

pub flags_reads : (version : ℕ) → Reads version (codes "flags" ∷ []) read_flags
flags_reads version =
    then_reads number_kind (λ race race_fits.
    then_reads number_kind (λ instance instance_fits.
    then_reads bits_kind (λ bits bits_fits.
    whole_reads (race_fits, instance_fits, bits_fits) refl)))

pub places_reads : (version : ℕ) → Reads version (codes "places" ∷ []) read_places
places_reads version =
    then_reads number_kind (λ race race_fits.
    then_reads bits_kind (λ bits bits_fits.
    whole_reads (race_fits, bits_fits) refl))

pub total_reads : (version : ℕ) → Reads version (codes "total" ∷ []) read_total
total_reads version =
    then_reads number_kind (λ race race_fits.
    then_reads number_kind (λ candidate candidate_fits.
    then_reads number_kind (λ count count_fits.
    whole_reads (race_fits, candidate_fits, count_fits) refl)))

pub left_reads : (version : ℕ) → Reads version (codes "left" ∷ []) read_left
left_reads version =
    then_reads key_kind (λ key key_fits.
    then_reads number_kind (λ value value_fits.
    whole_reads (key_fits, value_fits) refl))

pub right_reads : (version : ℕ) → Reads version (codes "right" ∷ []) read_right
right_reads version =
    then_reads key_kind (λ key key_fits.
    then_reads number_kind (λ value value_fits.
    whole_reads (key_fits, value_fits) refl))

pub both_reads : (version : ℕ) → Reads version (codes "both" ∷ []) read_both
both_reads version =
    then_reads key_kind (λ key key_fits.
    then_reads number_kind (λ value value_fits.
    then_reads key_kind (λ key_behind key_behind_fits.
    then_reads number_kind (λ value_behind value_behind_fits.
    whole_reads ((key_fits, value_fits), (key_behind_fits, value_behind_fits)) refl))))

pub dispute_reads : (version : ℕ) → Reads version (codes "dispute" ∷ []) (read_dispute version)
dispute_reads version =
    then_reads number_kind (λ ballot ballot_fits.
    then_reads number_kind (λ race race_fits.
    then_reads (code_kind version) (λ code code_fits.
    then_reads claim_kind (λ word _.
    whole_reads (ballot_fits, race_fits, code_fits) refl))))

-- ---- the version, the lists and the draw

-- `where_reads`, over the words
where_says : {version : ℕ} {front : List (List ℕ)} {reading : List (List ℕ) → Option Said} (test : Bool) → (test ≡ true → Reads version front reading)
    → (words : List (List ℕ)) (found : Said) → cond test (reading words) None ≡ Some found → Says version (front ++ words) found
where_says true reads words found e = (reads refl).says words found e
where_says false reads words found e = cc

-- a reading under a test
pub where_reads : {version : ℕ} {front : List (List ℕ)} {reading : List (List ℕ) → Option Said} (test : Bool) → (test ≡ true → Reads version front reading)
    → Reads version front (λ words. cond test (reading words) None)
where_reads test reads = record { says = where_says test reads }

-- the test of a version
one_or_two : (number : ℕ) (one two : Bool) → (number == 1) ≡ one → (number == 2) ≡ two → (one || two) ≡ true → (number ≡ 1) ⊎ (number ≡ 2)
one_or_two number true two e f test = inl (eqb-true number 1 e)
one_or_two number false true e f test = inr (eqb-true number 2 f)
one_or_two number false false e f test = cc

pub version_reads : (version : ℕ) → Reads version (codes "scantegrity2" ∷ []) read_version
version_reads version =
    then_reads number_kind (λ number number_fits.
    where_reads (number == 1 || number == 2) (λ test.
    whole_reads (one_or_two number (number == 1) (number == 2) refl refl test) refl))

-- all words are of the kind
pub record AreRead {A : Type 0} (spell : A → List ℕ) (Fits : A → Type 0) (words : List (List ℕ)) (values : List A) : Type 0 where
  pub spelled : words ≡ map spell values
  pub fit : All Fits values

-- `all_found`, by what the first word and the others give
all_found_at : {A : Type 0} (read : List ℕ → Option A) (spell : A → List ℕ) (Fits : A → Type 0) → IsKind read spell Fits
    → (word : List ℕ) (words : List (List ℕ)) (values : List A) (first : Option A) (rest : Option (List A)) → read word ≡ first
    → ((others : List A) → rest ≡ Some others → AreRead spell Fits words others)
    → option_and_then (λ value. option_map (λ list. value ∷ list) rest) first ≡ Some values → AreRead spell Fits (word ∷ words) values
all_found_at read spell Fits kind word words values None rest is behind e = cc
all_found_at read spell Fits kind word words values (Some value) None is behind e = cc
all_found_at read spell Fits kind word words values (Some value) (Some others) is behind e =
    let kept = kind.found word value is in
    let later = behind others refl in
    subst (AreRead spell Fits (word ∷ words)) (let same : (value ∷ others) ≡ values = cc in same)
    (record { spelled = ap (λ w. w ∷ words) kept.1 ∙ ap (λ list. spell value ∷ list) later.spelled; fit = All-cons Fits value others kept.0 later.fit })

-- words that are read one by one are of the kind
pub all_found : {A : Type 0} (read : List ℕ → Option A) (spell : A → List ℕ) (Fits : A → Type 0) → IsKind read spell Fits
    → (words : List (List ℕ)) (values : List A) → all_by read words ≡ Some values → AreRead spell Fits words values
all_found {A} read spell Fits kind [] values e =
    let none : List A = [] in
    subst (AreRead spell Fits []) (let same : none ≡ values = cc in same) (record { spelled = refl; fit = All-nil Fits })
all_found read spell Fits kind (word ∷ words) values e = all_found_at read spell Fits kind word words values (read word) (all_by read words) refl (all_found read spell Fits kind words) e

-- few words, and as many values
pub record AreFewRead {A : Type 0} (spell : A → List ℕ) (Fits : A → Type 0) (most : ℕ) (words : List (List ℕ)) (values : List A) : Type 0 where
  pub are : AreRead spell Fits words values
  pub some : 1 ≤ length values
  pub few : length values ≤ most

-- `few_found`, by the test of how many there are
few_found_at : {A : Type 0} (read : List ℕ → Option A) (spell : A → List ℕ) (Fits : A → Type 0) (most : ℕ) → IsKind read spell Fits
    → (words : List (List ℕ)) (values : List A) (few : Bool) → is_few most words ≡ few → cond few (all_by read words) None ≡ Some values → AreFewRead spell Fits most words values
few_found_at read spell Fits most kind words values true inside e =
    let are = all_found read spell Fits kind words values e in
    let count : length words ≡ length values = ap length are.spelled ∙ length-map values spell in
    let ends = and_parts (nat_le 1 (length words)) (nat_le (length words) most) inside in
    let some = leb-true 1 (length words) ends.0 in
    let few = leb-true (length words) most ends.1 in
    record { are = are; some = omega arith; few = omega arith }
few_found_at read spell Fits most kind words values false outside e = cc

-- a list of words that is read is of the kind, and has as many values
few_found : {A : Type 0} (read : List ℕ → Option A) (spell : A → List ℕ) (Fits : A → Type 0) (most : ℕ) → IsKind read spell Fits
    → (words : List (List ℕ)) (values : List A) → few_by read most words ≡ Some values → AreFewRead spell Fits most words values
few_found read spell Fits most kind words values e = few_found_at read spell Fits most kind words values (is_few most words) refl e

-- `list_reads`, over the words
list_says : {A : Type 0} (version : ℕ) (front : List (List ℕ)) (read : List ℕ → Option A) (spell : A → List ℕ) (Fits : A → Type 0) (most : ℕ) (form : List A → Said) → IsKind read spell Fits
    → ((values : List A) → All Fits values → 1 ≤ length values → length values ≤ most → Says version (front ++ map spell values) (form values))
    → (words : List (List ℕ)) (found : Said) (list : Option (List A)) → few_by read most words ≡ list → option_map form list ≡ Some found → Says version (front ++ words) found
list_says version front read spell Fits most form kind says words found None is e = cc
list_says version front read spell Fits most form kind says words found (Some values) is e =
    let all = few_found read spell Fits most kind words values is in
    let line = says values all.are.fit all.some all.few in
    subst (Says version (front ++ words)) (let same : form values ≡ found = cc in same) (line.0, ap (λ list. front ++ list) all.are.spelled ∙ line.1)

-- a list of words of one kind ends the line
pub list_reads : {A : Type 0} {version : ℕ} {front : List (List ℕ)} {read : List ℕ → Option A} {spell : A → List ℕ} {Fits : A → Type 0} (most : ℕ) (form : List A → Said) → IsKind read spell Fits
    → ((values : List A) → All Fits values → 1 ≤ length values → length values ≤ most → Says version (front ++ map spell values) (form values))
    → Reads version front (λ words. option_map form (few_by read most words))
list_reads {A} {version} {front} {read} {spell} {Fits} most form kind says =
    record { says = λ words found e. list_says version front read spell Fits most form kind says words found (few_by read most words) refl e }

pub style_reads : (version : ℕ) → Reads version (codes "style" ∷ []) read_style
style_reads version =
    then_reads name_kind (λ name name_fits.
    list_reads 32 (Style name) number_kind (λ races fit some few. ((name_fits, fit, some, few), refl)))

pub paper_reads : (version : ℕ) → Reads version (codes "paper" ∷ []) (read_paper version)
paper_reads version =
    then_reads number_kind (λ race race_fits.
    list_reads 16 (Paper race) (code_kind version) (λ list fit some few. ((race_fits, fit, some, few), refl)))

-- `draw_says`, by what its word is
draw_says_at : (version : ℕ) (word : List ℕ) (words : List (List ℕ)) (found : Said) (is_full : Bool) (digits : Option (List ℕ))
    → bytes_eq word (codes "full") ≡ is_full → digits_of word ≡ digits
    → cond is_full (whole DrawFull words) (option_and_then (λ d. whole (DrawPublic d) words) digits) ≡ Some found
    → Says version (codes "draw" ∷ word ∷ words) found
draw_says_at version word words found true digits full is e =
    let same : word ≡ codes "full" = (bytes_eq-Decides word (codes "full")).0 full in
    rw same (whole_says version (codes "draw" ∷ codes "full" ∷ []) DrawFull tt refl words found e)
draw_says_at version word words found false None full is e = cc
draw_says_at version word words found false (Some d) full is e =
    let kept = digits_kind.found word d is in
    rw kept.1 (whole_says version (codes "draw" ∷ d ∷ []) (DrawPublic d) kept.0 refl words found e)

-- the draw
draw_says : (version : ℕ) (words : List (List ℕ)) (found : Said) → read_draw words ≡ Some found → Says version (codes "draw" ∷ words) found
draw_says version [] found e = cc
draw_says version (word ∷ words) found e = draw_says_at version word words found (bytes_eq word (codes "full")) (digits_of word) refl refl e

pub draw_reads : (version : ℕ) → Reads version (codes "draw" ∷ []) read_draw
draw_reads version = record { says = draw_says version }

-- ---- the form, by the first word

-- `named`, by the test of the first word
named_at : (version : ℕ) (first : List ℕ) (words : List (List ℕ)) (found : Said) (literal : List ℕ) (reading : List (List ℕ) → Option Said) (other : Option Said) (same : Bool)
    → bytes_eq first literal ≡ same → Reads version (literal ∷ []) reading → (other ≡ Some found → Says version (first ∷ words) found)
    → cond same (reading words) other ≡ Some found → Says version (first ∷ words) found
named_at version first words found literal reading other true same reads else_says e =
    let says = reads.says words found e in
    (says.0, ap (λ word. word ∷ words) ((bytes_eq-Decides first literal).0 same) ∙ says.1)
named_at version first words found literal reading other false same reads else_says e = else_says e

-- the first word is this form's name, or it is that of another form
named : {version : ℕ} {first : List ℕ} {words : List (List ℕ)} {found : Said} {literal : List ℕ} {reading : List (List ℕ) → Option Said} {other : Option Said}
    → Reads version (literal ∷ []) reading → (other ≡ Some found → Says version (first ∷ words) found)
    → cond (bytes_eq first literal) (reading words) other ≡ Some found → Says version (first ∷ words) found
named {version} {first} {words} {found} {literal} {reading} {other} reads else_says e =
    named_at version first words found literal reading other (bytes_eq first literal) refl reads else_says e

-- a line of the plan
plan_says : (version : ℕ) (first : List ℕ) (words : List (List ℕ)) (found : Said) → plan_form first words ≡ Some found → Says version (first ∷ words) found
unfolding plan_form
plan_says version first words found =
    named (cand_reads version) (named (race_reads version) (named (style_reads version) (named (ballots_reads version)
    (named (version_reads version) (named (election_reads version) (named (instances_reads version) (λ none. cc)))))))

-- a line of results, or one of the plan
result_says : (version : ℕ) (first : List ℕ) (words : List (List ℕ)) (found : Said) → result_form first words ≡ Some found → Says version (first ∷ words) found
unfolding result_form
result_says version first words found =
    named (flags_reads version) (named (places_reads version) (named (total_reads version) (named (seal_reads version)
    (named (draw_reads version) (plan_says version first words found)))))

-- a line of ballots, or one above
ballot_says : (version : ℕ) (first : List ℕ) (words : List (List ℕ)) (found : Said) → ballot_form version first words ≡ Some found → Says version (first ∷ words) found
unfolding ballot_form
ballot_says version first words found =
    named (code_line_reads version) (named (cast_reads version) (named (spoiled_reads version) (named (audited_reads version)
    (named (voided_reads version) (named (over_reads version) (named (paper_reads version) (named (dispute_reads version)
    (result_says version first words found))))))))

-- a line of any form
form_says : (version : ℕ) (first : List ℕ) (words : List (List ℕ)) (found : Said) → form_of version first words ≡ Some found → Says version (first ∷ words) found
unfolding form_of
form_says version first words found =
    named (row_commit_reads version) (named (both_reads version) (named (left_reads version) (named (right_reads version)
    (named (code_commit_reads version) (ballot_says version first words found)))))

-- a line that words say is in range, and the words are its own
pub form_in_says : (version : ℕ) (words : List (List ℕ)) (found : Said) → form_in version words ≡ Some found → Says version words found
form_in_says version [] found e = cc
form_in_says version (first ∷ words) found e = form_says version first words found e
