-- The words of each line in range are read as that line.
use Rattle.std.proofs.Common.{◌≡◌, ℕ, ◌≤◌, inl, inr, Bool, true, false, List, [], ◌∷◌, All, length, map, Option, Some, bytes_eq, codes, refl, sym, ap, ◌∙◌, arith}
use Rattle.std.proofs.lemmas.Bool.{le-leb}
use Rattle.std.proofs.lemmas.List.{length-map}
use Rattle.std.proofs.lemmas.List.Elements.{All-head, All-tail}
use Rattle.std.proofs.lemmas.Slice.Eq.{bytes_eq-Decides}
use Rattle.std.specs.List.{list_all}
use Rattle.sg_forms.specs.declared.line.RowOpening.TheVariants as row
use Rattle.sg_forms.specs.Said.{Said}
use Rattle.sg_forms.specs.Said.Said.{Version, Election, Instances, Race, Cand, Style, Ballots, CodeCommit, RowCommit, Seal, Cast, Spoiled, Audited, Code, Over, Paper, Flags, Places, Total, DrawFull, DrawPublic, Row, Dispute, Voided}
use Rattle.sg_forms.specs.Spelling.{words_of, IsInRange, AreDigits}
use Rattle.sg_forms.specs.Reading.{all_by, few_by, is_hex_sign, plan_form, result_form, ballot_form, form_of, form_in}
use Rattle.sg_forms.proofs.WordKinds.{IsKind, number_kind, key_kind, digest_kind, code_kind, name_kind, bits_kind, digits_kind, claim_kind, hex_signs}

-- words of a kind are read, one by one
pub all_read : {A : Type 0} (read : List ℕ → Option A) (spell : A → List ℕ) (Fits : A → Type 0) → IsKind read spell Fits
    → (values : List A) → All Fits values → all_by read (map spell values) ≡ Some values
all_read read spell Fits kind [] fit = refl
all_read read spell Fits kind (value ∷ values) fit =
    rw (kind.only value (All-head Fits value values fit), all_read read spell Fits kind values (All-tail Fits value values fit)) refl

-- a list of few words of a kind is read
few_read : {A : Type 0} (read : List ℕ → Option A) (spell : A → List ℕ) (Fits : A → Type 0) → IsKind read spell Fits
    → (most : ℕ) (values : List A) → All Fits values → 1 ≤ length values → length values ≤ most → few_by read most (map spell values) ≡ Some values
few_read read spell Fits kind most values fit some few =
    let count = length-map values spell in
    rw (count, le-leb 1 (length values) some, le-leb (length values) most few) (all_read read spell Fits kind values fit)

-- `not_full`, by the test
not_full_at : (digits : List ℕ) (full : Bool) → bytes_eq digits (codes "full") ≡ full → list_all is_hex_sign digits ≡ true → full ≡ false
not_full_at digits true is signs =
    let test : list_all is_hex_sign (codes "full") ≡ true = sym (ap (list_all is_hex_sign) ((bytes_eq-Decides digits (codes "full")).0 is)) ∙ signs in
    cc
not_full_at digits false is signs = refl

-- `full` is not hexadecimal
not_full : (digits : List ℕ) → AreDigits digits → bytes_eq digits (codes "full") ≡ false
not_full digits fits = not_full_at digits (bytes_eq digits (codes "full")) refl (ap (list_all is_hex_sign) fits.1 ∙ hex_signs fits.0 fits.2)

-- the words of a line in range are read as that line
pub form_in_read : (version : ℕ) (line : Said) → IsInRange version line → form_in version (words_of version line) ≡ Some line
unfolding form_of ballot_form result_form plan_form
form_in_read version (Version number) (inl one) = rw (one, number_kind.only 1 (omega arith)) refl
form_in_read version (Version number) (inr two) = rw (two, number_kind.only 2 (omega arith)) refl
form_in_read version (Election name) fits = rw (name_kind.only name fits) refl
form_in_read version (Instances instances) fits = rw (number_kind.only instances fits) refl
form_in_read version (Race name candidates votes) fits = rw (name_kind.only name fits.0, number_kind.only candidates fits.1, number_kind.only votes fits.2) refl
form_in_read version (Cand name) fits = rw (name_kind.only name fits) refl
form_in_read version (Style name races) fits = rw (name_kind.only name fits.0, few_read _ _ _ number_kind 32 races fits.1 fits.2 fits.3) refl
form_in_read version (Ballots style count) fits = rw (number_kind.only style fits.0, number_kind.only count fits.1) refl
form_in_read version (CodeCommit race digest) fits = rw (number_kind.only race fits.0, digest_kind.only digest.0 fits.1) refl
form_in_read version (RowCommit race instance left right) fits =
    rw (number_kind.only race fits.0, number_kind.only instance fits.1, digest_kind.only left.0 fits.2, digest_kind.only right.0 fits.3) refl
form_in_read version (Seal number digest) fits = rw (number_kind.only number fits.0, digest_kind.only digest.0 fits.1) refl
form_in_read version (Cast ballot) fits = rw (number_kind.only ballot fits) refl
form_in_read version (Spoiled ballot) fits = rw (number_kind.only ballot fits) refl
form_in_read version (Audited ballot) fits = rw (number_kind.only ballot fits) refl
form_in_read version (Code code) fits =
    rw (number_kind.only code.race fits.0, number_kind.only code.column fits.1, key_kind.only code.key.0 fits.2, (code_kind version).only code.code fits.3) refl
form_in_read version (Over race) fits = rw (number_kind.only race fits) refl
form_in_read version (Paper race list) fits = rw (number_kind.only race fits.0, few_read _ _ _ (code_kind version) 16 list fits.1 fits.2 fits.3) refl
form_in_read version (Flags race instance bits) fits = rw (number_kind.only race fits.0, number_kind.only instance fits.1, bits_kind.only bits fits.2) refl
form_in_read version (Places race bits) fits = rw (number_kind.only race fits.0, bits_kind.only bits fits.1) refl
form_in_read version (Total race candidate count) fits = rw (number_kind.only race fits.0, number_kind.only candidate fits.1, number_kind.only count fits.2) refl
form_in_read version DrawFull fits = refl
form_in_read version (DrawPublic digits) fits = rw (not_full digits fits, digits_kind.only digits fits) refl
form_in_read version (Row (row.Left opening)) fits = rw (key_kind.only opening.key.0 fits.0, number_kind.only opening.value fits.1) refl
form_in_read version (Row (row.Right opening)) fits = rw (key_kind.only opening.key.0 fits.0, number_kind.only opening.value fits.1) refl
form_in_read version (Row (row.Both left right)) fits =
    rw (key_kind.only left.key.0 fits.0.0, number_kind.only left.value fits.0.1, key_kind.only right.key.0 fits.1.0, number_kind.only right.value fits.1.1) refl
form_in_read version (Dispute ballot race code word) fits =
    rw (number_kind.only ballot fits.0, number_kind.only race fits.1, (code_kind version).only code fits.2, claim_kind.only word tt) refl
form_in_read version (Voided ballot) fits = rw (number_kind.only ballot fits) refl
