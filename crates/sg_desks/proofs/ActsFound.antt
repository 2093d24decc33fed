-- What is read of an act's text is an act of the version, and the text is its text.
use Rattle.std.proofs.Common.{◌≡◌, ℕ, Bool, true, false, List, [], ◌∷◌, All, map, codes, bytes_eq, Option, Some, None, refl, sym, ap, ◌∙◌, subst}
use Rattle.std.specs.Prelude.{if◌then◌else◌}
use Rattle.std.specs.List.{join_with_byte}
use Rattle.std.specs.Option.{option_map, option_and_then}
use Rattle.std.proofs.lemmas.Slice.Eq.{bytes_eq-Decides}
use Rattle.std.proofs.lemmas.List.Splits.{join_with_byte-slice_split}
use Rattle.sg_lines.specs.Words.{code_of, decimal, decimal_of}
use Rattle.sg_forms.specs.Reading.{all_by, words_in}
use Rattle.sg_forms.specs.Spelling.{IsNumber}
use Rattle.sg_forms.proofs.FormsFound.{all_found}
use Rattle.sg_forms.proofs.WordKinds.{IsKind, code_kind, number_kind}
use Rattle.sg_acts.specs.declared.asks.Act.{Act}
use Rattle.sg_acts.specs.declared.asks.Act.TheVariants as act
use Rattle.sg_desks.specs.Laws.{ActsAreSpelled}
use Rattle.sg_desks.specs.ActReading.{act_in, claim_by, close_by, drawn_of, form_of, list_by, list_of, mark_of, one_by}
use Rattle.sg_desks.specs.ActTexts.{IsAct, act_text, act_words}
use Rattle.sg_desks.proofs.ActKinds.{drawn_kind, list_kind, mark_kind}

-- the act is one of the version, and these are its words
abbrev pub Says : ℕ → List (List ℕ) → Act → Type 0
Says version words done = IsAct version done × (words ≡ act_words version done)

-- FORMS

-- one word
one_says_at : {A : Type 0} (version : ℕ) (first : List ℕ) (read : List ℕ → Option A) (spell : A → List ℕ) (Fits : A → Type 0) (form : A → Act) → IsKind read spell Fits
    → ((value : A) → Fits value → Says version (first ∷ spell value ∷ []) (form value))
    → (word : List ℕ) (done : Act) (value : Option A) → read word ≡ value → option_map form value ≡ Some done → Says version (first ∷ word ∷ []) done
one_says_at version first read spell Fits form kind says word done None is e = cc
one_says_at version first read spell Fits form kind says word done (Some value) is e =
    let kept = kind.found word value is in
    let line = says value kept.0 in
    let same : form value ≡ done = cc in
    subst (Says version (first ∷ word ∷ [])) same (line.0, ap (λ w. first ∷ w ∷ []) kept.1 ∙ line.1)

one_says : {A : Type 0} (version : ℕ) (first : List ℕ) (read : List ℕ → Option A) (spell : A → List ℕ) (Fits : A → Type 0) (form : A → Act) → IsKind read spell Fits
    → ((value : A) → Fits value → Says version (first ∷ spell value ∷ []) (form value))
    → (words : List (List ℕ)) (done : Act) → one_by form read words ≡ Some done → Says version (first ∷ words) done
one_says version first read spell Fits form kind says [] done e = cc
one_says version first read spell Fits form kind says (word ∷ []) done e = one_says_at version first read spell Fits form kind says word done (read word) refl e
one_says version first read spell Fits form kind says (word ∷ other ∷ words) done e = cc

-- a ballot and words of one kind
list_says_at : {A : Type 0} (version : ℕ) (first : List ℕ) (read : List ℕ → Option A) (spell : A → List ℕ) (Fits : A → Type 0) (form : ℕ → List A → Act) → IsKind read spell Fits
    → ((ballot : ℕ) (values : List A) → IsNumber ballot → All Fits values → Says version (first ∷ decimal ballot ∷ map spell values) (form ballot values))
    → (word : List ℕ) (words : List (List ℕ)) (done : Act) (ballot : Option ℕ) (list : Option (List A)) → decimal_of word ≡ ballot → all_by read words ≡ list
    → option_and_then (λ b. option_map (form b) list) ballot ≡ Some done → Says version (first ∷ word ∷ words) done
list_says_at version first read spell Fits form kind says word words done None list is_ballot is_list e = cc
list_says_at version first read spell Fits form kind says word words done (Some ballot) None is_ballot is_list e = cc
list_says_at version first read spell Fits form kind says word words done (Some ballot) (Some values) is_ballot is_list e =
    let number = number_kind.found word ballot is_ballot in
    let all = all_found read spell Fits kind words values is_list in
    let line = says ballot values number.0 all.fit in
    let same : form ballot values ≡ done = cc in
    subst (Says version (first ∷ word ∷ words)) same
    (line.0, ap (λ w. first ∷ w ∷ words) number.1 ∙ (ap (λ l. first ∷ decimal ballot ∷ l) all.spelled ∙ line.1))

list_says : {A : Type 0} (version : ℕ) (first : List ℕ) (read : List ℕ → Option A) (spell : A → List ℕ) (Fits : A → Type 0) (form : ℕ → List A → Act) → IsKind read spell Fits
    → ((ballot : ℕ) (values : List A) → IsNumber ballot → All Fits values → Says version (first ∷ decimal ballot ∷ map spell values) (form ballot values))
    → (words : List (List ℕ)) (done : Act) → list_by form read words ≡ Some done → Says version (first ∷ words) done
list_says version first read spell Fits form kind says [] done e = cc
list_says version first read spell Fits form kind says (word ∷ words) done e =
    list_says_at version first read spell Fits form kind says word words done (decimal_of word) (all_by read words) refl refl e

close_says : (version : ℕ) (words : List (List ℕ)) (done : Act) → close_by words ≡ Some done → Says version (codes "close" ∷ words) done
close_says version [] done e =
    let same : act.Close ≡ done = cc in
    subst (Says version (codes "close" ∷ [])) same (record { numbers = tt; codes = tt }, refl)
close_says version (word ∷ words) done e = cc

claim_says_at : (version : ℕ) (ballot race code : List ℕ) (done : Act) (b r c : Option ℕ) → decimal_of ballot ≡ b → decimal_of race ≡ r → code_of version code ≡ c
    → option_and_then (λ x. option_and_then (λ y. option_map (act.Claim x y) c) r) b ≡ Some done → Says version (codes "claim" ∷ ballot ∷ race ∷ code ∷ []) done
claim_says_at version ballot race code done None r c is_ballot is_race is_code e = cc
claim_says_at version ballot race code done (Some b) None c is_ballot is_race is_code e = cc
claim_says_at version ballot race code done (Some b) (Some r) None is_ballot is_race is_code e = cc
claim_says_at version ballot race code done (Some b) (Some r) (Some c) is_ballot is_race is_code e =
    let one = number_kind.found ballot b is_ballot in
    let two = number_kind.found race r is_race in
    let three = (code_kind version).found code c is_code in
    let same : act.Claim b r c ≡ done = cc in
    subst (Says version (codes "claim" ∷ ballot ∷ race ∷ code ∷ [])) same
    (record { numbers = (one.0, two.0); codes = three.0 }, rw (one.1, two.1, three.1) refl)

claim_says : (version : ℕ) (words : List (List ℕ)) (done : Act) → claim_by version words ≡ Some done → Says version (codes "claim" ∷ words) done
claim_says version [] done e = cc
claim_says version (ballot ∷ []) done e = cc
claim_says version (ballot ∷ race ∷ []) done e = cc
claim_says version (ballot ∷ race ∷ code ∷ []) done e = claim_says_at version ballot race code done (decimal_of ballot) (decimal_of race) (code_of version code) refl refl refl e
claim_says version (ballot ∷ race ∷ code ∷ other ∷ words) done e = cc

scan_says : (version : ℕ) (words : List (List ℕ)) (done : Act) → list_by act.Scan mark_of words ≡ Some done → Says version (codes "scan" ∷ words) done
scan_says version = list_says version (codes "scan") _ _ _ act.Scan mark_kind (λ ballot values number fit. (record { numbers = (number, fit); codes = tt }, refl))

spoil_says : (version : ℕ) (words : List (List ℕ)) (done : Act) → one_by act.Spoil decimal_of words ≡ Some done → Says version (codes "spoil" ∷ words) done
spoil_says version = one_says version (codes "spoil") _ _ _ act.Spoil number_kind (λ ballot number. (record { numbers = number; codes = tt }, refl))

audit_says : (version : ℕ) (words : List (List ℕ)) (done : Act) → list_by act.Audit (list_of version) words ≡ Some done → Says version (codes "audit" ∷ words) done
audit_says version = list_says version (codes "audit") _ _ _ act.Audit (list_kind version) (λ ballot values number fit. (record { numbers = number; codes = fit }, refl))

draw_says : (version : ℕ) (words : List (List ℕ)) (done : Act) → one_by act.Draw drawn_of words ≡ Some done → Says version (codes "draw" ∷ words) done
draw_says version = one_says version (codes "draw") _ _ _ act.Draw drawn_kind (λ drawn fits. (record { numbers = fits; codes = tt }, refl))

void_says : (version : ℕ) (words : List (List ℕ)) (done : Act) → one_by act.Void decimal_of words ≡ Some done → Says version (codes "void" ∷ words) done
void_says version = one_says version (codes "void") _ _ _ act.Void number_kind (λ ballot number. (record { numbers = number; codes = tt }, refl))

-- THE FIRST WORD

-- one more form, by its first word
form_says : (version : ℕ) (first name : List ℕ) (words : List (List ℕ)) (done : Act) (here others : Option Act) (test : Bool) → bytes_eq first name ≡ test
    → (here ≡ Some done → Says version (name ∷ words) done) → (others ≡ Some done → Says version (first ∷ words) done)
    → (if test then here else others) ≡ Some done → Says version (first ∷ words) done
form_says version first name words done here others true is says more e =
    subst (λ (w : List ℕ). Says version (w ∷ words) done) (sym ((bytes_eq-Decides first name).0 is)) (says e)
form_says version first name words done here others false is says more e = more e

forms_say : (version : ℕ) (words : List (List ℕ)) (done : Act) → form_of version words ≡ Some done → Says version words done
forms_say version [] done e = cc
forms_say version (first ∷ words) done e =
    form_says version first (codes "scan") words done (list_by act.Scan mark_of words) _ (bytes_eq first (codes "scan")) refl (scan_says version words done)
    (form_says version first (codes "spoil") words done (one_by act.Spoil decimal_of words) _ (bytes_eq first (codes "spoil")) refl (spoil_says version words done)
    (form_says version first (codes "audit") words done (list_by act.Audit (list_of version) words) _ (bytes_eq first (codes "audit")) refl (audit_says version words done)
    (form_says version first (codes "close") words done (close_by words) _ (bytes_eq first (codes "close")) refl (close_says version words done)
    (form_says version first (codes "draw") words done (one_by act.Draw drawn_of words) _ (bytes_eq first (codes "draw")) refl (draw_says version words done)
    (form_says version first (codes "claim") words done (claim_by version words) _ (bytes_eq first (codes "claim")) refl (claim_says version words done)
    (form_says version first (codes "void") words done (one_by act.Void decimal_of words) None (bytes_eq first (codes "void")) refl (void_says version words done) (λ none. cc))))))) e

pub acts_are_spelled : ActsAreSpelled
unfolding act_in act_text
acts_are_spelled version text done e =
    let says = forms_say version (words_in text) done e in
    (says.0, sym (join_with_byte-slice_split 32 text) ∙ ap (join_with_byte 32) says.1)
