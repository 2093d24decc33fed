-- No word of a line in range has a space or a line feed.
use Rattle.std.proofs.Common.{ℕ, ◌<◌, inl, inr, List, [], ◌∷◌, All, length, map, Option, codes, refl, arith}
use Rattle.std.proofs.lemmas.List.Elements.{All-head, All-tail}
use Rattle.sg_forms.specs.declared.line.RowOpening.TheVariants as row
use Rattle.sg_forms.specs.Said.{Said}
use Rattle.sg_forms.specs.Said.Said.{Version, Election, Instances, Race, Cand, Style, Ballots, CodeCommit, RowCommit, Seal, Cast, Spoiled, Audited, Code, Over, Paper, Flags, Places, Total, DrawFull, DrawPublic, Row, Dispute, Voided}
use Rattle.sg_forms.specs.Spelling.{words_of, IsInRange}
use Rattle.sg_forms.proofs.WordKinds.{IsInk, literal_plain, IsKind, number_kind, key_kind, digest_kind, code_kind, name_kind, bits_kind, digits_kind, claim_kind}

-- no word has a space or a line feed
abbrev pub ArePlain : List (List ℕ) → Type 0
ArePlain [] = Unit {0}
ArePlain (word ∷ words) = All IsInk word × ArePlain words

-- no word of a list has a space or a line feed
pub plain_list : {A : Type 0} (read : List ℕ → Option A) (spell : A → List ℕ) (Fits : A → Type 0) → IsKind read spell Fits → (values : List A) → All Fits values → ArePlain (map spell values)
plain_list read spell Fits kind [] fit = tt
plain_list read spell Fits kind (value ∷ values) fit =
    (kind.plain value (All-head Fits value values fit), plain_list read spell Fits kind values (All-tail Fits value values fit))

-- no word of a line in range has a space or a line feed, and there is a word
pub words_plain : (version : ℕ) (line : Said) → IsInRange version line → ArePlain (words_of version line) × (0 < length (words_of version line))
words_plain version (Version number) (inl one) = ((literal_plain (codes "scantegrity2") refl, (rw one (number_kind.plain 1 (omega arith)), tt)), omega arith)
words_plain version (Version number) (inr two) = ((literal_plain (codes "scantegrity2") refl, (rw two (number_kind.plain 2 (omega arith)), tt)), omega arith)
words_plain version (Election name) fits = ((literal_plain (codes "election") refl, (name_kind.plain name fits, tt)), omega arith)
words_plain version (Instances instances) fits = ((literal_plain (codes "instances") refl, (number_kind.plain instances fits, tt)), omega arith)
words_plain version (Race name candidates votes) fits = ((literal_plain (codes "race") refl, (name_kind.plain name fits.0, (number_kind.plain candidates fits.1, (number_kind.plain votes fits.2, tt)))), omega arith)
words_plain version (Cand name) fits = ((literal_plain (codes "cand") refl, (name_kind.plain name fits, tt)), omega arith)
words_plain version (Style name races) fits = ((literal_plain (codes "style") refl, (name_kind.plain name fits.0, plain_list _ _ _ number_kind races fits.1)), omega arith)
words_plain version (Ballots style count) fits = ((literal_plain (codes "ballots") refl, (number_kind.plain style fits.0, (number_kind.plain count fits.1, tt))), omega arith)
words_plain version (CodeCommit race digest) fits = ((literal_plain (codes "code-commit") refl, (number_kind.plain race fits.0, (digest_kind.plain digest.0 fits.1, tt))), omega arith)
words_plain version (RowCommit race instance left right) fits = ((literal_plain (codes "row-commit") refl, (number_kind.plain race fits.0, (number_kind.plain instance fits.1, (digest_kind.plain left.0 fits.2, (digest_kind.plain right.0 fits.3, tt))))), omega arith)
words_plain version (Seal number digest) fits = ((literal_plain (codes "seal") refl, (number_kind.plain number fits.0, (digest_kind.plain digest.0 fits.1, tt))), omega arith)
words_plain version (Cast ballot) fits = ((literal_plain (codes "cast") refl, (number_kind.plain ballot fits, tt)), omega arith)
words_plain version (Spoiled ballot) fits = ((literal_plain (codes "spoiled") refl, (number_kind.plain ballot fits, tt)), omega arith)
words_plain version (Audited ballot) fits = ((literal_plain (codes "audited") refl, (number_kind.plain ballot fits, tt)), omega arith)
words_plain version (Code code) fits = ((literal_plain (codes "code") refl, (number_kind.plain code.race fits.0, (number_kind.plain code.column fits.1, (key_kind.plain code.key.0 fits.2, ((code_kind version).plain code.code fits.3, tt))))), omega arith)
words_plain version (Over race) fits = ((literal_plain (codes "over") refl, (number_kind.plain race fits, tt)), omega arith)
words_plain version (Paper race list) fits = ((literal_plain (codes "paper") refl, (number_kind.plain race fits.0, plain_list _ _ _ (code_kind version) list fits.1)), omega arith)
words_plain version (Flags race instance bits) fits = ((literal_plain (codes "flags") refl, (number_kind.plain race fits.0, (number_kind.plain instance fits.1, (bits_kind.plain bits fits.2, tt)))), omega arith)
words_plain version (Places race bits) fits = ((literal_plain (codes "places") refl, (number_kind.plain race fits.0, (bits_kind.plain bits fits.1, tt))), omega arith)
words_plain version (Total race candidate count) fits = ((literal_plain (codes "total") refl, (number_kind.plain race fits.0, (number_kind.plain candidate fits.1, (number_kind.plain count fits.2, tt)))), omega arith)
words_plain version DrawFull fits = ((literal_plain (codes "draw") refl, (literal_plain (codes "full") refl, tt)), omega arith)
words_plain version (DrawPublic digits) fits = ((literal_plain (codes "draw") refl, (digits_kind.plain digits fits, tt)), omega arith)
words_plain version (Row (row.Left opening)) fits = ((literal_plain (codes "left") refl, (key_kind.plain opening.key.0 fits.0, (number_kind.plain opening.value fits.1, tt))), omega arith)
words_plain version (Row (row.Right opening)) fits = ((literal_plain (codes "right") refl, (key_kind.plain opening.key.0 fits.0, (number_kind.plain opening.value fits.1, tt))), omega arith)
words_plain version (Row (row.Both left right)) fits = ((literal_plain (codes "both") refl, (key_kind.plain left.key.0 fits.0.0, (number_kind.plain left.value fits.0.1, (key_kind.plain right.key.0 fits.1.0, (number_kind.plain right.value fits.1.1, tt))))), omega arith)
words_plain version (Dispute ballot race code word) fits = ((literal_plain (codes "dispute") refl, (number_kind.plain ballot fits.0, (number_kind.plain race fits.1, ((code_kind version).plain code fits.2, (claim_kind.plain word tt, tt))))), omega arith)
words_plain version (Voided ballot) fits = ((literal_plain (codes "voided") refl, (number_kind.plain ballot fits, tt)), omega arith)
