-- The input of a commitment has 29 bytes, and tells what it was made of.
use Rattle.std.proofs.Common.{◌≡◌, ℕ, ◌^◌, ◌<◌, get_or, drop, refl, sym, ap, ◌∙◌, arith}
use Rattle.std.proofs.lemmas.List.{length-append}
use Rattle.std.proofs.lemmas.Nat.{from_be_bytes-to_be_bytes_2, from_be_bytes-to_be_bytes_4}
use Rattle.std.specs.Int.{w16, w32, to_be_bytes, from_be_bytes}
use Rattle.sg_lists.proofs.Lists.{append_parts}
use Rattle.sg_commit.specs.Commitments.{letter_of}
use Rattle.sg_commit.specs.Laws.{InputsAreOneToOne, InputsHave29Bytes}
use Rattle.sg_commit.specs.declared.CommitKind.{CommitKind}
use Rattle.sg_commit.specs.declared.CommitKind.TheVariants.{Q, L, R}
use Rattle.sg_commit.specs.declared.Opening.{Opening}

letters_differ : (kind other_kind : CommitKind) → letter_of kind ≡ letter_of other_kind → kind ≡ other_kind
letters_differ Q Q same = refl
letters_differ Q L same = absurd (omega arith)
letters_differ Q R same = absurd (omega arith)
letters_differ L Q same = absurd (omega arith)
letters_differ L L same = refl
letters_differ L R same = absurd (omega arith)
letters_differ R Q same = absurd (omega arith)
letters_differ R L same = absurd (omega arith)
letters_differ R R same = refl

numbers_same_2 : (n m : ℕ) → n < 2 ^ 16 → m < 2 ^ 16 → to_be_bytes w16 n ≡ to_be_bytes w16 m → n ≡ m
numbers_same_2 n m n_fits m_fits same =
    sym (from_be_bytes-to_be_bytes_2 n n_fits) ∙ ap (from_be_bytes w16) same ∙ from_be_bytes-to_be_bytes_2 m m_fits

numbers_same_4 : (n m : ℕ) → n < 2 ^ 32 → m < 2 ^ 32 → to_be_bytes w32 n ≡ to_be_bytes w32 m → n ≡ m
numbers_same_4 n m n_fits m_fits same =
    sym (from_be_bytes-to_be_bytes_4 n n_fits) ∙ ap (from_be_bytes w32) same ∙ from_be_bytes-to_be_bytes_4 m m_fits

openings_same : (opening other_opening : Opening) → opening.key.0 ≡ other_opening.key.0 → opening.value ≡ other_opening.value → opening ≡ other_opening
openings_same opening other_opening key value = λ i. record { key = record { 0 = key i }; value = value i }

pub inputs_have_29_bytes : InputsHave29Bytes
inputs_have_29_bytes kind race instance place opening fits =
    let long = length-append opening.key.0 (to_be_bytes w32 opening.value) in
    let key = fits.key_fits in
    omega arith

pub inputs_are_one_to_one : InputsAreOneToOne
inputs_are_one_to_one kind other_kind race other_race instance other_instance place other_place opening other_opening fits other_fits same =
    let letter : letter_of kind ≡ letter_of other_kind = ap (λ l. get_or l 0 0) same in
    let from_race = append_parts (to_be_bytes w16 race) (to_be_bytes w16 other_race) _ _ refl (ap (drop 1) same) in
    let from_instance = append_parts (to_be_bytes w16 instance) (to_be_bytes w16 other_instance) _ _ refl from_race.1 in
    let from_place = append_parts (to_be_bytes w32 place) (to_be_bytes w32 other_place) _ _ refl from_instance.1 in
    let from_key = append_parts opening.key.0 other_opening.key.0 _ _ (fits.key_fits ∙ sym other_fits.key_fits) from_place.1 in (
      letters_differ kind other_kind letter,
      numbers_same_2 race other_race fits.race_fits other_fits.race_fits from_race.0,
      numbers_same_2 instance other_instance fits.instance_fits other_fits.instance_fits from_instance.0,
      numbers_same_4 place other_place fits.place_fits other_fits.place_fits from_place.0,
      openings_same opening other_opening from_key.0 (numbers_same_4 opening.value other_opening.value fits.value_fits other_fits.value_fits from_key.1),
    )
