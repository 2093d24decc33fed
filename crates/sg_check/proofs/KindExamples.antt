-- Each kind at work on a small record: the definitions are computed.
use Rattle.std.proofs.Common.{◌≡◌, ◌≢◌, ℕ, Bool, true, false, ◌||◌, not, List, [], refl, ap}
use Rattle.std.proofs.lemmas.Bool.{false_from_ne_true}
use Rattle.std.proofs.lemmas.Slice.Eq.{bytes_eq-Decides}
use Rattle.std.specs.Fmt.{digits}
use Rattle.std.specs.Str.{bytes_eq}
use Rattle.sg_commit.specs.declared.Digest.{Digest}
use Rattle.sg_commit.specs.declared.Key.{Key}
use Rattle.sg_lines.specs.Words.{decimal_of}
use Rattle.sg_forms.specs.Reading.{ballot_form, form_of, line_of, plan_form, result_form}
use Rattle.sg_grammar.specs.Placed.{Placed}
use Rattle.sg_grammar.specs.Walk.{walk, take_bytes, take_line}
use Rattle.sg_check.proofs.OneMore.{fine-empty}
use Rattle.sg_check.proofs.Verdicts.{cut_end}
use Rattle.sg_check.specs.Examples.{AreKindsShown, AreOthersShown, IsFormShown, IsOpeningShown, IsSealShown, IsSideShown}

-- FORM

form_shown : IsFormShown
unfolding walk take_bytes take_line line_of form_of ballot_form result_form plan_form decimal_of digits
form_shown = record {
  first = refl;
  zero = refl;
  unended = refl;
  early = refl;
  nothing = cut_end [] fine-empty refl;
}

-- SEAL AND OPENING

-- a test that fails where two texts are the same
same_passes : (a b : List ℕ) → a ≡ b → not (bytes_eq a b) ≡ false
same_passes a b e = ap not ((bytes_eq-Decides a b).1 e)

other_fails : (a b : List ℕ) → a ≢ b → not (bytes_eq a b) ≡ true
other_fails a b other = ap not (false_from_ne_true (bytes_eq a b) (λ e. other ((bytes_eq-Decides a b).0 e)))

seal_shown : (line : Placed) (digest : Digest) → IsSealShown line digest
seal_shown line digest = record { good = same_passes digest.0 _; bad = other_fails digest.0 _ }

opening_shown : (key : Key) (digest other : Digest) → IsOpeningShown key digest other
opening_shown key digest other = record {
  code = same_passes digest.0 _;
  other_code = other_fails digest.0 _;
  other_entry = refl;
  no_entry = refl;
  left = λ e. ap (λ (b : Bool). b || false) (same_passes digest.0 _ e);
  other_left = λ e. ap (λ (b : Bool). b || false) (other_fails digest.0 _ e);
  other_row = refl;
  other_instance = refl;
  no_row = refl;
}

-- SIDE

side_shown : (key : Key) (digits : List ℕ) → IsSideShown key digits
side_shown key digits = record { full = refl; left = λ e. rw e refl; right = λ e. rw e refl }

-- THE OTHERS

others_shown : (key : Key) → AreOthersShown key
others_shown key = record {
  each = refl;
  several = refl;
  several_late = refl;
  one = refl;
  none = refl;
}

pub kinds_shown : AreKindsShown
kinds_shown = record { form = form_shown; seal = seal_shown; opening = opening_shown; side = side_shown; others = others_shown }
