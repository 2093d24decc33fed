-- Each act of the version is read from its text.
use Rattle.std.proofs.Common.{◌≡◌, ℕ, List, [], ◌∷◌, All, map, codes, Option, Some, None, Result, Ok, Err, refl, sym, ap, ◌∙◌}
use Rattle.std.specs.Prelude.{IfOk, IfSome}
use Rattle.std.proofs.lemmas.Option.{same_Some}
use Rattle.sg_lines.specs.Words.{code_word, decimal}
use Rattle.sg_forms.proofs.FormsRead.{all_read}
use Rattle.sg_forms.proofs.LineLaws.{words_joined}
use Rattle.sg_forms.proofs.Plain.{ArePlain, plain_list}
use Rattle.sg_forms.proofs.WordKinds.{IsInk, code_kind, literal_plain, number_kind}
use Rattle.sg_acts.specs.declared.asks.Act.{Act}
use Rattle.sg_acts.specs.declared.asks.Act.TheVariants as act
use Rattle.sg_desks.specs.Laws.{ActsAreRead, TextsDiffer}
use Rattle.sg_desks.specs.ActReading.{act_in, form_of}
use Rattle.sg_desks.specs.ActTexts.{IsAct, act_text, act_words, codes_word, draw_word, mark_word}
use Rattle.sg_plan.specs.declared.memory.NoMemory.{NoMemory}
use Rattle.sg_desks.proofs.ActsFound.{acts_are_spelled}
use Rattle.sg_desks.proofs.ActKinds.{drawn_kind, list_kind, mark_kind}

-- words without spaces that are read as the act are read so from their text
joined_read : (version : ℕ) (first : List ℕ) (words : List (List ℕ)) (done : Act) → act_words version done ≡ first ∷ words → All IsInk first → ArePlain words
    → form_of version (first ∷ words) ≡ Some done → act_in version (act_text version done) ≡ Some done
unfolding act_in act_text
joined_read version first words done is plain others read = rw is (ap (form_of version) (words_joined first words plain others) ∙ read)

pub acts_are_read : ActsAreRead
acts_are_read version (act.Scan ballot marks) fits =
    joined_read version (codes "scan") (decimal ballot ∷ map mark_word marks) (act.Scan ballot marks) refl (literal_plain (codes "scan") refl)
    (number_kind.plain ballot fits.numbers.0, plain_list _ _ _ mark_kind marks fits.numbers.1)
    (rw (number_kind.only ballot fits.numbers.0, all_read _ _ _ mark_kind marks fits.numbers.1) refl)
acts_are_read version (act.Spoil ballot) fits =
    joined_read version (codes "spoil") (decimal ballot ∷ []) (act.Spoil ballot) refl (literal_plain (codes "spoil") refl)
    (number_kind.plain ballot fits.numbers, tt)
    (rw (number_kind.only ballot fits.numbers) refl)
acts_are_read version (act.Audit ballot paper) fits =
    joined_read version (codes "audit") (decimal ballot ∷ map (codes_word version) paper) (act.Audit ballot paper) refl (literal_plain (codes "audit") refl)
    (number_kind.plain ballot fits.numbers, plain_list _ _ _ (list_kind version) paper fits.codes)
    (rw (number_kind.only ballot fits.numbers, all_read _ _ _ (list_kind version) paper fits.codes) refl)
acts_are_read version act.Close fits = joined_read version (codes "close") [] act.Close refl (literal_plain (codes "close") refl) tt refl
acts_are_read version (act.Draw drawn) fits =
    joined_read version (codes "draw") (draw_word drawn ∷ []) (act.Draw drawn) refl (literal_plain (codes "draw") refl)
    (drawn_kind.plain drawn fits.numbers, tt)
    (rw (drawn_kind.only drawn fits.numbers) refl)
acts_are_read version (act.Claim ballot race code) fits =
    joined_read version (codes "claim") (decimal ballot ∷ decimal race ∷ code_word version code ∷ []) (act.Claim ballot race code) refl (literal_plain (codes "claim") refl)
    (number_kind.plain ballot fits.numbers.0, (number_kind.plain race fits.numbers.1, ((code_kind version).plain code fits.codes, tt)))
    (rw (number_kind.only ballot fits.numbers.0, number_kind.only race fits.numbers.1, (code_kind version).only code fits.codes) refl)
acts_are_read version (act.Void ballot) fits =
    joined_read version (codes "void") (decimal ballot ∷ []) (act.Void ballot) refl (literal_plain (codes "void") refl)
    (number_kind.plain ballot fits.numbers, tt)
    (rw (number_kind.only ballot fits.numbers) refl)

pub texts_differ : TextsDiffer
texts_differ version a b a_fits b_fits same =
    same_Some a b (sym (acts_are_read version a a_fits) ∙ (ap (act_in version) same ∙ acts_are_read version b b_fits))

-- WHAT THE READER ANSWERS

found_if : (version : ℕ) (text : List ℕ) (found : Option Act) → found ≡ act_in version text → IfSome found (λ done. IsAct version done × (text ≡ act_text version done))
found_if version text None is = tt
found_if version text (Some done) is = acts_are_spelled version text done (sym is)

-- what is found is an act of the version, and the text is its text
pub found_act : (version : ℕ) (text : List ℕ) (result : Result (Option Act) NoMemory) → IfOk result (λ found. found ≡ act_in version text)
    → IfOk result (λ found. IfSome found (λ done. IsAct version done × (text ≡ act_text version done)))
found_act version text (Ok found) is = found_if version text found is
found_act version text (Err fault) is = tt

-- the text of an act gives the act
pub only_act : (version : ℕ) (text : List ℕ) (result : Result (Option Act) NoMemory) → IfOk result (λ found. found ≡ act_in version text)
    → (done : Act) → IsAct version done → text ≡ act_text version done → IfOk result (λ found. found ≡ Some done)
only_act version text (Ok found) is done fits same = is ∙ (ap (act_in version) same ∙ acts_are_read version done fits)
only_act version text (Err fault) is done fits same = tt
