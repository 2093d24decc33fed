-- The walk over the lines of each formed record's text, with its places; and the lines of that text.
use Rattle.std.proofs.Common.{◌≡◌, ℕ, true, List, [], ◌∷◌, length, map, drop, false, Option, refl, ap, arith}
use Rattle.std.specs.Option.{option_map_or}
use Rattle.sg_outside.proofs.LineLemmas.{lines_of-concat}
use Rattle.sg_forms.specs.Said.{Said}
use Rattle.sg_grammar.specs.Placed.{Placed}
use Rattle.sg_grammar.specs.Walk.{Posted, Walked, is_whole, start}
use Rattle.sg_record.proofs.BytesWalk.{AreIn-from_All}
use Rattle.sg_record.proofs.FormedLaw.{formed_goes-as, has_form}
use Rattle.sg_record.proofs.Placing.{goes_as-length, start_as-walks}
use Rattle.sg_record.proofs.TextLaw.{spelled_lines}
use Rattle.sg_record.specs.Formed.{is_formed}
use Rattle.sg_record.specs.Laws.{FormedAreWalked, FormedAreWhole, HasWords, TextsHaveLines}
use Rattle.sg_record.specs.Lines.{lines_in, text_of, texts_in}
use Rattle.sg_record.specs.Places.{behind_record, places_in, posts}
use Rattle.sg_record.specs.declared.record.Record.{Record}

pub formed_are_walked : FormedAreWalked
formed_are_walked posted words formed =
    let form = has_form posted words formed in
    start_as-walks posted.plan.version (behind_record posted) (drop 1 (lines_in posted)) (places_in posted) (AreIn-from_All posted.plan.version (lines_in posted) words)
    (formed_goes-as posted form.first form.second form.third form.is)

-- so they are whole
pub formed_are_whole : FormedAreWhole
formed_are_whole posted words formed = ap (λ (o : Option Walked). option_map_or (λ (w : Walked). is_whole w.next) o false) (formed_are_walked posted words formed)

-- as many places as lines
pub places-many : (posted : Record) → HasWords posted → is_formed posted ≡ true → length (lines_in posted) ≡ length (places_in posted)
places-many posted words formed =
    let form = has_form posted words formed in
    goes_as-length start (behind_record posted) (lines_in posted) (places_in posted) (formed_goes-as posted form.first form.second form.third form.is)

-- the places of lines in their places are these
pub posts-places : (version : ℕ) (lines : List Said) (places : List Placed) → length lines ≡ length places → map (λ (p : Posted). p.line) (posts version lines places) ≡ places
posts-places version [] [] many = refl
posts-places version [] (placed ∷ places) many = absurd (omega (arith, many))
posts-places version (said ∷ lines) [] many = absurd (omega (arith, many))
posts-places version (said ∷ lines) (placed ∷ places) many = ap (λ l. placed ∷ l) (posts-places version lines places (omega (arith, many)))

pub texts_have_lines : TextsHaveLines
unfolding text_of
texts_have_lines posted words = lines_of-concat (texts_in posted) (spelled_lines posted.plan.version (lines_in posted) (AreIn-from_All posted.plan.version (lines_in posted) words))
