-- What holds of the walk over a record's lines, said of their places.
use Rattle.std.proofs.Common.{◌≡◌, ℕ, true, List, Some, refl, sym, subst, ap, ◌∙◌}
use Rattle.std.specs.List.{concat}
use Rattle.sg_grammar.proofs.Parting.{Parted, lines_apart, parted}
use Rattle.sg_grammar.proofs.Ranges.{lines_are_in_plan}
use Rattle.sg_grammar.proofs.Wholes.{whole_has_each}
use Rattle.sg_grammar.specs.Lines.{IsAmong, placed_of}
use Rattle.sg_grammar.specs.Parting.{Apart, HasEachLine, IsLineIn, clash}
use Rattle.sg_grammar.specs.Placed.{Placed}
use Rattle.sg_grammar.specs.Walk.{start, walk}
use Rattle.sg_record.proofs.PlacesLaw.{formed_are_walked, places-many, posts-places}
use Rattle.sg_record.proofs.TextLaw.{texts_differ}
use Rattle.sg_record.specs.Formed.{is_formed}
use Rattle.sg_record.specs.Laws.{AreLinesOf, HasWords}
use Rattle.sg_record.specs.Lines.{lines_in, text_of, texts_in}
use Rattle.sg_record.specs.Places.{behind_record, places_in, walk_of}
use Rattle.sg_record.specs.declared.record.Record.{Record}
use Rattle.sg_fronts.specs.ByRecords.{posted_of}

-- lines are those of one record
pub one_record : (lines : List (List ℕ)) (a b : Record) → AreLinesOf lines a → AreLinesOf lines b → a ≡ b
unfolding text_of
one_record lines a b are is = texts_differ a b are.words is.words are.formed is.formed (ap concat (sym are.text ∙ is.text))

module _ (posted : Record) (words : HasWords posted) (formed : is_formed posted ≡ true) where
  pub walks : walk start (texts_in posted) ≡ Some (walk_of posted)
  walks = formed_are_walked posted words formed

  pub placed : placed_of (posted_of posted) ≡ places_in posted
  placed = posts-places posted.plan.version (lines_in posted) (places_in posted) (places-many posted words formed)

  pub parts : Parted (places_in posted) (behind_record posted)
  parts = subst (λ (l : List Placed). Parted l (behind_record posted)) placed (parted start (texts_in posted) (walk_of posted) tt walks)

  pub apart : Apart clash (places_in posted)
  apart = lines_apart (places_in posted) (behind_record posted) parts

  pub in_plan : (line : Placed) → IsAmong (places_in posted) line → IsLineIn posted.plan line
  in_plan line among = lines_are_in_plan (texts_in posted) (walk_of posted) line walks (subst (λ (l : List Placed). IsAmong l line) (sym placed) among)

  pub has_each : HasEachLine posted.plan (places_in posted)
  has_each = subst (λ (l : List Placed). HasEachLine posted.plan l) placed (whole_has_each (texts_in posted) (walk_of posted) walks refl)
