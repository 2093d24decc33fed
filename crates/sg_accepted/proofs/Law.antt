-- The verdict on what is posted of an unaltered run is yes.
use Rattle.std.proofs.Common.{◌≡◌, ℕ, List, [], length, Some, refl, subst}
use Rattle.sg_lists.proofs.Each.{EachOf}
use Rattle.sg_plan.specs.declared.plan.Draw.{Draw}
use Rattle.sg_plan.specs.declared.plan.Plan.{Plan}
use Rattle.sg_outside.specs.TextLines.{lines_of}
use Rattle.sg_forms.specs.Said.{Said}
use Rattle.sg_grammar.proofs.Ranges.{lines_are_in_plan}
use Rattle.sg_grammar.proofs.Wholes.{lines_stand_apart}
use Rattle.sg_grammar.specs.Lines.{IsAmong, placed_of}
use Rattle.sg_grammar.specs.Parting.{Apart, IsLineIn, clash}
use Rattle.sg_grammar.specs.Placed.{Placed}
use Rattle.sg_grammar.specs.Walk.{start, walk}
use Rattle.sg_record.proofs.PlacesLaw.{posts-places}
use Rattle.sg_record.specs.Lines.{lines_in}
use Rattle.sg_record.specs.Places.{places_in, posts}
use Rattle.sg_record.specs.Typed.{AreDrawn}
use Rattle.sg_check.proofs.Late.{IsOfPlaces, form_never}
use Rattle.sg_check.specs.Kinds.{bad_placed, is_bad}
use Rattle.sg_check.specs.declared.judged.Kind.{Kind}
use Rattle.sg_check.specs.declared.judged.Kind.TheVariants as kind
use Rattle.sg_post.specs.Posted.{posted_record, posted_text}
use Rattle.sg_post.specs.declared.story.Claimed.{Claimed}
use Rattle.sg_post.specs.declared.story.Told.{Told}
use Rattle.sg_accepted.proofs.Accepting.{accepted, good-placed}
use Rattle.sg_accepted.proofs.Dispute.{disputes-whole}
use Rattle.sg_accepted.proofs.Flag.{flags-whole}
use Rattle.sg_accepted.proofs.Late.{Good}
use Rattle.sg_accepted.proofs.Opening.{openings-whole}
use Rattle.sg_accepted.proofs.Path.{paths-whole}
use Rattle.sg_accepted.proofs.Pointer.{pointers-whole}
use Rattle.sg_accepted.proofs.Posted.{SaysRight, all-right}
use Rattle.sg_accepted.proofs.Print.{prints-whole}
use Rattle.sg_accepted.proofs.Rule.{rules-whole}
use Rattle.sg_accepted.proofs.Seals.{seals-good}
use Rattle.sg_accepted.proofs.Side.{sides-whole}
use Rattle.sg_accepted.proofs.StoryWalks.{Walks, story-walks, walked_as}
use Rattle.sg_accepted.proofs.Total.{totals-whole}
use Rattle.sg_accepted.proofs.Unaltered.{IsTold, unaltered-told}
use Rattle.sg_accepted.specs.Accepted.{UnalteredIsAccepted}

module _ (plan : Plan) (seed : List ℕ) (fates : List Told) (draw : Draw) (claims : List Claimed) (told : IsTold plan seed fates claims) (bytes : AreDrawn draw)
    (long : length (lines_in (posted_record plan seed fates draw claims)) ≡ length (places_in (posted_record plan seed fates draw claims)))
    (texts : List (List ℕ)) (walks : walk start texts ≡ Some (walked_as plan seed fates draw claims)) where
  abbrev lines : List Said
  lines = lines_in (posted_record plan seed fates draw claims)

  abbrev places : List Placed
  places = places_in (posted_record plan seed fates draw claims)

  right : EachOf (SaysRight plan seed fates draw) places
  right = all-right plan seed fates draw claims told.fine told.fit told.claimed

  placed-are : placed_of (posts plan.version lines places) ≡ places
  placed-are = posts-places plan.version lines places long

  apart : Apart clash places
  apart = subst (λ (l : List Placed). Apart clash l) placed-are (lines_stand_apart texts (walked_as plan seed fates draw claims) walks)

  are_in : (line : Placed) → IsAmong places line → IsLineIn plan line
  are_in =
      subst (λ (l : List Placed). (line : Placed) → IsAmong l line → IsLineIn plan line) placed-are
      (λ line among. lines_are_in_plan texts (walked_as plan seed fates draw claims) line walks among)

  placed : (k : Kind) → IsOfPlaces k plan → Good (bad_placed k plan) [] places → Good (is_bad k plan) [] (posts plan.version lines places)
  placed k same good = good-placed k plan plan.version lines places same long good

  -- no line is bad in any kind
  pub kinds-good : (k : Kind) → Good (is_bad k plan) [] (posts plan.version lines places)
  kinds-good kind.Form = form_never plan [] (posts plan.version lines places)
  kinds-good kind.Seal = seals-good plan seed fates draw claims
  kinds-good kind.Opening = placed kind.Opening (λ before line. refl) (openings-whole plan seed fates draw claims told.fine told.fit told.claimed)
  kinds-good kind.Side = placed kind.Side (λ before line. refl) (sides-whole plan seed fates draw claims bytes told.fine told.fit told.claimed)
  kinds-good kind.Pointer = placed kind.Pointer (λ before line. refl) (pointers-whole plan seed fates draw claims right)
  kinds-good kind.Flag = placed kind.Flag (λ before line. refl) (flags-whole plan seed fates draw claims told.fine told.fit told.claimed)
  kinds-good kind.Path = placed kind.Path (λ before line. refl) (paths-whole plan seed fates draw claims right)
  kinds-good kind.Total = placed kind.Total (λ before line. refl) (totals-whole plan seed fates draw claims apart are_in told.fine told.fit told.claimed)
  kinds-good kind.Print = placed kind.Print (λ before line. refl) (prints-whole plan seed fates draw claims told)
  kinds-good kind.Rule = placed kind.Rule (λ before line. refl) (rules-whole plan seed fates draw claims told)
  kinds-good kind.Dispute = placed kind.Dispute (λ before line. refl) (disputes-whole plan seed fates draw claims told)

pub unaltered_is_accepted : UnalteredIsAccepted
unaltered_is_accepted plan seed story fine unaltered =
    let walks : Walks plan seed story = story-walks plan seed story fine unaltered in
    let texts : List (List ℕ) = lines_of (posted_text plan seed story) in
    accepted texts (walked_as plan seed story.fates walks.draw story.claims) walks.walks
    (kinds-good plan seed story.fates walks.draw story.claims (unaltered-told plan seed story fine unaltered) walks.bytes walks.many texts walks.walks) refl
