-- Where no line was taken, and at bytes that are no line.
use Rattle.std.proofs.Common.{◌≡◌, List, [], refl, codes, arith, ℕ}
use Rattle.std.specs.Prelude.{false}
use Rattle.sg_check.proofs.OneMore.{fine-all, fine-empty}
use Rattle.sg_fronts.proofs.ByRecords.{least-good}
use Rattle.sg_county.specs.County.{is_next}
use Rattle.sg_county.specs.Tally.{IsUnsettled}
use Rattle.sg_driver.proofs.Forms.{no_word}
use Rattle.sg_driver.specs.Judging.{IsNoLine}

-- no lines settle nothing
pub none_unsettled : IsUnsettled []
none_unsettled = record { nothing = (omega arith, least-good [] (fine-all [] fine-empty)) }

-- bytes that are no line are no `next`
pub no_next : (text : List ℕ) → IsNoLine text → is_next text ≡ false
no_next text none = no_word text (codes "next\n") none (omega arith) (λ unfed. unfed.1.1.1.1.0 refl)
