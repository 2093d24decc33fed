-- A line that is in range fits its form.
use Rattle.std.proofs.Common.{ℕ}
use Rattle.sg_forms.specs.Said.{Said}
use Rattle.sg_forms.specs.Said.Said.{Version, Election, Race, Cand, Style, Code, Paper, Flags, Places, DrawPublic, Dispute}
use Rattle.sg_forms.specs.Spelling.{FitsForm, IsInRange}

-- what is in range fits
pub in_range_fits : (version : ℕ) (line : Said) → IsInRange version line → FitsForm version line
in_range_fits version (Version number) fits = fits
in_range_fits version (Election name) fits = fits
in_range_fits version (Race name candidates votes) fits = fits.0
in_range_fits version (Cand name) fits = fits
in_range_fits version (Style name races) fits = (fits.0, fits.2, fits.3)
in_range_fits version (Code code) fits = fits.3
in_range_fits version (Paper race list) fits = (fits.1, fits.2, fits.3)
in_range_fits version (Flags race instance bits) fits = fits.2
in_range_fits version (Places race bits) fits = fits.1
in_range_fits version (DrawPublic digits) fits = fits
in_range_fits version (Dispute ballot race code word) fits = fits.2
in_range_fits version line fits = tt
