-- The ranges of the numbers of a line.
use Rattle.std.specs.Prelude.{◌≡◌, ℕ, ◌≤◌, List, ℤ, pos, slice_index_or, unsigned_abs}
pub use Rattle.auction.specs.Bounds.{most_zones, most_lines, most_kwh, most_sensitivity}

-- only zones that are there have a sensitivity
abbrev pub OfZones : ℕ → List ℤ → Type 0
OfZones zones sensitivities = (z : ℕ) → zones ≤ z → slice_index_or sensitivities z (pos 0) ≡ pos 0

abbrev pub SensitivitiesInRange : List ℤ → Type 0
SensitivitiesInRange sensitivities = (z : ℕ) → unsigned_abs (slice_index_or sensitivities z (pos 0)) ≤ most_sensitivity

-- of the numbers of a line
abbrev pub NumbersInRange : ℕ → List ℤ → Type 0
NumbersInRange limit sensitivities = (limit ≤ most_kwh) × SensitivitiesInRange sensitivities
