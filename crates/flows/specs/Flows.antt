-- Flows and prices in arrays with a place for each zone that a network may have.
use Rattle.std.specs.Prelude.{◌≡◌, ℕ, ◌<◌, List, get_or, ℤ, pos, ◌*ℤ◌, Some, Ok, Err, Result, slice_index_or}
use Rattle.auction.specs.declared.Broken.{Broken}
use Rattle.auction.specs.declared.Broken.TheVariants.{ZonePrice}
use Rattle.auction.specs.Bounds.{most_zones}
use Rattle.auction.specs.Sums.{Σ}
use Rattle.auction.specs.Grids.{Grid, sensitivity_at}
use Rattle.auction.specs.Orders.{ZonePriceInRange}
use Rattle.auction.specs.Hours.{Prices, zone_price}
use Rattle.flows.specs.Firsts.{FirstFailing}

-- what all zones feed in, where the array has the net injection of each
abbrev pub array_total : List ℤ → ℤ
array_total nets = Σ most_zones (λ z. get_or nets z (pos 0))

-- the flow over a line at such net injections
unfoldable pub array_flow : Grid → List ℤ → ℕ → ℤ
array_flow g nets l = Σ most_zones (λ z. sensitivity_at g l z *ℤ slice_index_or nets z (pos 0))

-- what a line takes off the price of a zone
abbrev pub discount : Grid → Prices → ℕ → ℕ → ℤ
discount g p z l = pos (p.shadow l) *ℤ sensitivity_at g l z

-- the zone prices in such an array, all in range; or the first zone whose price is out of range
abbrev pub Priced : Grid → Prices → Result (List ℤ) Broken → Type 0
Priced g p (Ok prices) = ((z : ℕ) → z < g.zones → ZonePriceInRange (zone_price g p z)) × ((z : ℕ) → slice_index_or prices z (pos 0) ≡ zone_price g p z)
Priced g p (Err broken) = (zone : ℕ) × (broken ≡ ZonePrice zone) × FirstFailing (λ z. ZonePriceInRange (zone_price g p z)) g.zones (Some zone)
