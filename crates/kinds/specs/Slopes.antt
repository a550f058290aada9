-- An order whose gain is proportional to its quantity, so that what a kWh gains, the slope, decides what it is content with.
use Rattle.std.specs.Prelude.{ℕ, ◌*◌, ◌<◌, ◌≤◌, List, ℤ, pos, ◌+ℤ◌, ◌-ℤ◌, ◌≤ℤ◌, slice_index_or}

-- it takes nothing unless a kWh gains something or costs nothing, and everything unless a kWh costs something or gains nothing
pub record ContentBySlope (largest q : ℕ) (slope : ℤ) : Type 0 where
  pub possible : q ≤ largest
  pub rising : 0 < q → pos 0 ≤ℤ slope
  pub falling : q < largest → slope ≤ℤ pos 0

-- the price of a zone, 0 for one that no network has
abbrev pub price_in : List ℤ → ℕ → ℤ
price_in prices zone = slice_index_or prices zone (pos 0)

-- an order's price in the unit of zone prices
abbrev pub scaled : ℕ → ℤ
scaled price = pos (1000 * price)

abbrev pub offer_slope : List ℤ → (zone price : ℕ) → ℤ
offer_slope prices zone price = price_in prices zone -ℤ scaled price

abbrev pub bid_slope : List ℤ → (zone price : ℕ) → ℤ
bid_slope prices zone price = scaled price -ℤ price_in prices zone

abbrev pub transfer_slope : List ℤ → (first second price : ℕ) → ℤ
transfer_slope prices first second price = scaled price +ℤ (price_in prices first -ℤ price_in prices second)
