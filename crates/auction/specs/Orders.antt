-- What an order of any kind means, and when it is content.
use Rattle.std.specs.Prelude.{◌≡◌, ℕ, ◌*◌, ◌<◌, ◌≤◌, ℤ, pos, ◌+ℤ◌, ◌*ℤ◌, ◌≤ℤ◌, unsigned_abs}
use Rattle.auction.specs.Bounds.{most_kwh, most_price, most_zone_price}
use Rattle.auction.specs.Sums.{Σ, Σℕ}

-- For each quantity of kWh an order has a worth, in thousandths of a cent, and a net injection into each zone, positive where energy is fed in.
pub record Order : Type 0 where
  pub largest : ℕ
  pub worth : ℕ → ℤ
  pub injection : ℕ → ℕ → ℤ
  pub last_zone : ℕ

-- which quantities an order may take
abbrev pub Possible : Order → ℕ → Type 0
Possible o q = q ≤ o.largest

-- What every kind of order owes. Its last zone is the one that it names; a kind is free to name a higher one than it feeds or takes from.
pub record Sound (o : Order) : Type 0 where
  pub largest_positive : 0 < o.largest
  pub largest_in_range : o.largest ≤ most_kwh
  pub nothing_is_worth_nothing : o.worth 0 ≡ pos 0
  pub nothing_feeds_nothing : (z : ℕ) → o.injection 0 z ≡ pos 0
  pub worth_in_range : (q : ℕ) → Possible o q → unsigned_abs (o.worth q) ≤ most_price * q
  pub injections_in_range : (q n : ℕ) → Possible o q → Σℕ n (λ z. unsigned_abs (o.injection q z)) ≤ 2 * q
  pub none_beyond_last : (q z : ℕ) → o.last_zone < z → o.injection q z ≡ pos 0

-- What an order is faced with: how many zones there are, and the price in each, in thousandths of a cent per MWh.
pub record ZonePrices : Type 0 where
  pub zones : ℕ
  pub at : ℕ → ℤ

abbrev pub ZonePriceInRange : ℤ → Type 0
ZonePriceInRange price = unsigned_abs price ≤ most_zone_price

-- what its injections of q are paid at the zone prices, in millionths of a cent
abbrev pub proceeds : ZonePrices → Order → ℕ → ℤ
proceeds r o q = Σ r.zones (λ z. r.at z *ℤ o.injection q z)

-- the worth of q in the unit in which it is paid, millionths of a cent; that unit goes with the prices
abbrev pub worth_in_money : ZonePrices → Order → ℕ → ℤ
worth_in_money r o q = pos 1000 *ℤ o.worth q

abbrev pub gain : ZonePrices → Order → ℕ → ℤ
gain r o q = worth_in_money r o q +ℤ proceeds r o q

-- content with q: it is possible, and no other possible quantity gains more
pub record Content (r : ZonePrices) (o : Order) (q : ℕ) : Type 0 where
  pub possible : Possible o q
  pub best : (other : ℕ) → Possible o other → gain r o other ≤ℤ gain r o q
