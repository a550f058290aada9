-- What offers, bids and transfers mean.
use Rattle.std.specs.Prelude.{◌≡◌, ℕ, ◌*◌, ◌<◌, max, cond, ℤ, pos, ◌-ℤ◌, neg_ℤ, ◌==◌}
use Rattle.auction.specs.Orders.{Order}

-- q kWh fed into one zone: what that is of each zone z
abbrev pub into : (zone q z : ℕ) → ℤ
into zone q z = cond (z == zone) (pos q) (pos 0)

-- energy offered in a zone at a price
abbrev pub offer : (zone price largest : ℕ) → Order
offer zone price largest = record { largest = largest; worth = λ q. neg_ℤ (pos (price * q)); injection = λ q z. into zone q z; last_zone = zone }

-- energy wanted in a zone at a price
abbrev pub bid : (zone price largest : ℕ) → Order
bid zone price largest = record { largest = largest; worth = λ q. pos (price * q); injection = λ q z. neg_ℤ (into zone q z); last_zone = zone }

-- energy fed into the first zone and taken from the second, where a price is paid for doing so
abbrev pub transfer : (first second price largest : ℕ) → Order
transfer first second price largest = record { largest = largest; worth = λ q. pos (price * q); injection = λ q z. into first q z -ℤ into second q z; last_zone = max first second }

-- the zones of a transfer are there, and differ
pub record TwoZones (first second zones : ℕ) : Type 0 where
  pub there : max first second < zones
  pub apart : first ≡ second → ⊥
