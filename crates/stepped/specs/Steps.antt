-- A bid in two steps: the first half of its largest quantity is wanted at its price, the rest at half of that price.
use Rattle.std.specs.Prelude.{ℕ, ◌+◌, ◌-◌, ◌*◌, ◌/◌, ◌<◌, ◌≤◌, min, ℤ, pos, neg_ℤ, ◌≤ℤ◌}
use Rattle.auction.specs.Orders.{Order}
use Rattle.kinds.specs.Kinds.{into}

-- what q is worth where the first kWh, up to a step, have a high price and the rest a low one
abbrev pub in_steps : (step high low q : ℕ) → ℕ
in_steps step high low q = high * min q step + low * (q - step)

abbrev pub stepped : (zone price largest : ℕ) → Order
stepped zone price largest = record { largest = largest; worth = λ q. pos (in_steps (largest / 2) price (price / 2) q); injection = λ q z. neg_ℤ (into zone q z); last_zone = zone }

-- a kWh of the first step gains high, one beyond it low
pub record ContentInSteps (step largest q : ℕ) (high low : ℤ) : Type 0 where
  pub possible : q ≤ largest
  pub some : 0 < q → pos 0 ≤ℤ high
  pub more : step < q → pos 0 ≤ℤ low
  pub few : q < step → high ≤ℤ pos 0
  pub not_all : q < largest → low ≤ℤ pos 0
