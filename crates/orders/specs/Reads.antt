-- What is read of a list of orders, and how it changes.
use Rattle.std.specs.Prelude.{◌≡◌, ℕ, zero, suc, ◌+◌, ◌<◌, ◌≤◌, false, cond, List, [], ◌∷◌, length, ℤ, pos, slice_index_or}
use Rattle.auction.specs.Bounds.{most_zones, most_orders, most_kwh}
use Rattle.auction.specs.Sums.{Σℕ}
use Rattle.auction.specs.Orders.{Order, Possible, ZonePrices, Content}
use Rattle.auction.specs.Hours.{Entry, no_entry}

-- the order with this number, and nothing where there is none
abbrev pub entry : List Entry → ℕ → Entry
entry es n = slice_index_or es n no_entry

-- a worth or an injection that is asked of a quantity: 0 for one that is not possible
pub record Answers (o : Order) (q : ℕ) (meant answer : ℤ) : Type 0 where
  pub possible : Possible o q → answer ≡ meant
  pub impossible : (Possible o q → ⊥) → answer ≡ pos 0

-- the prices in an array with a place for each zone that a network may have, 0 for those that it lacks
abbrev pub array_prices : List ℤ → ZonePrices
array_prices prices = record { zones = most_zones; at = λ z. slice_index_or prices z (pos 0) }

pub record ContentAt (es : List Entry) (n q : ℕ) (prices : List ℤ) : Type 0 where
  pub entered : n < length es
  pub content : Content (array_prices prices) (entry es n).order q

-- the kWh that a standing order may take at most
abbrev pub standing_largest : Entry → ℕ
standing_largest e = cond e.standing e.order.largest 0

-- the same of all orders of a list together
unfoldable pub standing_kwh : List Entry → ℕ
standing_kwh es = Σℕ (length es) (λ n. standing_largest (entry es n))

-- an order no longer stands
abbrev pub ended : Entry → Entry
ended e = record { house = e.house; standing = false; order = e.order }

-- a list after the withdrawal of the order with this number; the same list where there is none
abbrev pub without : List Entry → ℕ → List Entry
without [] n = []
without (e ∷ es) zero = ended e ∷ es
without (e ∷ es) (suc n) = e ∷ without es n

-- a place is left for one more order of so many kWh, where so many stand in the other lists
pub record PlaceLeft (es : List Entry) (elsewhere kWh : ℕ) : Type 0 where
  pub few_enough : length es < most_orders
  pub modest_enough : standing_kwh es + elsewhere + kWh ≤ most_kwh
