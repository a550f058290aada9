-- The entries that rows mean, once it is said which order the numbers of a row mean.
use Rattle.std.specs.Prelude.{◌≡◌, ℕ, ◌<◌, ◌≤◌, List, map, length}
use Rattle.auction.specs.Orders.{Order}
use Rattle.auction.specs.Hours.{Entry, no_entry}
use Rattle.auction.specs.Houses.{house_number}
use Rattle.rows.specs.declared.row.Row.{Row}
use Rattle.rows.specs.declared.table.Rows.{Rows}
use Rattle.rows.specs.Rows.{Ranged, used}
use Rattle.orders.specs.Reads.{entry}

-- the order of a kind with these zones, this price and this quantity
abbrev pub ByNumbers : Type 0
ByNumbers = (first second price quantity : ℕ) → Order

abbrev pub order_by : ByNumbers → Row → Order
order_by meant r = meant r.first r.second r.price r.quantity

abbrev pub entry_by : ByNumbers → Row → Entry
entry_by meant r = record { house = house_number r.house; standing = r.standing; order = order_by meant r }

abbrev pub entries_by : ByNumbers → Rows → List Entry
entries_by meant rs = map (entry_by meant) (used rs)

-- no order was entered with this number
pub record NoneEntered (es : List Entry) (n : ℕ) : Type 0 where
  pub past : length es ≤ n
  pub nothing : entry es n ≡ no_entry

-- the order with this number was entered by a row, whose numbers are in range
pub record RowEntered (meant : ByNumbers) (es : List Entry) (n : ℕ) (r : Row) : Type 0 where
  pub there : n < length es
  pub ranged : Ranged r
  pub means : entry es n ≡ entry_by meant r
