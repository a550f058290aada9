-- The orders of an hour, a dispatch of them, the prices of a sheet, and what follows from these.
use Rattle.std.specs.Prelude.{◌≡◌, ℕ, ◌<◌, Bool, false, cond, List, [], length, ℤ, pos, ◌-ℤ◌, ◌*ℤ◌, neg_ℤ, MatchBool, ◌==◌, nat_lt, slice_index_or}
use Rattle.auction.specs.Sums.{Σ}
use Rattle.auction.specs.Limits.{WithinLimit, line_rent}
use Rattle.auction.specs.Grids.{Grid, line_count, limit_at, sensitivity_at}
use Rattle.auction.specs.Orders.{Order, Possible, ZonePrices, proceeds}

-- an order as it was entered: whose it is, and whether it still stands or was withdrawn
pub record Entry : Type 0 where
  pub house : ℕ
  pub standing : Bool
  pub order : Order

-- the lists of the orders entered in an hour; an order's number is its place in its list
abbrev pub Book : Type 0
Book = List (List Entry)

-- what is read of an order that was not entered
abbrev pub no_order : Order
no_order = record { largest = 0; worth = λ _. pos 0; injection = λ _ _. pos 0; last_zone = 0 }

abbrev pub no_entry : Entry
no_entry = record { house = 0; standing = false; order = no_order }

abbrev pub list_at : Book → ℕ → List Entry
list_at b l = slice_index_or b l []

abbrev pub entry_at : Book → ℕ → ℕ → Entry
entry_at b l n = slice_index_or (list_at b l) n no_entry

-- a dispatch gives the order with this list and number a quantity
abbrev pub Dispatch : Type 0
Dispatch = ℕ → ℕ → ℕ

-- the prices of a sheet: the reference price, in thousandths of a cent per MWh, and for each line a shadow price, in cents per MWh
pub record Prices : Type 0 where
  pub lambda : ℤ
  pub shadow : ℕ → ℕ

-- the sum, over all orders of an hour, of something that an order has at its quantity
unfoldable pub over_orders : Book → Dispatch → (Entry → ℕ → ℤ) → ℤ
over_orders b d f = Σ (length b) (λ l. Σ (length (list_at b l)) (λ n. f (entry_at b l n) (d l n)))

-- a standing order takes what is possible for it, a withdrawn one nothing
abbrev pub Takes : Entry → ℕ → Type 0
Takes e q = MatchBool e.standing (Possible e.order q) (q ≡ 0)

-- the sum of the worths, in thousandths of a cent
unfoldable pub welfare_of : Book → Dispatch → ℤ
welfare_of b d = over_orders b d (λ e q. e.order.worth q)

unfoldable pub net_injection : Book → Dispatch → ℕ → ℤ
net_injection b d z = over_orders b d (λ e q. e.order.injection q z)

-- the flow over a line, in thousandths of a kWh
unfoldable pub flow_over : Grid → Book → Dispatch → ℕ → ℤ
flow_over g b d l = Σ g.zones (λ z. sensitivity_at g l z *ℤ net_injection b d z)

unfoldable pub Balanced : Grid → Book → Dispatch → Type 0
Balanced g b d = Σ g.zones (net_injection b d) ≡ pos 0

-- the price of a zone, and 0 for one that the network lacks
unfoldable pub zone_price : Grid → Prices → ℕ → ℤ
zone_price g p z = cond (nat_lt z g.zones) (p.lambda -ℤ Σ (line_count g) (λ l. pos (p.shadow l) *ℤ sensitivity_at g l z)) (pos 0)

abbrev pub zone_prices : Grid → Prices → ZonePrices
zone_prices g p = record { zones = g.zones; at = zone_price g p }

-- each line's shadow price times its limit, in millionths of a cent
unfoldable pub exact_rent : Grid → Prices → ℤ
exact_rent g p = Σ (line_count g) (λ l. line_rent (limit_at g l) (p.shadow l))

-- the congestion rent of a sheet
abbrev pub rent_of : Grid → Book → Dispatch → Prices → ℤ
rent_of g b d p = exact_rent g p

-- what one order pays for q at the sheet's prices, in millionths of a cent
abbrev pub charge : Grid → Prices → Entry → ℕ → ℤ
charge g p e q = neg_ℤ (proceeds (zone_prices g p) e.order q)

-- what a house pays for all its orders; it is paid where this is negative
unfoldable pub amount_of : Grid → Book → Dispatch → Prices → ℕ → ℤ
amount_of g b d p house = over_orders b d (λ e q. cond (e.house == house) (charge g p e q) (pos 0))

-- every order belongs to house 0 or house 1
abbrev pub TwoHouses : Book → Type 0
TwoHouses b = (l n : ℕ) → n < length (list_at b l) → (entry_at b l n).house < 2

-- a dispatch that gives each order what is possible for it, is balanced, and keeps all flows within their limits
pub record Feasible (g : Grid) (b : Book) (d : Dispatch) : Type 0 where
  pub possible : (l n : ℕ) → n < length (list_at b l) → Takes (entry_at b l n) (d l n)
  pub balanced : Balanced g b d
  pub within : (l : ℕ) → l < line_count g → WithinLimit (limit_at g l) (flow_over g b d l)
