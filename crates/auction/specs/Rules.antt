-- The rules of a sheet, each at each of its places, in their order.
use Rattle.std.specs.Prelude.{◌≡◌, ◌<◌, true, length}
use Rattle.auction.specs.declared.Broken.{Broken}
use Rattle.auction.specs.declared.Broken.TheVariants.{Quantity, Balance, Flow, ZonePrice, Binding, Contentment}
use Rattle.auction.specs.Refusals.{broken_number, broken_place}
use Rattle.auction.specs.Limits.{WithinLimit, Binds}
use Rattle.auction.specs.Grids.{Grid, line_count, limit_at}
use Rattle.auction.specs.Orders.{Content, ZonePriceInRange}
use Rattle.auction.specs.Hours.{Book, Dispatch, Prices, list_at, entry_at, Takes, Balanced, flow_over, zone_price, zone_prices}

-- what a rule asks at a place: at an order (by list and number), at a line or at a zone
abbrev pub Met : Grid → Book → Dispatch → Prices → Broken → Type 0
Met g b d p (Quantity l n) = n < length (list_at b l) → Takes (entry_at b l n) (d l n)
Met g b d p Balance = Balanced g b d
Met g b d p (Flow l) = l < line_count g → WithinLimit (limit_at g l) (flow_over g b d l)
Met g b d p (ZonePrice z) = z < g.zones → ZonePriceInRange (zone_price g p z)
Met g b d p (Binding l) = l < line_count g → Binds (limit_at g l) (p.shadow l) (flow_over g b d l)
Met g b d p (Contentment l n) = n < length (list_at b l) → (entry_at b l n).standing ≡ true → Content (zone_prices g p) (entry_at b l n).order (d l n)

-- a sheet that breaks no rule
abbrev pub Accepted : Grid → Book → Dispatch → Prices → Type 0
Accepted g b d p = (rule : Broken) → Met g b d p rule

-- the first rule broken, at its first place
pub record FirstBroken (g : Grid) (b : Book) (d : Dispatch) (p : Prices) (x : Broken) : Type 0 where
  pub broken : Met g b d p x → ⊥
  pub rules_before : (y : Broken) → broken_number y < broken_number x → Met g b d p y
  pub places_before : (y : Broken) → broken_number y ≡ broken_number x → (broken_place y).0 < (broken_place x).0 → Met g b d p y
  pub there_before : (y : Broken) → broken_number y ≡ broken_number x → (broken_place y).0 ≡ (broken_place x).0 → (broken_place y).1 < (broken_place x).1 → Met g b d p y
