-- What is asked of the wish for an order with one zone, whichever its side.
use Rattle.std.specs.Prelude.{ℕ, ◌<◌}
use Rattle.auction.specs.Orders.{Order}
use Rattle.rows.specs.Bounds.{InRange}
use Rattle.kinds.specs.declared.linear.ZoneWish.{ZoneWish}

-- the order of a side, which is told by its zone, its price and its largest quantity
abbrev pub order_wished : (meant : (zone price largest : ℕ) → Order) → ZoneWish → Order
order_wished meant w = meant w.zone w.price w.quantity

-- the zone is one of so many
abbrev pub zone_found : ZoneWish → ℕ → Type 0
zone_found w zones = w.zone < zones

abbrev pub terms_fit : ZoneWish → Type 0
terms_fit w = InRange w.price w.quantity
