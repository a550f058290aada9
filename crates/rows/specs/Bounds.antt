-- The ranges of an order's price and quantity.
use Rattle.std.specs.Prelude.{ℕ, ◌<◌, ◌≤◌}
pub use Rattle.auction.specs.Bounds.{most_price, most_kwh, most_orders}

pub record InRange (price quantity : ℕ) : Type 0 where
  pub price_in_range : price ≤ most_price
  pub some : 0 < quantity
  pub quantity_in_range : quantity ≤ most_kwh
