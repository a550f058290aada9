-- The range of a row, and the kWh of rows.
use Rattle.std.specs.Prelude.{ℕ, ◌+◌, false, cond, List, [], ◌∷◌}
use Rattle.auction.specs.declared.House.TheVariants.{Zero}
use Rattle.rows.specs.declared.row.Row.{Row}
use Rattle.rows.specs.Bounds.{InRange}

-- what is read where there is no row
abbrev pub no_row : Row
no_row = record { house = Zero; standing = false; first = 0; second = 0; price = 0; quantity = 0 }

-- its price and quantity are those of an order
abbrev pub Ranged : Row → Type 0
Ranged r = InRange r.price r.quantity

-- the kWh that the order of a row may take at most, if it stands
abbrev pub row_kwh : Row → ℕ
row_kwh r = cond r.standing r.quantity 0

-- the same of all rows together
abbrev pub rows_kwh : List Row → ℕ
rows_kwh [] = 0
rows_kwh (r ∷ rs) = row_kwh r + rows_kwh rs
