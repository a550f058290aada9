-- What is read of rows, and how they change.
use Rattle.std.specs.Prelude.{ℕ, zero, suc, ◌+◌, ◌<◌, ◌≤◌, Bool, true, false, List, [], ◌∷◌, length, Option, slice_get}
use Rattle.rows.specs.declared.row.Row.{Row}
use Rattle.rows.specs.declared.table.Rows.{Rows}
use Rattle.filled.specs.Lists.{kept}
use Rattle.auction.specs.Bounds.{most_orders, most_kwh}
pub use Rattle.rows.specs.Kwh.{Ranged}
use Rattle.rows.specs.Kwh.{rows_kwh}

-- the rows that are in use
abbrev pub used : Rows → List Row
used rs = kept rs.rows

-- the row with this number, if there is one
abbrev pub row_at : List Row → ℕ → Option Row
row_at rs n = slice_get rs n

-- a row that stands, or no longer does
abbrev pub standing_so : Bool → Row → Row
standing_so standing r = record { house = r.house; standing = standing; first = r.first; second = r.second; price = r.price; quantity = r.quantity }

-- a row as it is entered
abbrev pub entered : Row → Row
entered r = standing_so true r

abbrev pub withdrawn : Row → Row
withdrawn r = standing_so false r

-- the rows after the withdrawal of the one with this number; the same rows where there is none
abbrev pub rows_without : List Row → ℕ → List Row
rows_without [] n = []
rows_without (r ∷ rs) zero = withdrawn r ∷ rs
rows_without (r ∷ rs) (suc n) = r ∷ rows_without rs n

-- room for one more order of so many kWh, where so many stand in other lists
pub record Room (rs : List Row) (elsewhere kWh : ℕ) : Type 0 where
  pub few_enough : length rs < most_orders
  pub modest_enough : rows_kwh rs + elsewhere + kWh ≤ most_kwh
