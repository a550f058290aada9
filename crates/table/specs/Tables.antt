-- The grid of a table of rows.
use Rattle.std.specs.Prelude.{ℕ, ◌≤◌}
use Rattle.auction.specs.Grids.{Grid}
use Rattle.auction.specs.Bounds.{most_zones}
use Rattle.network.specs.Rows.{lines_in}
use Rattle.table.specs.declared.sheet.Table.{Table}

abbrev pub table_grid : Table → Grid
table_grid t = record { zones = t.zones; lines = lines_in t.rows }

-- a network has at least one zone
abbrev pub ZonesExist : ℕ → Type 0
ZonesExist zones = (1 ≤ zones) × (zones ≤ most_zones)
