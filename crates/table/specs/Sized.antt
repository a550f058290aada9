-- The numbers of a table's network are within their bounds.
use Rattle.std.specs.Prelude.{ℕ, ◌≤◌, get_or, nat_lt, unsigned_abs}
use Rattle.std.proofs.Common.{arith}
use Rattle.auction.specs.Bounds.{most_zones, most_lines, most_kwh, most_sensitivity}
use Rattle.auction.specs.Grids.{no_line, line_count, limit_at, sensitivity_at}
use Rattle.network.specs.Rows.{lines_of}
use Rattle.network.proofs.Lines.{lines_length, lines_limited, lines_sensitive, masked}
use Rattle.table.specs.declared.sheet.Table.{Table}
use Rattle.table.specs.Tables.{table_grid}

pub table_zoned : (t : Table) → 1 ≤ (table_grid t).zones
table_zoned t = t.zoned

pub table_few_zones : (t : Table) → (table_grid t).zones ≤ most_zones
table_few_zones t = t.few

pub table_few_lines : (t : Table) → line_count (table_grid t) ≤ most_lines
table_few_lines t = omega (arith, lines_length t.rows.count t.rows.rows (omega arith))

pub table_limited : (t : Table) (l : ℕ) → limit_at (table_grid t) l ≤ most_kwh
table_limited t l = lines_limited t.rows.count t.rows.rows l

pub table_sensitive : (t : Table) (l z : ℕ) → unsigned_abs (sensitivity_at (table_grid t) l z) ≤ most_sensitivity
table_sensitive t l z = masked (nat_lt z t.zones) ((get_or (lines_of t.rows.count t.rows.rows) l no_line).sensitivity z) (lines_sensitive t.rows.count t.rows.rows l z)
