-- The lines that rows describe.
use Rattle.std.specs.Prelude.{◌≡◌, ℕ, List, map, take, ℤ, pos, slice_index_or}
use Rattle.auction.specs.Grids.{Line}
use Rattle.filled.specs.declared.list.Filled.{Filled}
use Rattle.filled.specs.Lists.{kept}
use Rattle.network.specs.declared.row.Row.{Row}

abbrev pub line_of : ℕ → List ℤ → Line
line_of limit sensitivities = record { limit = limit; sensitivity = λ z. slice_index_or sensitivities z (pos 0) }

abbrev pub row_line : Row → Line
row_line row = line_of row.limit row.sensitivities

-- of as many of the rows as are counted
abbrev pub lines_of : ℕ → List Row → List Line
lines_of count rows = map row_line (take count rows)

abbrev pub lines_in : {places : ℕ} → Filled Row places → List Line
lines_in list = map row_line (kept list)

-- the same limit, and for each zone the same sensitivity
abbrev pub SameLine : Line → Line → Type 0
SameLine one other = (one.limit ≡ other.limit) × ((z : ℕ) → one.sensitivity z ≡ other.sensitivity z)
