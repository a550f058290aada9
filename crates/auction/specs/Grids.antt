-- A power network as the auction sees it: zones, numbered from 0, and lines, numbered from 0.
use Rattle.std.specs.Prelude.{ℕ, cond, List, length, ℤ, pos, nat_lt, slice_index_or}
use Rattle.auction.specs.Limits.{Limit, zero_limit}

-- A line has a limit, and for each zone a sensitivity: of each kWh fed into that zone, so many thousandths flow over the line.
pub record Line : Type 0 where
  pub limit : Limit
  pub sensitivity : ℕ → ℤ

pub record Grid : Type 0 where
  pub zones : ℕ
  pub lines : List Line

-- what is read of a line that is not there
abbrev pub no_line : Line
no_line = record { limit = zero_limit; sensitivity = λ _. pos 0 }

abbrev pub line_count : Grid → ℕ
line_count g = length g.lines

abbrev pub limit_at : Grid → ℕ → Limit
limit_at g l = (slice_index_or g.lines l no_line).limit

-- 0 for a zone or a line that the network lacks
abbrev pub sensitivity_at : Grid → ℕ → ℕ → ℤ
sensitivity_at g l z = cond (nat_lt z g.zones) ((slice_index_or g.lines l no_line).sensitivity z) (pos 0)
