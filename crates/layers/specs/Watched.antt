-- A network with further lines that are watched.
use Rattle.std.specs.Prelude.{ℕ, ◌<◌, List, ◌++◌, length, take}
use Rattle.auction.specs.Grids.{Line, Grid, line_count}
use Rattle.auction.specs.Bounds.{most_lines, most_monitored}

-- a layer watches at most so many lines of its own
abbrev pub most_watched : ℕ
most_watched = most_monitored

-- the lines below, and after them the watched ones, as many as a network may have
abbrev pub watched_grid : Grid → List Line → Grid
watched_grid below watched = record { zones = below.zones; lines = take most_lines (below.lines ++ watched) }

-- for one more watched line
abbrev pub PlaceLeft : Grid → List Line → Type 0
PlaceLeft below watched = (line_count (watched_grid below watched) < most_lines) × (length watched < most_watched)
