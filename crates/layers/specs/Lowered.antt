-- A network of which some capacity is held back.
use Rattle.std.specs.Prelude.{◌≡◌, ℕ, List, [], ◌∷◌, ◌≢◌}
use Rattle.auction.specs.Limits.{lowered}
use Rattle.auction.specs.Grids.{Line, Grid, line_count, limit_at, sensitivity_at}

-- each line has its limit less the amount, and nothing where the amount is larger; the first amount is for the first line
unfoldable pub lowered_lines : List Line → List ℕ → List Line
lowered_lines [] amounts = []
lowered_lines (line ∷ lines) [] = line ∷ lines
lowered_lines (line ∷ lines) (amount ∷ amounts) = record { limit = lowered line.limit amount; sensitivity = line.sensitivity } ∷ lowered_lines lines amounts

abbrev pub lowered_grid : Grid → List ℕ → Grid
lowered_grid below amounts = record { zones = below.zones; lines = lowered_lines below.lines amounts }

-- That so much is now held back of this line: its limit is that below less the amount, and all else is as it was.
pub record Holds (below before after : Grid) (line kwh : ℕ) : Type 0 where
  pub zones : after.zones ≡ before.zones
  pub lines : line_count after ≡ line_count before
  pub lowers : limit_at after line ≡ lowered (limit_at below line) kwh
  pub others : (l : ℕ) → (l ≢ line) → limit_at after l ≡ limit_at before l
  pub sensitivities : (l z : ℕ) → sensitivity_at after l z ≡ sensitivity_at before l z

-- that nothing is held back
pub record HoldsNothing (below after : Grid) : Type 0 where
  pub zones : after.zones ≡ below.zones
  pub lines : line_count after ≡ line_count below
  pub limits : (l : ℕ) → limit_at after l ≡ limit_at below l
  pub sensitivities : (l z : ℕ) → sensitivity_at after l z ≡ sensitivity_at below l z
