-- The lines of a list of rows: how many there are, and which stands where.
use Rattle.std.proofs.Common.{◌≡◌, ℕ, zero, suc, ◌≤◌, Bool, true, false, cond, List, [], ◌∷◌, map, length, get_or, take, ℤ, pos, nat_abs, ◌∙◌, Option, MatchOption, slice_get, subst, arith}
use Rattle.std.proofs.lemmas.List.{length-map, length-take-le}
use Rattle.auction.specs.Grids.{Line, no_line}
use Rattle.auction.specs.Bounds.{most_kwh, most_sensitivity}
use Rattle.network.specs.declared.row.Row.{Row}
use Rattle.network.specs.Rows.{row_line, lines_of}

pub lines_length : (count : ℕ) (rows : List Row) → count ≤ length rows → length (lines_of count rows) ≡ count
lines_length count rows few = length-map (take count rows) row_line ∙ length-take-le count rows few

line_at : (P : Line → Type 0) {Found : Row → Type 0} (rows : List Row) (i : ℕ) → MatchOption (slice_get rows i) (P no_line) Found → ((row : Row) → Found row → P (row_line row)) → P (get_or (map row_line rows) i no_line)
line_at P [] i holds each = holds
line_at P (row ∷ rows) zero holds each = each row holds
line_at P (row ∷ rows) (suc i) holds each = line_at P rows i holds each

-- what holds of the row that is found at an index, or of no line where none is found, holds of the line there
pub line_found : (P : Line → Type 0) {Found : Row → Type 0} (rows : List Row) (i : ℕ) (found : Option Row) → found ≡ slice_get rows i → MatchOption found (P no_line) Found → ((row : Row) → Found row → P (row_line row)) → P (get_or (map row_line rows) i no_line)
line_found P {Found} rows i found same holds each = line_at P rows i (subst (λ (row : Option Row). MatchOption row (P no_line) Found) same holds) each

-- what holds of every row's line, and of none, holds wherever a line is read
pub every_line : (P : Line → Type 0) → P no_line → ((row : Row) → P (row_line row)) → (rows : List Row) (l : ℕ) → P (get_or (map row_line rows) l no_line)
every_line P none each [] l = none
every_line P none each (row ∷ rows) zero = each row
every_line P none each (row ∷ rows) (suc l) = every_line P none each rows l

pub lines_limited : (count : ℕ) (rows : List Row) (l : ℕ) → (get_or (lines_of count rows) l no_line).limit ≤ most_kwh
lines_limited count rows = every_line (λ line. line.limit ≤ most_kwh) (omega arith) (λ row. row.limited) (take count rows)

pub lines_sensitive : (count : ℕ) (rows : List Row) (l z : ℕ) → nat_abs ((get_or (lines_of count rows) l no_line).sensitivity z) ≤ most_sensitivity
lines_sensitive count rows l z = every_line (λ line. nat_abs (line.sensitivity z) ≤ most_sensitivity) (omega arith) (λ row. row.sensitive z) (take count rows) l

-- a zone that the network lacks has the sensitivity 0
pub masked : (there : Bool) (s : ℤ) → nat_abs s ≤ most_sensitivity → nat_abs (cond there s (pos 0)) ≤ most_sensitivity
masked true s h = h
masked false s h = omega arith
