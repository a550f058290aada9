-- Which row a line is found at, and what is said of one more row.
use Rattle.std.specs.Prelude.{◌≡◌, ℕ, zero, suc, ◌⊎◌, map, Ok, Err, Result, MatchOption, slice_get, ◌<◌, ◌≤◌, List, [], ◌∷◌, ◌++◌, length, slice_index_or}
use Rattle.std.proofs.Common.{sym, ap, ◌∙◌, ⊎_elim, arith}
use Rattle.std.proofs.lemmas.List.{length-map, map_push, get_or_past}
use Rattle.auction.specs.Grids.{Line, Grid, no_line, line_count}
use Rattle.auction.specs.Bounds.{most_lines}
use Rattle.network.specs.declared.row.Row.{Row}
use Rattle.auction.specs.declared.Fault.{Fault}
use Rattle.auction.specs.declared.Fault.TheVariants.{Missing, OutOfRange, NoPlace}
use Rattle.auction.specs.Refusals.{Always, Answered}
use Rattle.network.specs.Rows.{row_line}
use Rattle.layers.specs.Watched.{most_watched, watched_grid, PlaceLeft}
use Rattle.layers.specs.Piled.{line_below, line_beyond, watched_more}

-- a line that is not among the watched ones is one below, or none at all
pub line_elsewhere : (below : Grid) (rows : List Line) (n l : ℕ) → n ≡ line_count below → n ≤ most_lines → (l < n) ⊎ ((n ≤ l) × (most_lines ≤ l)) → slice_index_or (watched_grid below rows).lines l no_line ≡ slice_index_or below.lines l no_line
line_elsewhere below rows n l same few elsewhere =
    ⊎_elim (λ within. line_below below rows l (omega arith) (omega arith))
    (λ beyond. line_beyond below rows l beyond.1 ∙ sym (get_or_past below.lines l no_line (omega arith)))
    elsewhere

-- what is found at an index among the rows, for a line that is none of those below
pub row_found : (rows : List Row) (i : ℕ) (line below : Line) → line ≡ slice_index_or (map row_line rows) i no_line → below ≡ no_line → MatchOption (slice_get rows i) (line ≡ below) (λ row. row_line row ≡ line)
row_found [] i line below read none = read ∙ sym none
row_found (row ∷ rows) zero line below read none = sym read
row_found (row ∷ rows) (suc i) line below read none = row_found rows i line below read none

-- so much is said of one more row, by what its list answers
pub appended : (below : Grid) (old new : List Row) (row : Row) (Same : Type 0) (answer : Result (Unit {0}) Fault) → line_count (watched_grid below (map row_line old)) < most_lines → Answered answer Always Always (length old < most_watched) (λ _. new ≡ old ++ row ∷ []) Same → Answered answer Always Always (PlaceLeft below (map row_line old)) (λ _. (watched_grid below (map row_line new)).lines ≡ (watched_grid below (map row_line old)).lines ++ row_line row ∷ []) Same
appended below old new row Same (Ok x) fits (a, b, place, more) =
    let count = length-map old row_line in
    let line = ap (λ (rows : List Row). (watched_grid below (map row_line rows)).lines) more ∙ ap (λ (lines : List Line). (watched_grid below lines).lines) (map_push row_line old row) in
    (a, b, (fits, omega arith), line ∙ watched_more below (map row_line old) (row_line row) fits)
appended below old new row Same (Err Missing) fits told = told
appended below old new row Same (Err OutOfRange) fits told = told
appended below old new row Same (Err NoPlace) fits ((a, b, full), same) =
    ((a, b, λ place. full (omega (arith, place.1, length-map old row_line))), same)
