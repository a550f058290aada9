-- Which line stands where in a network with watched lines.
use Rattle.std.specs.Prelude.{◌≡◌, ℕ, ◌+◌, ◌-◌, ◌<◌, ◌≤◌, min, cond, List, [], ◌∷◌, ◌++◌, length, get_or, take, pos, nat_lt, slice_index_or, unsigned_abs, refl}
use Rattle.std.proofs.Common.{sym, ap, subst, ◌∙◌, ⊎_elim, append_assoc, arith}
use Rattle.std.proofs.lemmas.List.{length-take, length-append, get_or-take, get_or_past, get_or_append_left, get_or-append_right, take_all, append-nil}
use Rattle.std.proofs.lemmas.Bool.{cases_lt}
use Rattle.auction.specs.Grids.{Line, Grid, no_line, line_count, limit_at, sensitivity_at}
use Rattle.auction.specs.Bounds.{most_lines, most_kwh, most_sensitivity}
use Rattle.network.specs.declared.row.Row.{Row}
use Rattle.network.specs.Rows.{lines_of}
use Rattle.network.proofs.Lines.{lines_limited, lines_sensitive, masked}
use Rattle.layers.specs.Watched.{watched_grid}

pub watched_count : (below : Grid) (rows : List Line) → line_count (watched_grid below rows) ≡ min most_lines (line_count below + length rows)
watched_count below rows = length-take most_lines (below.lines ++ rows) ∙ ap (min most_lines) (length-append below.lines rows)

pub line_below : (below : Grid) (rows : List Line) (l : ℕ) → line_count below ≤ most_lines → l < line_count below → slice_index_or (watched_grid below rows).lines l no_line ≡ slice_index_or below.lines l no_line
line_below below rows l few within =
    get_or-take most_lines (below.lines ++ rows) l no_line (omega arith) ∙ get_or_append_left below.lines rows no_line l within

pub line_beyond : (below : Grid) (rows : List Line) (l : ℕ) → most_lines ≤ l → slice_index_or (watched_grid below rows).lines l no_line ≡ no_line
line_beyond below rows l beyond = get_or_past (watched_grid below rows).lines l no_line (omega (arith, watched_count below rows))

-- n is the number of lines below, as a program has it in a variable
pub line_watched : (below : Grid) (rows : List Line) (n l : ℕ) → n ≡ line_count below → n ≤ l → l < most_lines → slice_index_or (watched_grid below rows).lines l no_line ≡ slice_index_or rows (l - n) no_line
line_watched below rows n l same past within =
    get_or-take most_lines (below.lines ++ rows) l no_line within ∙ get_or-append_right below.lines rows n l no_line (sym same) past

-- what holds of every line below, of every watched line and of none
pub every_line : (P : Line → Type 0) (below : Grid) (rows : List Line) → P no_line → ((l : ℕ) → P (slice_index_or below.lines l no_line)) → ((l : ℕ) → P (slice_index_or rows l no_line)) → line_count below ≤ most_lines → (l : ℕ) → P (slice_index_or (watched_grid below rows).lines l no_line)
every_line P below rows none each own few l =
    ⊎_elim
    (λ within. subst P (sym (line_below below rows l few within)) (each l))
    (λ past.
    ⊎_elim
    (λ within. subst P (sym (line_watched below rows (line_count below) l refl past within)) (own (l - line_count below)))
    (λ beyond. subst P (sym (line_beyond below rows l beyond)) none)
    (cases_lt l most_lines))
    (cases_lt l (line_count below))

-- one more watched line, where there is a place for it
pub watched_more : (below : Grid) (rows : List Line) (line : Line) → line_count (watched_grid below rows) < most_lines → (watched_grid below (rows ++ line ∷ [])).lines ≡ (watched_grid below rows).lines ++ line ∷ []
watched_more below rows line place =
    let xs = below.lines ++ rows in
    let n = length-append below.lines rows in
    let m = watched_count below rows in
    ap (take most_lines) (sym (append_assoc below.lines rows (line ∷ [])))
    ∙ take_all most_lines (xs ++ line ∷ []) (omega (arith, n, m, length-append xs (line ∷ [])))
    ∙ sym (ap (λ ys. ys ++ line ∷ []) (take_all most_lines xs (omega (arith, n, m))))

pub watched_none : (below : Grid) (rows : List Line) → rows ≡ [] → line_count below ≤ most_lines → (watched_grid below rows).lines ≡ below.lines
watched_none below rows none few =
    ap (λ (ls : List Line). take most_lines (below.lines ++ ls)) none ∙ ap (take most_lines) (append-nil below.lines) ∙ take_all most_lines below.lines few

-- the numbers of a network with watched lines are within their bounds, as those below are
pub watched_few_lines : (below : Grid) (rows : List Line) → line_count (watched_grid below rows) ≤ most_lines
watched_few_lines below rows = omega (arith, watched_count below rows)

pub watched_limited : (below : Grid) (count : ℕ) (rows : List Row) → line_count below ≤ most_lines → ((l : ℕ) → limit_at below l ≤ most_kwh) → (l : ℕ) → limit_at (watched_grid below (lines_of count rows)) l ≤ most_kwh
watched_limited below count rows few limited =
    every_line (λ line. line.limit ≤ most_kwh) below (lines_of count rows) (omega arith) limited (lines_limited count rows) few

pub watched_sensitive : (below : Grid) (count : ℕ) (rows : List Row) → line_count below ≤ most_lines → ((l z : ℕ) → unsigned_abs (sensitivity_at below l z) ≤ most_sensitivity) → (l z : ℕ) → unsigned_abs (sensitivity_at (watched_grid below (lines_of count rows)) l z) ≤ most_sensitivity
watched_sensitive below count rows few sensitive l z =
    every_line (λ line. unsigned_abs (cond (nat_lt z below.zones) (line.sensitivity z) (pos 0)) ≤ most_sensitivity) below (lines_of count rows)
    (masked (nat_lt z below.zones) (pos 0) (omega arith))
    (λ k. sensitive k z)
    (λ k. masked (nat_lt z below.zones) ((get_or (lines_of count rows) k no_line).sensitivity z) (lines_sensitive count rows k z))
    few
    l
