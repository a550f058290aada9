-- The base of a network while the block gives it.
use Rattle.std.specs.Prelude.{◌≡◌, ℕ, ◌-◌, ◌<◌, true, false, List, [], ◌∷◌, ◌++◌, length, ℤ, Ok, Err, OnErr, Result}
use Rattle.auction.specs.declared.Fault.{Fault}
use Rattle.auction.specs.declared.Fault.TheVariants.{Missing}
use Rattle.auction.specs.declared.Refusal.{Refusal}
use Rattle.auction.specs.declared.Refusal.TheVariants.{Stranger, NotNow}
use Rattle.stream.specs.declared.commands.Command.{Command}
use Rattle.stream.specs.declared.commands.Command.TheVariants as Word
use Rattle.stream.specs.Spelling.{house_of}
use Rattle.auction.specs.Refusals.{Answered, Always}
use Rattle.auction.specs.Grids.{Line}
use Rattle.auction.specs.Bounds.{most_lines}
use Rattle.network.specs.Bounds.{OfZones, NumbersInRange}
use Rattle.network.specs.Rows.{line_of}
use Rattle.tree.specs.declared.grown.Link.{Link}
use Rattle.tree.specs.Links.{link_with, zone_count, NextExists, LimitsInRange}
use Rattle.tree.specs.Trees.{links_of}
use Rattle.table.specs.Tables.{table_grid, ZonesExist}
use Rattle.block.specs.declared.phases.Phase.{Phase}
use Rattle.block.specs.declared.phases.Phase.TheVariants.{Start, Rows}
use Rattle.block.specs.declared.draft.Draft.{Draft}
use Rattle.block.specs.declared.draft.Draft.TheVariants.{Nothing, Growing, Tabled}
use Rattle.block.specs.Phases.{Strange, Tells, allowed, for_layers, links_to_come, next_phase}

-- a tree with these links, of so many zones when it is whole
abbrev pub IsTree : Draft → List Link → ℕ → Type 0
IsTree Nothing links zones = ⊥
IsTree (Growing tree whole) links zones = (links_of tree ≡ links) × (whole ≡ zones)
IsTree (Tabled table) links zones = ⊥

-- a table of so many zones with these lines
abbrev pub IsTable : Draft → ℕ → List Line → Type 0
IsTable Nothing zones lines = ⊥
IsTable (Growing tree whole) zones lines = ⊥
IsTable (Tabled table) zones lines = ((table_grid table).zones ≡ zones) × ((table_grid table).lines ≡ lines)

abbrev pub phase_of : Draft → Phase
phase_of Nothing = Start
phase_of (Growing tree zones) = links_to_come (zones - zone_count (links_of tree))
phase_of (Tabled table) = Rows

-- a link goes to a tree; where there is none, there is nothing to join
abbrev pub LinkedOn : Draft → ℕ → ℕ → ℕ → Result (Unit {0}) Fault → Draft → Type 0
LinkedOn Nothing parent up down r after = r ≡ Err Missing
LinkedOn (Growing tree zones) parent up down r after = Answered r (NextExists (links_of tree) parent) (LimitsInRange up down) Always (λ _. IsTree after (links_of tree ++ link_with parent up down ∷ []) zones) Always
LinkedOn (Tabled table) parent up down r after = r ≡ Err Missing

-- a row goes to a table
abbrev pub RowedOn : Draft → ℕ → List ℤ → Result (Unit {0}) Fault → Draft → Type 0
RowedOn Nothing limit row r after = r ≡ Err Missing
RowedOn (Growing tree zones) limit row r after = r ≡ Err Missing
RowedOn (Tabled table) limit row r after = Answered r (OfZones (table_grid table).zones row) (NumbersInRange limit row) (length (table_grid table).lines < most_lines) (λ _. IsTable after (table_grid table).zones ((table_grid table).lines ++ line_of limit row ∷ [])) Always

-- The answer to a command of the base, and the base after it: a stranger's is refused first, then one that is not allowed now; each of the four is answered by the tree or the table. An accepted command leads to the phase that follows, and a refused one leaves the base as it was.
pub record Grown (d : Draft) (c : Command) (r : Result (Unit {0}) Refusal) (after : Draft) : Type 0 where
  pub stranger : Strange (house_of c) → r ≡ Err Stranger
  pub not_now : (Strange (house_of c) → ⊥) → allowed (phase_of d) c ≡ false → r ≡ Err NotNow
  pub planted : (zones : ℕ) → c ≡ Word.Tree zones → allowed (phase_of d) c ≡ true → Tells r (λ f. Answered f (ZonesExist zones) Always Always (λ _. IsTree after [] zones) Always)
  pub laid_out : (zones : ℕ) → c ≡ Word.Table zones → allowed (phase_of d) c ≡ true → Tells r (λ f. Answered f (ZonesExist zones) Always Always (λ _. IsTable after zones []) Always)
  pub linked : (parent up down : ℕ) → c ≡ Word.Link parent up down → allowed (phase_of d) c ≡ true → Tells r (λ f. LinkedOn d parent up down f after)
  pub rowed : (limit : ℕ) (row : List ℤ) → c ≡ Word.Row limit row → allowed (phase_of d) c ≡ true → Tells r (λ f. RowedOn d limit row f after)
  pub not_the_base's : for_layers c ≡ true → allowed (phase_of d) c ≡ true → r ≡ Err NotNow
  pub follows : r ≡ Ok tt → phase_of after ≡ next_phase (phase_of d) c
  pub refused : OnErr r (after ≡ d)
