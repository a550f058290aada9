-- The grid of a tree of zones.
use Rattle.std.specs.Prelude.{◌≡◌, ℕ, zero, suc, ◌+◌, ◌-◌, ◌*◌, ◌/◌, ◌%◌, ◌<◌, Bool, true, false, cond, List, map, length, ℤ, pos, neg_ℤ, ◌==◌}
use Rattle.std.specs.List.{range_with_len}
use Rattle.auction.specs.Grids.{Line, Grid, line_count, limit_at, sensitivity_at}
use Rattle.filled.specs.Lists.{kept}
use Rattle.tree.specs.declared.grown.Link.{Link}
use Rattle.tree.specs.declared.grown.Tree.{Tree}
use Rattle.tree.specs.Links.{link_of, zone_count, Descends}

abbrev pub links_of : Tree → List Link
links_of t = kept t.links

-- does the way from zone z to zone 0 pass c? At most so many steps are made.
unfoldable pub passes : ℕ → List Link → ℕ → ℕ → Bool
passes zero links c z = z == c
passes (suc steps) links c z = cond (z == c) true (cond (z == 0) false (passes steps links c (link_of links z).parent))

-- of the line from c to its parent; from zone z there are at most z steps to zone 0
unfoldable pub share : List Link → ℕ → ℕ → ℤ
share links c z = cond (passes z links c z) (pos 1000) (pos 0)

abbrev pub line_to_parent : List Link → ℕ → Line
line_to_parent links c = record { limit = (link_of links c).to_parent; sensitivity = share links c }

abbrev pub line_to_child : List Link → ℕ → Line
line_to_child links c = record { limit = (link_of links c).to_child; sensitivity = λ z. neg_ℤ (share links c z) }

unfoldable pub tree_line : List Link → ℕ → Line
tree_line links l = cond (l % 2 == 0) (line_to_parent links (l / 2 + 1)) (line_to_child links (l / 2 + 1))

unfoldable pub tree_lines : List Link → List Line
tree_lines links = map (tree_line links) (range_with_len 0 (2 * length links))

abbrev pub tree_grid : List Link → Grid
tree_grid links = record { zones = zone_count links; lines = tree_lines links }

-- The network that a tree means: zone c, which is not 0, gives line 2(c - 1), from c to its parent, and the next line, the other way.
pub record TreeShaped (links : List Link) (g : Grid) : Type 0 where
  pub zones : g.zones ≡ zone_count links
  pub lines : line_count g ≡ 2 * (zone_count links - 1)
  pub limit_to_parent : (c : ℕ) → 0 < c → c < zone_count links → limit_at g (2 * (c - 1)) ≡ (link_of links c).to_parent
  pub limit_to_child : (c : ℕ) → 0 < c → c < zone_count links → limit_at g (2 * (c - 1) + 1) ≡ (link_of links c).to_child
  pub below_to_parent : (c z : ℕ) → 0 < c → c < zone_count links → z < zone_count links → Descends links c z → sensitivity_at g (2 * (c - 1)) z ≡ pos 1000
  pub below_to_child : (c z : ℕ) → 0 < c → c < zone_count links → z < zone_count links → Descends links c z → sensitivity_at g (2 * (c - 1) + 1) z ≡ neg_ℤ (pos 1000)
  pub elsewhere_to_parent : (c z : ℕ) → 0 < c → c < zone_count links → z < zone_count links → (Descends links c z → ⊥) → sensitivity_at g (2 * (c - 1)) z ≡ pos 0
  pub elsewhere_to_child : (c z : ℕ) → 0 < c → c < zone_count links → z < zone_count links → (Descends links c z → ⊥) → sensitivity_at g (2 * (c - 1) + 1) z ≡ pos 0

-- a tree's grid is the network that the tree means
abbrev pub Shaped : Tree → Type 0
Shaped t = TreeShaped (links_of t) (tree_grid (links_of t))
