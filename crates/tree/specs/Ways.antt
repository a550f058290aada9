-- Which way a line of a tree leads.
use Rattle.std.specs.Prelude.{◌≡◌, ℕ, ◌<◌, List, slice_index_or}
use Rattle.auction.specs.Grids.{no_line}
use Rattle.tree.specs.declared.grown.Link.{Link}
use Rattle.tree.specs.declared.lines.Way.{Way}
use Rattle.tree.specs.declared.lines.Way.TheVariants.{ToParent, ToChild}
use Rattle.tree.specs.Links.{zone_count}
use Rattle.tree.specs.Trees.{line_to_parent, line_to_child, tree_lines}

abbrev pub Leads : List Link → ℕ → Way → Type 0
Leads links line (ToParent child) = (0 < child) × (child < zone_count links) × (slice_index_or (tree_lines links) line no_line ≡ line_to_parent links child)
Leads links line (ToChild child) = (0 < child) × (child < zone_count links) × (slice_index_or (tree_lines links) line no_line ≡ line_to_child links child)
