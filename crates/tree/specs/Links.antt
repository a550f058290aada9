-- The links of a tree of zones: the link of zone c, which is not 0, stands at c - 1, and names the parent of c.
use Rattle.std.specs.Prelude.{ℕ, ◌+◌, ◌-◌, ◌<◌, ◌≤◌, List, length, slice_index_or}
use Rattle.auction.specs.Bounds.{most_zones, most_kwh}
use Rattle.tree.specs.declared.grown.Link.{Link}

-- one for each zone but zone 0
abbrev pub most_links : ℕ
most_links = most_zones - 1

abbrev pub link_with : ℕ → ℕ → ℕ → Link
link_with parent to_parent to_child = record { parent = parent; to_parent = to_parent; to_child = to_child }

-- what is read of a link that is not there
abbrev pub no_link : Link
no_link = link_with 0 0 0

abbrev pub link_of : List Link → ℕ → Link
link_of links c = slice_index_or links (c - 1) no_link

abbrev pub zone_count : List Link → ℕ
zone_count links = length links + 1

-- the next zone, and its parent among the zones before it
abbrev pub NextExists : List Link → ℕ → Type 0
NextExists links parent = (zone_count links < most_zones) × (parent < zone_count links)

abbrev pub LimitsInRange : ℕ → ℕ → Type 0
LimitsInRange to_parent to_child = (to_parent ≤ most_kwh) × (to_child ≤ most_kwh)

-- the way from a zone to zone 0 passes c
pub data Descends (links : List Link) (c : ℕ) : ℕ → Type 0 where
  here : Descends links c c
  from : (z : ℕ) → 0 < z → Descends links c (link_of links z).parent → Descends links c z
