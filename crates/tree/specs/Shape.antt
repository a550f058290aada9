-- The grid of a tree is the network that the tree means.
use Rattle.std.specs.Prelude.{◌≡◌, ℕ, ◌+◌, ◌-◌, ◌*◌, ◌/◌, ◌%◌, ◌<◌, ◌≤◌, true, false, List, length, get_or, take, set, pos, neg_ℤ, ◌≢◌, nat_eq, nat_lt, slice_index_or, slice_set, unsigned_abs, refl}
use Rattle.std.proofs.Common.{sym, ap, subst, ◌∙◌, ⊎_elim, arith, eq-eqb}
use Rattle.std.proofs.lemmas.List.FromFn.{length-map-range_with_len, get_or-map-range_with_len}
use Rattle.std.proofs.lemmas.List.{get_or_past, get_or-take, get_or-set_same, get_or-set_other, length-take-le}
use Rattle.std.proofs.lemmas.Bool.{cases_lt, cases_eq}
use Rattle.std.proofs.lemmas.Bool.Decides.{nat_tests}
use Rattle.std.proofs.lemmas.Int.{ints}
use Rattle.auction.specs.Bounds.{most_zones, most_lines, most_kwh}
use Rattle.auction.specs.Grids.{Line, no_line, line_count, limit_at, sensitivity_at}
use Rattle.tree.specs.declared.grown.Link.{Link}
use Rattle.tree.specs.declared.grown.Tree.{Tree}
use Rattle.tree.specs.Links.{most_links, no_link, zone_count, Descends}
use Rattle.tree.specs.Trees.{links_of, share, line_to_parent, line_to_child, tree_line, tree_lines, tree_grid, TreeShaped, Shaped}
use Rattle.tree.specs.Descent.{Rooted, rooted_take, share_below, share_elsewhere, share_in_range}

pub lines_is : (links : List Link) → line_count (tree_grid links) ≡ 2 * length links
unfolding tree_lines
lines_is links = length-map-range_with_len (tree_line links) 0 (2 * length links)

pub line_within : (links : List Link) (l : ℕ) → l < 2 * length links → slice_index_or (tree_grid links).lines l no_line ≡ tree_line links l
unfolding tree_lines
line_within links l within = get_or-map-range_with_len (tree_line links) 0 (2 * length links) l l no_line within (omega arith)

pub line_past : (links : List Link) (l : ℕ) → 2 * length links ≤ l → slice_index_or (tree_grid links).lines l no_line ≡ no_line
line_past links l past = get_or_past (tree_grid links).lines l no_line (omega (arith, lines_is links))

even_line : (links : List Link) (l : ℕ) → l % 2 ≡ 0 → tree_line links l ≡ line_to_parent links (l / 2 + 1)
unfolding tree_line
even_line links l even = rw (eq-eqb (l % 2) 0 even) refl

odd_line : (links : List Link) (l : ℕ) → (l % 2 ≢ 0) → tree_line links l ≡ line_to_child links (l / 2 + 1)
unfolding tree_line
odd_line links l odd = let e : nat_eq (l % 2) 0 ≡ false = grind (arith, nat_tests) in rw e refl

-- the line from zone c to its parent, and the line the other way, as they stand in the list
pub parent_line : (links : List Link) (c l : ℕ) → l < 2 * length links → l % 2 ≡ 0 → l / 2 + 1 ≡ c → slice_index_or (tree_grid links).lines l no_line ≡ line_to_parent links c
parent_line links c l within even e = line_within links l within ∙ even_line links l even ∙ ap (line_to_parent links) e

pub child_line : (links : List Link) (c l : ℕ) → l < 2 * length links → (l % 2 ≢ 0) → l / 2 + 1 ≡ c → slice_index_or (tree_grid links).lines l no_line ≡ line_to_child links c
child_line links c l within odd e = line_within links l within ∙ odd_line links l odd ∙ ap (line_to_child links) e

pub zone_within : (links : List Link) (l z : ℕ) → z < zone_count links → sensitivity_at (tree_grid links) l z ≡ (get_or (tree_grid links).lines l no_line).sensitivity z
zone_within links l z within = let e : nat_lt z (tree_grid links).zones ≡ true = grind (arith, nat_tests) in rw e refl

pub zone_past : (links : List Link) (l z : ℕ) → zone_count links ≤ z → sensitivity_at (tree_grid links) l z ≡ pos 0
zone_past links l z past = let e : nat_lt z (tree_grid links).zones ≡ false = grind (arith, nat_tests) in rw e refl

pub share_to_parent : (links : List Link) (c l z : ℕ) → z < zone_count links → l < 2 * length links → l % 2 ≡ 0 → l / 2 + 1 ≡ c → sensitivity_at (tree_grid links) l z ≡ share links c z
share_to_parent links c l z zone within even e = zone_within links l z zone ∙ ap (λ (line : Line). line.sensitivity z) (parent_line links c l within even e)

pub share_to_child : (links : List Link) (c l z : ℕ) → z < zone_count links → l < 2 * length links → (l % 2 ≢ 0) → l / 2 + 1 ≡ c → sensitivity_at (tree_grid links) l z ≡ neg_ℤ (share links c z)
share_to_child links c l z zone within odd e = zone_within links l z zone ∙ ap (λ (line : Line). line.sensitivity z) (child_line links c l within odd e)

pub no_line_past : (links : List Link) (l z : ℕ) → 2 * length links ≤ l → sensitivity_at (tree_grid links) l z ≡ pos 0
no_line_past links l z past =
    ⊎_elim (λ within. zone_within links l z within ∙ ap (λ (line : Line). line.sensitivity z) (line_past links l past)) (zone_past links l z) (cases_lt z (zone_count links))

pub nothing_elsewhere : (links : List Link) (l z : ℕ) → (Descends links (l / 2 + 1) z → ⊥) → sensitivity_at (tree_grid links) l z ≡ pos 0
nothing_elsewhere links l z none =
    ⊎_elim
    (λ within.
    ⊎_elim
    (λ zone.
    ⊎_elim
    (λ even. share_to_parent links (l / 2 + 1) l z zone within even refl ∙ share_elsewhere links (l / 2 + 1) z none)
    (λ odd. share_to_child links (l / 2 + 1) l z zone within odd refl ∙ ap neg_ℤ (share_elsewhere links (l / 2 + 1) z none))
    (cases_eq (l % 2) 0))
    (zone_past links l z)
    (cases_lt z (zone_count links)))
    (no_line_past links l z)
    (cases_lt l (2 * length links))

pub sensitivity_in_range : (links : List Link) (l z : ℕ) → unsigned_abs (sensitivity_at (tree_grid links) l z) ≤ 1000
sensitivity_in_range links l z =
    let c = l / 2 + 1 in
    ⊎_elim
    (λ within.
    ⊎_elim
    (λ zone.
    ⊎_elim
    (λ even. rw (share_to_parent links c l z zone within even refl) (share_in_range links c z))
    (λ odd. rw (share_to_child links c l z zone within odd refl) (omega (arith, ints, share_in_range links c z)))
    (cases_eq (l % 2) 0))
    (λ past. rw (zone_past links l z past) (omega arith))
    (cases_lt z (zone_count links)))
    (λ past. rw (no_line_past links l z past) (omega arith))
    (cases_lt l (2 * length links))

pub limit_to_parent : (links : List Link) (l : ℕ) → l < 2 * length links → l % 2 ≡ 0 → limit_at (tree_grid links) l ≡ (get_or links (l / 2) no_link).to_parent
limit_to_parent links l within even = ap (λ (line : Line). line.limit) (parent_line links (l / 2 + 1) l within even refl) ∙ ap (λ i. (get_or links i no_link).to_parent) (omega arith)

pub limit_to_child : (links : List Link) (l : ℕ) → l < 2 * length links → (l % 2 ≢ 0) → limit_at (tree_grid links) l ≡ (get_or links (l / 2) no_link).to_child
limit_to_child links l within odd = ap (λ (line : Line). line.limit) (child_line links (l / 2 + 1) l within odd refl) ∙ ap (λ i. (get_or links i no_link).to_child) (omega arith)

pub tree_shaped : (links : List Link) → Rooted links → TreeShaped links (tree_grid links)
tree_shaped links rooted =
    record {
      zones = refl;
      lines = lines_is links ∙ omega arith;
      limit_to_parent = λ c p w. ap (λ (line : Line). line.limit) (parent_line links c (2 * (c - 1)) (omega arith) (omega arith) (omega arith));
      limit_to_child = λ c p w. ap (λ (line : Line). line.limit) (child_line links c (2 * (c - 1) + 1) (omega arith) (omega arith) (omega arith));
      below_to_parent = λ c z p w v d. share_to_parent links c (2 * (c - 1)) z v (omega arith) (omega arith) (omega arith) ∙ share_below links rooted c z d;
      below_to_child = λ c z p w v d. share_to_child links c (2 * (c - 1) + 1) z v (omega arith) (omega arith) (omega arith) ∙ ap neg_ℤ (share_below links rooted c z d);
      elsewhere_to_parent = λ c z p w v d. share_to_parent links c (2 * (c - 1)) z v (omega arith) (omega arith) (omega arith) ∙ share_elsewhere links c z d;
      elsewhere_to_child = λ c z p w v d. share_to_child links c (2 * (c - 1) + 1) z v (omega arith) (omega arith) (omega arith) ∙ ap neg_ℤ (share_elsewhere links c z d);
    }

pub link_count : (t : Tree) → length (links_of t) ≡ t.links.count
link_count t = length-take-le t.links.count t.links.rows (omega arith)

-- how many zones and lines a tree has
pub tree_zoned : (t : Tree) → 1 ≤ (tree_grid (links_of t)).zones
tree_zoned t = omega arith

pub tree_few_zones : (t : Tree) → (tree_grid (links_of t)).zones ≤ most_zones
tree_few_zones t = omega (arith, link_count t)

pub tree_few_lines : (t : Tree) → line_count (tree_grid (links_of t)) ≤ most_lines
tree_few_lines t = omega (arith, lines_is (links_of t), link_count t)

pub rooted : (t : Tree) → Rooted (links_of t)
rooted t = rooted_take t.links.count t.links.rows t.parents

pub shaped_tree : (t : Tree) → Shaped t
shaped_tree t = tree_shaped (links_of t) (rooted t)

-- the link that is read in the array is that of the tree
pub link_read : (t : Tree) (i : ℕ) → i < t.links.count → slice_index_or (links_of t) i no_link ≡ slice_index_or t.links.rows i no_link
link_read t i within = get_or-take t.links.count t.links.rows i no_link within

-- what holds of each link still does when one is written for which it holds
pub each_written : (P : ℕ → Link → Type 0) (links : List Link) (i : ℕ) (new : Link) → ((k : ℕ) → P k (slice_index_or links k no_link)) → P i new → i < length links → (k : ℕ) → P k (slice_index_or (slice_set links i new) k no_link)
each_written P links i new each here within k =
    ⊎_elim
    (λ e. let at : P i (slice_index_or (slice_set links i new) i no_link) = rw (get_or-set_same links i new no_link within) here in subst (λ (j : ℕ). P j (slice_index_or (slice_set links i new) j no_link)) (sym e) at)
    (λ other. rw (get_or-set_other links i k new no_link other) (each k))
    (cases_eq k i)

pub limit_in_range : (t : Tree) (l : ℕ) → limit_at (tree_grid (links_of t)) l ≤ most_kwh
limit_in_range t l =
    ⊎_elim
    (λ within.
    let read = link_read t (l / 2) (omega (arith, link_count t)) in
    ⊎_elim
    (λ even. rw (limit_to_parent (links_of t) l within even, read) (t.limited_to_parent (l / 2)))
    (λ odd. rw (limit_to_child (links_of t) l within odd, read) (t.limited_to_child (l / 2)))
    (cases_eq (l % 2) 0))
    (λ past. omega (arith, ap (λ (line : Line). line.limit) (line_past (links_of t) l past)))
    (cases_lt l (2 * length (links_of t)))

-- the tree with one more link, with all the places of its array, and its links alone
pub rooted_written : (t : Tree) (new : Link) → new.parent ≤ t.links.count → t.links.count < most_links → Rooted (slice_set t.links.rows t.links.count new)
rooted_written t new smaller place = each_written (λ i link. link.parent ≤ i) t.links.rows t.links.count new t.parents smaller (omega arith)

pub rooted_taken : (t : Tree) (new : Link) → new.parent ≤ t.links.count → t.links.count < most_links → Rooted (take (t.links.count + 1) (slice_set t.links.rows t.links.count new))
rooted_taken t new smaller place = rooted_take (t.links.count + 1) (set t.links.rows t.links.count new) (rooted_written t new smaller place)

pub shaped_written : (t : Tree) (new : Link) → new.parent ≤ t.links.count → t.links.count < most_links → TreeShaped (take (t.links.count + 1) (slice_set t.links.rows t.links.count new)) (tree_grid (take (t.links.count + 1) (slice_set t.links.rows t.links.count new)))
shaped_written t new smaller place = tree_shaped (take (t.links.count + 1) (set t.links.rows t.links.count new)) (rooted_taken t new smaller place)
