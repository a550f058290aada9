-- A link leads a tree to the phase that follows.
use Rattle.std.proofs.Common.{◌≡◌, ℕ, zero, suc, ◌+◌, ◌-◌, true, [], ◌∷◌, ◌++◌, length, refl, ap, ◌∙◌, arith}
use Rattle.std.proofs.lemmas.List.{length_push}
use Rattle.tree.specs.declared.grown.Link.{Link}
use Rattle.tree.specs.declared.grown.Tree.{Tree}
use Rattle.tree.specs.Links.{zone_count}
use Rattle.tree.specs.Trees.{links_of}
use Rattle.block.specs.Phases.{may_link, links_to_come, after_link}

-- one link fewer is to come
one_fewer : (m : ℕ) → may_link (links_to_come m) ≡ true → links_to_come (m - 1) ≡ after_link (links_to_come m)
one_fewer zero never = cc
one_fewer (suc m) may = refl

pub longer_follows : (tree longer : Tree) (zones : ℕ) (link : Link) → links_of longer ≡ links_of tree ++ link ∷ [] → may_link (links_to_come (zones - zone_count (links_of tree))) ≡ true
    → links_to_come (zones - zone_count (links_of longer)) ≡ after_link (links_to_come (zones - zone_count (links_of tree)))
longer_follows tree longer zones link grown may =
    let links : length (links_of longer) ≡ length (links_of tree) + 1 = ap length grown ∙ length_push (links_of tree) link in
    let fewer : zones - zone_count (links_of longer) ≡ zones - zone_count (links_of tree) - 1 = omega arith in
    ap links_to_come fewer ∙ one_fewer (zones - zone_count (links_of tree)) may
