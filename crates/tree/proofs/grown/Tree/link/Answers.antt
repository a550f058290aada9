use Rattle.std.proofs.Common.{ℕ, ◌≤◌, List, get_or, sym, subst, arith, rules}
use Rattle.auction.specs.Bounds.{most_kwh}
use Rattle.tree.specs.declared.grown.Link.{Link}
use Rattle.tree.specs.Links.{no_link}
use Rattle.tree.specs.Descent.{Rooted, rooted_take}
use Rattle.tree.specs.Shape.{link_count, each_written, rooted_written, shaped_tree, tree_shaped}
use Rattle.tree.proofs.grown.Tree.link.Goals as goal

pub returns-then-next-ge-MOST_ZONES-clause-shaped : goal.returns-then-next-ge-MOST_ZONES-clause-shaped
returns-then-next-ge-MOST_ZONES-clause-shaped c = shaped_tree c.args.self.now

pub returns-then-to_parent-gt-MOST_KWH-clause-shaped : goal.returns-then-to_parent-gt-MOST_KWH-clause-shaped
returns-then-to_parent-gt-MOST_KWH-clause-shaped c = shaped_tree c.args.self.now

-- of all the places of the array, whichever link is written in the next one
pub invariant_of-self : goal.invariant_of-self
invariant_of-self c =
    let t = c.args.self.now in
    let written = sym c.push.ensures.places in
    record {
      parents = subst Rooted written (rooted_written t _ (omega (arith, link_count t)) (omega (arith, link_count t)));
      limited_to_parent = subst (λ (rows : List Link). (k : ℕ) → (get_or rows k no_link).to_parent ≤ most_kwh) written (each_written (λ _ link. link.to_parent ≤ most_kwh) t.links.rows t.links.count _ t.limited_to_parent (omega arith) (omega (arith, link_count t)));
      limited_to_child = subst (λ (rows : List Link). (k : ℕ) → (get_or rows k no_link).to_child ≤ most_kwh) written (each_written (λ _ link. link.to_child ≤ most_kwh) t.links.rows t.links.count _ t.limited_to_child (omega arith) (omega (arith, link_count t)));
    }

pub returns-clause-shaped : goal.returns-clause-shaped
returns-clause-shaped c = tree_shaped _ (rooted_take _ _ (search rules))
