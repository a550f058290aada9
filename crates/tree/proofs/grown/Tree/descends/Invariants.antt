use Rattle.std.proofs.Common.{◌≤◌}
use Rattle.tree.specs.Links.{Descends}
use Rattle.tree.specs.Trees.{links_of}
use Rattle.tree.proofs.grown.Tree.descends.Given as goal

-- the zone that is reached descends from the child where the zone does
abbrev pub invariant-loop-at : goal.invariant-loop-at
invariant-loop-at l =
    (l.at ≤ l.zone)
    × (Descends (links_of l.self) l.child l.at → Descends (links_of l.self) l.child l.zone)
    × (Descends (links_of l.self) l.child l.zone → Descends (links_of l.self) l.child l.at)

abbrev pub decreases-loop-at : goal.decreases-loop-at
decreases-loop-at l = l.at
