use Rattle.std.proofs.Common.{rules}
use Rattle.tree.specs.Descent.{rooted_take}
use Rattle.tree.specs.Shape.{tree_shaped}
use Rattle.tree.proofs.grown.Tree.new.Goals as goal

-- of whichever links the new tree has
pub returns-clause-shaped : goal.returns-clause-shaped
returns-clause-shaped c = tree_shaped _ (rooted_take _ _ (search rules))
