use Rattle.std.proofs.Common.{arith}
use Rattle.tree.specs.Trees.{links_of}
use Rattle.tree.specs.Shape.{lines_is}
use Rattle.tree.proofs.lines.TreeNetwork.lines.Goals as goal

pub returns : goal.returns
returns c = omega (arith, lines_is (links_of c.args.self.now), c.len.ensures.value)
