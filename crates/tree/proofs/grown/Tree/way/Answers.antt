use Rattle.std.proofs.Common.{◌+◌, ◌/◌, refl, arith}
use Rattle.tree.specs.Trees.{links_of}
use Rattle.tree.specs.Shape.{link_count, line_past, parent_line, child_line}
use Rattle.tree.proofs.grown.Tree.way.Goals as goal

pub returns-then-child-len : goal.returns-then-child-len
returns-then-child-len c = let t = c.args.self.now in line_past (links_of t) c.args.line (omega (arith, link_count t))

pub returns-then-line-eq0 : goal.returns-then-line-eq0
returns-then-line-eq0 c =
    let t = c.args.self.now in
    let line = c.args.line in (
      omega arith,
      omega (arith, link_count t),
      parent_line (links_of t) (line / 2 + 1) line (omega (arith, link_count t)) (omega arith) refl,
    )

pub returns : goal.returns
returns c =
    let t = c.args.self.now in
    let line = c.args.line in (
      omega arith,
      omega (arith, link_count t),
      child_line (links_of t) (line / 2 + 1) line (omega (arith, link_count t)) (omega arith) refl,
    )
