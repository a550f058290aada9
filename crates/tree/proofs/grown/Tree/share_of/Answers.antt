use Rattle.std.proofs.Common.{sym, arith}
use Rattle.std.proofs.lemmas.Bool.Decides.{not_from_Decides}
use Rattle.tree.specs.Trees.{links_of}
use Rattle.tree.specs.Descent.{share_below, share_elsewhere}
use Rattle.tree.specs.Shape.{rooted}
use Rattle.tree.proofs.grown.Tree.share_of.Goals as goal

pub returns-then-descends : goal.returns-then-descends
returns-then-descends c =
    let t = c.args.self.now in
    (sym (share_below (links_of t) (rooted t) c.args.child c.args.zone (c.descends.ensures.0 c.if-descends.true)), omega arith)

pub returns : goal.returns
returns c =
    (sym (share_elsewhere (links_of c.args.self.now) c.args.child c.args.zone (not_from_Decides c.descends.result c.descends.ensures c.if-descends.false)), omega arith)
