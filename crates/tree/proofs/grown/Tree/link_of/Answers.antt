use Rattle.std.proofs.Common.{◌-◌, List, get_or, ap}
use Rattle.tree.specs.declared.grown.Link.{Link}
use Rattle.tree.specs.Links.{no_link}
use Rattle.tree.proofs.grown.Tree.link_of.Goals as goal

pub returns : goal.returns
returns c = ap (λ (links : List Link). get_or links (c.args.child - 1) no_link) c.as_slice.ensures
