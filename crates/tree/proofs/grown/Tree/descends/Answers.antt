use Rattle.std.proofs.Common.{◌-◌, List, get_or, sym, ap, subst, ◌∙◌, arith, eq-eqb}
use Rattle.std.proofs.lemmas.Bool.Decides.{Decides-eqb}
use Rattle.tree.specs.declared.grown.Link.{Link}
use Rattle.tree.specs.Links.{no_link, Descends, here, from}
use Rattle.tree.specs.Trees.{links_of}
use Rattle.tree.specs.Descent.{descends_le, by_parent}
use Rattle.tree.specs.Shape.{rooted}
use Rattle.tree.proofs.grown.Tree.descends.Goals as goal

pub loop-at-preserved : goal.loop-at-preserved
loop-at-preserved c =
    let t = c.args.self.now in
    let at = c.loop-at.at in
    let child = c.args.child in
    let parent = ap (λ (links : List Link). (get_or links (at - 1) no_link).parent) (sym c.as_slice-links.ensures) ∙ sym c.from-at.ensures in (
      omega (arith, rooted t (at - 1)),
      (λ d. c.loop-at.invariant.1 (from at (omega arith) (subst (Descends (links_of t) child) (sym parent) d))),
      (λ d. subst (Descends (links_of t) child) parent (by_parent (links_of t) child at (λ e. omega arith) (c.loop-at.invariant.2 d))),
    )

pub returns : goal.returns
returns c =
    let t = c.args.self.now in
    let at = c.loop-at.at in
    let child = c.args.child in (
      (λ e. c.loop-at.invariant.1 (subst (Descends (links_of t) child) (sym ((Decides-eqb at child).0 e)) here)),
      (λ d. let up = descends_le (links_of t) (rooted t) child at (c.loop-at.invariant.2 d) in eq-eqb at child (omega arith)),
    )
