use Rattle.std.proofs.Common.{ℕ, List, sym, refl, subst}
use Rattle.auction.specs.Bounds.{most_lines}
use Rattle.layers.specs.Lowered.{lowered_grid, HoldsNothing}
use Rattle.layers.specs.Holding.{holds_nothing}
use Rattle.layers.proofs.held.HeldBack.new.Goals as goal

pub returns : goal.returns
returns g c =
    let below = g.N.Network.grid c.args.below in
    record {
      kept = refl;
      zeros = c.none-amounts.ensures;
      nothing = subst (λ (amounts : List ℕ). HoldsNothing below (lowered_grid below amounts)) (sym c.none-amounts.ensures) (holds_nothing below most_lines);
    }
