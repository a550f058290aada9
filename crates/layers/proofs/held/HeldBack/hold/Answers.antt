use Rattle.std.proofs.Common.{ℕ, List, sym, refl, subst, arith}
use Rattle.layers.specs.Lowered.{lowered_grid, Holds}
use Rattle.layers.specs.Holding.{holds}
use Rattle.layers.proofs.held.HeldBack.hold.Goals as goal

pub returns : goal.returns
returns g c =
    let below = g.N.Network.grid c.args.self.now.below in
    let before = c.args.self.now.amounts.kwh in
    record {
      below = refl;
      sets = c.hold.ensures;
      holds =
          subst (λ (after : List ℕ). Holds below (lowered_grid below before) (lowered_grid below after) c.args.line c.args.kwh) (sym c.hold.ensures)
          (holds below before c.args.line c.args.kwh (omega arith));
    }
