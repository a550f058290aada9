use Rattle.std.proofs.Common.{refl}
use Rattle.layers.specs.Holding.{lowered_count, held_limit, held_sensitivity}
use Rattle.layers.proofs.held.HeldBack.below.Goals as goal

pub returns : goal.returns
returns g c =
    let h = c.args.self.now in
    let below = g.N.Network.grid h.below in
    record {
      below = refl;
      lines = lowered_count below.lines h.amounts.kwh;
      limits = held_limit below h.amounts.kwh;
      sensitivities = held_sensitivity below h.amounts.kwh;
    }
