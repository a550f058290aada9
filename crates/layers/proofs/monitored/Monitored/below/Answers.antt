use Rattle.std.proofs.Common.{refl}
use Rattle.network.specs.Rows.{lines_in}
use Rattle.layers.specs.Piled.{watched_count}
use Rattle.layers.proofs.monitored.Monitored.below.Goals as goal

pub returns : goal.returns
returns g c =
    let m = c.args.self.now in
    record { below = refl; lines = watched_count (g.N.Network.grid m.below) (lines_in m.watched) }
