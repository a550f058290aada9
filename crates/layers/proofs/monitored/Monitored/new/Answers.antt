use Rattle.std.proofs.Common.{refl}
use Rattle.network.specs.Rows.{lines_in}
use Rattle.layers.specs.Piled.{watched_none}
use Rattle.layers.proofs.monitored.Monitored.new.Goals as goal

pub returns : goal.returns
returns g c =
    let below = c.args.below in
    let none = c.no_rows-watched.ensures in
    record {
      kept = refl;
      none = none;
      same = watched_none (g.N.Network.grid below) (lines_in c.no_rows-watched.result) none (g.met.N.Network.fewlines below);
    }
