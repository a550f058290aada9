use Rattle.std.proofs.Common.{◌≡◌, refl, arith}
use Rattle.filled.specs.Lists.{kept}
use Rattle.layers.proofs.Piling.{appended}
use Rattle.layers.proofs.monitored.Monitored.append.Goals as goal

pub returns : goal.returns
returns g c =
    let old = c.args.self.now in
    let new = c.push.new.self in
    record {
      lines =
          appended (g.N.Network.grid old.below) (kept old.watched) (kept new) c.args.row (new ≡ old.watched) c.push.result (omega arith)
          c.push.ensures.added;
      below = refl;
    }
