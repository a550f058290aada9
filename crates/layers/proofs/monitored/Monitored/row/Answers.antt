use Rattle.std.proofs.Common.{◌-◌, arith}
use Rattle.std.proofs.lemmas.List.{get_or_past}
use Rattle.auction.specs.Grids.{no_line}
use Rattle.filled.specs.Lists.{kept}
use Rattle.network.specs.Rows.{lines_in}
use Rattle.layers.specs.Piled.{line_watched}
use Rattle.layers.proofs.Piling.{line_elsewhere, row_found}
use Rattle.layers.proofs.monitored.Monitored.row.Goals as goal

pub returns : goal.returns
returns g c =
    let m = c.args.self.now in
    let below = g.N.Network.grid m.below in
    let n = c.lines-below.result in
    let line = c.args.line in
    rw c.get.ensures
    (row_found (kept m.watched) (line - n) _ _
    (line_watched below (lines_in m.watched) n line c.lines-below.ensures (omega arith) (omega arith))
    (get_or_past below.lines line no_line (omega arith)))

pub returns-then-line-below : goal.returns-then-line-below
returns-then-line-below g c =
    let m = c.args.self.now in
    let below = g.N.Network.grid m.below in
    let few = g.met.N.Network.fewlines m.below in
    line_elsewhere below (lines_in m.watched) c.lines-below.result c.args.line c.lines-below.ensures (omega arith) c.then-line-below.either
