use Rattle.std.proofs.Common.{rules}
use Rattle.rows.specs.Rows.{used}
use Rattle.listed.specs.Entered.{answered_entries}
use Rattle.listed.proofs.listed.ListedOrderList.enter.Goals as goal

pub returns : goal.returns
returns g c =
    let wished = c.in_ok-row.ensures in
    answered_entries g.K.Kind.meant g.met.K.Kind.sized (used c.args.self.now.rows) (used c.push.new.self) c.args.house c.in_ok-row.row c.args.elsewhere (g.K.Kind.wished c.args.wish) (search rules) wished.3.0 wished.3.2
    (g.K.Kind.found c.args.wish c.args.zones) (g.K.Kind.fitting c.args.wish) (search rules) wished.1 c.push.result (search rules)
