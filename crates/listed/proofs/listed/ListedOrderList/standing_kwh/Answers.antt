use Rattle.std.proofs.Common.{arith}
use Rattle.rows.specs.Rows.{used}
use Rattle.listed.specs.Entered.{kwh_entries}
use Rattle.listed.proofs.listed.ListedOrderList.standing_kwh.Goals as goal

pub returns : goal.returns
returns g c = let same = kwh_entries g.K.Kind.meant g.met.K.Kind.sized (used c.args.self.now.rows) in omega arith
