use Rattle.std.proofs.Common.{map, ap}
use Rattle.rows.specs.Rows.{used}
use Rattle.listed.specs.Entries.{entry_by}
use Rattle.listed.specs.Entered.{without_entries}
use Rattle.listed.proofs.listed.ListedOrderList.withdraw.Goals as goal

pub returns : goal.returns
returns g c =
    let told = ap (map (entry_by g.K.Kind.meant)) c.withdraw.ensures in
    let same = without_entries g.K.Kind.meant (used c.args.self.now.rows) c.args.number in
    cc
