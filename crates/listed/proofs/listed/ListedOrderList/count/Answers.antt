use Rattle.std.proofs.Common.{arith}
use Rattle.std.proofs.lemmas.List.{length-map}
use Rattle.rows.specs.Rows.{used}
use Rattle.listed.specs.Entries.{entry_by}
use Rattle.listed.proofs.listed.ListedOrderList.count.Goals as goal

pub returns : goal.returns
returns g c = let same = length-map (used c.args.self.now.rows) (entry_by g.K.Kind.meant) in omega arith
