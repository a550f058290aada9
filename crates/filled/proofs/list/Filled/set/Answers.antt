use Rattle.std.proofs.Common.{arith, length-take-le}
use Rattle.std.proofs.Math.Seq.{take-set-lt}
use Rattle.filled.proofs.list.Filled.set.Goals as goal

pub returns-clause-changed : goal.returns-clause-changed
returns-clause-changed g c =
    let list = c.args.self.now in
    (omega (arith, length-take-le list.count list.rows (omega arith)), _, _, take-set-lt list.count list.rows c.args.index c.args.item (omega arith))
