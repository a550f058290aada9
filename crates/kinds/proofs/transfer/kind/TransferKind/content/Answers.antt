use Rattle.std.proofs.Common.{arith}
use borrow.Author.Differences.{ints}
use Rattle.orders.specs.Reads.{array_prices}
use Rattle.kinds.specs.Kinds.{transfer}
use Rattle.kinds.specs.Slopes.{transfer_slope}
use Rattle.kinds.proofs.Slopes.{content_by}
use Rattle.kinds.specs.Gains.{transfer_gain}
use Rattle.kinds.proofs.transfer.kind.TransferKind.content.Goals as goal

pub returns : goal.returns
returns c =
    let order = c.args.self.now in
    content_by (array_prices c.args.prices.now) (transfer order.first order.second order.terms.price order.terms.quantity) (transfer_slope c.args.prices.now order.first order.second order.terms.price)
    (transfer_gain c.args.prices.now c.told-prices order.first order.second order.terms.price order.terms.quantity) c.args.quantity c.content_at.result _ c.content_at.ensures (omega (arith, ints))
