use Rattle.std.proofs.Common.{arith}
use borrow.Author.Differences.{ints}
use Rattle.orders.specs.Reads.{array_prices}
use Rattle.kinds.specs.Kinds.{offer}
use Rattle.kinds.specs.Slopes.{offer_slope}
use Rattle.kinds.proofs.Slopes.{content_by}
use Rattle.kinds.specs.Gains.{offer_gain}
use Rattle.kinds.proofs.selling.SellingSide.content.Goals as goal

pub returns : goal.returns
returns c =
    let order = c.args.order.now in
    content_by (array_prices c.args.prices.now) (offer order.zone order.terms.price order.terms.quantity) (offer_slope c.args.prices.now order.zone order.terms.price)
    (offer_gain c.args.prices.now c.told-prices order.zone order.terms.price order.terms.quantity) c.args.quantity c.content_at.result _ c.content_at.ensures (omega (arith, ints))
