use Rattle.std.proofs.Common.{◌/◌, ◌-ℤ◌, arith}
use borrow.Author.Differences.{ints}
use Rattle.orders.specs.Reads.{array_prices}
use Rattle.kinds.specs.Slopes.{price_in, scaled}
use Rattle.stepped.specs.Steps.{stepped}
use Rattle.stepped.specs.TwoSteps.{content_by_steps, steps_gain, lower_step}
use Rattle.stepped.proofs.steps.InStepsSide.content.Goals as goal

pub returns : goal.returns
returns c =
    let order = c.args.order.now in
    let prices = c.args.prices.now in
    content_by_steps (array_prices prices) (stepped order.zone order.terms.price order.terms.quantity) (order.terms.quantity / 2)
    (scaled order.terms.price -ℤ price_in prices order.zone) (scaled (order.terms.price / 2) -ℤ price_in prices order.zone)
    (omega arith) (lower_step order.terms.price (price_in prices order.zone)) (steps_gain prices c.told-prices order.zone order.terms.price order.terms.quantity)
    c.args.quantity c.content_in_steps.result _ _ c.content_in_steps.ensures (omega (arith, ints)) (omega (arith, ints))
