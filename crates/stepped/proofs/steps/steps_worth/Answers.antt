use Rattle.std.proofs.Common.{◌/◌, ◌≤◌, arith, rules}
use borrow.Author.Differences.{ints}
use Rattle.stepped.specs.TwoSteps.{steps_same, steps_at_most}
use Rattle.stepped.proofs.steps.steps_worth.Goals as goal

pub overflow_add-result : goal.overflow_add-result
overflow_add-result c =
    let same = steps_same c.args.terms.price (c.args.terms.price / 2) c.args.quantity (c.args.terms.quantity / 2) c.min-first.result (search rules) in
    let most = steps_at_most c.args.terms.price c.args.terms.quantity c.args.quantity c.args.terms.ranged.price_in_range in
    let fits : c.args.quantity ≤ 4294967295 = omega arith in
    omega arith

pub overflow_cast-result : goal.overflow_cast-result
overflow_cast-result c =
    let same = steps_same c.args.terms.price (c.args.terms.price / 2) c.args.quantity (c.args.terms.quantity / 2) c.min-first.result (search rules) in
    let most = steps_at_most c.args.terms.price c.args.terms.quantity c.args.quantity c.args.terms.ranged.price_in_range in
    let fits : c.args.quantity ≤ 4294967295 = omega arith in
    omega arith

pub returns : goal.returns
returns c =
    let same = steps_same c.args.terms.price (c.args.terms.price / 2) c.args.quantity (c.args.terms.quantity / 2) c.min-first.result (search rules) in
    let most = steps_at_most c.args.terms.price c.args.terms.quantity c.args.quantity c.args.terms.ranged.price_in_range in
    let fits : c.args.quantity ≤ 4294967295 = omega arith in
    omega (arith, ints)
