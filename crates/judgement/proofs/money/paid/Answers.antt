use Rattle.std.proofs.Common.{◌≡◌, ◌^◌, ◌≤◌, ◌*ℤ◌, nat_abs, sym, ap, ◌∙◌, subst, arith, w64, SFits, to_z, of_z}
use borrow.Author.Differences.{ints}
use Rattle.std.proofs.lemmas.Int.{to_z-of_z}
use Rattle.flows.proofs.Products.{product_fits}
use Rattle.judgement.proofs.money.paid.Goals as goal

-- the operands as they were passed
same : (c : goal.After-from) → to_z w64 (of_z w64 c.from.result) *ℤ to_z w64 (of_z w64 c.args.kwh) ≡ c.args.price *ℤ c.args.kwh
same c =
    let e = c.from.ensures in
    let price : to_z w64 (of_z w64 c.from.result) ≡ c.args.price = omega (arith, ints) in
    λ i. price i *ℤ to_z-of_z w64 c.args.kwh c.ranges.kwh i

small : (c : goal.After-from) → nat_abs c.args.price ≤ 2 ^ 31
small c = omega (arith, ints)

fits : (c : goal.After-from) → SFits w64 (c.args.price *ℤ c.args.kwh)
fits c = product_fits c.args.price c.args.kwh (small c) c.requires

pub overflow_mul-result : goal.overflow_mul-result
overflow_mul-result c = subst (SFits w64) (sym (same c)) (fits c)

pub returns : goal.returns
returns c = (ap (λ x. to_z w64 (of_z w64 x)) (same c) ∙ to_z-of_z w64 (c.args.price *ℤ c.args.kwh) (fits c), small c)
