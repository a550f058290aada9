use Rattle.std.proofs.Common.{◌≡◌, ◌*◌, ◌≤◌, ℤ, pos, ◌*ℤ◌, nat_abs, sym, subst, mul-le-mul, arith, w64, to_z, of_z}
use borrow.Author.Differences.{ints}
use Rattle.auction.specs.Grids.{limit_at}
use Rattle.sheets.specs.Proposals.{prices_of}
use Rattle.flows.proofs.Casts.{thousand_is}
use Rattle.flows.proofs.prices.line_rent_of.Goals as goal

pub returns-clause-bound : goal.returns-clause-bound
returns-clause-bound g c =
    let shadow = (prices_of c.args.sheet.now).shadow c.args.line in
    let limit = limit_at (g.N.Network.grid c.args.network.now) c.args.line in
    let price : to_z w64 (of_z w64 c.from.result) ≡ pos shadow = omega (arith, ints) in
    let most : to_z w64 (of_z w64 c.from-2.result) ≡ pos limit = omega (arith, ints) in
    let modest : shadow * limit ≤ 10000000000000 = mul-le-mul (c.args.sheet.now.bounded c.args.line) (g.met.N.Network.limited c.args.network.now c.args.line) in
    subst (λ (x : ℤ). nat_abs x ≤ 10000000000000000) (sym (thousand_is _ (shadow * limit) (λ i. price i *ℤ most i) modest)) (omega arith)
