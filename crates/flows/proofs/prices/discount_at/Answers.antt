use Rattle.std.proofs.Common.{◌≡◌, ◌≤◌, ℤ, pos, ◌*ℤ◌, nat_abs, sym, ap, ◌∙◌, subst, arith, w64, to_z, of_z}
use borrow.Author.Differences.{ints}
use Rattle.std.proofs.lemmas.Int.{to_z-of_z}
use Rattle.auction.specs.Grids.{sensitivity_at}
use Rattle.sheets.specs.Proposals.{prices_of}
use Rattle.flows.proofs.Products.{product_fits, product_small}
use Rattle.flows.proofs.prices.discount_at.Goals as goal

pub returns : goal.returns
returns g c =
    let shadow = (prices_of c.args.sheet.now).shadow c.args.line in
    let s = sensitivity_at (g.N.Network.grid c.args.network.now) c.args.line c.args.zone in
    let dear = c.args.sheet.now.bounded c.args.line in
    let far = g.met.N.Network.sensitive c.args.network.now c.args.line c.args.zone in
    let wide = c.from-2.ensures in
    let sens : to_z w64 (of_z w64 c.from-2.result) ≡ c.sensitivity.result = omega (arith, ints) in
    let price : to_z w64 (of_z w64 c.from.result) ≡ pos shadow = omega (arith, ints) in
    let value : to_z w64 (of_z w64 (to_z w64 (of_z w64 c.from.result) *ℤ to_z w64 (of_z w64 c.from-2.result))) ≡ pos shadow *ℤ s =
    ap (λ x. to_z w64 (of_z w64 x)) (λ i. price i *ℤ (sens ∙ c.sensitivity.ensures) i) ∙ to_z-of_z w64 (pos shadow *ℤ s) (product_fits (pos shadow) s (omega arith) (omega (arith, ints))) in
    record { value = value; bound = subst (λ (x : ℤ). nat_abs x ≤ 1000000000) (sym value) (product_small (pos shadow) s 1000000 1000 dear far) }
