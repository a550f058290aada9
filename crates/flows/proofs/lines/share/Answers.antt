use Rattle.std.proofs.Common.{◌≡◌, ◌*◌, ◌^◌, ◌≤◌, ℤ, ◌*ℤ◌, nat_abs, sym, ap, ◌∙◌, subst, arith, w64, to_z, of_z}
use borrow.Author.Differences.{ints}
use Rattle.std.proofs.lemmas.Int.{to_z-of_z}
use Rattle.auction.specs.Grids.{sensitivity_at}
use Rattle.flows.proofs.Products.{product_fits, product_small}
use Rattle.flows.proofs.lines.share.Goals as goal

pub returns : goal.returns
returns g c =
    let s = sensitivity_at (g.N.Network.grid c.args.network.now) c.args.line c.args.zone in
    let far = g.met.N.Network.sensitive c.args.network.now c.args.line c.args.zone in
    let small : nat_abs c.args.net ≤ 2 ^ 31 = omega (arith, ints) in
    let wide = c.from.ensures in
    let sens : to_z w64 (of_z w64 c.from.result) ≡ c.sensitivity.result = omega (arith, ints) in
    let net : to_z w64 (of_z w64 c.from-2.result) ≡ c.args.net = omega (arith, ints) in
    let value : to_z w64 (of_z w64 (to_z w64 (of_z w64 c.from.result) *ℤ to_z w64 (of_z w64 c.from-2.result))) ≡ s *ℤ c.args.net =
    ap (λ x. to_z w64 (of_z w64 x)) (λ i. (sens ∙ c.sensitivity.ensures) i *ℤ net i) ∙ to_z-of_z w64 (s *ℤ c.args.net) (product_fits s c.args.net (omega (arith, ints)) small) in
    record { value = value; bound = subst (λ (x : ℤ). nat_abs x ≤ 1000 * 2 ^ 31) (sym value) (product_small s c.args.net 1000 (2 ^ 31) far small) }
