use Rattle.std.proofs.Common.{sym, refl, ◌∙◌, subst, arith, w64}
use Rattle.std.proofs.lemmas.Int.{to_z-of_z}
use Rattle.std.proofs.lemmas.Bool.Decides.{not_from_Decides}
use Rattle.auction.specs.Orders.{ZonePriceInRange}
use Rattle.auction.specs.Hours.{zone_price}
use Rattle.sheets.specs.Proposals.{prices_of}
use Rattle.flows.proofs.Casts.{narrowed}
use Rattle.flows.proofs.Pricing.{priced_start, priced_next, priced_all, fails_inside}
use Rattle.flows.proofs.prices.zone_prices.Goals as goal

pub loop-zone-init : goal.loop-zone-init
loop-zone-init g c = priced_start _ _

pub loop-zone-preserved : goal.loop-zone-preserved
loop-zone-preserved g c =
    let ranged = c.if-not-in_range.ensures.0 refl in
    let full = c.loop-zone.invariant.full in
    let wide = to_z-of_z w64 c.price_of-price.result (record { sfits = c.price_of-price.type_inv }) in
    priced_next _ _ c.loop-zone.zone c.loop-zone.place-items _ c.loop-zone.invariant (omega arith)
    (narrowed c.price_of-price.result c.price_of-price.type_inv ranged ∙ c.price_of-price.ensures)
    (subst ZonePriceInRange (wide ∙ c.price_of-price.ensures) ranged)

pub returns-then-not-in_range : goal.returns-then-not-in_range
returns-then-not-in_range g c =
    let wide = to_z-of_z w64 c.price_of-price.result (record { sfits = c.price_of-price.type_inv }) in
    let fails = λ (ranged : ZonePriceInRange (zone_price (g.N.Network.grid c.args.network.now) (prices_of c.args.sheet.now) c.loop-zone.zone)). not_from_Decides c.in_range.result c.in_range.ensures c.if-not-in_range.true (subst ZonePriceInRange (sym (wide ∙ c.price_of-price.ensures)) ranged) in
    (c.loop-zone.zone, refl, (fails_inside _ _ c.loop-zone.zone fails, c.loop-zone.invariant.in_range, fails))

pub returns : goal.returns
returns g c =
    let few = g.met.N.Network.fewzones c.args.network.now in
    let full = c.loop-zone.invariant.full in
    priced_all _ _ c.loop-zone.zone c.loop-zone.place-items c.loop-zone.invariant (omega arith)
