use Rattle.std.proofs.Common.{sym, ◌∙◌, arith, w64}
use Rattle.std.proofs.lemmas.Int.{to_z-of_z}
use Rattle.sheets.specs.Proposals.{prices_of}
use Rattle.flows.proofs.Pricing.{price_inside, price_outside}
use Rattle.flows.proofs.prices.price_of.Goals as goal

pub returns-then-zone-zones : goal.returns-then-zone-zones
returns-then-zone-zones g c = sym (price_outside (g.N.Network.grid c.args.network.now) (prices_of c.args.sheet.now) c.args.zone (omega arith))

pub returns : goal.returns
returns g c = to_z-of_z w64 c.price_inside.result (record { sfits = c.price_inside.type_inv }) ∙ c.price_inside.ensures ∙ sym (price_inside (g.N.Network.grid c.args.network.now) (prices_of c.args.sheet.now) c.args.zone (omega arith))
