use Rattle.sheets.specs.Proposals.{prices_of}
use Rattle.flows.proofs.Pricing.{PricedBefore}
use Rattle.flows.proofs.prices.zone_prices.Given as goal

abbrev pub invariant-loop-zone : goal.invariant-loop-zone
invariant-loop-zone g l = PricedBefore (g.N.Network.grid l.network) (prices_of l.sheet) l.zone l.place-items
