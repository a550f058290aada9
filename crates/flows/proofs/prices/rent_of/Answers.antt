use Rattle.std.proofs.Common.{ℕ, ap, ◌∙◌, arith, rules, w64}
use Rattle.std.proofs.lemmas.Int.{to_z-of_z}
use Rattle.auction.specs.Sums.{Σ}
use Rattle.auction.specs.Grids.{limit_at}
use Rattle.auction.specs.Hours.{exact_rent}
use Rattle.auction.specs.Limits.{line_rent}
use Rattle.sheets.specs.Proposals.{prices_of}
use Rattle.flows.proofs.Summing.{Σℕ_even}
use Rattle.flows.proofs.prices.rent_of.Goals as goal

pub sum_of-requires-clause-modest : goal.sum_of-requires-clause-modest
sum_of-requires-clause-modest g c =
    let few = g.met.N.Network.fewlines c.args.network.now in
    ((λ _. 10000000000000000), (let e = Σℕ_even 10000000000000000 c.lines.result in omega arith), λ i r h gives. search rules)

pub returns : goal.returns
unfolding exact_rent
returns g c =
    let rent = λ (l : ℕ). line_rent (limit_at (g.N.Network.grid c.args.network.now) l) ((prices_of c.args.sheet.now).shadow l) in
    to_z-of_z w64 c.sum_of.result (record { sfits = c.sum_of.type_inv })
    ∙ c.sum_of.ensures.value rent (λ i r h gives. search rules)
    ∙ ap (λ n. Σ n rent) c.lines.ensures
