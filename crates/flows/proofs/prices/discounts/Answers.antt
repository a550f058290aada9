use Rattle.std.proofs.Common.{arith, rules}
use borrow.Author.Differences.{ints}
use Rattle.flows.proofs.Summing.{Σℕ_even}
use Rattle.flows.proofs.prices.discounts.Goals as goal

pub sum_of-requires-clause-modest : goal.sum_of-requires-clause-modest
sum_of-requires-clause-modest g c =
    let few = g.met.N.Network.fewlines c.args.network.now in
    ((λ _. 1000000000), (let e = Σℕ_even 1000000000 c.lines.result in omega arith), λ i r h gives. search rules)

pub returns-clause-bound : goal.returns-clause-bound
returns-clause-bound g c =
    let few = g.met.N.Network.fewlines c.args.network.now in
    let e = Σℕ_even 1000000000 c.lines.result in
    let small = c.sum_of.ensures.bound (λ _. 1000000000) (λ i r h gives. search rules) in
    omega (arith, ints)
