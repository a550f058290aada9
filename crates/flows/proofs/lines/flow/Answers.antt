use Rattle.std.proofs.Common.{get_or, pos, ◌*ℤ◌, ◌∙◌, arith, rules, w64}
use borrow.Author.Differences.{ints}
use Rattle.std.proofs.lemmas.Int.{to_z-of_z}
use Rattle.auction.specs.Grids.{sensitivity_at}
use Rattle.flows.specs.Flows.{array_flow}
use Rattle.flows.proofs.Summing.{Σℕ_even}
use Rattle.flows.proofs.lines.flow.Goals as goal

pub sum_of-requires-clause-modest : goal.sum_of-requires-clause-modest
sum_of-requires-clause-modest g c = ((λ _. 2147483648000), (let e = Σℕ_even 2147483648000 24 in omega arith), λ i r h gives. search rules)

pub returns-clause-value : goal.returns-clause-value
unfolding array_flow
returns-clause-value g c =
    to_z-of_z w64 c.sum_of.result (record { sfits = c.sum_of.type_inv })
    ∙ c.sum_of.ensures.value (λ z. sensitivity_at (g.N.Network.grid c.args.network.now) c.args.line z *ℤ get_or c.args.nets.now z (pos 0)) (λ i r h gives. search rules)

pub returns-clause-bound : goal.returns-clause-bound
returns-clause-bound g c =
    let e = Σℕ_even 2147483648000 24 in
    let small = c.sum_of.ensures.bound (λ _. 2147483648000) (λ i r h gives. search rules) in
    omega (arith, ints)
