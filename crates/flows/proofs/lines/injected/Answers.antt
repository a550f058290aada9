use Rattle.std.proofs.Common.{arith, rules}
use Rattle.flows.proofs.Summing.{Σℕ_even}
use Rattle.flows.proofs.lines.injected.Goals as goal

pub sum_of-requires-clause-modest : goal.sum_of-requires-clause-modest
sum_of-requires-clause-modest c = ((λ _. 2147483648), (let e = Σℕ_even 2147483648 24 in omega arith), λ i r h gives. search rules)
