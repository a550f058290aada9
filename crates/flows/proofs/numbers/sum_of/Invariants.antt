use Rattle.std.proofs.Common.{◌≡◌, ℕ, ℤ, ◌≤◌, nat_abs}
use Rattle.auction.specs.Sums.{Σ, Σℕ}
use Rattle.flows.specs.Totals.{TermsAre, Within}
use Rattle.flows.proofs.numbers.sum_of.Given as goal

abbrev pub invariant-loop-i : goal.invariant-loop-i
invariant-loop-i g l =
    ((f : ℕ → ℤ) → TermsAre (goal.F-post g l.fn.term) l.fn.count f → l.total ≡ Σ l.i f)
    × ((size : ℕ → ℕ) → Within (goal.F-post g l.fn.term) l.fn.count size → nat_abs l.total ≤ Σℕ l.i size)
