-- What holds of every sheet that breaks no rule, for every grid and all orders.
use Rattle.std.specs.Prelude.{◌≡◌, ◌+ℤ◌, ◌≤ℤ◌}
use Rattle.auction.specs.declared.Broken.{Broken}
use Rattle.auction.specs.Grids.{Grid}
use Rattle.auction.specs.Hours.{Book, Dispatch, Prices, Feasible, TwoHouses, welfare_of, amount_of, rent_of}
use Rattle.auction.specs.Rules.{Accepted, FirstBroken}

-- no feasible dispatch is worth more than an accepted one
abbrev pub OptimalityLaw : Type 0
OptimalityLaw = (g : Grid) (b : Book) (d : Dispatch) (p : Prices) → Accepted g b d p → (rival : Dispatch) → Feasible g b rival → welfare_of b rival ≤ℤ welfare_of b d

-- what the two houses pay adds up to the congestion rent
abbrev pub RentLaw : Type 0
RentLaw = (g : Grid) (b : Book) (d : Dispatch) (p : Prices) → Accepted g b d p → TwoHouses b → amount_of g b d p 0 +ℤ amount_of g b d p 1 ≡ rent_of g b d p

-- two accepted sheets have equal welfare, and the quantities of either with the prices of the other break no rule
abbrev pub InterchangeLaw : Type 0
InterchangeLaw = (g : Grid) (b : Book) (d other-d : Dispatch) (p other-p : Prices) → Accepted g b d p → Accepted g b other-d other-p → (welfare_of b d ≡ welfare_of b other-d) × Accepted g b d other-p × Accepted g b other-d p

-- a sheet has at most one verdict: where a rule is broken first at a place, the sheet is not accepted, and no other rule or place is first
abbrev pub OneVerdictLaw : Type 0
OneVerdictLaw = (g : Grid) (b : Book) (d : Dispatch) (p : Prices) (x : Broken) → FirstBroken g b d p x → (Accepted g b d p → ⊥) × ((y : Broken) → FirstBroken g b d p y → y ≡ x)
