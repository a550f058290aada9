-- A value for each of the two houses.
use Rattle.std.specs.Borrow.{RattleType, Lends, MutBor, Fml}
use Rattle.auction.specs.declared.House.{House}
use Rattle.auction.specs.declared.House.TheVariants.{Zero, One}
use Rattle.auction.specs.declared.houses.PerHouse.{PerHouse}
use Rattle.auction.specs.contracts.houses.PerHouse.{the_row}

-- the same with another value for one house
abbrev pub with_house : {T : Type 0} → PerHouse T → House → T → PerHouse T
with_house p Zero x = record { zero = x; one = p.one }
with_house p One x = record { zero = p.zero; one = x }

-- what is written behind r becomes the value of this house
abbrev pub LendsOne : (T : RattleType) → MutBor (PerHouse T.Denot) → House → MutBor T.Denot → Fml
LendsOne T p house r = Lends (the_row T) T p r (with_house p.now house)
