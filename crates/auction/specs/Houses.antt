-- The two houses by their numbers.
use Rattle.std.specs.Prelude.{◌≡◌, ℕ, ◌≤◌, Result, MatchResult}
use Rattle.auction.specs.declared.House.{House}
use Rattle.auction.specs.declared.House.TheVariants.{Zero, One}
use Rattle.auction.specs.declared.Refusal.{Refusal}
use Rattle.auction.specs.declared.Refusal.TheVariants.{Stranger}

abbrev pub house_number : House → ℕ
house_number Zero = 0
house_number One = 1

-- the house with a number; there are two, so any number but 0 and 1 is a stranger's
abbrev pub HouseNumbered : ℕ → Result House Refusal → Type 0
HouseNumbered number result = MatchResult result (λ house. house_number house ≡ number) (λ refusal. (refusal ≡ Stranger) × (2 ≤ number))

-- what each house has
abbrev pub by_house {ℓ} : {X : Type ℓ} → X → X → House → X
by_house zero one Zero = zero
by_house zero one One = one
