-- What the sheets of the two houses hold, and how they are filled in.
use Rattle.std.specs.Prelude.{◌≡◌, ℕ, ◌<◌, pos, Some, None, Option}
use Rattle.auction.specs.declared.House.{House}
use Rattle.auction.specs.declared.House.TheVariants.{Zero, One}
use Rattle.auction.specs.declared.houses.PerHouse.{PerHouse}
use Rattle.auction.specs.Houses.{by_house}
use Rattle.auction.specs.Bounds.{most_orders, most_lines}
use Rattle.auction.specs.Hours.{Dispatch, Prices}
use Rattle.sheets.specs.declared.sheet.Sheet.{Sheet}
use Rattle.sheets.specs.Proposals.{dispatch_of, prices_of}
use Rattle.history.specs.declared.calls.Filling.{Filling}
use Rattle.history.specs.declared.calls.Filling.TheVariants.{Quantity, Lambda, ShadowPrice}
use Rattle.history.specs.Words.{set_quantity, set_lambda, set_shadow}

-- the sheet of each house
abbrev pub Sheets : Type 0
Sheets = PerHouse Sheet

abbrev pub sheet_of : Sheets → House → Sheet
sheet_of s = by_house s.zero s.one

abbrev pub dispatches : Sheets → House → Dispatch
dispatches s house = dispatch_of (sheet_of s house)

abbrev pub prices_by : Sheets → House → Prices
prices_by s house = prices_of (sheet_of s house)

-- the sheet has a place for the number
abbrev pub HasPlace : Filling → Type 0
HasPlace (Quantity list number _) = (list < 3) × (number < most_orders)
HasPlace (Lambda _) = Unit {0}
HasPlace (ShadowPrice line _) = line < most_lines

-- what a filling is for a house: nothing for the other one
abbrev pub filling_for : House → Filling → House → Option Filling
filling_for Zero f = by_house (Some f) None
filling_for One f = by_house None (Some f)

-- each number of a sheet after something was filled in, or after nothing was
pub record SheetFilled (before after : Sheet) (by : Option Filling) : Type 0 where
  pub quantities : (l n : ℕ) → dispatch_of after l n ≡ set_quantity by l n (dispatch_of before l n)
  pub lambda : (prices_of after).lambda ≡ set_lambda by (prices_of before).lambda
  pub shadows : (l : ℕ) → (prices_of after).shadow l ≡ set_shadow by l ((prices_of before).shadow l)

-- the same of both sheets
abbrev pub Filled : Sheets → Sheets → (House → Option Filling) → Type 0
Filled before after by = (house : House) → SheetFilled (sheet_of before house) (sheet_of after house) (by house)

-- nothing is filled in
pub record BlankSheet (s : Sheet) : Type 0 where
  pub quantities : (l n : ℕ) → dispatch_of s l n ≡ 0
  pub lambda : (prices_of s).lambda ≡ pos 0
  pub shadows : (l : ℕ) → (prices_of s).shadow l ≡ 0

abbrev pub Blank : Sheets → Type 0
Blank s = (house : House) → BlankSheet (sheet_of s house)
