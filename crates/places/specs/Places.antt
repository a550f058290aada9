-- The first order of three lists that is not as it is to be.
use Rattle.std.specs.Prelude.{◌≡◌, ℕ, ◌<◌, true, length, Some, None, Option, Ok, Err, Result}
use Rattle.auction.specs.declared.Broken.{Broken}
use Rattle.auction.specs.Orders.{ZonePrices, Content}
use Rattle.auction.specs.Hours.{Entry, Book, list_at, entry_at, Dispatch}

-- an order that does not stand need not be content
abbrev pub AtEase : ZonePrices → Entry → ℕ → Type 0
AtEase prices e q = e.standing ≡ true → Content prices e.order q

-- something that each order of an hour is to be at its quantity
abbrev pub OfOrder : Book → Dispatch → (Entry → ℕ → Type 0) → ℕ → ℕ → Type 0
OfOrder b d Q l n = n < length (list_at b l) → Q (entry_at b l n) (d l n)

-- of an optional place: none means that each order is so, some that this one is the first that is not
abbrev pub FirstOrder : (ℕ → ℕ → Type 0) → Option (ℕ × ℕ) → Type 0
FirstOrder P None = (l n : ℕ) → P l n
FirstOrder P (Some place) = ((l n : ℕ) → l < place.0 → P l n) × ((n : ℕ) → n < place.1 → P place.0 n) × (P place.0 place.1 → ⊥)

-- each order is so, or the first that is not is named by the rule that it breaks
abbrev pub EachOrder : (ℕ → ℕ → Broken) → (ℕ → ℕ → Type 0) → Result (Unit {0}) Broken → Type 0
EachOrder rule P (Ok _) = FirstOrder P None
EachOrder rule P (Err broken) = (place : ℕ × ℕ) × (broken ≡ rule place.0 place.1) × FirstOrder P (Some place)
