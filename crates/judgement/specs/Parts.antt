-- What the orders of one list do at the quantities of a sheet.
use Rattle.std.specs.Prelude.{◌≡◌, ℕ, ◌*◌, ◌<◌, ◌≤◌, cond, List, length, ℤ, pos, neg_ℤ, ◌==◌, unsigned_abs}
use Rattle.auction.specs.Bounds.{most_kwh}
use Rattle.auction.specs.Sums.{Σ, Σℕ}
use Rattle.auction.specs.Orders.{ZonePrices, proceeds}
use Rattle.auction.specs.Hours.{Book, Dispatch, Entry, Takes, entry_at, list_at}
use Rattle.orders.specs.Reads.{entry, standing_largest}
pub use Rattle.flows.specs.Firsts.{FirstFailing}
pub use Rattle.places.specs.Places.{AtEase}

-- the sum over the first i orders of a list of something that an order has at its quantity
unfoldable pub first_sum : List Entry → (ℕ → ℕ) → (Entry → ℕ → ℤ) → ℕ → ℤ
first_sum es qs f i = Σ i (λ n. f (entry es n) (qs n))

-- the same over the whole list
abbrev pub list_sum : List Entry → (ℕ → ℕ) → (Entry → ℕ → ℤ) → ℤ
list_sum es qs f = first_sum es qs f (length es)

-- each of the first i orders of a list takes a quantity that is possible for it
abbrev pub TakeBefore : List Entry → (ℕ → ℕ) → ℕ → Type 0
TakeBefore es qs i = (n : ℕ) → n < i → Takes (entry es n) (qs n)

abbrev pub AllTake : List Entry → (ℕ → ℕ) → Type 0
AllTake es qs = TakeBefore es qs (length es)

-- each order of a book takes a quantity that is possible for it
abbrev pub Taken : Book → Dispatch → Type 0
Taken b d = (l n : ℕ) → n < length (list_at b l) → Takes (entry_at b l n) (d l n)

-- the kWh that the standing ones of the first i orders may take at most
unfoldable pub first_kwh : List Entry → ℕ → ℕ
first_kwh es i = Σℕ i (λ n. standing_largest (entry es n))

-- what an order is worth at its quantity, and feeds into a zone
abbrev pub entry_worth : Entry → ℕ → ℤ
entry_worth e q = e.order.worth q

abbrev pub entry_injection : ℕ → Entry → ℕ → ℤ
entry_injection z e q = e.order.injection q z

abbrev pub entry_proceeds : ZonePrices → Entry → ℕ → ℤ
entry_proceeds prices e q = proceeds prices e.order q

-- what an order of a house pays at given zone prices
abbrev pub own_charge : ZonePrices → ℕ → Entry → ℕ → ℤ
own_charge prices house e q = cond (e.house == house) (neg_ℤ (proceeds prices e.order q)) (pos 0)

-- one term of a sum over a list, of at most k for each kWh that is taken
pub record Term (es : List Entry) (qs : ℕ → ℕ) (f : Entry → ℕ → ℤ) (k n : ℕ) (term : ℤ) : Type 0 where
  pub is : term ≡ f (entry es n) (qs n)
  pub small : unsigned_abs term ≤ k * qs n
  pub modest : qs n ≤ most_kwh
