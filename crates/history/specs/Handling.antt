-- What is held of the parts of the box when a call is handled; these are steps of the box, and what both houses rely on does not rest on them.
use Rattle.std.specs.Prelude.{◌≡◌, ℕ, ◌<◌, true, cond, List, [], ◌∷◌, ◌++◌, length}
use Rattle.auction.specs.declared.House.{House}
use Rattle.auction.specs.declared.Refusal.TheVariants.{Missing, OutOfRange, NotOwn, NoPlace}
use Rattle.auction.specs.Houses.{house_number}
use Rattle.auction.specs.Grids.{Grid}
use Rattle.auction.specs.Orders.{Order}
use Rattle.auction.specs.Hours.{Entry}
use Rattle.orders.specs.Reads.{entry, without, PlaceLeft}
use Rattle.history.specs.Events.{Answer, Kinds, taken}
use Rattle.history.specs.declared.calls.Call.{Call}
use Rattle.history.specs.Situations.{Situation}
use Rattle.history.specs.Right.{Ask, Done, Questions, Right}
use Rattle.history.specs.Steps.{after}

-- an order is entered behind the others, with so many kWh standing in other lists
pub record ListEntered (exists ranged : Type 0) (house : House) (order : Order) (elsewhere : ℕ) (es : List Entry) (a : Answer) (es' : List Entry) : Type 0 where
  pub answered : Ask exists Missing (Ask ranged OutOfRange (Ask (PlaceLeft es elsewhere order.largest) NoPlace Done)) a
  pub next : es' ≡ cond (taken a) (es ++ record { house = house_number house; standing = true; order = order } ∷ []) es

-- an order of the house's own no longer stands
pub record ListWithdrawn (house : House) (number : ℕ) (es : List Entry) (a : Answer) (es' : List Entry) : Type 0 where
  pub answered : Ask (number < length es) Missing (Ask (((entry es number).house ≡ house_number house) × ((entry es number).standing ≡ true)) NotOwn Done) a
  pub next : es' ≡ cond (taken a) (without es number) es

-- a call that the hour allows: its own questions are answered, and what the box then holds follows
pub record Handled {P Q R : Type 0} (k : Kinds P Q R) (g : Grid) (house : House) (c : Call P Q R) (s : Situation) (a : Answer) (s' : Situation) : Type 0 where
  pub answered : Questions k g s house c a
  pub next : s' ≡ after k g s (record { call = c; answer = a })

-- a call of any house at any time: the answer is the right one, and what the box then holds follows
pub record Outcome {P Q R : Type 0} (k : Kinds P Q R) (g : Grid) (c : Call P Q R) (s : Situation) (a : Answer) (s' : Situation) : Type 0 where
  pub answered : Right k g s c a
  pub next : s' ≡ after k g s (record { call = c; answer = a })
