-- A call with its answer, and the kinds of event that the words of a history go by.
use Rattle.std.specs.Prelude.{ℕ, Bool, true, false, cond, ◌&&◌, List, Some, None, Ok, Err, Option, Result, ◌==◌}
use Rattle.auction.specs.declared.House.{House}
use Rattle.auction.specs.declared.House.TheVariants.{Zero, One}
use Rattle.auction.specs.Houses.{house_number}
use Rattle.auction.specs.declared.Refusal.{Refusal}
use Rattle.auction.specs.declared.Refusal.TheVariants.{NoCommand, NoOperands, Stranger, NotNow, Missing, OutOfRange, NotOwn, NoPlace, NoTry, Sheet}
use Rattle.auction.specs.Orders.{Order}
use Rattle.history.specs.declared.calls.Wish.{Wish}
use Rattle.history.specs.declared.calls.Wish.TheVariants.{First, Second, Third}
use Rattle.history.specs.declared.calls.Filling.{Filling}
use Rattle.history.specs.declared.calls.Call.{Call}
use Rattle.history.specs.declared.calls.Call.TheVariants.{Enter, Withdraw, Close, Fill, Try, Settle, Void}
use Rattle.history.specs.declared.calls.Reply.{Reply}

abbrev pub Answer : Type 0
Answer = Result Reply Refusal

-- a call that was made, with its answer
pub record Event (P Q R : Type 0) : Type 0 where
  pub call : Call P Q R
  pub answer : Answer

-- all calls since the opening, the newest first
abbrev pub History : Type 0 → Type 0 → Type 0 → Type 0
History P Q R = List (Event P Q R)

-- What the three lists take: which order a wish means, whether all that it names is there in a network with so many zones, and whether its numbers are in range.
pub record Kinds (P Q R : Type 0) : Type 1 where
  pub order : Wish P Q R → Order
  pub exists : Wish P Q R → ℕ → Type 0
  pub ranged : Wish P Q R → Type 0

-- something that each list has its own way to tell of a wish
abbrev pub by_list {ℓ} : {P Q R : Type 0} {X : Type ℓ} → (P → X) → (Q → X) → (R → X) → Wish P Q R → X
by_list f s t (First w) = f w
by_list f s t (Second w) = s w
by_list f s t (Third w) = t w

-- the number of the list that a wish goes to
abbrev pub list_of : {P Q R : Type 0} → Wish P Q R → ℕ
list_of (First _) = 0
list_of (Second _) = 1
list_of (Third _) = 2

-- the house that makes a call, by the number that it gives
abbrev pub caller_number : {P Q R : Type 0} → Call P Q R → ℕ
caller_number (Enter house _) = house
caller_number (Withdraw house _ _) = house
caller_number (Close house) = house
caller_number (Fill house _) = house
caller_number (Try house) = house
caller_number (Settle house) = house
caller_number (Void house) = house

-- which of the two houses has this number
abbrev pub numbered : ℕ → House
numbered n = cond (n == 0) Zero One

abbrev pub taken : Answer → Bool
taken (Ok _) = true
taken (Err _) = false

-- an answer that tells a verdict on a sheet, either way
abbrev pub verdict : Answer → Bool
verdict (Ok _) = true
verdict (Err NoCommand) = false
verdict (Err NoOperands) = false
verdict (Err Stranger) = false
verdict (Err NotNow) = false
verdict (Err Missing) = false
verdict (Err OutOfRange) = false
verdict (Err NotOwn) = false
verdict (Err NoPlace) = false
verdict (Err NoTry) = false
verdict (Err (Sheet _)) = true

-- the calls of a closed hour; the others are those of an open one
abbrev pub of_closed_hour : {P Q R : Type 0} → Call P Q R → Bool
of_closed_hour (Enter _ _) = false
of_closed_hour (Withdraw _ _ _) = false
of_closed_hour (Close _) = false
of_closed_hour (Fill _ _) = true
of_closed_hour (Try _) = true
of_closed_hour (Settle _) = true
of_closed_hour (Void _) = true

-- settling and voiding leave the hour
abbrev pub leaves_hour : {P Q R : Type 0} → Call P Q R → Bool
leaves_hour (Enter _ _) = false
leaves_hour (Withdraw _ _ _) = false
leaves_hour (Close _) = false
leaves_hour (Fill _ _) = false
leaves_hour (Try _) = false
leaves_hour (Settle _) = true
leaves_hour (Void _) = true

-- trying and settling have the sheet judged
abbrev pub has_judged : {P Q R : Type 0} → Call P Q R → Bool
has_judged (Enter _ _) = false
has_judged (Withdraw _ _ _) = false
has_judged (Close _) = false
has_judged (Fill _ _) = false
has_judged (Try _) = true
has_judged (Settle _) = true
has_judged (Void _) = false

abbrev pub is_close : {P Q R : Type 0} → Call P Q R → Bool
is_close (Enter _ _) = false
is_close (Withdraw _ _ _) = false
is_close (Close _) = true
is_close (Fill _ _) = false
is_close (Try _) = false
is_close (Settle _) = false
is_close (Void _) = false

abbrev pub wish_of : {P Q R : Type 0} → Call P Q R → Option (Wish P Q R)
wish_of (Enter _ wish) = Some wish
wish_of (Withdraw _ _ _) = None
wish_of (Close _) = None
wish_of (Fill _ _) = None
wish_of (Try _) = None
wish_of (Settle _) = None
wish_of (Void _) = None

-- the list and the number of the order that a call withdraws
abbrev pub withdrawal_of : {P Q R : Type 0} → Call P Q R → Option (ℕ × ℕ)
withdrawal_of (Enter _ _) = None
withdrawal_of (Withdraw _ list number) = Some (list, number)
withdrawal_of (Close _) = None
withdrawal_of (Fill _ _) = None
withdrawal_of (Try _) = None
withdrawal_of (Settle _) = None
withdrawal_of (Void _) = None

-- what a call of this house fills in
abbrev pub filling_of : {P Q R : Type 0} → House → Call P Q R → Option Filling
filling_of house (Enter _ _) = None
filling_of house (Withdraw _ _ _) = None
filling_of house (Close _) = None
filling_of house (Fill caller filling) = cond (caller == house_number house) (Some filling) None
filling_of house (Try _) = None
filling_of house (Settle _) = None
filling_of house (Void _) = None

-- the event ends its hour: a settle or void that was not refused
abbrev pub ends : {P Q R : Type 0} → Event P Q R → Bool
ends e = taken e.answer && leaves_hour e.call

-- the event is a close that was not refused
abbrev pub closes : {P Q R : Type 0} → Event P Q R → Bool
closes e = taken e.answer && is_close e.call

-- the event is a try or settle that reached the rules of the sheet
abbrev pub judged : {P Q R : Type 0} → Event P Q R → Bool
judged e = has_judged e.call && verdict e.answer

-- the event is a try or settle whose sheet was accepted
abbrev pub accepts : {P Q R : Type 0} → Event P Q R → Bool
accepts e = taken e.answer && has_judged e.call

-- the event is a settle that was not refused
abbrev pub settles : {P Q R : Type 0} → Event P Q R → Bool
settles e = ends e && has_judged e.call

-- the house that made the call
abbrev pub caller : {P Q R : Type 0} → Event P Q R → House
caller e = numbered (caller_number e.call)
