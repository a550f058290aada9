-- The right answer to a call: the questions that concern it are put in their order, and the first that gets a no gives the answer.
use Rattle.std.specs.Prelude.{◌≡◌, ℕ, ◌+◌, ◌<◌, ◌≤◌, true, ◌⊎◌, [], ◌∷◌, length, Ok, Err, unsigned_abs}
use Rattle.auction.specs.Sums.{Σℕ}
use Rattle.auction.specs.Bounds.{most_orders, most_kwh, most_lambda, most_shadow_price, most_hours, most_tries}
use Rattle.auction.specs.Houses.{house_number}
use Rattle.auction.specs.Grids.{Grid, line_count}
use Rattle.auction.specs.Hours.{Book, Dispatch, Prices, list_at, entry_at, welfare_of, rent_of}
use Rattle.auction.specs.Rules.{Accepted, FirstBroken}
use Rattle.auction.specs.declared.House.{House}
use Rattle.auction.specs.declared.Broken.{Broken}
use Rattle.auction.specs.declared.Refusal.{Refusal}
use Rattle.auction.specs.declared.Refusal.TheVariants.{Stranger, NotNow, Missing, OutOfRange, NotOwn, NoPlace, NoTry, Sheet}
use Rattle.orders.specs.Reads.{standing_kwh}
use Rattle.history.specs.declared.calls.Filling.{Filling}
use Rattle.history.specs.declared.calls.Filling.TheVariants.{Quantity, Lambda, ShadowPrice}
use Rattle.history.specs.declared.calls.Call.{Call}
use Rattle.history.specs.declared.calls.Call.TheVariants.{Enter, Withdraw, Close, Fill, Try, Settle, Void}
use Rattle.history.specs.declared.calls.Reply.TheVariants as Says
use Rattle.history.specs.Events.{Answer, History, Kinds, caller_number, numbered, list_of, of_closed_hour}
use Rattle.history.specs.Situations.{Situation, told}

-- a yes leads on to what is asked next, a no is the answer
abbrev pub Ask : Type 0 → Refusal → (Answer → Type 0) → Answer → Type 0
Ask question refusal next a = (question × next a) ⊎ ((question → ⊥) × (a ≡ Err refusal))

-- the call is done, and there is nothing to tell
abbrev pub Done : Answer → Type 0
Done a = a ≡ Ok Says.Done

-- an order with this list and number was entered in this hour
abbrev pub Entered : Book → ℕ → ℕ → Type 0
Entered b l n = n < length (list_at b l)

-- it is the house's own, and stands
abbrev pub OwnStanding : Book → House → ℕ → ℕ → Type 0
OwnStanding b house l n = ((entry_at b l n).house ≡ house_number house) × ((entry_at b l n).standing ≡ true)

-- the largest quantities of all standing orders together, in kWh
abbrev pub all_standing_kwh : Book → ℕ
all_standing_kwh b = Σℕ (length b) (λ l. standing_kwh (list_at b l))

-- a place is left in a list for an order of so many kWh
abbrev pub Room : Book → ℕ → ℕ → Type 0
Room b l kWh = (length (list_at b l) < most_orders) × (all_standing_kwh b + kWh ≤ most_kwh)

-- the order or the line that is filled in for is there
abbrev pub Fillable : Grid → Book → Filling → Type 0
Fillable g b (Quantity list number _) = Entered b list number
Fillable g b (Lambda _) = Unit {0}
Fillable g b (ShadowPrice line _) = line < line_count g

-- the number that is filled in is in range
abbrev pub Fitting : Filling → Type 0
Fitting (Quantity _ _ kWh) = kWh ≤ most_kwh
Fitting (Lambda lambda) = unsigned_abs lambda ≤ most_lambda
Fitting (ShadowPrice _ price) = price ≤ most_shadow_price

-- the verdict on a sheet: its welfare and rent if it breaks no rule, else the first rule that it breaks, at its first place
abbrev pub Verdict : Grid → Book → Dispatch → Prices → Answer → Type 0
Verdict g b d p a = (Accepted g b d p × (a ≡ Ok (Says.Accepted (welfare_of b d) (rent_of g b d p)))) ⊎ ((x : Broken) × FirstBroken g b d p x × (a ≡ Err (Sheet x)))

-- the questions of each call, from the fifth on
abbrev pub Questions : {P Q R : Type 0} → Kinds P Q R → Grid → Situation → House → Call P Q R → Answer → Type 0
Questions k g s house (Enter _ wish) = Ask (k.exists wish g.zones) Missing (Ask (k.ranged wish) OutOfRange (Ask (Room s.book (list_of wish) (k.order wish).largest) NoPlace Done))
Questions k g s house (Withdraw _ list number) = Ask (Entered s.book list number) Missing (Ask (OwnStanding s.book house list number) NotOwn Done)
Questions k g s house (Close _) = Ask (s.settled_hours < most_hours) NoPlace Done
Questions k g s house (Fill _ filling) = Ask (Fillable g s.book filling) Missing (Ask (Fitting filling) OutOfRange Done)
Questions k g s house (Try _) = Ask (s.tries < most_tries) NoTry (Verdict g s.book (s.dispatch house) (s.prices house))
Questions k g s house (Settle _) = Ask (s.tries < most_tries) NoTry (Verdict g s.book (s.dispatch house) (s.prices house))
Questions k g s house (Void _) = Done

-- the house is one of the two; the hour allows the call now; then the call's own questions
abbrev pub Right : {P Q R : Type 0} → Kinds P Q R → Grid → Situation → Call P Q R → Answer → Type 0
Right k g s c = Ask (caller_number c < 2) Stranger (Ask (of_closed_hour c ≡ s.closed) NotNow (Questions k g s (numbered (caller_number c)) c))

-- a history in which every answer is right for what came before
abbrev pub Run : {P Q R : Type 0} → Kinds P Q R → Grid → History P Q R → Type 0
Run k g [] = Unit {0}
Run k g (e ∷ h) = Run k g h × Right k g (told k g h) e.call e.answer
