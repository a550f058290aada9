-- What a history tells of the present hour and of the accounts. Each word looks at one event after the other, the newest first; those of an hour look no further back than its beginning.
use Rattle.std.specs.Prelude.{ℕ, suc, Bool, true, false, cond, ◌&&◌, ◌||◌, List, [], ◌∷◌, ◌++◌, ℤ, pos, ◌+ℤ◌, Some, None, Option, ◌==◌}
use Rattle.auction.specs.declared.House.{House}
use Rattle.auction.specs.Houses.{house_number}
use Rattle.auction.specs.Grids.{Grid}
use Rattle.auction.specs.Hours.{Entry, Book, Dispatch, Prices, amount_of, rent_of}
use Rattle.orders.specs.Reads.{ended}
use Rattle.history.specs.declared.calls.Wish.{Wish}
use Rattle.history.specs.declared.calls.Filling.{Filling}
use Rattle.history.specs.declared.calls.Filling.TheVariants.{Quantity, Lambda, ShadowPrice}
use Rattle.history.specs.Events.{Event, History, Kinds, caller, caller_number, list_of, taken, wish_of, withdrawal_of, filling_of, ends, closes, judged, settles}

-- Orders

-- the order of a wish as its house enters it, if it goes to this list
abbrev pub new_entry : {P Q R : Type 0} → Kinds P Q R → ℕ → ℕ → Option (Wish P Q R) → List Entry
new_entry k house l None = []
new_entry k house l (Some wish) = cond (list_of wish == l) (record { house = house; standing = true; order = k.order wish } ∷ []) []

-- the orders entered in this hour in a list, in their order
abbrev pub entered : {P Q R : Type 0} → Kinds P Q R → History P Q R → ℕ → List Entry
entered k [] l = []
entered k (e ∷ h) l = cond (ends e) [] (entered k h l ++ cond (taken e.answer) (new_entry k (caller_number e.call) l (wish_of e.call)) [])

-- this order is the one meant
abbrev pub names : Option (ℕ × ℕ) → ℕ → ℕ → Bool
names None l n = false
names (Some place) l n = l == place.0 && n == place.1

-- whether the order with this list and number was withdrawn in this hour
abbrev pub withdrawn : {P Q R : Type 0} → History P Q R → ℕ → ℕ → Bool
withdrawn [] l n = false
withdrawn (e ∷ h) l n = cond (ends e) false ((taken e.answer && names (withdrawal_of e.call) l n) || withdrawn h l n)

-- orders of which some, by their numbers, no longer stand
abbrev pub still_standing : (ℕ → Bool) → List Entry → List Entry
still_standing gone [] = []
still_standing gone (e ∷ es) = cond (gone 0) (ended e) e ∷ still_standing (λ n. gone (suc n)) es

-- the orders of a list: an order's number is its place, and it stands if it was not withdrawn
abbrev pub orders : {P Q R : Type 0} → Kinds P Q R → History P Q R → ℕ → List Entry
orders k h l = still_standing (withdrawn h l) (entered k h l)

abbrev pub book : {P Q R : Type 0} → Kinds P Q R → History P Q R → Book
book k h = orders k h 0 ∷ orders k h 1 ∷ orders k h 2 ∷ []

-- whether this hour was closed
abbrev pub closed : {P Q R : Type 0} → History P Q R → Bool
closed [] = false
closed (e ∷ h) = cond (ends e) false (closes e || closed h)

-- Sheets

-- what an event fills in, if it is this house's and was not refused
abbrev pub filled_by : {P Q R : Type 0} → House → Event P Q R → Option Filling
filled_by house e = cond (taken e.answer) (filling_of house e.call) None

-- a quantity, lambda or shadow price after a filling; another number of the sheet stays as it was
abbrev pub set_quantity : Option Filling → ℕ → ℕ → ℕ → ℕ
set_quantity None l n old = old
set_quantity (Some (Quantity list number kWh)) l n old = cond (l == list && n == number) kWh old
set_quantity (Some (Lambda _)) l n old = old
set_quantity (Some (ShadowPrice _ _)) l n old = old

abbrev pub set_lambda : Option Filling → ℤ → ℤ
set_lambda None old = old
set_lambda (Some (Quantity _ _ _)) old = old
set_lambda (Some (Lambda lambda)) old = lambda
set_lambda (Some (ShadowPrice _ _)) old = old

abbrev pub set_shadow : Option Filling → ℕ → ℕ → ℕ
set_shadow None l old = old
set_shadow (Some (Quantity _ _ _)) l old = old
set_shadow (Some (Lambda _)) l old = old
set_shadow (Some (ShadowPrice line price)) l old = cond (l == line) price old

-- what the house's fills of this hour set last, 0 where none did
abbrev pub quantity : {P Q R : Type 0} → History P Q R → House → Dispatch
quantity [] house l n = 0
quantity (e ∷ h) house l n = cond (ends e) 0 (set_quantity (filled_by house e) l n (quantity h house l n))

abbrev pub lambda : {P Q R : Type 0} → History P Q R → House → ℤ
lambda [] house = pos 0
lambda (e ∷ h) house = cond (ends e) (pos 0) (set_lambda (filled_by house e) (lambda h house))

abbrev pub shadow_price : {P Q R : Type 0} → History P Q R → House → ℕ → ℕ
shadow_price [] house l = 0
shadow_price (e ∷ h) house l = cond (ends e) 0 (set_shadow (filled_by house e) l (shadow_price h house l))

-- the prices of the house's sheet
abbrev pub prices : {P Q R : Type 0} → History P Q R → House → Prices
prices h house = record { lambda = lambda h house; shadow = shadow_price h house }

-- Tries and accounts

-- the tries of this hour: the sheets that were judged in it, accepted or not
abbrev pub tries : {P Q R : Type 0} → History P Q R → ℕ
tries [] = 0
tries (e ∷ h) = cond (ends e) 0 (cond (judged e) (suc (tries h)) (tries h))

-- the hours settled since the opening
abbrev pub settled_hours : {P Q R : Type 0} → History P Q R → ℕ
settled_hours [] = 0
settled_hours (e ∷ h) = cond (settles e) (suc (settled_hours h)) (settled_hours h)

-- what a house has paid since the opening: the sum of its amounts at the sheets that were settled, with the orders of their hours
abbrev pub account : {P Q R : Type 0} → Kinds P Q R → Grid → History P Q R → House → ℤ
account k g [] house = pos 0
account k g (e ∷ h) house = cond (settles e) (account k g h house +ℤ amount_of g (book k h) (quantity h (caller e)) (prices h (caller e)) (house_number house)) (account k g h house)

-- the congestion rent of all hours settled since the opening
abbrev pub rent_account : {P Q R : Type 0} → Kinds P Q R → Grid → History P Q R → ℤ
rent_account k g [] = pos 0
rent_account k g (e ∷ h) = cond (settles e) (rent_account k g h +ℤ rent_of g (book k h) (quantity h (caller e)) (prices h (caller e))) (rent_account k g h)
