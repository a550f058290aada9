-- How one more call changes a situation. This is what the box is held to call by call; what both houses rely on does not rest on it: the words of a history are told without it, and it is proved to agree with them.
use Rattle.std.specs.Prelude.{ℕ, suc, false, cond, ◌||◌, List, [], ◌∷◌, ◌++◌, pos, ◌+ℤ◌, Some, ◌==◌}
use Rattle.auction.specs.declared.House.{House}
use Rattle.auction.specs.Houses.{house_number}
use Rattle.auction.specs.Grids.{Grid}
use Rattle.auction.specs.Hours.{Entry, Book, Dispatch, Prices, list_at, amount_of, rent_of}
use Rattle.orders.specs.Reads.{without}
use Rattle.history.specs.declared.calls.Call.{Call}
use Rattle.history.specs.declared.calls.Call.TheVariants.{Enter, Withdraw, Close, Fill, Try, Settle, Void}
use Rattle.history.specs.Events.{Event, Kinds, taken, caller, ends, closes, judged, settles}
use Rattle.history.specs.Words.{new_entry, filled_by, set_quantity, set_lambda, set_shadow}
use Rattle.history.specs.Situations.{Situation}

-- a list after a call that was not refused
abbrev pub list_after : {P Q R : Type 0} → Kinds P Q R → Call P Q R → ℕ → List Entry → List Entry
list_after k (Enter house wish) l es = es ++ new_entry k house l (Some wish)
list_after k (Withdraw _ list number) l es = cond (l == list) (without es number) es
list_after k (Close _) l es = es
list_after k (Fill _ _) l es = es
list_after k (Try _) l es = es
list_after k (Settle _) l es = []
list_after k (Void _) l es = []

abbrev pub book_after : {P Q R : Type 0} → Kinds P Q R → Event P Q R → Book → Book
book_after k e b = cond (taken e.answer) (list_after k e.call 0 (list_at b 0) ∷ list_after k e.call 1 (list_at b 1) ∷ list_after k e.call 2 (list_at b 2) ∷ []) b

abbrev pub dispatch_after : {P Q R : Type 0} → Event P Q R → (House → Dispatch) → House → Dispatch
dispatch_after e d house l n = cond (ends e) 0 (set_quantity (filled_by house e) l n (d house l n))

abbrev pub prices_after : {P Q R : Type 0} → Event P Q R → (House → Prices) → House → Prices
prices_after e p house = record { lambda = cond (ends e) (pos 0) (set_lambda (filled_by house e) (p house).lambda); shadow = λ l. cond (ends e) 0 (set_shadow (filled_by house e) l ((p house).shadow l)) }

abbrev pub after : {P Q R : Type 0} → Kinds P Q R → Grid → Situation → Event P Q R → Situation
after k g s e = record {
  closed = cond (ends e) false (closes e || s.closed);
  book = book_after k e s.book;
  dispatch = dispatch_after e s.dispatch;
  prices = prices_after e s.prices;
  tries = cond (ends e) 0 (cond (judged e) (suc s.tries) s.tries);
  settled_hours = cond (settles e) (suc s.settled_hours) s.settled_hours;
  account = λ house. cond (settles e) (s.account house +ℤ amount_of g s.book (s.dispatch (caller e)) (s.prices (caller e)) (house_number house)) (s.account house);
  rent_account = cond (settles e) (s.rent_account +ℤ rent_of g s.book (s.dispatch (caller e)) (s.prices (caller e))) s.rent_account;
}
