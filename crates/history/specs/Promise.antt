-- What both houses rely on, told from the list of calls and their answers.
use Rattle.std.specs.Prelude.{◌≡◌, Bool, true, not, ◌&&◌, [], ◌∷◌, ◌++◌, ◌+ℤ◌, ◌≤ℤ◌}
use Rattle.auction.specs.declared.House.TheVariants.{Zero, One}
use Rattle.auction.specs.Grids.{Grid}
use Rattle.auction.specs.Hours.{Dispatch, Feasible, welfare_of}
use Rattle.auction.specs.Rules.{Accepted}
use Rattle.history.specs.Events.{Event, History, Kinds, accepts, caller, ends}
use Rattle.history.specs.Words.{book, quantity, prices, account, rent_account}

-- none of these events ends the hour
abbrev pub none_ends : {P Q R : Type 0} → History P Q R → Bool
none_ends [] = true
none_ends (e ∷ h) = not (ends e) && none_ends h

-- No dispatch of the orders that stood when a sheet was accepted, possible for each of them, balanced and within all limits, is worth more than that sheet's.
abbrev pub Optimal : {P Q R : Type 0} → Kinds P Q R → Grid → History P Q R → Type 0
Optimal {P} {Q} {R} k g h = (later before : History P Q R) (e : Event P Q R) → h ≡ later ++ e ∷ before → accepts e ≡ true
    → (rival : Dispatch) → Feasible g (book k before) rival → welfare_of (book k before) rival ≤ℤ welfare_of (book k before) (quantity before (caller e))

-- The two accounts, each the sum of its house's amounts at the settled sheets, add up to the congestion rent of the settled hours.
abbrev pub Balancing : {P Q R : Type 0} → Kinds P Q R → Grid → History P Q R → Type 0
Balancing k g h = account k g h Zero +ℤ account k g h One ≡ rent_account k g h

-- Two sheets accepted in one closed hour, the one of e and later the one of f, have equal welfare, and the quantities of either with the prices of the other break no rule.
abbrev pub Interchangeable : {P Q R : Type 0} → Kinds P Q R → Grid → History P Q R → Type 0
Interchangeable {P} {Q} {R} k g h = (later between before : History P Q R) (e f : Event P Q R) → h ≡ later ++ f ∷ (between ++ e ∷ before)
    → accepts e ≡ true → accepts f ≡ true → none_ends (between ++ e ∷ []) ≡ true
    → (welfare_of (book k before) (quantity before (caller e)) ≡ welfare_of (book k (between ++ e ∷ before)) (quantity (between ++ e ∷ before) (caller f)))
    × Accepted g (book k before) (quantity before (caller e)) (prices (between ++ e ∷ before) (caller f))
    × Accepted g (book k (between ++ e ∷ before)) (quantity (between ++ e ∷ before) (caller f)) (prices before (caller e))

pub record Promise {P Q R : Type 0} (k : Kinds P Q R) (g : Grid) (h : History P Q R) : Type 0 where
  pub optimality : Optimal k g h
  pub balance : Balancing k g h
  pub interchange : Interchangeable k g h
