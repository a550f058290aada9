-- What a history tells, put together.
use Rattle.std.specs.Prelude.{ℕ, Bool, ℤ}
use Rattle.auction.specs.declared.House.{House}
use Rattle.auction.specs.Grids.{Grid}
use Rattle.auction.specs.Hours.{Book, Dispatch, Prices}
use Rattle.history.specs.Events.{History, Kinds}
use Rattle.history.specs.Words.{book, closed, quantity, prices, tries, settled_hours, account, rent_account}

-- how the present hour and the accounts stand
pub record Situation : Type 0 where
  pub closed : Bool
  pub book : Book
  pub dispatch : House → Dispatch
  pub prices : House → Prices
  pub tries : ℕ
  pub settled_hours : ℕ
  pub account : House → ℤ
  pub rent_account : ℤ

-- each part by its own word
abbrev pub told : {P Q R : Type 0} → Kinds P Q R → Grid → History P Q R → Situation
told k g h = record { closed = closed h; book = book k h; dispatch = quantity h; prices = prices h; tries = tries h; settled_hours = settled_hours h; account = account k g h; rent_account = rent_account k g h }
