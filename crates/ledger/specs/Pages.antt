-- What is read of a ledger, and how it changes.
use Rattle.std.specs.Prelude.{ℕ, suc, Bool, true, false, cond, ℤ, pos, ◌+ℤ◌}
use Rattle.auction.specs.declared.House.{House}
use Rattle.auction.specs.Houses.{by_house}
use Rattle.ledger.specs.declared.ledger.Ledger.{Ledger}
use Rattle.ledger.specs.Phases.{is_closed}

-- the hour and the accounts in plain numbers; money in millionths of a cent
pub record Page : Type 0 where
  pub closed : Bool
  pub tries : ℕ
  pub settled : ℕ
  pub zero : ℤ
  pub one : ℤ
  pub rent : ℤ

abbrev pub page : Ledger → Page
page l = record { closed = is_closed l.phase; tries = l.tries; settled = l.accounts.settled; zero = l.accounts.paid.zero; one = l.accounts.paid.one; rent = l.accounts.rent }

-- at the opening
abbrev pub first_page : Page
first_page = record { closed = false; tries = 0; settled = 0; zero = pos 0; one = pos 0; rent = pos 0 }

abbrev pub closed_page : Page → Page
closed_page p = record p { closed = true }

-- one try more
abbrev pub tried_page : Page → Page
tried_page p = record p { tries = suc p.tries }

-- a new open hour
abbrev pub new_page : Page → Page
new_page p = record p { closed = false; tries = 0 }

-- a new open hour after this one was settled with these amounts and this rent; only a closed hour is settled
abbrev pub settled_page : Page → ℤ → ℤ → ℤ → Page
settled_page p zero one rent = cond p.closed (record { closed = false; tries = 0; settled = suc p.settled; zero = p.zero +ℤ zero; one = p.one +ℤ one; rent = p.rent +ℤ rent }) p

abbrev pub paid_by : Page → House → ℤ
paid_by p = by_house p.zero p.one
