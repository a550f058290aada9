-- A new box.
use Rattle.std.proofs.Common.{◌≡◌, []}
use Rattle.auction.specs.declared.House.{House}
use Rattle.auction.specs.declared.House.TheVariants.{Zero, One}
use Rattle.auction.specs.Grids.{Grid}
use Rattle.auction.specs.Hours.{Book}
use mathlib.Core.Path.{fun_ext}
use Rattle.orders.specs.Books.{book_of}
use Rattle.ledger.specs.Pages.{Page, first_page, paid_by}
use Rattle.filling.specs.Sheets.{Sheets, Blank}
use Rattle.history.specs.Events.{Kinds}
use Rattle.history.specs.Situations.{told}
use Rattle.history.specs.Keeping.{Keeps}
use Rattle.steps.specs.Parts.{situation_of}
use Rattle.steps.proofs.Judging.{blank_dispatches, blank_prices}

-- it keeps the history without a call
pub opened_so : {P Q R : Type 0} (k : Kinds P Q R) (g : Grid) (b : Book) (s : Sheets) (p : Page) → b ≡ book_of [] [] [] → Blank s → p ≡ first_page → Keeps k g [] (situation_of b s p)
opened_so k g b s p none blank e = record {
  run = tt;
  as_told = λ i. record { closed = (e i).closed; book = none i; dispatch = blank_dispatches s blank i; prices = blank_prices s blank i; tries = (e i).tries; settled_hours = (e i).settled; account = accounts i; rent_account = (e i).rent };
}
  where
    each : (house : House) → paid_by p house ≡ (told k g []).account house
    each Zero = λ i. (e i).zero
    each One = λ i. (e i).one

    accounts : paid_by p ≡ (told k g []).account
    accounts = fun_ext each
