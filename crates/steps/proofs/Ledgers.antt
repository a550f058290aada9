-- Calls that change the ledger alone.
use Rattle.std.proofs.Common.{◌≡◌, ◌<◌, IsErrAnd, Ok, Err, sym, refl, ap, subst, inl, inr}
use Rattle.auction.specs.declared.House.{House}
use Rattle.auction.specs.declared.Fault.{Fault}
use Rattle.auction.specs.declared.Fault.TheVariants.{Missing, OutOfRange, NoPlace}
use Rattle.auction.specs.Refusals.{FirstNo, Always, refusal_of}
use Rattle.auction.specs.Bounds.{most_hours}
use Rattle.auction.specs.Houses.{house_number}
use Rattle.auction.specs.Grids.{Grid}
use Rattle.orders.specs.declared.OrderList.{Ghosts as ListMeaning}
use Rattle.orders.specs.declared.book.Book.{Book}
use Rattle.orders.specs.Books.{booked}
use Rattle.ledger.specs.Pages.{Page, closed_page}
use Rattle.filling.specs.Sheets.{Sheets}
use Rattle.history.specs.declared.calls.Call.TheVariants.{Close}
use Rattle.history.specs.declared.calls.Reply.TheVariants.{Done}
use Rattle.history.specs.Events.{Answer}
use Rattle.history.specs.Handling.{Handled}
use Rattle.steps.specs.Parts.{kinds_of, situation_of}

module _ {X Y W P Q R : Type 0} (x : ListMeaning X P) (y : ListMeaning Y Q) (w : ListMeaning W R) (g : Grid) (house : House) (b : Book X Y W) (s : Sheets) (p p' : Page) where
  abbrev Closes : Answer → Type 0
  Closes a = Handled (kinds_of x y w) g house (Close (house_number house)) (situation_of (booked x y w b) s p) a (situation_of (booked x y w b) s p')

  pub closed_so : p.settled < most_hours → p' ≡ closed_page p → Closes (Ok Done)
  closed_so few e = record { answered = inl (few, refl); next = ap (situation_of (booked x y w b) s) e }

  -- an hour that can no longer be settled is not closed
  pub not_closed : (fault : Fault) (a : Answer) → IsErrAnd a (λ refusal. refusal ≡ refusal_of fault) → FirstNo Always Always (p.settled < most_hours) fault → p' ≡ p → Closes a
  not_closed fault (Ok reply) is asked e = absurd is
  not_closed Missing (Err refusal) is asked e = absurd (asked tt)
  not_closed OutOfRange (Err refusal) is asked e = absurd (asked.1 tt)
  not_closed NoPlace (Err refusal) is asked e = subst (λ r. Closes (Err r)) (sym is) (record { answered = inr (asked.2, refl); next = ap (situation_of (booked x y w b) s) e })
