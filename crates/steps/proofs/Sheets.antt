-- Calls that change the sheets.
use Rattle.std.proofs.Common.{◌≡◌, ℕ, zero, suc, ◌≤◌, cond, eqb, List, length, IsErrAnd, Some, None, Ok, Err, Option, sym, refl, ap, ◌∙◌, subst, inl, inr, arith}
use mathlib.Core.Path.{fun_ext}
use Rattle.auction.specs.declared.House.{House}
use Rattle.auction.specs.declared.House.TheVariants.{Zero, One}
use Rattle.auction.specs.Houses.{house_number}
use Rattle.auction.specs.declared.Fault.{Fault}
use Rattle.auction.specs.declared.Fault.TheVariants as Lack
use Rattle.auction.specs.declared.Refusal.TheVariants.{Missing}
use Rattle.auction.specs.Refusals.{FirstNo, Always, refusal_of}
use Rattle.auction.specs.Bounds.{most_orders, most_lines}
use Rattle.auction.specs.Grids.{Grid, line_count}
use Rattle.auction.specs.Hours.{Entry, Book as Orders, Prices}
use Rattle.orders.specs.declared.OrderList.{Ghosts as ListMeaning}
use Rattle.orders.specs.declared.book.Book.{Book}
use Rattle.orders.specs.Books.{booked, book_of}
use Rattle.ledger.specs.Pages.{Page}
use Rattle.filling.specs.Sheets.{Sheets, dispatches, prices_by, filling_for, Filled, HasPlace}
use Rattle.history.specs.declared.calls.Filling.{Filling}
use Rattle.history.specs.declared.calls.Filling.TheVariants.{Quantity, Lambda, ShadowPrice}
use Rattle.history.specs.declared.calls.Call.TheVariants.{Fill}
use Rattle.history.specs.declared.calls.Reply.TheVariants.{Done}
use Rattle.history.specs.Events.{Answer}
use Rattle.history.specs.Words.{set_quantity, set_lambda, set_shadow}
use Rattle.history.specs.Right.{Fillable, Fitting}
use Rattle.history.specs.Handling.{Handled}
use Rattle.steps.specs.Parts.{kinds_of, situation_of}

pub same_prices : {p q : Prices} → p.lambda ≡ q.lambda → ((l : ℕ) → p.shadow l ≡ q.shadow l) → p ≡ q
same_prices e f = λ i. record { lambda = e i; shadow = λ l. f l i }

filling_is : (house : House) (f : Filling) (other : House) → filling_for house f other ≡ cond (eqb (house_number house) (house_number other)) (Some f) None
filling_is Zero f Zero = refl
filling_is Zero f One = refl
filling_is One f Zero = refl
filling_is One f One = refl

-- what is filled in for an order or a line that is there has a place in the sheet
pub place_of : (g : Grid) (x y z : List Entry) (f : Filling) → length x ≤ most_orders → length y ≤ most_orders → length z ≤ most_orders → line_count g ≤ most_lines → Fillable g (book_of x y z) f → HasPlace f
place_of g x y z (Quantity zero number kWh) fx fy fz fl there = (omega arith, omega (arith, there))
place_of g x y z (Quantity (suc zero) number kWh) fx fy fz fl there = (omega arith, omega (arith, there))
place_of g x y z (Quantity (suc (suc zero)) number kWh) fx fy fz fl there = (omega arith, omega (arith, there))
place_of g x y z (Quantity (suc (suc (suc list))) number kWh) fx fy fz fl there = absurd (omega (arith, there))
place_of g x y z (Lambda lambda) fx fy fz fl there = tt
place_of g x y z (ShadowPrice line price) fx fy fz fl there = omega (arith, there)

module _ {X Y W P Q R : Type 0} (x : ListMeaning X P) (y : ListMeaning Y Q) (w : ListMeaning W R) (g : Grid) (house : House) (f : Filling) (b : Book X Y W) (s : Sheets) (p : Page) where
  -- the orders of the hour
  abbrev now_booked : Orders
  now_booked = booked x y w b

  abbrev Fills : Answer → Sheets → Type 0
  Fills a s' = Handled (kinds_of x y w) g house (Fill (house_number house) f) (situation_of now_booked s p) a (situation_of now_booked s' p)

  pub filled_so : (s' : Sheets) → Fillable g now_booked f → Fitting f → Filled s s' (filling_for house f) → Fills (Ok Done) s'
  filled_so s' there fits filled = record {
    answered = inl (there, inl (fits, refl));
    next = λ i. record { closed = p.closed; book = now_booked; dispatch = dispatch_path i; prices = prices_path i; tries = p.tries; settled_hours = p.settled; account = (situation_of now_booked s p).account; rent_account = p.rent };
  }
    where
      by : House → Option Filling
      by other = cond (eqb (house_number house) (house_number other)) (Some f) None

      dispatch_path : dispatches s' ≡ (λ other l n. set_quantity (by other) l n (dispatches s other l n))
      dispatch_path = fun_ext (λ other. fun_ext (λ l. fun_ext (λ n. (filled other).quantities l n ∙ ap (λ o. set_quantity o l n (dispatches s other l n)) (filling_is house f other))))

      prices_path : prices_by s' ≡ (λ other. record { lambda = set_lambda (by other) (prices_by s other).lambda; shadow = λ l. set_shadow (by other) l ((prices_by s other).shadow l) })
      prices_path = fun_ext (λ other. same_prices ((filled other).lambda ∙ ap (λ o. set_lambda o (prices_by s other).lambda) (filling_is house f other)) (λ l. (filled other).shadows l ∙ ap (λ o. set_shadow o l ((prices_by s other).shadow l)) (filling_is house f other)))

  -- a filling whose number is out of range is refused
  pub not_filled : (s' : Sheets) (fault : Fault) (a : Answer) → Fillable g now_booked f → HasPlace f → IsErrAnd a (λ refusal. refusal ≡ refusal_of fault) → FirstNo (HasPlace f) (Fitting f) Always fault → s' ≡ s → Fills a s'
  not_filled s' fault (Ok reply) there place is asked e = absurd is
  not_filled s' Lack.Missing (Err refusal) there place is asked e = absurd (asked place)
  not_filled s' Lack.OutOfRange (Err refusal) there place is asked e = subst (λ r. Fills (Err r) s') (sym is) (record { answered = inl (there, inr (asked.1, refl)); next = ap (λ t. situation_of now_booked t p) e })
  not_filled s' Lack.NoPlace (Err refusal) there place is asked e = absurd (asked.2 tt)

  -- what is filled in for an order or a line that is not there is refused
  pub not_fillable : (Fillable g now_booked f → ⊥) → Fills (Err Missing) s
  not_fillable none = record { answered = inr (none, refl); next = refl }
